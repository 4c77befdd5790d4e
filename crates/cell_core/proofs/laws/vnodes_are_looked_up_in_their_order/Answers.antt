use Rattle.cell_core.proofs.VnodeLaws.{stands_is, is_stands, equal_same, same_equal}
use Rattle.cell_core.proofs.laws.vnodes_are_looked_up_in_their_order.Goals as goal

pub returns-clause-before : goal.returns-clause-before
returns-clause-before c = λ m n. (is_stands m n, stands_is m n)

pub returns-clause-same : goal.returns-clause-same
returns-clause-same c = λ m n. (equal_same m n, same_equal m n)
