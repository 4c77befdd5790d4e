use Rattle.pool_laws.proofs.Ends.{first_top, none_underway, all_left}
use Rattle.dump_courses.specs.Scenes.{database_in}
use Rattle.pool_laws.proofs.laws.all_is_so_before_and_behind.Goals as goal

pub returns-clause-before : goal.returns-clause-before
returns-clause-before c = λ s contents grown records asks same. (first_top s.time (database_in s).greatest, none_underway s contents grown records asks same)

pub returns-clause-behind : goal.returns-clause-behind
returns-clause-behind c = all_left
