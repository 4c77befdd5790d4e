use Rattle.std.proofs.Common.{◌≡◌, length, ap, arith}
use Rattle.std.proofs.lemmas.Bool.{eqb-true, eqb-false}
use Rattle.budb_save.proofs.LoadLaws.{unused_is}
use Rattle.budb_save.proofs.loading.is_unused.Goals as goal

pub returns-clause-yes : goal.returns-clause-yes
returns-clause-yes c = λ yes.
    let db = c.args.database.now in
    let none : c.max-most.result ≡ 0 = eqb-true c.max-most.result 0 yes in
    let levels = ap length c.list-levels.ensures in
    unused_is db (omega (arith, none, c.len-sets.ensures, c.max.ensures, c.max-most.ensures)) (omega (arith, none, levels, c.max.ensures, c.max-most.ensures)) (omega (arith, none, c.len.ensures, c.max-most.ensures))

pub returns-clause-no : goal.returns-clause-no
returns-clause-no c = λ some unused.
    let levels = ap length c.list-levels.ensures in
    eqb-false c.max-most.result 0 some
    (omega (arith, c.len-sets.ensures, levels, c.len.ensures, c.max.ensures, c.max-most.ensures, ap length unused.sets, ap length unused.levels, ap length unused.listed))
