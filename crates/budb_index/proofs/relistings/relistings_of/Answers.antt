use Rattle.std.proofs.Common.{List, ◌++◌, [], sym, ◌∙◌, ap}
use Rattle.std.specs.List.{cons_option}
use Rattle.budb_index.specs.declared.relistings.Relisting.{Relisting}
use Rattle.budb_index.specs.Relistings.{relisting_of}
use Rattle.budb_index.proofs.Taking.{relistings_further}
use Rattle.budb_index.proofs.relistings.relistings_of.Goals as goal

pub loop-change-preserved : goal.loop-change-preserved
loop-change-preserved c =
    let x = c.change-item.result in
    c.in_ok-push_relisting.ensures
    ∙ ap (λ (l : List Relisting). l ++ cons_option (relisting_of x) []) c.loop-change.invariant
    ∙ sym (relistings_further c.args.changes.now c.loop-change.change-index x c.loop-change-test.true c.change-item.is)
