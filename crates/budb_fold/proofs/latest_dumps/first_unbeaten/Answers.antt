use Rattle.std.proofs.Common.{Bool, not, Some, sym, ◌∙◌, ap, arith}
use Rattle.std.specs.List.{list_any}
use Rattle.budb_fold.specs.Lookups.{VolumeDump, beats}
use Rattle.budb_fold.proofs.Finds.{found_here, found_later}
use Rattle.budb_fold.proofs.latest_dumps.first_unbeaten.Goals as goal

pub returns-then-not-is_beaten : goal.returns-then-not-is_beaten
returns-then-not-is_beaten c =
    let p : VolumeDump → Bool = λ one. not (list_any (λ other. beats c.args.name.now other one) c.args.dumps.now) in
    ap Some c.one.view_is ∙ sym (found_here p c.args.dumps.now c.loop-one.one-index c.one-item.result (omega (arith, c.loop-one-test.true)) c.one-item.is (sym (ap not c.is_beaten.ensures) ∙ ap not c.if-not-is_beaten.true) c.loop-one.invariant)

pub loop-one-preserved : goal.loop-one-preserved
loop-one-preserved c =
    let p : VolumeDump → Bool = λ one. not (list_any (λ other. beats c.args.name.now other one) c.args.dumps.now) in
    found_later p c.args.dumps.now c.loop-one.one-index c.one-item.result (omega (arith, c.loop-one-test.true)) c.one-item.is (sym (ap not c.is_beaten.ensures) ∙ ap not c.if-not-is_beaten.false) c.loop-one.invariant
