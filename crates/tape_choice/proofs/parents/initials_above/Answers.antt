use Rattle.std.proofs.Common.{sym}
use Rattle.tape_choice.specs.Choice.{initials_above}
use Rattle.tape_choice.proofs.Tries.{one_up}
use Rattle.tape_choice.proofs.parents.initials_above.Goals as goal

pub loop-step-preserved : goal.loop-step-preserved
loop-step-preserved c =
    let listed = c.args.listed.now in
    one_up listed c.loop-step.initials c.push.new.self c.loop-step._step c.loop-step.next c.in-Some.dump.now c.fields.result.now c.fields-in-loop-step.result.now (initials_above listed c.args.parent)
    c.loop-step-test.true (sym c.in-Some.ensures) c.fields.ensures.value c.fields-in-loop-step.ensures.value c.in_ok-push.ensures.ok c.loop-step.invariant
