use Rattle.tape_choice.specs.Append.{last_tape}
use Rattle.tape_choice.proofs.LastLaws.{tape_step}
use Rattle.tape_choice.proofs.lasts.last_tape.Goals as goal

pub loop-dump-preserved : goal.loop-dump-preserved
loop-dump-preserved c =
    tape_step c.args.listed.now c.args.initial c.loop-dump.last c.last_with-last.result (last_tape c.args.listed.now c.args.initial) c.loop-dump.dump-index c.dump-item.result
    c.loop-dump-test.true c.dump-item.is c.last_with-last.ensures c.loop-dump.invariant
