use Rattle.std.proofs.Common.{◌≡◌, ◌≤◌, ◌+◌, length, take, Err, ap, arith}
use Rattle.std.proofs.lemmas.List.{length-take-le}
use Rattle.backup_top.specs.declared.input.ReadStop.{ReadStop}
use Rattle.backup_top.specs.Inputs.{most_input}
use Rattle.backup_top.proofs.InputLaws.{stopped, too_long}
use Rattle.backup_top.proofs.input.take_all.Goals as goal

pub returns-in-Err-clause-taken : goal.returns-in-Err-clause-taken
returns-in-Err-clause-taken g c =
    let so_far = c.loop-input.invariant in
    let room : length (take c.min-room.result c.loop-input.buffer) ≡ c.min-room.result = length-take-le c.min-room.result c.loop-input.buffer (omega (arith, c.min-room.ensures)) in
    let few : length (take c.min-room.result c.loop-input.buffer) + length so_far.bytes ≤ most_input + 1 = omega (arith, room, c.min-room.ensures, c.taken-in-loop-input.ensures so_far.bytes so_far.holds, c.taken.ensures so_far.bytes so_far.holds, so_far.holds.0, c.loop-input-test.true) in
    stopped g.S.Source.tells g.S.Source.left g.S.Source.faults c.args.source.now c.loop-input.source c.take_next.new.source c.loop-input.input c.take_next.new.input (length (take c.min-room.result c.loop-input.buffer)) so_far few
    c.in-Err.stop (λ long. c.in-Err.ensures.few (ap (λ (stop : ReadStop). Err stop) long)) (c.in-Err.ensures.taken so_far.bytes so_far.holds (omega (arith, few)))

pub returns-clause-taken : goal.returns-clause-taken
returns-clause-taken g c = too_long g.S.Source.tells g.S.Source.left g.S.Source.faults c.args.source.now c.loop-input.source c.loop-input.source c.loop-input.input c.loop-input.invariant (omega (arith, c.loop-input-test.false, c.taken.ensures c.loop-input.invariant.bytes c.loop-input.invariant.holds, c.loop-input.invariant.holds.0))
