use Rattle.std.proofs.Common.{arith}
use Rattle.budb_changes.specs.Formats.{tape_form}
use Rattle.byte_formats.proofs.FormatLaws.{stops_times, times_more, times_none, took_times}
use Rattle.budb_changes.proofs.Layouts.{sole_tape, has_tape}
use Rattle.budb_changes.proofs.record_reading.read_tape_items.Goals as goal

pub loop-init : goal.loop-init
loop-init c = let none = times_none (tape_form c.args.version) c.new-items.result c.args.bytes.now c.new-items.ensures in record { long = none.long; each = none.each; joined = none.joined }

pub returns-in-Err : goal.returns-in-Err
returns-in-Err c = stops_times c.args.count (tape_form c.args.version) c.loop.items c.args.bytes.now c.loop.rest.now c.in-Err.fault (sole_tape c.args.version) (has_tape c.args.version) (omega (arith, c.loop.invariant.long, c.loop-test.true)) c.loop.invariant.each c.loop.invariant.joined c.in-Err.ensures

pub loop-preserved : goal.loop-preserved
loop-preserved c = let more = times_more (tape_form c.args.version) c.loop.items c.in-Ok.item c.push.new.self c.args.bytes.now c.loop.rest.now c.in-Ok.after.now c.loop.counter c.in_ok-push-in-Ok.ensures.ok c.loop.invariant.long c.loop.invariant.each c.loop.invariant.joined c.in-Ok.ensures in record { long = more.long; each = more.each; joined = more.joined }

pub returns : goal.returns
returns c = took_times c.args.count (tape_form c.args.version) c.loop.items c.args.bytes.now c.loop.rest.now (omega arith) c.loop.invariant.each c.loop.invariant.joined
