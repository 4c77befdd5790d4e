use Rattle.std.proofs.Common.{lit≤}
use Rattle.byte_formats.specs.Formats.{both, times, two_in}
use Rattle.budb_changes.specs.Formats.{tape_form, tapes_form}
use Rattle.byte_formats.proofs.FormatLaws.{stops_first, stops_second, took_both, stops_like, took_like, has_times}
use Rattle.byte_formats.proofs.Leaves.{sole_two}
use Rattle.budb_changes.proofs.Layouts.{has_tape, like_tapes}
use Rattle.budb_changes.proofs.record_reading.read_tapes.Goals as goal

pub returns-in-Err : goal.returns-in-Err
returns-in-Err c = stops_like (both (two_in 0 65535) (λ n. times n (tape_form c.args.version))) (tapes_form c.args.version) (like_tapes c.args.version) _ _ (stops_first (two_in 0 65535) (λ n. times n (tape_form c.args.version)) _ _ (λ n is. has_times n (tape_form c.args.version) (has_tape c.args.version)) c.in-Err.ensures)

pub returns-in-Err-read_tape_items : goal.returns-in-Err-read_tape_items
returns-in-Err-read_tape_items c = stops_like (both (two_in 0 65535) (λ n. times n (tape_form c.args.version))) (tapes_form c.args.version) (like_tapes c.args.version) _ _ (stops_second (two_in 0 65535) (λ n. times n (tape_form c.args.version)) _ _ _ _ (sole_two 0 65535 (lit≤ tt)) c.in-Ok.ensures c.in-Err-read_tape_items.ensures)

pub returns-in-Ok-read_tape_items : goal.returns-in-Ok-read_tape_items
unfolding like_tapes
returns-in-Ok-read_tape_items c = took_like (both (two_in 0 65535) (λ n. times n (tape_form c.args.version))) (tapes_form c.args.version) (like_tapes c.args.version) _ _ _ (took_both (two_in 0 65535) (λ n. times n (tape_form c.args.version)) _ _ _ _ _ c.in-Ok.ensures c.in-Ok-read_tape_items.ensures)
