use Rattle.byte_formats.specs.Formats.{both, one_in}
use Rattle.budb_changes.specs.Formats.{change_form, of_kind}
use Rattle.byte_formats.proofs.FormatLaws.{stops_first, stops_second, took_both, stops_like, took_like}
use Rattle.byte_formats.proofs.Leaves.{sole_one}
use Rattle.budb_changes.proofs.ChangeKinds.{like_change, has_kind}
use Rattle.budb_changes.proofs.change_reading.read_change.Goals as goal

pub returns-in-Err : goal.returns-in-Err
returns-in-Err c = stops_like (both (one_in 1 16) of_kind) change_form like_change _ _ (stops_first (one_in 1 16) of_kind _ _ has_kind c.in-Err.ensures)

pub returns-in-Err-read_change_of : goal.returns-in-Err-read_change_of
returns-in-Err-read_change_of c = stops_like (both (one_in 1 16) of_kind) change_form like_change _ _ (stops_second (one_in 1 16) of_kind _ _ _ _ (sole_one 1 16) c.in-Ok.ensures c.in-Err-read_change_of.ensures)

pub returns-in-Ok-read_change_of : goal.returns-in-Ok-read_change_of
unfolding like_change
returns-in-Ok-read_change_of c = took_like (both (one_in 1 16) of_kind) change_form like_change _ _ _ (took_both (one_in 1 16) of_kind _ _ _ _ _ c.in-Ok.ensures c.in-Ok-read_change_of.ensures)
