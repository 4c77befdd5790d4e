use Rattle.byte_formats.specs.Formats.{both, one_in}
use Rattle.budb_changes.specs.Formats.{expiry_form, expiry_of_kind}
use Rattle.byte_formats.proofs.FormatLaws.{stops_first, stops_second, took_both, stops_like, took_like}
use Rattle.byte_formats.proofs.Leaves.{sole_one}
use Rattle.budb_changes.proofs.ChangeKinds.{has_expiry_kind, like_expiry}
use Rattle.budb_changes.proofs.change_reading.read_expiry.Goals as goal

pub returns-in-Err : goal.returns-in-Err
returns-in-Err c = stops_like (both (one_in 0 3) expiry_of_kind) expiry_form like_expiry _ _ (stops_first (one_in 0 3) expiry_of_kind _ _ has_expiry_kind c.in-Err.ensures)

pub returns-in-Err-read_expiry_of : goal.returns-in-Err-read_expiry_of
returns-in-Err-read_expiry_of c = stops_like (both (one_in 0 3) expiry_of_kind) expiry_form like_expiry _ _ (stops_second (one_in 0 3) expiry_of_kind _ _ _ _ (sole_one 0 3) c.in-Ok.ensures c.in-Err-read_expiry_of.ensures)

pub returns-in-Ok-read_expiry_of : goal.returns-in-Ok-read_expiry_of
unfolding like_expiry
returns-in-Ok-read_expiry_of c = took_like (both (one_in 0 3) expiry_of_kind) expiry_form like_expiry _ _ _ (took_both (one_in 0 3) expiry_of_kind _ _ _ _ _ c.in-Ok.ensures c.in-Ok-read_expiry_of.ensures)
