use Rattle.byte_formats.specs.Formats.{any_four}
use Rattle.budb_changes.specs.Formats.{of_kind}
use Rattle.byte_formats.proofs.FormatLaws.{stops_like, took_like}
use Rattle.budb_changes.proofs.ChangeKinds.{like_13}
use Rattle.budb_changes.proofs.change_reading.read_forget.Goals as goal

pub returns-in-Err : goal.returns-in-Err
returns-in-Err c = stops_like any_four (of_kind 13) like_13 _ _ c.in-Err.ensures

pub returns-in-Ok : goal.returns-in-Ok
unfolding like_13
returns-in-Ok c = took_like any_four (of_kind 13) like_13 _ _ _ c.in-Ok.ensures
