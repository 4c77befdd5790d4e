use Rattle.budb_changes.specs.Formats.{of_kind}
use Rattle.byte_formats.proofs.FormatLaws.{stops_like, took_like}
use Rattle.budb_changes.proofs.ChangeKinds.{any_two, like_9}
use Rattle.budb_changes.proofs.change_reading.read_del_host.Goals as goal

pub returns-in-Err : goal.returns-in-Err
returns-in-Err c = stops_like any_two (of_kind 9) like_9 _ _ c.in-Err.ensures

pub returns-in-Ok : goal.returns-in-Ok
unfolding like_9
returns-in-Ok c = took_like any_two (of_kind 9) like_9 _ _ _ c.in-Ok.ensures
