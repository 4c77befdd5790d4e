use Rattle.bk_text.specs.Alphabets.{IsSetName}
use Rattle.byte_formats.specs.Formats.{text1_of}
use Rattle.budb_changes.specs.Formats.{of_kind}
use Rattle.byte_formats.proofs.FormatLaws.{stops_like, took_like}
use Rattle.budb_changes.proofs.ChangeKinds.{like_1}
use Rattle.budb_changes.proofs.change_reading.read_add_set.Goals as goal

pub returns-in-Err : goal.returns-in-Err
returns-in-Err c = stops_like (text1_of IsSetName) (of_kind 1) like_1 _ _ c.in-Err.ensures

pub returns-in-Ok : goal.returns-in-Ok
unfolding like_1
returns-in-Ok c = took_like (text1_of IsSetName) (of_kind 1) like_1 _ _ _ c.in-Ok.ensures
