use Rattle.bk_text.specs.LevelPaths.{IsLevelPath}
use Rattle.byte_formats.specs.Formats.{text2_of}
use Rattle.budb_changes.specs.Formats.{of_kind}
use Rattle.byte_formats.proofs.FormatLaws.{stops_like, took_like}
use Rattle.budb_changes.proofs.ChangeKinds.{like_7}
use Rattle.budb_changes.proofs.change_reading.read_del_level.Goals as goal

pub returns-in-Err : goal.returns-in-Err
returns-in-Err c = stops_like (text2_of IsLevelPath) (of_kind 7) like_7 _ _ c.in-Err.ensures

pub returns-in-Ok : goal.returns-in-Ok
unfolding like_7
returns-in-Ok c = took_like (text2_of IsLevelPath) (of_kind 7) like_7 _ _ _ c.in-Ok.ensures
