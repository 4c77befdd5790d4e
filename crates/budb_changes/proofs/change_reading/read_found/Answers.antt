use Rattle.budb_changes.specs.declared.version.Version.TheVariants.{Two}
use Rattle.budb_changes.specs.Formats.{dump_form, of_kind}
use Rattle.byte_formats.proofs.FormatLaws.{stops_like, took_like}
use Rattle.budb_changes.proofs.ChangeKinds.{like_16}
use Rattle.budb_changes.proofs.change_reading.read_found.Goals as goal

pub returns-in-Err : goal.returns-in-Err
returns-in-Err c = stops_like (dump_form Two) (of_kind 16) like_16 _ _ c.in-Err.ensures

pub returns-in-Ok : goal.returns-in-Ok
unfolding like_16
returns-in-Ok c = took_like (dump_form Two) (of_kind 16) like_16 _ _ _ c.in-Ok.ensures
