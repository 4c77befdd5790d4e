use Rattle.std.proofs.Common.{subst, sym}
use Rattle.budb_changes.specs.declared.records.DumpRecordFields.{DumpRecordFields}
use Rattle.budb_changes.specs.declared.change.Change.TheVariants as changes
use Rattle.byte_formats.specs.Formats.{Took}
use Rattle.budb_changes.specs.declared.version.Version.TheVariants.{One}
use Rattle.budb_changes.specs.Formats.{dump_form, of_kind}
use Rattle.byte_formats.proofs.FormatLaws.{stops_like, took_like}
use Rattle.budb_changes.proofs.ChangeKinds.{like_12}
use Rattle.budb_changes.proofs.change_reading.read_done_1.Goals as goal

pub returns-in-Err : goal.returns-in-Err
returns-in-Err c = stops_like (dump_form One) (of_kind 12) like_12 _ _ c.in-Err.ensures

pub returns-in-Ok : goal.returns-in-Ok
unfolding like_12
returns-in-Ok c = subst (λ (dump : DumpRecordFields). Took (of_kind 12) c.args.bytes.now (changes.Done1 dump) c.in-Ok.rest.now) (sym c.new.ensures) (took_like (dump_form One) (of_kind 12) like_12 _ _ _ c.in-Ok.ensures)
