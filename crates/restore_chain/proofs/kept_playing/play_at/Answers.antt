use Rattle.std.proofs.Common.{List, slice_get, sym, ap, subst}
use Rattle.budb_changes.specs.declared.records.DumpRecordFields.{DumpRecordFields}
use Rattle.tape_text.specs.Wholes.{Lying}
use Rattle.archive_model.specs.Holding.{called_frags}
use Rattle.restore_chain.specs.Restoring.{Tells, PlaysFrags}
use Rattle.restore_chain.specs.Keeping.{AllRead}
use Rattle.restore_chain.proofs.PlacedLaws.{placed_called}
use Rattle.restore_chain.proofs.VolumeLaws.{one_there}
use Rattle.restore_chain.proofs.kept_playing.play_at.Goals as goal

pub returns-in-Ok-clause-plays : goal.returns-in-Ok-clause-plays
returns-in-Ok-clause-plays c = λ slots v at read.
    let d = c.args.dump.now in
    let w = c.volume_at-volume.result.now in
    let same = placed_called c.fields.result.now.id c.index_of-index.result w d.id c.args.place v (ap (λ (x : DumpRecordFields). x.id) c.fields.ensures.value) c.index_of-index.ensures (one_there (slice_get d.volumes c.args.place) w v c.volume_at-volume.ensures at) in
    let gives = c.in-Ok.ensures slots d (subst (λ (l : List Lying). AllRead slots d l c.args.all.now) (sym same) read) in
    subst (λ (l : List Lying). Tells (PlaysFrags slots d l c.args.base) c.answer_given.result) same (c.answer_given.ensures.plays slots (called_frags c.fields.result.now.id c.index_of-index.result 1 w w.frags) gives)
