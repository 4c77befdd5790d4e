use Rattle.std.proofs.Common.{Ok, List, slice_get, sym, ap, subst}
use Rattle.budb_changes.specs.declared.records.DumpRecordFields.{DumpRecordFields}
use Rattle.tape_text.specs.Wholes.{Lying}
use Rattle.archive_model.specs.Holding.{called_frags}
use Rattle.restore_chain.specs.declared.fault.LookFault.TheVariants as look_faults
use Rattle.restore_chain.specs.declared.fault.RestoreFault.TheVariants as faults
use Rattle.restore_chain.specs.Playing.{AreHeld}
use Rattle.restore_chain.specs.Restoring.{Tells, PlaysFrags}
use Rattle.tape_scan.proofs.Looking.{looks_as}
use Rattle.restore_chain.proofs.PlacedLaws.{placed_called}
use Rattle.restore_chain.proofs.VolumeLaws.{one_there}
use Rattle.restore_chain.proofs.play_dump.play_placed.Goals as goal

pub returns-in-Ok-clause-plays : goal.returns-in-Ok-clause-plays
returns-in-Ok-clause-plays g c = λ told slots v has at held.
    let d = c.args.dump.now in
    let w = c.volume_at-volume.result.now in
    let same = placed_called c.fields.result.now.id c.index_of-index.result w d.id c.args.place v (ap (λ (x : DumpRecordFields). x.id) c.fields.ensures.value) c.index_of-index.ensures (one_there (slice_get d.volumes c.args.place) w v c.volume_at-volume.ensures at) in
    let gives = c.in-Ok.ensures.gives told slots d has (subst (λ (l : List Lying). AreHeld slots d l c.args.needs.now) (sym same) held) in
    subst (λ (l : List Lying). Tells (PlaysFrags slots d l c.args.base) c.answer_given.result) same (c.answer_given.ensures.plays slots (called_frags c.fields.result.now.id c.index_of-index.result 1 w w.frags) gives)

pub returns-in-Ok-clause-looks : goal.returns-in-Ok-clause-looks
returns-in-Ok-clause-looks g c =
    looks_as g.P.Plant look_faults.Failed faults.Failed c.args.plant.now c.play_volume.new.plant (Ok c.in-Ok.given) c.answer_given.result (λ is. absurd (c.answer_given.ensures.never is)) (λ is. absurd (cc)) c.in-Ok.ensures.looks
