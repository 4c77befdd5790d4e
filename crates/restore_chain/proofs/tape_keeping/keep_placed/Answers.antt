use Rattle.std.proofs.Common.{◌≡◌, List, Ok, Err, slice_get, sym, ap, subst}
use Rattle.std.specs.Prelude.{OnOk}
use Rattle.budb_changes.specs.declared.records.DumpRecordFields.{DumpRecordFields}
use Rattle.tape_text.specs.Wholes.{Lying}
use Rattle.archive_model.specs.Holding.{called_frags}
use Rattle.restore_chain.specs.declared.fault.LookFault.TheVariants.{Failed}
use Rattle.restore_chain.specs.Keeping.{AllKept, IsBegun}
use Rattle.restore_chain.proofs.PlacedLaws.{placed_called}
use Rattle.restore_chain.proofs.VolumeLaws.{one_there}
use Rattle.restore_chain.proofs.ReadLaws.{read_none, read_well}
use Rattle.restore_chain.proofs.tape_keeping.keep_placed.Goals as goal

pub returns-in-Err-clause-reads : goal.returns-in-Err-clause-reads
returns-in-Err-clause-reads g c =
    read_well g.P.Plant Failed c.args.plant.now c.args.plant.now _ (read_none g.P.Plant c.args.plant.now c.requires.sound (λ told survives image left. g.met.P.Plant.left c.args.plant.now image told c.requires.sound survives left)) (λ is. c.begin.ensures.never (cc))

pub returns-in-Ok-clause-keeps : goal.returns-in-Ok-clause-keeps
returns-in-Ok-clause-keeps g c = λ told slots may v has held at begun.
    let d = c.args.dump.now in
    let w = c.volume_at-volume.result.now in
    let same = placed_called c.fields.result.now.id c.index_of-index.result w d.id c.args.place v (ap (λ (x : DumpRecordFields). x.id) c.fields.ensures.value) c.index_of-index.ensures (one_there (slice_get d.volumes c.args.place) w v c.volume_at-volume.ensures at) in
    let all = c.in-Ok.ensures.begun slots d may c.fields.result.now.id c.index_of-index.result (subst (λ (l : List Lying). IsBegun slots d may l c.args.kept.now.items) (sym same) begun) in
    subst (λ (l : List Lying). OnOk c.keep_each.result (AllKept slots d may l c.keep_each.new.kept.items)) same
    (c.keep_each.ensures.keeps told slots d may has held all)
