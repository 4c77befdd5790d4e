-- Beside blank tapes under an empty journal a world is ready whose cell is in order by itself.
use Rattle.std.proofs.Common.{◌≡◌, ℕ, ◌≤◌, Some, None, List, [], map, ap, subst, ◌∙◌, arith}
use Rattle.std.specs.Prelude.{Contains, Ok, slice_get}
use Rattle.bk_text.specs.Alphabets.{IsHost}
use Rattle.byte_formats.specs.Forms.{IsFour, IsMaybe}
use Rattle.vnode_model.specs.declared.volumes.VolumeFields.{VolumeFields}
use Rattle.plant_core.specs.Stock.{IsNothing}
use Rattle.plant_core.specs.Crashes.{seen_in}
use Rattle.tape_frames.specs.declared.frame.Frame.TheVariants.{DumpHead}
use Rattle.tape_frames.specs.declared.dump_head.DumpHeadFields.{DumpHeadFields}
use Rattle.tape_config.specs.declared.port.PortFields.{PortFields}
use Rattle.tape_config.specs.Configs.{port_in, name_or_nothing}
use Rattle.tape_text.specs.Items.{Item, Says}
use Rattle.tape_scan.specs.Slots.{Slot}
use Rattle.tape_answers.specs.Reading.{items_of}
use Rattle.budb_changes.specs.declared.records.DumpRecordFields.{DumpRecordFields}
use Rattle.budb_changes.specs.declared.change.Change.{Change}
use Rattle.budb_fold.specs.Database.{after}
use Rattle.cell_core.specs.Fairness.{Fair, NoneIsMadeAfter, NoSourceHasBackupName}
use Rattle.cell_core.proofs.FairLaws.{fair_fewer}
use Rattle.cell_forms.specs.Forms.{IsCellForm}
use Rattle.archive_model.specs.Archives.{listed_of, IsDump}
use Rattle.archive_model.specs.Sources.{firsts, dumped_of, dumped_by}
use Rattle.archive_model.proofs.FairLaws.{of_flat}
use Rattle.archive_model.proofs.HeldLaws.{blank_holds}
use Rattle.cell_core.specs.Forms.{IsVolumeForm}
use Rattle.backup_session.specs.Worlds.{World, archive_of}
use Rattle.group_laws.specs.Forms.{ArePortsApart}
use Rattle.session_archives.specs.Ready.{IsReady}
use Rattle.session_archives.proofs.Slots.{slot_told}
use Rattle.session_archives.proofs.Images.{slots_blank}

nothing_in : {X : Type 0} (x : X) → Contains [] x → ⊥
nothing_in x there = omega (arith, there.1)

no_head_there : (n : ℕ) (h : DumpHeadFields) (items : List Item) → items ≡ [] → slice_get items n ≡ Some (Says (DumpHead h)) → ⊥
no_head_there n h items none is = (let e : None ≡ Some (Says (DumpHead h)) = subst (λ (l : List Item). slice_get l n ≡ Some (Says (DumpHead h))) none is in cc)

module _ (w : World) (empty : w.log ≡ []) (nothing : IsNothing (seen_in w.state)) where
  bare : (k : ℕ) (s : Slot) → slice_get (archive_of w).slots k ≡ Some s → s.items ≡ []
  bare k s at = ap (λ (x : Slot). x.items) (slot_told w.setting.present w.state.tape w.setting.slots k s at).1 ∙ ap items_of (nothing.tapes k)

  none_listed : (after w.log).listed ≡ []
  none_listed = ap (λ (l : List Change). (after l).listed) empty

  no_dump : (d : DumpRecordFields) → IsDump (listed_of (archive_of w)) (archive_of w).slots d → ⊥
  no_dump d is =
      let held = blank_holds (seen_in w.state) (archive_of w).slots w.contents nothing (slots_blank w.setting.present w.state.tape nothing.tapes w.setting.slots) in
      nothing_in d (held.kept.dumps.complete d (subst (λ (l : List DumpRecordFields). IsDump l (archive_of w).slots d) none_listed is))

  pub blank_ready : IsCellForm w.cell → Fair w.cell [] w.time → NoneIsMadeAfter w.time w.cell → NoSourceHasBackupName w.cell → IsFour w.time
      → ((id : ℕ) (name : List ℕ) (volume : VolumeFields) → w.contents id name ≡ Ok volume → IsVolumeForm volume) → IsMaybe IsHost (name_or_nothing w.setting.config.cell)
      → ((offset : ℕ) (port : PortFields) → port_in offset w.setting.config.entries ≡ Some port → port.capacity ≤ 4000000000) → ArePortsApart w.setting.config.entries → IsReady w
  blank_ready form fair made named four volumes name ports apart = record {
    order = record {
      form = form;
      four = four;
      made = made;
      fit = record {
        fair = λ records are.
            fair_fewer w.cell [] (dumped_by w.contents records) w.time fair
            (λ x there. (let d = of_flat (λ (e : DumpRecordFields). map (dumped_of w.contents e) (firsts e.volumes)) records x there in absurd (no_dump d.0 (are.sound d.0 d.1))));
        named = named;
        heads = λ k s n h at is. absurd (no_head_there n h s.items (bare k s at) is);
        volumes = volumes;
      };
    };
    name = name;
    ports = ports;
    apart = apart;
  }
