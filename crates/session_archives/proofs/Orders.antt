-- A cell stays in order: as time goes on, with an archive that brings no dump, and behind each of the cell's calls.
use Rattle.std.proofs.Common.{◌≡◌, ℕ, ◌≤◌, max, List, [], map, refl, sym, ap, subst, ◌∙◌, arith, inl, inr}
use Rattle.std.specs.Prelude.{◌↔◌, IsTrue, min, Result, Ok, Contains}
use Rattle.std.proofs.lemmas.List.Elements.{All-weaker}
use Rattle.bk_text.specs.Alphabets.{IsName, IsHost}
use Rattle.bk_text.specs.Tests.{name_test}
use Rattle.byte_formats.specs.Forms.{IsFour}
use Rattle.vnode_model.specs.declared.volumes.VolumeFields.{VolumeFields}
use Rattle.dump_stream.specs.Forms.{IsBytes}
use Rattle.budb_changes.specs.declared.records.DumpRecordFields.{DumpRecordFields}
use Rattle.cell_core.specs.declared.stored.Stored.{Stored}
use Rattle.cell_core.specs.declared.stored.Image.{Image}
use Rattle.cell_core.specs.declared.stored.Image.TheVariants.{Good, Bad}
use Rattle.cell_core.specs.Volumes.{backup_name, written_volume, volume_without}
use Rattle.cell_core.specs.Calls.{Creation, after_create, after_write, after_remove_vnode, after_backup, after_remove}
use Rattle.cell_core.specs.Fairness.{Dumped, Fair, IsNotMadeAfter, NoneIsMadeAfter, NoSourceHasBackupName}
use Rattle.cell_core.proofs.FairLaws.{fair_later, fair_fewer}
use Rattle.cell_core.proofs.KeepLaws.{write_changes, removal_changes, changed_keeps, changed_made, created_keeps, created_made, put_keeps, put_made, backed_up_keeps, backed_up_made, removed_keeps, removed_made, put_sources, changed_sources, created_sources, backed_up_sources, removed_sources}
use Rattle.cell_forms.specs.Forms.{IsCellForm}
use Rattle.cell_forms.proofs.Volumes.{write_keeps, removal_keeps, restored_form}
use Rattle.cell_forms.proofs.Calls.{created_form, put_form, changed_form, backed_up_form, removed_form, restored_put}
use Rattle.restore_target.specs.Targets.{restored_as, after_restore}
use Rattle.archive_model.specs.Archives.{Archive, Refusal, listed_of, IsDump, AreDumps}
use Rattle.archive_model.specs.Sources.{firsts, dumped_of, dumped_by}
use Rattle.archive_model.proofs.SlotLaws.{in_flat}
use Rattle.archive_model.proofs.FairLaws.{of_flat}
use Rattle.cell_core.specs.Forms.{IsVolumeForm}
use Rattle.session_archives.specs.Ready.{IsInOrder}
use Rattle.session_archives.proofs.Bringing.{BringsNone}

-- ---- time goes on

made_later : (time now : ℕ) → time ≤ now → (i : Image) → IsNotMadeAfter time i → IsNotMadeAfter now i
made_later time now le (Good volume) is = omega (arith, le, is)
made_later time now le (Bad at) is = tt

pub none_made_later : (cell : List Stored) (time now : ℕ) → time ≤ now → NoneIsMadeAfter time cell → NoneIsMadeAfter now cell
none_made_later cell time now le all = All-weaker (λ (s : Stored). IsNotMadeAfter time s.image) (λ (s : Stored). IsNotMadeAfter now s.image) (λ s is. made_later time now le s.image is) cell all

pub order_later : (cell : List Stored) (time now : ℕ) (a : Archive) → IsInOrder cell time a → time ≤ now → IsFour now → IsInOrder cell now a
order_later cell time now a order le four = record {
  form = order.form;
  four = four;
  made = none_made_later cell time now le order.made;
  fit = record {
    fair = λ records are. fair_later cell (dumped_by a.contents records) time now (order.fit.fair records are) le;
    named = order.fit.named;
    heads = λ k s n h at is. elim (order.fit.heads k s n h at is) [
      | inl low ↦ inl low
      | inr early ↦ inr (omega (arith, early, le))
    ];
    volumes = order.fit.volumes;
  };
}

-- at a moment of the clock
pub moment_four : (time now : ℕ) → IsFour time → IsFour (max time (min now 4294967295))
moment_four time now four = omega (arith, four)

pub moment_later : (time now : ℕ) → time ≤ max time (min now 4294967295)
moment_later time now = omega arith

-- ---- an archive that brings no dump

-- fewer records have fewer of what was dumped
dumped_fewer : (a : Archive) (records fewer : List DumpRecordFields) → ((d : DumpRecordFields) → Contains fewer d → Contains records d) → (x : Dumped) → Contains (dumped_by a.contents fewer) x → Contains (dumped_by a.contents records) x
dumped_fewer a records fewer sub x there =
    let has : DumpRecordFields → List Dumped = λ d. map (dumped_of a.contents d) (firsts d.volumes) in
    let d = of_flat has fewer x there in
    in_flat has records d.0 x (sub d.0 d.1) d.2

-- a cell that is fair to what an archive's dumps have is fair to what any of them have
pub fair_to_any : (cell : List Stored) (time : ℕ) (a : Archive) (records fewer : List DumpRecordFields) → AreDumps (listed_of a) a.slots records → ((d : DumpRecordFields) → Contains fewer d → IsDump (listed_of a) a.slots d) → Fair cell (dumped_by a.contents records) time
    → Fair cell (dumped_by a.contents fewer) time
fair_to_any cell time a records fewer are its fair = fair_fewer cell (dumped_by a.contents records) (dumped_by a.contents fewer) time fair (dumped_fewer a records fewer (λ d there. are.complete d (its d there)))

pub order_brought : (cell : List Stored) (time : ℕ) (a b : Archive) (records : List DumpRecordFields) → AreDumps (listed_of a) a.slots records → b.contents ≡ a.contents → BringsNone a b → IsInOrder cell time a → IsInOrder cell time b
order_brought cell time a b records are same brings order = record {
  form = order.form;
  four = order.four;
  made = order.made;
  fit = record {
    fair = λ fewer its.
        subst (λ (c : ℕ → List ℕ → Result VolumeFields Refusal). Fair cell (dumped_by c fewer) time) (sym same)
        (fair_to_any cell time a records fewer are (λ d there. brings.dumps d (its.sound d there)) (order.fit.fair records are));
    named = order.fit.named;
    heads = λ k s n h at is.
        (let old = brings.heads h (k, s, n, at, is) in
        elim (order.fit.heads old.0 old.1 old.2 h old.3 old.4) [
          | inl low ↦ inl (omega (arith, low, brings.greatest))
          | inr early ↦ inr early
        ]);
    volumes = λ id name volume is. order.fit.volumes id name volume (ap (λ (c : ℕ → List ℕ → Result VolumeFields Refusal). c id name) (sym same) ∙ is);
  };
}

-- ---- a cell that is kept in order

-- What is so of a list at a time: its form, that it is fair to each of these, that none is made later, and its names.
pub record CellIsGood (Each : List Dumped → Type 0) (now : ℕ) (cell : List Stored) : Type 0 where
  pub form : IsCellForm cell
  pub fair : (dumped : List Dumped) → Each dumped → Fair cell dumped now
  pub made : NoneIsMadeAfter now cell
  pub named : NoSourceHasBackupName cell

abbrev pub DumpedBy : Archive → List Dumped → Type 0
DumpedBy a dumped = (records : List DumpRecordFields) × AreDumps (listed_of a) a.slots records × (dumped ≡ dumped_by a.contents records)

pub good_cell : (cell : List Stored) (time : ℕ) (a : Archive) → IsInOrder cell time a → CellIsGood (DumpedBy a) time cell
good_cell cell time a order = record {
  form = order.form;
  fair = λ dumped (records, are, is). subst (λ (d : List Dumped). Fair cell d time) (sym is) (order.fit.fair records are);
  made = order.made;
  named = order.fit.named;
}

pub order_of : (cell new : List Stored) (time : ℕ) (a : Archive) → IsInOrder cell time a → CellIsGood (DumpedBy a) time new → IsInOrder new time a
order_of cell new time a order good = record {
  form = good.form;
  four = order.four;
  made = good.made;
  fit = record {
    fair = λ records are. good.fair (dumped_by a.contents records) (records, are, refl);
    named = good.named;
    heads = order.fit.heads;
    volumes = order.fit.volumes;
  };
}

module _ (Each : List Dumped → Type 0) (now : ℕ) (four : IsFour now) (cell : List Stored) (good : CellIsGood Each now cell) where
  pub created_good : (server partition name : List ℕ) (made : Creation) → IsHost server → IsName partition → IsName name → ((base : List ℕ) → name ≡ backup_name base → ⊥) → after_create cell server partition name now ≡ Ok made → CellIsGood Each now made.list
  created_good server partition name made host part named apart h = record {
    form = created_form cell server partition name now host part named four good.form made h;
    fair = λ dumped each. created_keeps cell dumped now now server partition name made (good.fair dumped each) (omega arith) good.made h;
    made = created_made cell [] now now server partition name made good.made (omega arith) h;
    named = created_sources cell now server partition name made good.named apart h;
  }

  pub written_good : (name : List ℕ) (number : ℕ) (body : List ℕ) (new : List Stored) → IsFour number → IsBytes body → after_write cell name number body now ≡ Ok new → CellIsGood Each now new
  written_good name number body new fits bytes h = record {
    form = changed_form cell name (written_volume number body now) (write_keeps number body now fits bytes four) good.form new h;
    fair = λ dumped each. changed_keeps cell dumped now now name (written_volume number body now) new (write_changes number body now) (good.fair dumped each) (omega arith) h;
    made = changed_made cell [] now now name (written_volume number body now) new (write_changes number body now) good.made h;
    named = changed_sources cell now name (written_volume number body now) new (write_changes number body now) good.named h;
  }

  pub removed_vnode_good : (name : List ℕ) (number : ℕ) (new : List Stored) → after_remove_vnode cell name number now ≡ Ok new → CellIsGood Each now new
  removed_vnode_good name number new h = record {
    form = changed_form cell name (volume_without number now) (removal_keeps number now four) good.form new h;
    fair = λ dumped each. changed_keeps cell dumped now now name (volume_without number now) new (removal_changes number now) (good.fair dumped each) (omega arith) h;
    made = changed_made cell [] now now name (volume_without number now) new (removal_changes number now) good.made h;
    named = changed_sources cell now name (volume_without number now) new (removal_changes number now) good.named h;
  }

  pub backed_up_good : (name : List ℕ) (new : List Stored) → after_backup cell name now ≡ Ok new → CellIsGood Each now new
  backed_up_good name new h = record {
    form = backed_up_form cell name now four good.form new h;
    fair = λ dumped each. backed_up_keeps cell dumped now now good.form.list name new (good.fair dumped each) (omega arith) four h;
    made = backed_up_made cell [] now now name new good.made (omega arith) h;
    named = backed_up_sources cell now name new good.named h;
  }

  pub removed_good : (name : List ℕ) (new : List Stored) → after_remove cell name ≡ Ok new → CellIsGood Each now new
  removed_good name new h = record {
    form = removed_form cell name new good.form h;
    fair = λ dumped each. removed_keeps cell dumped now now name new (good.fair dumped each) (omega arith) four h;
    made = removed_made cell [] now now name new good.made h;
    named = removed_sources cell name new good.named h;
  }

  pub restored_good : ((text : List ℕ) → IsTrue (name_test text) ↔ IsName text) → (server partition name : List ℕ) (volume : VolumeFields) (new : List Stored) → IsHost server → IsName partition → ((base : List ℕ) → name ≡ backup_name base → ⊥) → IsVolumeForm volume
      → after_restore cell server partition name now volume ≡ Ok new → CellIsGood Each now new
  restored_good tests server partition name volume new host part apart v h =
      let r = restored_put cell server partition name now volume new h in
      let w : VolumeFields = restored_as name r.id now volume in
      record {
        form = put_form cell server partition w host part (restored_form name r.id now volume v (r.fits good.form) ((tests name).0 r.named) four) good.form new r.put;
        fair = λ dumped each. put_keeps cell dumped now server partition w new (good.fair dumped each) (omega arith) refl good.made r.put;
        made = put_made cell now server partition w new good.made (omega arith) r.put;
        named = put_sources cell server partition w new good.named (λ base u named is zero. apart base named) r.put;
      }
