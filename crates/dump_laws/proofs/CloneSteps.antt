-- The clone step: the volume in hand is done, and the next one comes into hand.
use Rattle.std.proofs.Common.{◌≡◌, ℕ, zero, suc, ◌+◌, true, false, Option, Some, None, List, [], ◌∷◌, refl, sym, ap, subst, ◌∙◌, arith, inl, inr}
use Rattle.std.specs.Prelude.{◌==◌, if◌then◌else◌, Result, Ok, Contains, slice_get}
use Rattle.std.proofs.lemmas.Bool.{eq-eqb, eqb-true, cases_Bool}
use Rattle.std.proofs.lemmas.List.Elements.{All-contains}
use Rattle.vnode_model.specs.declared.volumes.VolumeFields.{VolumeFields}
use Rattle.vnode_model.specs.declared.listed.VolEntry.{VolEntry}
use Rattle.vnode_model.specs.Limits.{AreVolume}
use Rattle.vnode_model.specs.Increments.{selected, Follows}
use Rattle.dump_stream.specs.Allowed.{Allowed}
use Rattle.cell_core.specs.declared.stored.Stored.{Stored}
use Rattle.cell_core.specs.declared.stored.Image.{Image}
use Rattle.cell_core.specs.declared.stored.Image.TheVariants.{Good, Bad}
use Rattle.cell_core.specs.declared.stored.Taken.{Taken}
use Rattle.cell_core.specs.Cells.{IsCell, IsImageOf, born}
use Rattle.cell_core.specs.Calls.{entry_at, entry_of, entry_of_stored, clone_at, clone_of, clone_of_image, clone_time}
use Rattle.cell_core.specs.Fairness.{Fair}
use Rattle.budb_changes.specs.declared.records.VolRecordFields.{VolRecordFields}
use Rattle.budb_changes.specs.declared.records.DumpRecordFields.{DumpRecordFields}
use Rattle.budb_fold.specs.Lookups.{from_of}
use Rattle.archive_model.specs.Archives.{Refusal}
use Rattle.archive_model.specs.Sources.{dumped_by, clone_or_refusal}
use Rattle.archive_model.specs.Turns.{IsClone}
use Rattle.archive_model.proofs.SourceLaws.{fair_clone}
use Rattle.dump_laws.specs.Made.{Basis}
use Rattle.dump_laws.specs.Writing.{IsCloned}

-- ---- what a clone of a fair cell is

-- A clone follows the parent's contents since its from time, where that isn't 0.
clone_follows : (cell : List Stored) → IsCell cell → (contents : ℕ → List ℕ → Result VolumeFields Refusal) (records : List DumpRecordFields) (time i now : ℕ) (c : Taken) → Fair cell (dumped_by contents records) time → clone_at cell i now ≡ Some c
    → (parent : Option DumpRecordFields) (above : ℕ) → ((p : DumpRecordFields) → parent ≡ Some p → Contains records p × (p.id ≡ above)) → (from_of parent c.volume.header.name c.born ≡ 0 → ⊥) → (old : VolumeFields)
    → contents above c.volume.header.name ≡ Ok old → AreVolume old.vnodes × Follows old (from_of parent c.volume.header.name c.born) c.volume
clone_follows cell good contents records time i now c fair at parent above has later old told =
    let name : List ℕ = c.volume.header.name in
    let from : ℕ = from_of parent name c.born in
    let new : ℕ = above + 1 in
    let next : ℕ → List ℕ → Result VolumeFields Refusal = λ id n. if id == new then clone_or_refusal (contents above n) from c.volume else contents id n in
    let d : DumpRecordFields = record { id = new; initial = 0; parent = above; expires = 0; set = []; level = []; base = []; tapes = []; volumes = []; cell = [] } in
    let v : VolRecordFields = record { name = []; id = 0; server = []; partition = []; clone = 0; from = from; frags = [] } in
    let other : (above == new) ≡ false = elim (cases_Bool (above == new)) [
      | inl same ↦ absurd (omega (arith, eqb-true above new same))
      | inr unlike ↦ unlike
    ] in
    let alike : (new == new) ≡ true = eq-eqb new new refl in
    let old_is : next above name ≡ contents above name = rw other refl in
    let new_is : next new name ≡ clone_or_refusal (next above name) from c.volume = rw (alike, other) refl in
    let is : IsClone next d name v c.volume = fair_clone cell good contents records time i now c fair at d v parent next has refl old_is new_is in
    let both = is.follows later old (old_is ∙ told) in
    (both.0, both.1)

-- an entry and a clone are of one stored volume
of_image : (x : Stored) (image : Image) (cell : List Stored) (now : ℕ) (e : VolEntry) (c : Taken) → x.image ≡ image → Some (entry_of_stored x) ≡ Some e → clone_of_image cell image now ≡ Some c
    → (y : Stored) × (v : VolumeFields) × (Some x ≡ Some y) × (y.image ≡ Good v) × (e.name ≡ y.name) × (c.volume ≡ v)
of_image x (Good v) cell now e c is entry clone = (x, v, refl, is, (let same : entry_of_stored x ≡ e = cc in ap (λ (y : VolEntry). y.name) (sym same)), (let one : Some (record { time = clone_time v now; born = born cell v; volume = v }) ≡ Some c = clone in let same : record { time = clone_time v now; born = born cell v; volume = v } ≡ c = cc in ap (λ (y : Taken). y.volume) (sym same)))
of_image x (Bad at) cell now e c is entry clone = absurd (cc)

same_stored : (s : Option Stored) (cell : List Stored) (now : ℕ) (e : VolEntry) (c : Taken) → entry_of s ≡ Some e → clone_of cell s now ≡ Some c → (x : Stored) × (v : VolumeFields) × (s ≡ Some x) × (x.image ≡ Good v) × (e.name ≡ x.name) × (c.volume ≡ v)
same_stored None cell now e c entry clone = absurd (cc)
same_stored (Some x) cell now e c entry clone = of_image x x.image cell now e c refl entry clone

in_list : (cell : List Stored) (i : ℕ) (x : Stored) → slice_get cell i ≡ Some x → Contains cell x
in_list [] i x is = absurd (cc)
in_list (y ∷ cell) zero x is = (0, omega arith, cc)
in_list (y ∷ cell) (suc i) x is = (let rest = in_list cell i x is in (suc rest.0, omega (arith, rest.1), rest.2))

-- A clone is one of its name, clone time and from time, where the cell is fair.
pub is_cloned : (cell : List Stored) → IsCell cell → (contents : ℕ → List ℕ → Result VolumeFields Refusal) (records : List DumpRecordFields) (time place now : ℕ) (e : VolEntry) (c : Taken) → Fair cell (dumped_by contents records) time → entry_at cell place ≡ Some e → clone_at cell place now ≡ Some c
    → (b : Basis) → ((p : DumpRecordFields) → b.parent ≡ Some p → Contains records p × (p.id ≡ b.above)) → Allowed (selected c.volume (from_of b.parent e.name c.born) c.time) → IsCloned contents b e.name c.time (from_of b.parent e.name c.born) c
is_cloned cell good contents records time place now e c fair entry clone b has allowed =
    let one = same_stored (slice_get cell place) cell now e c entry clone in
    let image : IsImageOf one.0.name one.0.image = All-contains (λ (s : Stored). IsImageOf s.name s.image) cell one.0 good.images (in_list cell place one.0 one.2) in
    let stands : IsImageOf one.0.name (Good one.1) = subst (IsImageOf one.0.name) one.3 image in
    let name : e.name ≡ c.volume.header.name = one.4 ∙ sym stands.0 ∙ ap (λ (v : VolumeFields). v.header.name) (sym one.5) in
    record {
      name_is = name;
      time_is = refl;
      from_is = refl;
      volume = subst (λ (v : VolumeFields). AreVolume v.vnodes) (sym one.5) stands.1;
      allowed = allowed;
      follows = λ later old told.
          subst (λ (n : List ℕ). AreVolume old.vnodes × Follows old (from_of b.parent n c.born) c.volume) (sym name)
          (clone_follows cell good contents records time place now c fair clone b.parent b.above has (subst (λ (n : List ℕ). from_of b.parent n c.born ≡ 0 → ⊥) name later) old (subst (λ (n : List ℕ). contents b.above n ≡ Ok old) name told));
    }
