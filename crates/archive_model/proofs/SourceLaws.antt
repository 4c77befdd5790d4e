-- A clone of a fair cell is what its dump has of it.
use Rattle.std.proofs.Common.{◌≡◌, ℕ, suc, true, false, not, Option, Some, None, Ok, List, [], ◌∷◌, map, refl, sym, ap, subst, ◌∙◌, arith, inl, inr}
use Rattle.std.specs.Prelude.{Result, Contains, find, ◌==◌, Decides}
use Rattle.std.proofs.lemmas.Bool.{cases_Bool, eqb-true, eq-eqb}
use Rattle.std.proofs.lemmas.Slice.Eq.{slice_eq-Decides}
use Rattle.bk_text.specs.Blanks.{is_same_text}
use Rattle.vnode_model.specs.declared.volumes.VolumeFields.{VolumeFields}
use Rattle.vnode_model.specs.Limits.{AreVolume}
use Rattle.vnode_model.specs.Increments.{Follows}
use Rattle.budb_changes.specs.declared.records.VolRecordFields.{VolRecordFields}
use Rattle.budb_changes.specs.declared.records.DumpRecordFields.{DumpRecordFields}
use Rattle.budb_fold.specs.Lookups.{volume_of, from_of, from_volume}
use Rattle.cell_core.specs.declared.stored.Stored.{Stored}
use Rattle.cell_core.specs.declared.stored.Taken.{Taken}
use Rattle.cell_core.specs.Cells.{IsCell}
use Rattle.cell_core.specs.Calls.{clone_at}
use Rattle.cell_core.specs.Fairness.{IsFairTo, Fair}
use Rattle.cell_core.proofs.DumpLaws.{clone_fair, dumped_volume}
use Rattle.archive_model.specs.Archives.{Refusal}
use Rattle.archive_model.specs.Turns.{IsClone}
use Rattle.archive_model.specs.Sources.{firsts, volume_told, dumped_of, dumped_by, over_parent, clone_or_refusal}
use Rattle.tape_scan.proofs.ListLaws.{contains_filter}
use Rattle.archive_model.proofs.SlotLaws.{in_map, in_flat, find_is}
use Rattle.archive_model.proofs.FromLaws.{from_is_fair}

same_numbers : (a b : ℕ) → Decides (a == b) (a ≡ b)
same_numbers a b = (eqb-true a b, eq-eqb a b)

pub same_text : (a b : List ℕ) → is_same_text a b ≡ true → a ≡ b
same_text a b is = (slice_eq-Decides same_numbers a b (is_same_text a b) refl).0 is

text_same : (a b : List ℕ) → a ≡ b → is_same_text a b ≡ true
text_same a b same = (slice_eq-Decides same_numbers a b (is_same_text a b) refl).1 same

-- ---- the volume that counts of a name

first_counts : (vs : List VolRecordFields) (name : List ℕ) (v : VolRecordFields) → find (λ w. is_same_text w.name name) vs ≡ Some v → Contains (firsts vs) v
first_counts [] name v is = absurd (cc)
first_counts (w ∷ vs) name v is = elim (cases_Bool (is_same_text w.name name)) [
  | inl hit ↦ (let same : Some w ≡ Some v = rw hit at is in (0, omega arith, cc))
  | inr miss ↦
      (let later : find (λ (x : VolRecordFields). is_same_text x.name name) vs ≡ Some v = rw miss at is in
      let named : v.name ≡ name = same_text v.name name (find_is (λ (x : VolRecordFields). is_same_text x.name name) vs v later).1 in
      let other : not (is_same_text v.name w.name) ≡ true = elim (cases_Bool (is_same_text v.name w.name)) [
        | inl both ↦ absurd (let hit : is_same_text w.name name ≡ true = text_same w.name name (sym (same_text v.name w.name both) ∙ named) in let e : true ≡ false = sym hit ∙ miss in cc)
        | inr apart ↦ ap not apart
      ] in
      let rest = contains_filter (λ (x : VolRecordFields). not (is_same_text x.name w.name)) (firsts vs) v (first_counts vs name v later) other in
      (suc rest.0, omega (arith, rest.1), rest.2))
]

pub dumped_there : (contents : ℕ → List ℕ → Result VolumeFields Refusal) (records : List DumpRecordFields) (d : DumpRecordFields) (name : List ℕ) (v : VolRecordFields) → Contains records d → volume_of d name ≡ Some v → Contains (dumped_by contents records) (dumped_of contents d v)
dumped_there contents records d name v there is =
    in_flat (λ (x : DumpRecordFields). map (dumped_of contents x) (firsts x.volumes)) records d (dumped_of contents d v) there (in_map (dumped_of contents d) (firsts d.volumes) v (first_counts d.volumes name v is))

-- ---- what a clone follows

module _ (cell : List Stored) (good : IsCell cell) (contents : ℕ → List ℕ → Result VolumeFields Refusal) (records : List DumpRecordFields) (time i now : ℕ) (clone : Taken)
    (fair : Fair cell (dumped_by contents records) time) (cloned : clone_at cell i now ≡ Some clone) where
  follows_parent : (p : DumpRecordFields) (w : VolRecordFields) (from : ℕ) (old : VolumeFields) → Contains records p → volume_of p clone.volume.header.name ≡ Some w → from ≡ from_volume (Some w) clone.born → (from ≡ 0 → ⊥) → contents p.id clone.volume.header.name ≡ Ok old → AreVolume old.vnodes × Follows old from clone.volume
  follows_parent p w from old there named is later told =
      let name : w.name ≡ clone.volume.header.name = same_text w.name clone.volume.header.name (find_is (λ (x : VolRecordFields). is_same_text x.name clone.volume.header.name) p.volumes w named).1 in
      let member : Contains (dumped_by contents records) (dumped_of contents p w) = dumped_there contents records p clone.volume.header.name w there named in
      let volume : volume_told (contents p.id w.name) ≡ Some old = ap (λ (n : List ℕ). volume_told (contents p.id n)) name ∙ ap volume_told told in
      let since : IsFairTo clone.born clone.volume w.clone old = clone_fair cell good (dumped_by contents records) time i now clone (dumped_of contents p w) old fair cloned member name volume in (
        dumped_volume cell (dumped_by contents records) time (dumped_of contents p w) old fair member volume,
        elim (from_is_fair w clone.born old clone.volume since) [
          | inl none ↦ absurd (later (is ∙ none))
          | inr follows ↦ subst (λ (f : ℕ). Follows old f clone.volume) (sym is) follows
        ],
      )

  by_volume : (p : DumpRecordFields) (o : Option VolRecordFields) (from : ℕ) (old : VolumeFields) → Contains records p → volume_of p clone.volume.header.name ≡ o → from ≡ from_volume o clone.born → (from ≡ 0 → ⊥) → contents p.id clone.volume.header.name ≡ Ok old → AreVolume old.vnodes × Follows old from clone.volume
  by_volume p None from old there named is later told = absurd (later is)
  by_volume p (Some w) from old there named is later told = follows_parent p w from old there named is later told

  by_parent : (d : DumpRecordFields) (parent : Option DumpRecordFields) (from : ℕ) (old : VolumeFields) → ((p : DumpRecordFields) → parent ≡ Some p → Contains records p × (p.id ≡ d.parent)) → from ≡ from_of parent clone.volume.header.name clone.born → (from ≡ 0 → ⊥)
      → contents d.parent clone.volume.header.name ≡ Ok old → AreVolume old.vnodes × Follows old from clone.volume
  by_parent d None from old has is later told = absurd (later is)
  by_parent d (Some p) from old has is later told =
      let at = has p refl in
      by_volume p (volume_of p clone.volume.header.name) from old at.0 refl is later (ap (λ (n : ℕ). contents n clone.volume.header.name) at.1 ∙ told)

  whole_clone : (parent : Result VolumeFields Refusal) (from : ℕ) (v : VolumeFields) → from ≡ 0 → clone_or_refusal parent from v ≡ Ok v
  whole_clone parent from v none = (let zero_test : (from == 0) ≡ true = eq-eqb from 0 none in rw zero_test refl)

  later_clone : (parent : Result VolumeFields Refusal) (from : ℕ) (v : VolumeFields) → (from ≡ 0 → ⊥) → clone_or_refusal parent from v ≡ over_parent parent v
  later_clone parent from v later = elim (cases_Bool (from == 0)) [
    | inl none ↦ absurd (later (eqb-true from 0 none))
    | inr some ↦ rw some refl
  ]

  -- a dump whose contents of a volume are the clone, or the parent's refusal, has what the cell had
  pub fair_clone : (d : DumpRecordFields) (v : VolRecordFields) (parent : Option DumpRecordFields) (contents2 : ℕ → List ℕ → Result VolumeFields Refusal) → ((p : DumpRecordFields) → parent ≡ Some p → Contains records p × (p.id ≡ d.parent))
      → v.from ≡ from_of parent clone.volume.header.name clone.born → contents2 d.parent clone.volume.header.name ≡ contents d.parent clone.volume.header.name
      → contents2 d.id clone.volume.header.name ≡ clone_or_refusal (contents2 d.parent clone.volume.header.name) v.from clone.volume → IsClone contents2 d clone.volume.header.name v clone.volume
  fair_clone d v parent contents2 has from same is = record {
    whole = λ none. is ∙ whole_clone (contents2 d.parent clone.volume.header.name) v.from clone.volume none;
    follows = λ later old told.
        (let both = by_parent d parent v.from old has from later (sym same ∙ told) in
        (both.0, both.1, is ∙ later_clone (contents2 d.parent clone.volume.header.name) v.from clone.volume later ∙ ap (λ (r : Result VolumeFields Refusal). over_parent r clone.volume) told));
    faulty = λ later r told. is ∙ later_clone (contents2 d.parent clone.volume.header.name) v.from clone.volume later ∙ ap (λ (x : Result VolumeFields Refusal). over_parent x clone.volume) told;
  }
