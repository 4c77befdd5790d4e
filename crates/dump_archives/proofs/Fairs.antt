-- A cell stays fair to the dumps, also with the dump that is made.
use Rattle.std.proofs.Common.{◌≡◌, ◌⊎◌, ℕ, zero, suc, ◌≤◌, Bool, true, false, not, Some, Ok, Err, List, [], ◌∷◌, ◌++◌, length, map, refl, sym, ap, subst, ◌∙◌, arith, inl, inr}
use Rattle.std.specs.Prelude.{All, Contains, Decides, Result, find, slice_get, ◌==◌}
use Rattle.std.proofs.lemmas.Bool.{cases_Bool, eqb-true, eq-eqb}
use Rattle.std.proofs.lemmas.Slice.Eq.{slice_eq-Decides}
use Rattle.std.proofs.lemmas.List.Elements.{All-nil, All-cons, All-contains}
use Rattle.bk_text.specs.Blanks.{is_same_text}
use Rattle.vnode_model.specs.declared.volumes.VolumeFields.{VolumeFields}
use Rattle.cell_core.specs.declared.stored.Stored.{Stored}
use Rattle.cell_core.specs.declared.stored.Image.TheVariants.{Good}
use Rattle.cell_core.specs.declared.stored.Taken.{Taken}
use Rattle.cell_core.specs.Cells.{IsCell}
use Rattle.cell_core.specs.Calls.{clone_time}
use Rattle.cell_core.specs.Fairness.{Dumped, Fair, IsNotMadeAfter, NoneIsMadeAfter, NoSourceHasBackupName}
use Rattle.cell_core.proofs.FairLaws.{fair_fewer}
use Rattle.budb_changes.specs.declared.records.VolRecordFields.{VolRecordFields}
use Rattle.budb_changes.specs.declared.records.DumpRecordFields.{DumpRecordFields}
use Rattle.budb_fold.specs.Lookups.{from_of}
use Rattle.tape_scan.proofs.ListLaws.{of_filter}
use Rattle.archive_model.specs.Archives.{Refusal}
use Rattle.archive_model.specs.Sources.{firsts, dumped_of, dumped_by, clone_or_refusal, IsTakenFrom, IsCloneOf}
use Rattle.archive_model.proofs.FairLaws.{of_flat, dump_stays_fair}
use Rattle.archive_model.proofs.SlotLaws.{in_flat}
use Rattle.archive_model.proofs.SourceLaws.{same_text}
use Rattle.dump_laws.specs.Made.{Basis, Made}
use Rattle.dump_laws.specs.Writing.{VolumesFit}
use Rattle.dump_laws.specs.Growing.{is_clone_of, with_dump}
use Rattle.dump_laws.proofs.DumpEnds.{dump_told}
use Rattle.dump_commands.specs.Answers.{Contents}
use Rattle.dump_archives.proofs.Clones.{in_list, IsCloneAt, clone_there, AreFirstClones, clone_place}

-- ---- fewer dumps

pub fewer_fair : (cell : List Stored) (contents : Contents) (records fewer : List DumpRecordFields) (now : ℕ) → Fair cell (dumped_by contents records) now → ((d : DumpRecordFields) → Contains fewer d → Contains records d) → Fair cell (dumped_by contents fewer) now
fewer_fair cell contents records fewer now fair among =
    let has : DumpRecordFields → List Dumped = λ d. map (dumped_of contents d) (firsts d.volumes) in
    fair_fewer cell (dumped_by contents records) (dumped_by contents fewer) now fair
    (λ x there. (let d = of_flat has fewer x there in in_flat has records d.0 x (among d.0 d.1) d.2))

-- ---- the first volumes of their names

same_numbers : (a b : ℕ) → Decides (a == b) (a ≡ b)
same_numbers a b = (eqb-true a b, eq-eqb a b)

text_same : (a b : List ℕ) → a ≡ b → is_same_text a b ≡ true
text_same a b same = (slice_eq-Decides same_numbers a b (is_same_text a b) refl).1 same

other_text : (a b : List ℕ) → is_same_text a b ≡ false → is_same_text b a ≡ false
other_text a b other = elim (cases_Bool (is_same_text b a)) [
  | inl hit ↦ absurd (let e : is_same_text a b ≡ true = text_same a b (sym (same_text b a hit)) in let t : true ≡ false = sym e ∙ other in cc)
  | inr miss ↦ miss
]

not_true : (b : Bool) → not b ≡ true → b ≡ false
not_true true e = sym e
not_true false e = refl

first_is : (vs : List VolRecordFields) (v : VolRecordFields) → Contains (firsts vs) v → find (λ w. is_same_text w.name v.name) vs ≡ Some v
first_is [] v there = absurd (omega (arith, there.1))
first_is (w ∷ vs) v (zero, within, is) =
    let same : w ≡ v = is in
    let hit : is_same_text w.name v.name ≡ true = text_same w.name v.name (ap (λ (x : VolRecordFields). x.name) same) in
    rw hit (ap Some same)
first_is (w ∷ vs) v (suc k, within, is) =
    let rest = of_filter (λ (x : VolRecordFields). not (is_same_text x.name w.name)) (firsts vs) v (k, omega (arith, within), is) in
    let miss : is_same_text w.name v.name ≡ false = other_text v.name w.name (not_true (is_same_text v.name w.name) rest.1) in
    rw miss (first_is vs v rest.0)

-- its clone stands at the same place, and is the first one of the name
clone_of_name : (name : List ℕ) (vs : List VolRecordFields) (cs : List Taken) (v : VolRecordFields) → ((i : ℕ) (w : VolRecordFields) (c : Taken) → slice_get vs i ≡ Some w → slice_get cs i ≡ Some c → w.name ≡ c.volume.header.name) → length vs ≤ length cs
    → find (λ w. is_same_text w.name name) vs ≡ Some v → (i : ℕ) × (c : Taken) × (slice_get vs i ≡ Some v) × (slice_get cs i ≡ Some c) × (find (is_clone_of name) cs ≡ Some c)
clone_of_name name [] cs v names few is = absurd (cc)
clone_of_name name (w ∷ vs) [] v names few is = absurd (omega (arith, few))
clone_of_name name (w ∷ vs) (c ∷ cs) v names few is =
    let named : w.name ≡ c.volume.header.name = names 0 w c refl refl in
    elim (cases_Bool (is_same_text w.name name)) [
      | inl hit ↦
          (let both : Some w ≡ Some v = rw hit at is in
          let mine : is_same_text c.volume.header.name name ≡ true = ap (λ (l : List ℕ). is_same_text l name) (sym named) ∙ hit in
          (0, c, both, refl, rw mine refl))
      | inr miss ↦
          (let later : find (λ w. is_same_text w.name name) vs ≡ Some v = rw miss at is in
          let mine : is_same_text c.volume.header.name name ≡ false = ap (λ (l : List ℕ). is_same_text l name) (sym named) ∙ miss in
          let rest = clone_of_name name vs cs v (λ i x d a b. names (suc i) x d a b) (omega (arith, few)) later in
          (suc rest.0, rest.1, rest.2, rest.3, rw mine rest.4))
    ]

-- ---- the contents of the dump that is made

clone_or : (parent : Result VolumeFields Refusal) (from : ℕ) (v : VolumeFields) → (clone_or_refusal parent from v ≡ Ok v) ⊎ ((r : Refusal) × (clone_or_refusal parent from v ≡ Err r))
clone_or parent from v = elim (cases_Bool (from == 0)) [
  | inl hit ↦ inl (rw hit refl)
  | inr miss ↦ by_parent parent miss
]
  where
    by_parent : (parent : Result VolumeFields Refusal) → (from == 0) ≡ false → (clone_or_refusal parent from v ≡ Ok v) ⊎ ((r : Refusal) × (clone_or_refusal parent from v ≡ Err r))
    by_parent (Ok old) miss = inl (rw miss refl)
    by_parent (Err r) miss = inr (r, rw miss refl)

time_past : (cell : List Stored) (place now : ℕ) (c : Taken) → NoneIsMadeAfter now cell → IsCloneAt cell place now c → c.time ≤ now
time_past cell place now c made x =
    let image : IsNotMadeAfter now (Good c.volume) = subst (IsNotMadeAfter now) x.good (All-contains (λ (s : Stored). IsNotMadeAfter now s.image) cell x.stored made (in_list cell place x.stored x.at)) in
    let past : clone_time c.volume now ≤ now = elim (cases_Bool (c.volume.header.kind == 0)) [ inl hit ↦ rw hit (omega arith) | inr miss ↦ rw miss image ] in
    let same : c.time ≡ clone_time c.volume now = ap (λ (y : Taken). y.time) x.is in
    omega (arith, past, same)

module _ (cell : List Stored) (is_cell : IsCell cell) (grown : Contents) (b : Basis) (now : ℕ) (places : List ℕ) (m : Made) (are : AreFirstClones cell now places m.clones) (same : with_dump grown b m.clones ≡ grown) (made : NoneIsMadeAfter now cell) where
  taken_from : (cs : List Taken) → ((i : ℕ) (c : Taken) → slice_get cs i ≡ Some c → IsTakenFrom cell now c) → All (IsTakenFrom cell now) cs
  taken_from [] each = All-nil (IsTakenFrom cell now)
  taken_from (c ∷ cs) each = All-cons (IsTakenFrom cell now) c cs (each 0 c refl) (taken_from cs (λ i d at. each (suc i) d at))

  all_taken : All (IsTakenFrom cell now) m.clones
  all_taken = taken_from m.clones (λ i c at. (let p = clone_place cell now places m.clones i c are at in (p.0, p.2)))

  volume_clone : (vs : List VolRecordFields) → VolumesFit grown b vs m → (d : DumpRecordFields) → d.id ≡ b.id → (v : VolRecordFields) → Contains (firsts vs) v → IsCloneOf grown d now m.clones v
  volume_clone vs fit d id v there =
      let x = clone_of_name v.name vs m.clones v (λ i w c a e. (fit.cloned i w c a e).name_is) fit.clones (first_is vs v there) in
      let c : Taken = x.1 in
      let cloned = fit.cloned x.0 v c x.2 x.3 in
      let p = clone_place cell now places m.clones x.0 c are x.3 in
      let told : grown d.id v.name ≡ clone_or_refusal (grown b.above v.name) (from_of b.parent v.name c.born) c.volume =
      ap (λ (n : ℕ). grown n v.name) id ∙ ap (λ (f : Contents). f b.id v.name) (sym same) ∙ dump_told grown b m.clones v.name c x.4 in
      elim (clone_or (grown b.above v.name) (from_of b.parent v.name c.born) c.volume) [
        | inl whole ↦ inl (c, in_list m.clones x.0 c x.3, cloned.name_is, cloned.time_is, told ∙ whole)
        | inr refused ↦ inr (refused.0, told ∙ refused.1, (let past : c.time ≤ now = time_past cell p.0 now c made (clone_there cell is_cell p.0 now c p.2) in omega (arith, past, cloned.time_is)))
      ]

  pub done_fair : (records : List DumpRecordFields) (d : DumpRecordFields) → VolumesFit grown b d.volumes m → d.id ≡ b.id → ((e : DumpRecordFields) → Contains records e → e.id ≡ b.id → ⊥) → Fair cell (dumped_by grown records) now → NoSourceHasBackupName cell → Fair cell (dumped_by grown (records ++ d ∷ [])) now
  done_fair records d fit id new fair named =
      dump_stays_fair cell grown grown records d now m.clones (λ e there is. new e there (is ∙ id)) (λ n name other. refl) (λ v there. volume_clone d.volumes fit d id v there) is_cell fair made named all_taken
