-- A dump of clones leaves the cell fair to the archive that has it.
use Rattle.std.proofs.Common.{◌≡◌, ◌⊎◌, ℕ, zero, suc, ◌≤◌, Option, Some, None, List, [], ◌∷◌, ◌++◌, map, refl, sym, ap, subst, ◌∙◌, arith, inl, inr}
use Rattle.std.specs.Prelude.{Result, All, Contains, IfSome}
use Rattle.std.specs.List.{flat_map}
use Rattle.std.proofs.lemmas.List.Elements.{All-head, All-tail, All-contains, All-contains_itself, All-weaker, Contains-append_cases, Contains-push_cases}
use Rattle.vnode_model.specs.declared.volumes.VolumeFields.{VolumeFields}
use Rattle.vnode_model.specs.Limits.{AreVolume}
use Rattle.budb_changes.specs.declared.records.VolRecordFields.{VolRecordFields}
use Rattle.budb_changes.specs.declared.records.DumpRecordFields.{DumpRecordFields}
use Rattle.cell_core.specs.declared.stored.Stored.{Stored}
use Rattle.cell_core.specs.declared.stored.Taken.{Taken}
use Rattle.cell_core.specs.Cells.{IsCell}
use Rattle.cell_core.specs.Fairness.{Dumped, dumped_from, Fair, NoneIsMadeAfter, NoSourceHasBackupName}
use Rattle.cell_core.proofs.DumpLaws.{clone_dump_fair}
use Rattle.archive_model.specs.Archives.{Refusal}
use Rattle.archive_model.specs.Sources.{firsts, volume_told, dumped_of, dumped_by, IsCloneOf, IsTakenFrom, dumped_clones}
use Rattle.tape_scan.proofs.ListLaws.{contains_map}
use Rattle.archive_model.proofs.SlotLaws.{in_map, in_flat}

-- ---- what was dumped and isn't a volume counts by its time alone

all_of : {X : Type 0} (P : X → Type 0) (xs : List X) → ((x : X) → Contains xs x → P x) → All P xs
all_of P xs each = All-weaker (Contains xs) P each xs (All-contains_itself xs)

if_none : (o : Option VolumeFields) → o ≡ None → IfSome o (λ old. AreVolume old.vnodes)
if_none o is = rw is tt

IsKnown : List Dumped → ℕ → Dumped → Type 0
IsKnown dumped now d = Contains dumped d ⊎ ((d.volume ≡ None) × (d.time ≤ now))

known_fair : (cell : List Stored) (dumped more : List Dumped) (now : ℕ) → Fair cell dumped now → ((d : Dumped) → Contains more d → IsKnown dumped now d) → Fair cell more now
unfolding IsKnown
known_fair cell dumped more now fair known = record {
  times = all_of (λ (d : Dumped). d.time ≤ now) more (λ d there. elim (known d there) [
    | inl old ↦ All-contains (λ (x : Dumped). x.time ≤ now) dumped d fair.times old
    | inr none ↦ none.1
  ]);
  volumes = all_of (λ (d : Dumped). IfSome d.volume (λ old. AreVolume old.vnodes)) more (λ d there. elim (known d there) [
    | inl old ↦ All-contains (λ (x : Dumped). IfSome x.volume (λ old. AreVolume old.vnodes)) dumped d fair.volumes old
    | inr none ↦ if_none d.volume none.0
  ]);
  own = λ s new d old there image member is name. elim (known d member) [
    | inl known_d ↦ fair.own s new d old there image known_d is name
    | inr none ↦ absurd (let both : None ≡ Some old = sym none.0 ∙ is in cc)
  ];
  of_backup = λ s new d old there image kind member is name. elim (known d member) [
    | inl known_d ↦ fair.of_backup s new d old there image kind known_d is name
    | inr none ↦ absurd (let both : None ≡ Some old = sym none.0 ∙ is in cc)
  ];
  backup = fair.backup;
}

-- ---- the clones of a dump

clones_fair : (cell : List Stored) → IsCell cell → (dumped : List Dumped) (now : ℕ) (clones : List Taken) → Fair cell dumped now → NoneIsMadeAfter now cell → NoSourceHasBackupName cell → All (IsTakenFrom cell now) clones → Fair cell (dumped_clones clones dumped) now
clones_fair cell good dumped now [] fair made sources taken = fair
clones_fair cell good dumped now (c ∷ clones) fair made sources taken =
    let here = All-head (IsTakenFrom cell now) c clones taken in
    clone_dump_fair cell good (dumped_clones clones dumped) now here.0 c (clones_fair cell good dumped now clones fair made sources (All-tail (IsTakenFrom cell now) c clones taken)) made sources here.1

clone_there : (clones : List Taken) (dumped : List Dumped) (c : Taken) → Contains clones c → Contains (dumped_clones clones dumped) (dumped_from c)
clone_there [] dumped c there = absurd (omega (arith, there.1))
clone_there (x ∷ clones) dumped c (zero, within, is) = (zero, omega arith, ap dumped_from is)
clone_there (x ∷ clones) dumped c (suc k, within, is) =
    let rest = clone_there clones dumped c (k, omega (arith, within), is) in
    (suc rest.0, omega (arith, rest.1), rest.2)

old_there : (clones : List Taken) (dumped : List Dumped) (d : Dumped) → Contains dumped d → Contains (dumped_clones clones dumped) d
old_there [] dumped d there = there
old_there (c ∷ clones) dumped d there = (let rest = old_there clones dumped d there in (suc rest.0, omega (arith, rest.1), rest.2))

-- ---- the archive with the dump

pub of_flat : {X Y : Type 0} (h : X → List Y) (xs : List X) (y : Y) → Contains (flat_map h xs) y → (x : X) × Contains xs x × Contains (h x) y
of_flat h [] y there = absurd (omega (arith, there.1))
of_flat h (x ∷ xs) y there = elim (Contains-append_cases (h x) (flat_map h xs) y there) [
  | inl here ↦ (x, (0, omega arith, refl), here)
  | inr later ↦ (let rest = of_flat h xs y later in (rest.0, (suc rest.1.0, omega (arith, rest.1.1), rest.1.2), rest.2))
]

same_dumped : (a b : List ℕ) (s t : ℕ) (o p : Option VolumeFields) → a ≡ b → s ≡ t → o ≡ p → record { name = a; time = s; volume = o } ≡ (let d : Dumped = record { name = b; time = t; volume = p } in d)
same_dumped a b s t o p name time volume = cc

module _ (cell : List Stored) (contents grown : ℕ → List ℕ → Result VolumeFields Refusal) (records : List DumpRecordFields) (d : DumpRecordFields) (now : ℕ) (clones : List Taken)
    (new : (e : DumpRecordFields) → Contains records e → e.id ≡ d.id → ⊥) (others : (id : ℕ) (name : List ℕ) → (id ≡ d.id → ⊥) → grown id name ≡ contents id name)
    (volumes : (v : VolRecordFields) → Contains (firsts d.volumes) v → IsCloneOf grown d now clones v) where
  own_known : (v : VolRecordFields) → Contains (firsts d.volumes) v → IsKnown (dumped_clones clones (dumped_by contents records)) now (dumped_of grown d v)
  unfolding IsKnown
  own_known v there = elim (volumes v there) [
    | inl clone ↦
        (let same : dumped_from clone.0 ≡ dumped_of grown d v = same_dumped clone.0.volume.header.name v.name clone.0.time v.clone (Some clone.0.volume) (volume_told (grown d.id v.name)) (sym clone.2) (sym clone.3) (sym (ap volume_told clone.4)) in
        inl (subst (Contains (dumped_clones clones (dumped_by contents records))) same (clone_there clones (dumped_by contents records) clone.0 clone.1)))
    | inr refused ↦ inr (ap volume_told refused.1, refused.2)
  ]

  old_known : (e : DumpRecordFields) (v : VolRecordFields) → Contains records e → Contains (firsts e.volumes) v → IsKnown (dumped_clones clones (dumped_by contents records)) now (dumped_of grown e v)
  unfolding IsKnown
  old_known e v there member =
      let same : dumped_of contents e v ≡ dumped_of grown e v = ap (λ (r : Result VolumeFields Refusal). record { name = v.name; time = v.clone; volume = volume_told r }) (sym (others e.id v.name (new e there))) in
      let old : Contains (dumped_by contents records) (dumped_of contents e v) = in_flat (λ (x : DumpRecordFields). map (dumped_of contents x) (firsts x.volumes)) records e (dumped_of contents e v) there (in_map (dumped_of contents e) (firsts e.volumes) v member) in
      inl (subst (Contains (dumped_clones clones (dumped_by contents records))) same (old_there clones (dumped_by contents records) (dumped_of contents e v) old))

  all_known : (x : Dumped) → Contains (dumped_by grown (records ++ d ∷ [])) x → IsKnown (dumped_clones clones (dumped_by contents records)) now x
  unfolding IsKnown
  all_known x there =
      let e = of_flat (λ (y : DumpRecordFields). map (dumped_of grown y) (firsts y.volumes)) (records ++ d ∷ []) x there in
      let v = contains_map (dumped_of grown e.0) (firsts e.0.volumes) x e.2 in
      subst (IsKnown (dumped_clones clones (dumped_by contents records)) now) v.2 (elim (Contains-push_cases records d e.0 e.1) [
        | inl old ↦ old_known e.0 v.0 old v.1
        | inr own ↦ subst (λ (y : DumpRecordFields). Contains (firsts y.volumes) v.0 → IsKnown (dumped_clones clones (dumped_by contents records)) now (dumped_of grown y v.0)) own (λ member. own_known v.0 member) v.1
      ])

  -- the cell is fair to the archive with the dump
  pub dump_stays_fair : IsCell cell → Fair cell (dumped_by contents records) now → NoneIsMadeAfter now cell → NoSourceHasBackupName cell → All (IsTakenFrom cell now) clones → Fair cell (dumped_by grown (records ++ d ∷ [])) now
  dump_stays_fair good fair made sources taken = known_fair cell (dumped_clones clones (dumped_by contents records)) (dumped_by grown (records ++ d ∷ [])) now (clones_fair cell good (dumped_by contents records) now clones fair made sources taken) all_known
