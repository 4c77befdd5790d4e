-- The contents of a dump that is made: nothing asks for them before it is a dump, and its end makes nothing else of them.
use Rattle.std.proofs.Common.{◌≡◌, ℕ, suc, true, false, List, [], ◌∷◌, ◌++◌, length, map, refl, sym, ap, ◌∙◌, arith, inl, inr}
use Rattle.std.specs.Prelude.{Contains, Result, find, ◌==◌}
use Rattle.std.proofs.lemmas.Bool.{eq-eqb, eqb-true, cases_Bool}
use Rattle.vnode_model.specs.declared.volumes.VolumeFields.{VolumeFields}
use Rattle.cell_core.specs.declared.stored.Taken.{Taken}
use Rattle.cell_core.specs.Cells.{IsCell}
use Rattle.budb_changes.specs.declared.records.VolRecordFields.{VolRecordFields}
use Rattle.budb_changes.specs.declared.records.DumpRecordFields.{DumpRecordFields}
use Rattle.budb_fold.specs.Lookups.{record_of, from_of}
use Rattle.plant_core.specs.Crashes.{State}
use Rattle.archive_model.specs.Archives.{Archive, Refusal}
use Rattle.archive_model.specs.Settled.{HoldsSettled}
use Rattle.archive_model.specs.Sources.{firsts, volume_told, dumped_of, dumped_by, clone_or_refusal}
use Rattle.archive_model.specs.Turns.{with_contents}
use Rattle.dump_job.specs.declared.order.DumpOrder.{DumpOrder}
use Rattle.dump_job.specs.Beginning.{id_of}
use Rattle.dump_laws.specs.Made.{Basis}
use Rattle.dump_laws.specs.Growing.{is_clone_of, told_by, with_dump}
use Rattle.dump_courses.specs.Scenes.{Scene, database_in}
use Rattle.dump_commands.specs.Answers.{Contents, place_of, given_by, given_at, contents_with}
use Rattle.dump_archives.proofs.Clones.{AreFirstClones, FindsAt, found_at}

-- ---- contents that none of an archive's dumps has

pub free_contents : (s : State) (a : Archive) (records : List DumpRecordFields) (contents : ℕ → List ℕ → Result VolumeFields Refusal) → HoldsSettled s a records
    → ((d : DumpRecordFields) (name : List ℕ) → Contains records d → contents d.id name ≡ a.contents d.id name) → HoldsSettled s (with_contents a contents) records
free_contents s a records contents held same =
    let k = held.seen.kept in
    record {
      seen = record {
        changes = held.seen.changes;
        log = held.seen.log;
        tapes = held.seen.tapes;
        others = held.seen.others;
        kept = record {
          dumps = k.dumps;
          ids_once = k.ids_once;
          held_once = k.held_once;
          heads_once = k.heads_once;
          lie = k.lie;
          whole = k.whole;
          agree = k.agree;
          contents_are = λ d name ids there chain all. (let x = k.contents_are d name ids there chain all in (x.0, x.1, same d name there ∙ x.2));
        };
      };
      log = held.log;
      settled = held.settled;
    }

-- ---- what was dumped

volumes_same : (grown contents : Contents) (d : DumpRecordFields) → ((name : List ℕ) → grown d.id name ≡ contents d.id name) → (vs : List VolRecordFields) → map (dumped_of grown d) vs ≡ map (dumped_of contents d) vs
volumes_same grown contents d same [] = refl
volumes_same grown contents d same (v ∷ vs) =
    let e : grown d.id v.name ≡ contents d.id v.name = same v.name in
    let rest : map (dumped_of grown d) vs ≡ map (dumped_of contents d) vs = volumes_same grown contents d same vs in
    λ i. record { name = v.name; time = v.clone; volume = volume_told (e i) } ∷ rest i

pub dumped_same : (grown contents : Contents) (records : List DumpRecordFields) → ((d : DumpRecordFields) (name : List ℕ) → Contains records d → grown d.id name ≡ contents d.id name) → dumped_by grown records ≡ dumped_by contents records
dumped_same grown contents [] same = refl
dumped_same grown contents (d ∷ records) same =
    let mine : map (dumped_of grown d) (firsts d.volumes) ≡ map (dumped_of contents d) (firsts d.volumes) = volumes_same grown contents d (λ name. same d name (0, omega arith, refl)) (firsts d.volumes) in
    let rest : dumped_by grown records ≡ dumped_by contents records = dumped_same grown contents records (λ e name there. same e name (suc there.0, omega (arith, there.1), there.2)) in
    λ i. mine i ++ rest i

-- ---- the contents that a dump makes

unequal : (a b : ℕ) → (a ≡ b → ⊥) → (a == b) ≡ false
unequal a b other = elim (cases_Bool (a == b)) [
  | inl same ↦ absurd (other (eqb-true a b same))
  | inr unlike ↦ unlike
]

module _ (s : Scene) (o : DumpOrder) (contents : Contents) where
  abbrev its_id : ℕ
  its_id = id_of o (database_in s)

  abbrev grown : Contents
  grown = contents_with s o contents

  pub grown_other : (id : ℕ) (name : List ℕ) → (id ≡ its_id → ⊥) → grown id name ≡ contents id name
  grown_other id name other = (let miss : (id == its_id) ≡ false = unequal id its_id other in rw miss refl)

  pub grown_own : (name : List ℕ) → grown its_id name ≡ given_at s o contents name (contents its_id name) (place_of s.cell o.volumes name)
  grown_own name = (let hit : (its_id == its_id) ≡ true = eq-eqb its_id its_id refl in rw hit refl)

  -- what a dump of these clones has of a name is what these contents have already
  told_own : IsCell s.cell → (b : Basis) (clones : List Taken) → b.id ≡ its_id → b.above ≡ o.parent → (b.above ≡ its_id → ⊥) → b.parent ≡ record_of (database_in s).listed o.parent → AreFirstClones s.cell o.time o.volumes clones → length clones ≡ length o.volumes
      → (name : List ℕ) → FindsAt s.cell o.time o.volumes clones name → told_by grown b name (find (is_clone_of name) clones) ≡ grown its_id name
  told_own cell b clones id above below parent are all name (inl none) = ap (told_by grown b name) none.0 ∙ ap (λ (n : ℕ). grown n name) id
  told_own cell b clones id above below parent are all name (inr (p, c, is, at, clone)) =
      let parents : grown b.above name ≡ contents o.parent name = grown_other b.above name below ∙ ap (λ (n : ℕ). contents n name) above in
      let told : told_by grown b name (find (is_clone_of name) clones) ≡ clone_or_refusal (grown b.above name) (from_of b.parent name c.born) c.volume = ap (told_by grown b name) is in
      let given : given_at s o contents name (contents its_id name) (place_of s.cell o.volumes name) ≡ clone_or_refusal (contents o.parent name) (from_of (record_of (database_in s).listed o.parent) name c.born) c.volume =
      ap (given_at s o contents name (contents its_id name)) at ∙ ap (given_by s o contents name (contents its_id name)) clone in
      told
      ∙ (λ i. clone_or_refusal (parents i) (from_of (parent i) name c.born) c.volume)
      ∙ sym given
      ∙ sym (grown_own name)

  by_id : (b : Basis) (clones : List Taken) → b.id ≡ its_id → ((name : List ℕ) → told_by grown b name (find (is_clone_of name) clones) ≡ grown its_id name) → (id : ℕ) (name : List ℕ) → with_dump grown b clones id name ≡ grown id name
  by_id b clones is own id name = elim (cases_Bool (id == b.id)) [
    | inl hit ↦ (let same : id ≡ its_id = eqb-true id b.id hit ∙ is in rw hit (own name ∙ ap (λ (n : ℕ). grown n name) (sym same)))
    | inr miss ↦ rw miss refl
  ]

  pub same_contents : IsCell s.cell → (b : Basis) (clones : List Taken) → b.id ≡ its_id → b.above ≡ o.parent → (b.above ≡ its_id → ⊥) → b.parent ≡ record_of (database_in s).listed o.parent → AreFirstClones s.cell o.time o.volumes clones → length clones ≡ length o.volumes
      → with_dump grown b clones ≡ grown
  same_contents cell b clones id above below parent are all =
      let each = by_id b clones id (λ name. told_own cell b clones id above below parent are all name (found_at s.cell cell o.time o.volumes clones are all name)) in
      λ i. λ n. λ name. each n name i
