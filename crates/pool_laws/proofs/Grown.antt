-- The contents behind several dumps: those of each are what its end makes of them, whichever dumps end before it.
use Rattle.std.proofs.Common.{◌≡◌, ℕ, true, false, List, length, refl, sym, ap, subst, ◌∙◌, inl, inr}
use Rattle.std.specs.Prelude.{◌==◌, find}
use Rattle.std.proofs.lemmas.Bool.{cases_Bool, eqb-true}
use Rattle.cell_core.specs.declared.stored.Taken.{Taken}
use Rattle.cell_core.specs.Cells.{IsCell}
use Rattle.budb_fold.specs.Lookups.{record_of, from_of}
use Rattle.archive_model.specs.Sources.{clone_or_refusal}
use Rattle.dump_job.specs.declared.order.DumpOrder.{DumpOrder}
use Rattle.dump_laws.specs.Made.{Basis}
use Rattle.dump_laws.specs.Growing.{is_clone_of, told_by, with_dump}
use Rattle.dump_courses.specs.Scenes.{Scene, database_in}
use Rattle.dump_commands.specs.Answers.{Contents, place_of, given_by, given_at, contents_with}
use Rattle.dump_archives.proofs.Clones.{AreFirstClones, FindsAt, found_at}
use Rattle.dump_job.specs.declared.fields.JobFields.{JobFields}
use Rattle.dump_laws.specs.Running.{basis_of}
use Rattle.pool_laws.specs.Grown.{HasGrown}
use Rattle.pool_laws.specs.Underway.{IsGrown}

module _ (s : Scene) (o : DumpOrder) (contents grown : Contents) (is_cell : IsCell s.cell) (b : Basis) (has : HasGrown s o b.id contents grown) (above : b.above ≡ o.parent) (parent : b.parent ≡ record_of (database_in s).listed o.parent) where
  told_own : (clones : List Taken) (name : List ℕ) → FindsAt s.cell o.time o.volumes clones name → told_by grown b name (find (is_clone_of name) clones) ≡ grown b.id name
  told_own clones name (inl none) = ap (told_by grown b name) none.0
  told_own clones name (inr (p, c, is, at, clone)) =
      let parents : grown b.above name ≡ contents o.parent name = ap (λ (n : ℕ). grown n name) above ∙ has.above name in
      let told : told_by grown b name (find (is_clone_of name) clones) ≡ clone_or_refusal (grown b.above name) (from_of b.parent name c.born) c.volume = ap (told_by grown b name) is in
      let given : given_at s o contents name (contents b.id name) (place_of s.cell o.volumes name) ≡ clone_or_refusal (contents o.parent name) (from_of (record_of (database_in s).listed o.parent) name c.born) c.volume =
      ap (given_at s o contents name (contents b.id name)) at ∙ ap (given_by s o contents name (contents b.id name)) clone in
      told
      ∙ (λ i. clone_or_refusal (parents i) (from_of (parent i) name c.born) c.volume)
      ∙ sym given
      ∙ sym (has.own name)

  by_id : (clones : List Taken) → ((name : List ℕ) → told_by grown b name (find (is_clone_of name) clones) ≡ grown b.id name) → (id : ℕ) (name : List ℕ) → with_dump grown b clones id name ≡ grown id name
  by_id clones own id name = elim (cases_Bool (id == b.id)) [
    | inl hit ↦ (let same : id ≡ b.id = eqb-true id b.id hit in rw hit (own name ∙ ap (λ (n : ℕ). grown n name) (sym same)))
    | inr miss ↦ rw miss refl
  ]

  -- a dump of all clones makes nothing else of them
  pub grown_same : (clones : List Taken) → AreFirstClones s.cell o.time o.volumes clones → length clones ≡ length o.volumes → with_dump grown b clones ≡ grown
  grown_same clones are all =
      let each = by_id clones (λ name. told_own clones name (found_at s.cell is_cell o.time o.volumes clones are all name)) in
      λ i. λ n. λ name. each n name i

-- so they are grown for a dump of this order
pub dump_grown : (s : Scene) (o : DumpOrder) (contents grown : Contents) → IsCell s.cell → (j : JobFields) → HasGrown s o j.head.id contents grown → j.head.parent ≡ o.parent → j.parent ≡ record_of (database_in s).listed o.parent → j.places ≡ o.volumes → IsGrown s o.time grown j
dump_grown s o contents grown is_cell j has above parent places = λ clones are all.
    grown_same s o contents grown is_cell (basis_of j) has above parent clones (subst (λ (l : List ℕ). AreFirstClones s.cell o.time l clones) places are) (all ∙ ap (λ (l : List ℕ). length l) places)
