-- An unlink.
use Rattle.std.proofs.Common.{◌≡◌, ◌≢◌, inl, inr, ℕ, ◌<◌, List, [], ◌∷◌, ◌++◌, length, set, map, Option, Some, None, sym, ◌∙◌, ap, subst, arith, ⊎_elim}
use Rattle.std.proofs.lemmas.Bool.{cases_eq, eq-eqb, ne_eqb, cond-true, cond-false}
use Rattle.budb_changes.specs.declared.records.DumpRecordFields.{DumpRecordFields}
use Rattle.budb_links.specs.Stands.{Stand, Among, place_of, without_place}
use Rattle.budb_links.specs.Chained.{Woven, chain_of}
use Rattle.budb_links.specs.Entries.{Entry, dumps_of, record_of, without_id}
use Rattle.budb_links.specs.Stored.{slot_at, stand_of, entries_of, Stores}
use Rattle.budb_links.proofs.Storing.{slot_of, found_slot, stored_is, stores_as}
use Rattle.budb_links.proofs.Keeping.{fresh_id}
use Rattle.budb_links.proofs.Removing.{Agree, agree, found_full, full_within, without_fresh, removed}

place_among : (id place : ℕ) (ss : List Stand) → place_of id ss ≡ Some place → Among place ss
place_among id place [] e = absurd (let no : ⊥ = cc in no)
place_among id place (s ∷ ss) e =
    ⊎_elim
    (λ (same : s.id ≡ id). let first = sym (cond-true _ (Some s.place) (place_of id ss) (eq-eqb s.id id same)) ∙ e in let at : s.place ≡ place = cc in inl at)
    (λ (ne : s.id ≡ id → ⊥). inr (place_among id place ss (sym (cond-false _ (Some s.place) (place_of id ss) (ne_eqb s.id id ne)) ∙ e)))
    (cases_eq s.id id)

-- what a cut leaves, by its clauses
pub record Cut (old new : Woven) (family place : ℕ) : Type 0 where
  pub chains : (head : ℕ) → chain_of new family head ≡ without_place place (chain_of old family head)
  pub families : (other number : ℕ) → other ≢ family → chain_of new other number ≡ chain_of old other number
  pub places : length new.rows ≡ length old.rows
  pub heads : length new.ends ≡ length old.ends

module _ (arena : Woven) (slots : List (Option DumpRecordFields)) (free : List ℕ) (es : List Entry) (s : Stores arena slots free es) (id : ℕ) where
  -- where no record has the id
  pub none_less : place_of id (map stand_of es) ≡ None → es ≡ without_id id es
  none_less none =
      let absent = sym (found_slot slots id es s.holds) ∙ ap (slot_of slots) none in
      sym (without_fresh id es (fresh_id id es absent))

  module _ (place : ℕ) (found : place_of id (map stand_of es) ≡ Some place) where
    pub agreed : Agree id place es
    agreed = agree slots id place es s.holds s.ids found

    pub found_in_slots : place < length slots
    found_in_slots =
        let f = found_full slots id place es s.holds found in
        full_within slots place f.dump f.full

    pub found_in_rows : place < length arena.rows
    found_in_rows = omega (arith, found_in_slots, s.rows)

    pub among_all : Among place (chain_of arena 0 0)
    among_all = subst (Among place) (sym (s.chains 0)) (place_among id place (map stand_of es) found)

    pub found_value : slot_at slots place ≡ record_of id (dumps_of es)
    found_value = ap (slot_of slots) (sym found) ∙ found_slot slots id es s.holds

    pub found_some : (dump : DumpRecordFields) × (slot_at slots place ≡ Some dump)
    found_some = let f = found_full slots id place es s.holds found in (f.dump, f.full)

    module _ (one : Woven) (cut : Cut arena one 0 place) where
      after_unlink : Stores one (set slots place None) (free ++ place ∷ []) (without_id id es)
      after_unlink = removed arena one slots free es id place s found cut.chains cut.places cut.heads

      pub unlink_stores : Stores one (set slots place None) (free ++ place ∷ []) (entries_of (set slots place None) (chain_of one 0 0))
      unlink_stores = stores_as one (set slots place None) (free ++ place ∷ []) (without_id id es) after_unlink

      pub unlink_is : entries_of (set slots place None) (chain_of one 0 0) ≡ without_id id es
      unlink_is = stored_is one (set slots place None) (free ++ place ∷ []) (without_id id es) after_unlink
