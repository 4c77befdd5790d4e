-- An insert.
use Rattle.std.proofs.Common.{◌≡◌, ◌≢◌, ℕ, ◌<◌, List, [], ◌∷◌, ◌++◌, length, set, Option, Some, None, sym, ◌∙◌, ap, subst, arith}
use Rattle.std.proofs.lemmas.List.{length-append}
use Rattle.std.specs.List.{AllByRecursion}
use Rattle.budb_changes.specs.declared.records.DumpRecordFields.{DumpRecordFields}
use Rattle.budb_links.specs.Stands.{Apart}
use Rattle.budb_links.specs.Chained.{Woven, stand_at, chain_of}
use Rattle.budb_links.specs.Entries.{Entry, entry_at, dumps_of, record_of}
use Rattle.budb_links.specs.Stored.{entries_of, Stores}
use Rattle.budb_links.proofs.Storing.{apart_at, free_apart, few_at, stored_is, stores_as}
use Rattle.budb_links.proofs.Keeping.{free_last, inserted}

module _ (arena : Woven) (slots : List (Option DumpRecordFields)) (free ps : List ℕ) (place : ℕ) (es : List Entry) (s : Stores arena slots free es) (last : free ≡ ps ++ place ∷ []) where
  stored : Stores arena slots (ps ++ place ∷ []) es
  stored = subst (λ (t : List ℕ). Stores arena slots t es) last s

  pub slot_in : place < length slots
  slot_in = let f = free_last slots ps place stored.vacant in f.0

  pub row_in : place < length arena.rows
  row_in = omega (arith, slot_in, s.rows)

  pub heads_in : 0 < length arena.ends
  heads_in = let some : 0 < length slots = omega (arith, slot_in) in s.heads some

  pub fresh_in : (other : ℕ) → Apart place (chain_of arena 0 other)
  fresh_in other =
      let f = free_last slots ps place stored.vacant in
      let apart = free_apart slots place es s.holds f.1 in
      subst (Apart place) (sym (s.chains other)) (apart_at place other es apart)

  pub apart_in : AllByRecursion (λ e. e.place ≢ place) es
  apart_in = let f = free_last slots ps place stored.vacant in free_apart slots place es s.holds f.1

  pub some_in : length es < length slots
  some_in = omega (arith, s.all, ap length last, length-append ps (place ∷ []))

  pub short_in : (head : ℕ) → length (chain_of arena 0 head) < length arena.rows
  short_in head =
      let long = ap length (s.chains head) in
      omega (arith, long, few_at head es, s.all, s.rows, ap length last, length-append ps (place ∷ []))

-- what a push leaves, by its clauses
pub record Pushed (old new : Woven) (family head place id : ℕ) : Type 0 where
  pub chain : chain_of new family head ≡ chain_of old family head ++ stand_at place id ∷ []
  pub others : (other : ℕ) → other ≢ head → chain_of new family other ≡ chain_of old family other
  pub families : (other number : ℕ) → other ≢ family → chain_of new other number ≡ chain_of old other number
  pub places : length new.rows ≡ length old.rows
  pub heads : length new.ends ≡ length old.ends

module _ (arena one : Woven) (slots : List (Option DumpRecordFields)) (free ps : List ℕ) (place : ℕ) (es : List Entry) (s : Stores arena slots free es) (last : free ≡ ps ++ place ∷ [])
    (dump : DumpRecordFields) (fresh : record_of dump.id (dumps_of es) ≡ None) (pushed : Pushed arena one 0 0 place dump.id) where
  after_insert : Stores one (set slots place (Some dump)) ps (es ++ entry_at place dump ∷ [])
  after_insert =
      inserted arena one slots ps place es dump (subst (λ (t : List ℕ). Stores arena slots t es) last s) fresh pushed.chain pushed.others pushed.places pushed.heads

  pub insert_stores : Stores one (set slots place (Some dump)) ps (entries_of (set slots place (Some dump)) (chain_of one 0 0))
  insert_stores = stores_as one (set slots place (Some dump)) ps (es ++ entry_at place dump ∷ []) after_insert

  pub insert_is : entries_of (set slots place (Some dump)) (chain_of one 0 0) ≡ es ++ entry_at place dump ∷ []
  insert_is = stored_is one (set slots place (Some dump)) ps (es ++ entry_at place dump ∷ []) after_insert
