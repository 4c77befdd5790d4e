-- Records that are stored, and what reading them tells.
use Rattle.std.proofs.Common.{◌≡◌, ◌≢◌, ◌⊎◌, inl, inr, ℕ, zero, suc, ◌<◌, ◌≤◌, ◌^◌, List, [], ◌∷◌, length, map, Option, Some, None, refl, sym, ◌∙◌, ap, subst, arith, ⊎_elim}
use Rattle.std.proofs.lemmas.Bool.{cases_eq, eq-eqb, ne_eqb, cond-true, cond-false}
use Rattle.std.proofs.lemmas.List.{length-map}
use Rattle.std.specs.List.{AllByRecursion}
use Rattle.std.specs.Int.{w32, to_be_bytes}
use Rattle.budb_changes.specs.declared.records.DumpRecordFields.{DumpRecordFields}
use Rattle.budb_links.specs.Stands.{Stand, Apart, place_of}
use Rattle.budb_links.specs.Chained.{Woven, chain_of}
use Rattle.budb_links.specs.Entries.{Entry, dumps_of, record_of, record_at}
use Rattle.budb_links.specs.Keys.{Numbering, number_of}
use Rattle.budb_links.specs.Stored.{slot_at, stand_of, stands_at, with_slot, entries_of, HasPlace, Stores, NumbersIds}

abbrev pub Holds : List (Option DumpRecordFields) → List Entry → Type 0
Holds slots = AllByRecursion (λ entry. slot_at slots entry.place ≡ Some entry.dump)

-- ---- the records of a chain

pub entries_of_is : (slots : List (Option DumpRecordFields)) (es : List Entry) → Holds slots es → entries_of slots (map stand_of es) ≡ es
entries_of_is slots [] h = refl
entries_of_is slots (e ∷ es) h =
    ap (λ (o : Option DumpRecordFields). with_slot e.place o (entries_of slots (map stand_of es))) h.0
    ∙ ap (λ (t : List Entry). e ∷ t) (entries_of_is slots es h.1)

pub stored_is : (arena : Woven) (slots : List (Option DumpRecordFields)) (free : List ℕ) (es : List Entry) → Stores arena slots free es → entries_of slots (chain_of arena 0 0) ≡ es
stored_is arena slots free es s =
    ap (entries_of slots) (s.chains 0) ∙ entries_of_is slots es s.holds

pub stores_as : (arena : Woven) (slots : List (Option DumpRecordFields)) (free : List ℕ) (es : List Entry) → Stores arena slots free es → Stores arena slots free (entries_of slots (chain_of arena 0 0))
stores_as arena slots free es s = subst (λ (t : List Entry). Stores arena slots free t) (sym (stored_is arena slots free es s)) s

-- ---- places

apart_all : (place : ℕ) (es : List Entry) → AllByRecursion (λ e. e.place ≢ place) es → Apart place (map stand_of es)
apart_all place [] a = tt
apart_all place (e ∷ es) a = (a.0, apart_all place es a.1)

pub apart_at : (place head : ℕ) (es : List Entry) → AllByRecursion (λ e. e.place ≢ place) es → Apart place (stands_at head es)
apart_at place zero es a = apart_all place es a
apart_at place (suc head) es a = tt

pub free_apart : (slots : List (Option DumpRecordFields)) (place : ℕ) (es : List Entry) → Holds slots es → slot_at slots place ≡ None → AllByRecursion (λ e. e.place ≢ place) es
free_apart slots place [] h none = tt
free_apart slots place (e ∷ es) h none = (
  (λ same. let full = sym (ap (slot_at slots) same) ∙ h.0 in let no : ⊥ = cc in no),
  free_apart slots place es h.1 none,
)

pub few_at : (head : ℕ) (es : List Entry) → length (stands_at head es) ≤ length es
few_at zero es = omega (arith, length-map es stand_of)
few_at (suc head) es = omega arith

-- ---- what a place and an id tell

pub record_at_is : (slots : List (Option DumpRecordFields)) (place : ℕ) (es : List Entry) → Holds slots es → HasPlace place es → slot_at slots place ≡ record_at place es
record_at_is slots place [] h has = absurd has
record_at_is slots place (e ∷ es) h has =
    ⊎_elim
    (λ (same : e.place ≡ place). sym (ap (slot_at slots) same) ∙ h.0 ∙ sym (cond-true _ (Some e.dump) (record_at place es) (eq-eqb e.place place same)))
    (λ (ne : e.place ≡ place → ⊥). ⊎_elim (λ (same : e.place ≡ place). absurd (ne same)) (λ (has : HasPlace place es). record_at_is slots place es h.1 has ∙ sym (cond-false _ (Some e.dump) (record_at place es) (ne_eqb e.place place ne))) has)
    (cases_eq e.place place)

pub no_record_at : (place : ℕ) (es : List Entry) → AllByRecursion (λ e. e.place ≢ place) es → None ≡ record_at place es
no_record_at place [] a = refl
no_record_at place (e ∷ es) a = no_record_at place es a.1 ∙ sym (cond-false _ (Some e.dump) (record_at place es) (ne_eqb e.place place a.0))

slot_cases : (o : Option DumpRecordFields) → (o ≡ None) ⊎ ((dump : DumpRecordFields) × (o ≡ Some dump))
slot_cases None = inl refl
slot_cases (Some dump) = inr (dump, refl)

pub record_at_slot : (arena : Woven) (slots : List (Option DumpRecordFields)) (free : List ℕ) (es : List Entry) (place : ℕ) → Stores arena slots free es → slot_at slots place ≡ record_at place es
record_at_slot arena slots free es place s =
    ⊎_elim
    (λ (none : slot_at slots place ≡ None). none ∙ no_record_at place es (free_apart slots place es s.holds none))
    (λ (some : (dump : DumpRecordFields) × (slot_at slots place ≡ Some dump)). record_at_is slots place es s.holds (s.only place some.0 some.1))
    (slot_cases (slot_at slots place))

-- the record at a place that may be wanting
abbrev pub slot_of : List (Option DumpRecordFields) → Option ℕ → Option DumpRecordFields
slot_of slots None = None
slot_of slots (Some place) = slot_at slots place

pub found_slot : (slots : List (Option DumpRecordFields)) (id : ℕ) (es : List Entry) → Holds slots es → slot_of slots (place_of id (map stand_of es)) ≡ record_of id (dumps_of es)
found_slot slots id [] h = refl
found_slot slots id (e ∷ es) h =
    ⊎_elim
    (λ (same : e.dump.id ≡ id). let t = eq-eqb e.dump.id id same in ap (slot_of slots) (cond-true _ (Some e.place) (place_of id (map stand_of es)) t) ∙ h.0 ∙ sym (cond-true _ (Some e.dump) (record_of id (dumps_of es)) t))
    (λ (ne : e.dump.id ≡ id → ⊥). let t = ne_eqb e.dump.id id ne in ap (slot_of slots) (cond-false _ (Some e.place) (place_of id (map stand_of es)) t) ∙ found_slot slots id es h.1 ∙ sym (cond-false _ (Some e.dump) (record_of id (dumps_of es)) t))
    (cases_eq e.dump.id id)

pub found_record : (ids : Numbering) (slots : List (Option DumpRecordFields)) (places : ℕ) (es : List Entry) (id : ℕ) → id < 2 ^ 32 → NumbersIds ids places es → Holds slots es → slot_of slots (number_of (to_be_bytes w32 id) ids.used) ≡ record_of id (dumps_of es)
found_record ids slots places es id small n h = ap (slot_of slots) (n.placed id small) ∙ found_slot slots id es h
