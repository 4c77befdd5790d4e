-- What an insert and an unlink keep of the records that are stored.
use Rattle.std.proofs.Common.{◌≡◌, ◌≢◌, inl, inr, ℕ, zero, suc, ◌<◌, List, [], ◌∷◌, ◌++◌, length, set, Option, Some, None, refl, sym, ◌∙◌, ap, subst, arith, ⊎_elim}
use Rattle.std.proofs.lemmas.Bool.{cases_eq, eq-eqb, ne_eqb, cond-true, cond-false}
use Rattle.std.proofs.lemmas.List.{map-append, length-append, length-set, get_or-set_same, get_or-set_other}
use Rattle.std.specs.List.{AllByRecursion}
use Rattle.budb_changes.specs.declared.records.DumpRecordFields.{DumpRecordFields}
use Rattle.budb_links.specs.Stands.{Stand}
use Rattle.budb_links.specs.Chained.{Woven, stand_at, chain_of}
use Rattle.budb_links.specs.Entries.{Entry, entry_at, dumps_of, record_of}
use Rattle.budb_links.specs.Stored.{slot_at, stand_of, stands_at, DistinctIds, HasPlace, AreFree, Stores}
use Rattle.budb_links.proofs.Storing.{Holds, free_apart}

-- ---- ids

pub fresh_id : (id : ℕ) (es : List Entry) → record_of id (dumps_of es) ≡ None → AllByRecursion (λ x. x.dump.id ≢ id) es
fresh_id id [] h = tt
fresh_id id (e ∷ es) h =
    ⊎_elim
    (λ (same : e.dump.id ≡ id). let full = sym (cond-true _ (Some e.dump) (record_of id (dumps_of es)) (eq-eqb e.dump.id id same)) ∙ h in absurd (let no : ⊥ = cc in no))
    (λ (ne : e.dump.id ≡ id → ⊥). (ne, fresh_id id es (sym (cond-false _ (Some e.dump) (record_of id (dumps_of es)) (ne_eqb e.dump.id id ne)) ∙ h)))
    (cases_eq e.dump.id id)

all_push : (P : Entry → Type 0) (es : List Entry) (e : Entry) → AllByRecursion P es → P e → AllByRecursion P (es ++ e ∷ [])
all_push P [] e a h = (h, tt)
all_push P (x ∷ es) e a h = (a.0, all_push P es e a.1 h)

pub ids_push : (es : List Entry) (e : Entry) → DistinctIds es → AllByRecursion (λ x. x.dump.id ≢ e.dump.id) es → DistinctIds (es ++ e ∷ [])
ids_push [] e d a = (tt, tt)
ids_push (x ∷ es) e d a =
    (all_push (λ o. o.dump.id ≢ x.dump.id) es e d.0 (λ h. a.0 (sym h)), ids_push es e d.1 a.1)

-- ---- slots

pub holds_set : (slots : List (Option DumpRecordFields)) (place : ℕ) (o : Option DumpRecordFields) (es : List Entry) → AllByRecursion (λ e. e.place ≢ place) es → Holds slots es → Holds (set slots place o) es
holds_set slots place o [] a h = tt
holds_set slots place o (e ∷ es) a h = (get_or-set_other slots place e.place o None a.0 ∙ h.0, holds_set slots place o es a.1 h.1)

pub place_front : (place : ℕ) (es : List Entry) (e : Entry) → HasPlace place es → HasPlace place (es ++ e ∷ [])
place_front place [] e h = absurd h
place_front place (x ∷ es) e (inl same) = inl same
place_front place (x ∷ es) e (inr h) = inr (place_front place es e h)

pub place_last : (es : List Entry) (e : Entry) → HasPlace e.place (es ++ e ∷ [])
place_last [] e = inl refl
place_last (x ∷ es) e = inr (place_last es e)

-- ---- free places

-- the places keep being free where the slots of all of them stay empty
pub free_set : {X : Type 0} (slots : List (Option X)) (place : ℕ) (o : Option X) (ps : List ℕ) → AllByRecursion (λ p. p ≢ place) ps → AreFree slots ps → AreFree (set slots place o) ps
free_set slots place o [] a f = tt
free_set slots place o (p ∷ ps) a f = (
  subst (λ (n : ℕ). p < n) (sym (length-set slots place o)) f.0,
  get_or-set_other slots place p o None a.0 ∙ f.1,
  f.2,
  free_set slots place o ps a.1 f.3,
)

pub front : (P : ℕ → Type 0) (ps : List ℕ) (p : ℕ) → AllByRecursion P (ps ++ p ∷ []) → AllByRecursion P ps
front P [] p a = tt
front P (x ∷ ps) p a = (a.0, front P ps p a.1)

pub back : (P : ℕ → Type 0) (ps : List ℕ) (p : ℕ) → AllByRecursion P (ps ++ p ∷ []) → P p
back P [] p a = a.0
back P (x ∷ ps) p a = back P ps p a.1

pub free_front : {X : Type 0} (slots : List (Option X)) (ps : List ℕ) (p : ℕ) → AreFree slots (ps ++ p ∷ []) → AreFree slots ps
free_front slots [] p f = tt
free_front slots (x ∷ ps) p f = (f.0, f.1, front (λ o. o ≢ x) ps p f.2, free_front slots ps p f.3)

-- the last free place
pub free_last : {X : Type 0} (slots : List (Option X)) (ps : List ℕ) (p : ℕ) → AreFree slots (ps ++ p ∷ []) → (p < length slots) × (slot_at slots p ≡ None) × AllByRecursion (λ o. o ≢ p) ps
free_last slots [] p f = (f.0, f.1, tt)
free_last slots (x ∷ ps) p f =
    let rest = free_last slots ps p f.3 in
    let ne : p ≢ x = back (λ o. o ≢ x) ps p f.2 in
    (rest.0, rest.1, ((λ e. ne (sym e)), rest.2))

pub numbers_push : (P : ℕ → Type 0) (ps : List ℕ) (p : ℕ) → AllByRecursion P ps → P p → AllByRecursion P (ps ++ p ∷ [])
numbers_push P [] p a h = (h, tt)
numbers_push P (x ∷ ps) p a h = (a.0, numbers_push P ps p a.1 h)

pub free_push : {X : Type 0} (slots : List (Option X)) (ps : List ℕ) (p : ℕ) → AreFree slots ps → p < length slots → slot_at slots p ≡ None → AllByRecursion (λ o. o ≢ p) ps → AreFree slots (ps ++ p ∷ [])
free_push slots [] p f within none a = (within, none, tt, tt)
free_push slots (x ∷ ps) p f within none a =
    (f.0, f.1, numbers_push (λ o. o ≢ x) ps p f.2 (λ e. a.0 (sym e)), free_push slots ps p f.3 within none a.1)

-- a place with a record is none of them
pub full_apart : {X : Type 0} (slots : List (Option X)) (ps : List ℕ) (place : ℕ) (x : X) → AreFree slots ps → slot_at slots place ≡ Some x → AllByRecursion (λ p. p ≢ place) ps
full_apart slots [] place x f full = tt
full_apart slots (p ∷ ps) place x f full = (
  (λ same. let none = sym (ap (slot_at slots) same) ∙ f.1 in let no : ⊥ = cc in no),
  full_apart slots ps place x f.3 full,
)

-- ---- an insert

module _ (arena arena' : Woven) (slots : List (Option DumpRecordFields)) (ps : List ℕ) (place : ℕ) (es : List Entry) (dump : DumpRecordFields)
    (s : Stores arena slots (ps ++ place ∷ []) es) (fresh : record_of dump.id (dumps_of es) ≡ None)
    (here : chain_of arena' 0 0 ≡ chain_of arena 0 0 ++ stand_at place dump.id ∷ [])
    (others : (head : ℕ) → head ≢ 0 → chain_of arena' 0 head ≡ chain_of arena 0 head)
    (rows : length arena'.rows ≡ length arena.rows) (ends : length arena'.ends ≡ length arena.ends) where
  inserted_chain : (head : ℕ) → chain_of arena' 0 head ≡ stands_at head (es ++ entry_at place dump ∷ [])
  inserted_chain zero =
      here ∙ ap (λ (t : List Stand). t ++ stand_at place dump.id ∷ []) (s.chains 0) ∙ sym (map-append stand_of es (entry_at place dump ∷ []))
  inserted_chain (suc head) = others (suc head) (λ e. absurd (omega (arith, e))) ∙ s.chains (suc head)

  inserted_only : (at : ℕ) (d : DumpRecordFields) → slot_at (set slots place (Some dump)) at ≡ Some d → HasPlace at (es ++ entry_at place dump ∷ [])
  inserted_only at d full =
      ⊎_elim
      (λ (same : place ≡ at). subst (λ (p : ℕ). HasPlace p (es ++ entry_at place dump ∷ [])) same (place_last es (entry_at place dump)))
      (λ (ne : place ≡ at → ⊥). place_front at es (entry_at place dump) (s.only at d (sym (get_or-set_other slots place at (Some dump) None (λ e. ne (sym e))) ∙ full)))
      (cases_eq place at)

  pub inserted : Stores arena' (set slots place (Some dump)) ps (es ++ entry_at place dump ∷ [])
  inserted =
      let last = free_last slots ps place s.vacant in
      let apart = free_apart slots place es s.holds last.1 in
      let long = length-set slots place (Some dump) in
      record {
        chains = inserted_chain;
        holds = all_push (λ e. slot_at (set slots place (Some dump)) e.place ≡ Some e.dump) es (entry_at place dump) (holds_set slots place (Some dump) es apart s.holds) (get_or-set_same slots place (Some dump) None last.0);
        only = inserted_only;
        ids = ids_push es (entry_at place dump) s.ids (fresh_id dump.id es fresh);
        vacant = free_set slots place (Some dump) ps last.2 (free_front slots ps place s.vacant);
        all = omega (arith, s.all, long, length-append ps (place ∷ []), length-append es (entry_at place dump ∷ []));
        rows = omega (arith, s.rows, long, rows);
        heads = λ h. let old : 0 < length slots = omega (arith, h, long) in omega (arith, s.heads old, ends);
      }
