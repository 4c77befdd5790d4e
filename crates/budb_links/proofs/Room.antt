-- More places for records.
use Rattle.std.proofs.Common.{◌≡◌, ◌≢◌, ℕ, zero, suc, ◌+◌, ◌<◌, ◌≤◌, List, [], ◌∷◌, ◌++◌, length, replicate, Option, None, refl, sym, ◌∙◌, ap, subst, arith, add-one}
use Rattle.std.proofs.lemmas.List.{append-nil, append_assoc, length-append, length-replicate, get_or_append_left, get_or_push, replicate_more}
use Rattle.std.specs.Prelude.{Result, Ok, Err, OnOk, OnErr}
use Rattle.std.specs.List.{AllByRecursion}
use Rattle.budb_changes.specs.declared.records.DumpRecordFields.{DumpRecordFields}
use Rattle.budb_links.specs.Chained.{Woven, chain_of}
use Rattle.budb_links.specs.Entries.{Entry}
use Rattle.budb_links.specs.Keys.{Numbering, numbers_in}
use Rattle.budb_links.specs.Stored.{slot_at, entries_of, AreFree, Stores, numbers_from}
use Rattle.budb_links.proofs.Storing.{Holds, stored_is, stores_as}
use Rattle.budb_links.proofs.Keeping.{free_push}

-- ---- so many numbers

numbers_suc : (first count : ℕ) → numbers_from first count ++ (first + count) ∷ [] ≡ numbers_from first (suc count)
numbers_suc first zero = let e : first + 0 ≡ first = omega arith in ap (λ (n : ℕ). n ∷ []) e
numbers_suc first (suc count) =
    let e : first + suc count ≡ (first + 1) + count = omega arith in
    ap (λ (n : ℕ). first ∷ (numbers_from (first + 1) count ++ n ∷ [])) e ∙ ap (λ (t : List ℕ). first ∷ t) (numbers_suc (first + 1) count)

pub numbers_more : (xs : List ℕ) (first count : ℕ) → (xs ++ numbers_from first count) ++ (first + count) ∷ [] ≡ xs ++ numbers_from first (count + 1)
numbers_more xs first count =
    append_assoc xs (numbers_from first count) ((first + count) ∷ [])
    ∙ ap (λ (t : List ℕ). xs ++ t) (numbers_suc first count ∙ ap (numbers_from first) (sym (add-one count)))

pub numbers_long : (first count : ℕ) → length (numbers_from first count) ≡ count
numbers_long first zero = refl
numbers_long first (suc count) = ap suc (numbers_long (first + 1) count)

pub blanks_more : {X : Type 0} (xs : List X) (x : X) (count : ℕ) → (xs ++ replicate count x) ++ x ∷ [] ≡ xs ++ replicate (count + 1) x
blanks_more xs x count = append_assoc xs (replicate count x) (x ∷ []) ∙ ap (λ (t : List _). xs ++ t) (replicate_more count x)

-- ---- empty slots

blank_slot : {X : Type 0} (count place : ℕ) → slot_at {X = X} (replicate count None) place ≡ None
blank_slot zero place = refl
blank_slot (suc count) zero = refl
blank_slot (suc count) (suc place) = blank_slot count place

pub same_slot : {X : Type 0} (slots : List (Option X)) (count place : ℕ) → slot_at (slots ++ replicate count None) place ≡ slot_at slots place
same_slot [] count place = blank_slot count place
same_slot (o ∷ slots) count zero = refl
same_slot (o ∷ slots) count (suc place) = same_slot slots count place

same_holds : (slots : List (Option DumpRecordFields)) (count : ℕ) (es : List Entry) → Holds slots es → Holds (slots ++ replicate count None) es
same_holds slots count [] h = tt
same_holds slots count (e ∷ es) h = (same_slot slots count e.place ∙ h.0, same_holds slots count es h.1)

free_wider : {X : Type 0} (slots : List (Option X)) (ps : List ℕ) → AreFree slots ps → AreFree (slots ++ None ∷ []) ps
free_wider slots [] f = tt
free_wider slots (p ∷ ps) f = (
  omega (arith, f.0, length-append slots (None ∷ [])),
  get_or_append_left slots (None ∷ []) None p f.0 ∙ f.1,
  f.2,
  free_wider slots ps f.3,
)

free_below : {X : Type 0} (slots : List (Option X)) (ps : List ℕ) → AreFree slots ps → AllByRecursion (λ p. p ≢ length slots) ps
free_below slots [] f = tt
free_below slots (p ∷ ps) f = ((λ e. absurd (omega (arith, f.0, e))), free_below slots ps f.3)

pub free_grown : {X : Type 0} (count : ℕ) (slots : List (Option X)) (ps : List ℕ) → AreFree slots ps → AreFree (slots ++ replicate count None) (ps ++ numbers_from (length slots) count)
free_grown zero slots ps f =
    subst (λ (s : List _). AreFree s (ps ++ [])) (sym (append-nil slots)) (subst (AreFree slots) (sym (append-nil ps)) f)
free_grown (suc count) slots ps f =
    let long : length (slots ++ None ∷ []) ≡ length slots + 1 = length-append slots (None ∷ []) in
    let one = free_push (slots ++ None ∷ []) ps (length slots) (free_wider slots ps f) (omega (arith, long)) (get_or_push slots None None (length slots) refl) (free_below slots ps f) in
    let rest = free_grown count (slots ++ None ∷ []) (ps ++ length slots ∷ []) one in
    let numbered = subst (λ (n : ℕ). AreFree ((slots ++ None ∷ []) ++ replicate count None) ((ps ++ length slots ∷ []) ++ numbers_from n count)) long rest in
    subst
    (λ (s : List _). AreFree s (ps ++ length slots ∷ numbers_from (length slots + 1) count))
    (append_assoc slots (None ∷ []) (replicate count None))
    (subst (AreFree ((slots ++ None ∷ []) ++ replicate count None)) (append_assoc ps (length slots ∷ []) (numbers_from (length slots + 1) count)) numbered)

-- ---- what growing leaves

module _ (arena arena' : Woven) (slots : List (Option DumpRecordFields)) (free : List ℕ) (es : List Entry) (s : Stores arena slots free es)
    (same : (family head : ℕ) → chain_of arena' family head ≡ chain_of arena family head)
    (rows : length arena.rows ≤ length arena'.rows) (ends : length arena.ends ≤ length arena'.ends) where
  -- where the arena alone has grown
  pub wider : Stores arena' slots free es
  wider = record {
    chains = λ head. same 0 head ∙ s.chains head;
    holds = s.holds;
    only = s.only;
    ids = s.ids;
    vacant = s.vacant;
    all = s.all;
    rows = omega (arith, s.rows, rows);
    heads = λ h. let old = s.heads h in omega (arith, old, ends);
  }

  -- where there are more places
  pub roomier : (count : ℕ) → length slots + count ≤ length arena'.rows → 0 < length arena'.ends → Stores arena' (slots ++ replicate count None) (free ++ numbers_from (length slots) count) es
  roomier count enough heads =
      let long = length-append slots (replicate count None) in
      let none : Option DumpRecordFields = None in
      let blanks = length-replicate count none in
      record {
        chains = λ head. same 0 head ∙ s.chains head;
        holds = same_holds slots count es s.holds;
        only = λ place dump full. s.only place dump (sym (same_slot slots count place) ∙ full);
        ids = s.ids;
        vacant = free_grown count slots free s.vacant;
        all = omega (arith, s.all, long, blanks, length-append free (numbers_from (length slots) count), numbers_long (length slots) count);
        rows = omega (arith, long, blanks, enough);
        heads = λ h. heads;
      }

-- all that a growth leaves, by its steps
pub record Roomy (arena' : Woven) (slots' : List (Option DumpRecordFields)) (free' : List ℕ) (es : List Entry) : Type 0 where
  pub stores : Stores arena' slots' free' (entries_of slots' (chain_of arena' 0 0))
  pub same : entries_of slots' (chain_of arena' 0 0) ≡ es

pub roomy : (arena arena' : Woven) (slots slots' : List (Option DumpRecordFields)) (free free' : List ℕ) (es : List Entry) (first count : ℕ) → Stores arena slots free es → ((family head : ℕ) → chain_of arena' family head ≡ chain_of arena family head) → length arena.rows ≤ length arena'.rows → length arena.ends ≤ length arena'.ends → length slots + count ≤ length arena'.rows → 0 < length arena'.ends → first ≡ length slots → slots' ≡ slots ++ replicate count None → free' ≡ free ++ numbers_from first count → Roomy arena' slots' free' es
roomy arena arena' slots slots' free free' es first count s same rows ends enough heads is slots_are free_are =
    let made = roomier arena arena' slots free es s same rows ends count enough heads in
    let one = subst (λ (n : ℕ). Stores arena' (slots ++ replicate count None) (free ++ numbers_from n count) es) (sym is) made in
    let two = subst (λ (t : List ℕ). Stores arena' (slots ++ replicate count None) t es) (sym free_are) one in
    let all = subst (λ (t : List (Option DumpRecordFields)). Stores arena' t free' es) (sym slots_are) two in
    record { stores = stores_as arena' slots' free' es all; same = stored_is arena' slots' free' es all }

-- ---- where new places were asked for, whether or not memory was refused

module _ {T E : Type 0} (arena arena' : Woven) (slots slots' : List (Option DumpRecordFields)) (free free' : List ℕ) (es : List Entry) (count : ℕ) (s : Stores arena slots free es) where
  pub asked :
      (r : Result T E) → OnOk r (slots' ≡ slots ++ replicate count None) → OnErr r (slots' ≡ slots)
      → OnOk r (free' ≡ free ++ numbers_from (length slots) count) → OnErr r (free' ≡ free)
      → ((family head : ℕ) → chain_of arena' family head ≡ chain_of arena family head) → length arena.rows ≤ length arena'.rows → length arena.ends ≤ length arena'.ends
      → length slots + count ≤ length arena'.rows → 0 < length arena'.ends → Roomy arena' slots' free' es
  asked (Ok v) made none freed same_free same rows ends enough heads =
      roomy arena arena' slots slots' free free' es (length slots) count s same rows ends enough heads refl made freed
  asked (Err e) made none freed same_free same rows ends enough heads =
      let one = wider arena arena' slots free es s same rows ends in
      let two = subst (λ (t : List ℕ). Stores arena' slots t es) (sym same_free) one in
      let all = subst (λ (t : List (Option DumpRecordFields)). Stores arena' t free' es) (sym none) two in
      record { stores = stores_as arena' slots' free' es all; same = stored_is arena' slots' free' es all }

pub asked_long : {T E X : Type 0} (slots slots' : List (Option X)) (count : ℕ) (r : Result T E) → OnOk r (slots' ≡ slots ++ replicate count None) → OnErr r (slots' ≡ slots) → length slots' ≤ length slots + count
asked_long slots slots' count (Ok v) made none =
    let blank : Option _ = None in
    omega (arith, ap length made, length-append slots (replicate count blank), length-replicate count blank)
asked_long slots slots' count (Err e) made none = omega (arith, ap length none)

pub asked_numbers : {T E X : Type 0} (ids ids' : Numbering) (slots slots' : List X) (r : Result T E) → numbers_in ids ≡ length slots → ids'.used ≡ ids.used → OnOk r (numbers_in ids' ≡ length slots') → OnErr r (slots' ≡ slots) → OnErr r (ids'.spare ≡ ids.spare) → numbers_in ids' ≡ length slots'
asked_numbers ids ids' slots slots' (Ok v) count used total none same = total
asked_numbers ids ids' slots slots' (Err e) count used total none same =
    omega (arith, count, ap length used, ap length none, ap length same)
