-- What an unlink leaves of the records that are stored.
use Rattle.std.proofs.Common.{◌≡◌, ◌≢◌, inl, inr, ℕ, zero, suc, ◌+◌, ◌<◌, ◌≤◌, List, [], ◌∷◌, ◌++◌, length, set, map, Bool, true, false, not, eqb, Option, Some, None, refl, sym, ◌∙◌, ap, subst, arith, ⊎_elim}
use Rattle.std.proofs.lemmas.Bool.{cases_eq, cases_lt, cases_Bool, eq-eqb, ne_eqb, cond-true, cond-false, not_from_true, not_from_false}
use Rattle.std.proofs.lemmas.List.{length-append, length-set, get_or-set_same, get_or-set_other, get_or_past}
use Rattle.std.specs.List.{filter, AllByRecursion}
use Rattle.budb_changes.specs.declared.records.DumpRecordFields.{DumpRecordFields}
use Rattle.budb_links.specs.Stands.{Stand, place_of, without_place}
use Rattle.budb_links.specs.Chained.{Woven, chain_of}
use Rattle.budb_links.specs.Entries.{Entry, without_id}
use Rattle.budb_links.specs.Stored.{slot_at, stand_of, stands_at, DistinctIds, HasPlace, Stores}
use Rattle.budb_links.proofs.Places.{filter_keeps, filter_drops}
use Rattle.budb_links.proofs.Storing.{Holds}
use Rattle.budb_links.proofs.Keeping.{free_set, free_push, full_apart}

-- ---- the record that is found

-- the place that was found has a record of the id
pub record Found (slots : List (Option DumpRecordFields)) (id place : ℕ) : Type 0 where
  pub dump : DumpRecordFields
  pub full : slot_at slots place ≡ Some dump
  pub is : dump.id ≡ id

pub found_full : (slots : List (Option DumpRecordFields)) (id place : ℕ) (es : List Entry) → Holds slots es → place_of id (map stand_of es) ≡ Some place → Found slots id place
found_full slots id place [] h found = absurd (let no : ⊥ = cc in no)
found_full slots id place (e ∷ es) h found =
    ⊎_elim
    (λ (same : e.dump.id ≡ id).
    let first = sym (cond-true _ (Some e.place) (place_of id (map stand_of es)) (eq-eqb e.dump.id id same)) ∙ found in
    let at : e.place ≡ place = cc in
    record { dump = e.dump; full = sym (ap (slot_at slots) at) ∙ h.0; is = same })
    (λ (ne : e.dump.id ≡ id → ⊥). found_full slots id place es h.1 (sym (cond-false _ (Some e.place) (place_of id (map stand_of es)) (ne_eqb e.dump.id id ne)) ∙ found))
    (cases_eq e.dump.id id)

pub full_within : {X : Type 0} (slots : List (Option X)) (place : ℕ) (x : X) → slot_at slots place ≡ Some x → place < length slots
full_within slots place x full =
    ⊎_elim
    (λ (h : place < length slots). h)
    (λ (h : length slots ≤ place). let none = sym (get_or_past slots place None h) ∙ full in absurd (let no : ⊥ = cc in no))
    (cases_lt place (length slots))

-- ---- the entry of a place and that of an id are one

abbrev pub Agree : ℕ → ℕ → List Entry → Type 0
Agree id place = AllByRecursion (λ e. (e.place ≡ place → e.dump.id ≡ id) × (e.dump.id ≡ id → e.place ≡ place))

no_other : (id place : ℕ) (own : ℕ) (es : List Entry) → own ≡ id → AllByRecursion (λ o. o.dump.id ≢ own) es → AllByRecursion (λ e. e.dump.id ≡ id → e.place ≡ place) es
no_other id place own [] same a = tt
no_other id place own (e ∷ es) same a = ((λ h. absurd (a.0 (h ∙ sym same))), no_other id place own es same a.1)

only_place : (id place : ℕ) (es : List Entry) → DistinctIds es → place_of id (map stand_of es) ≡ Some place → AllByRecursion (λ e. e.dump.id ≡ id → e.place ≡ place) es
only_place id place [] d found = tt
only_place id place (e ∷ es) d found =
    ⊎_elim
    (λ (same : e.dump.id ≡ id).
    let first = sym (cond-true _ (Some e.place) (place_of id (map stand_of es)) (eq-eqb e.dump.id id same)) ∙ found in
    let at : e.place ≡ place = cc in
    ((λ h. at), no_other id place e.dump.id es same d.0))
    (λ (ne : e.dump.id ≡ id → ⊥). ((λ h. absurd (ne h)), only_place id place es d.1 (sym (cond-false _ (Some e.place) (place_of id (map stand_of es)) (ne_eqb e.dump.id id ne)) ∙ found)))
    (cases_eq e.dump.id id)

joined : (slots : List (Option DumpRecordFields)) (id place : ℕ) (es : List Entry) → Found slots id place → Holds slots es → AllByRecursion (λ e. e.dump.id ≡ id → e.place ≡ place) es → Agree id place es
joined slots id place [] f h only = tt
joined slots id place (e ∷ es) f h only = (
  (
    (λ same. let both = sym h.0 ∙ ap (slot_at slots) same ∙ f.full in let one : e.dump ≡ f.dump = cc in ap (λ (d : DumpRecordFields). d.id) one ∙ f.is),
    only.0,
  ),
  joined slots id place es f h.1 only.1,
)

pub agree : (slots : List (Option DumpRecordFields)) (id place : ℕ) (es : List Entry) → Holds slots es → DistinctIds es → place_of id (map stand_of es) ≡ Some place → Agree id place es
agree slots id place es h d found =
    joined slots id place es (found_full slots id place es h found) h (only_place id place es d found)

-- ---- without it

module _ (id place : ℕ) where
  abbrev u : Entry → Bool
  u e = not (eqb e.dump.id id)

  abbrev v : Stand → Bool
  v s = not (eqb s.place place)

  same_test : (e : Entry) → (e.place ≡ place → e.dump.id ≡ id) → (e.dump.id ≡ id → e.place ≡ place) → v (stand_of e) ≡ u e
  same_test e to back =
      ⊎_elim
      (λ (h : e.dump.id ≡ id). ap not (eq-eqb e.place place (back h) ∙ sym (eq-eqb e.dump.id id h)))
      (λ (ne : e.dump.id ≡ id → ⊥). ap not (ne_eqb e.place place (λ p. ne (to p)) ∙ sym (ne_eqb e.dump.id id ne)))
      (cases_eq e.dump.id id)

  without_both : (es : List Entry) → Agree id place es → filter v (map stand_of es) ≡ map stand_of (filter u es)
  without_both [] a = refl
  without_both (e ∷ es) a =
      let same = same_test e a.0.0 a.0.1 in
      let rest = without_both es a.1 in
      ⊎_elim
      (λ (h : u e ≡ true).
      filter_keeps v (stand_of e) (map stand_of es) (same ∙ h)
      ∙ ap (λ (l : List Stand). stand_of e ∷ l) rest
      ∙ sym (ap (map stand_of) (filter_keeps u e es h)))
      (λ (h : u e ≡ false). filter_drops v (stand_of e) (map stand_of es) (same ∙ h) ∙ rest ∙ sym (ap (map stand_of) (filter_drops u e es h)))
      (cases_Bool (u e))

  pub without_at : (head : ℕ) (es : List Entry) → Agree id place es → without_place place (stands_at head es) ≡ stands_at head (without_id id es)
  without_at zero es a = without_both es a
  without_at (suc head) es a = refl

module _ (id : ℕ) where
  pub without_fresh : (es : List Entry) → AllByRecursion (λ x. x.dump.id ≢ id) es → without_id id es ≡ es
  without_fresh [] a = refl
  without_fresh (e ∷ es) a =
      filter_keeps (λ (e : Entry). not (eqb e.dump.id id)) e es (not_from_false (eqb e.dump.id id) (ne_eqb e.dump.id id a.0))
      ∙ ap (λ (l : List Entry). e ∷ l) (without_fresh es a.1)

  pub drops : (e : Entry) (es : List Entry) → e.dump.id ≡ id → without_id id (e ∷ es) ≡ without_id id es
  drops e es same =
      filter_drops (λ (e : Entry). not (eqb e.dump.id id)) e es (not_from_true (eqb e.dump.id id) (eq-eqb e.dump.id id same))

  pub keeps : (e : Entry) (es : List Entry) → e.dump.id ≢ id → without_id id (e ∷ es) ≡ e ∷ without_id id es
  keeps e es ne =
      filter_keeps (λ (e : Entry). not (eqb e.dump.id id)) e es (not_from_false (eqb e.dump.id id) (ne_eqb e.dump.id id ne))

  others_of : (own : ℕ) (es : List Entry) → own ≡ id → AllByRecursion (λ o. o.dump.id ≢ own) es → AllByRecursion (λ x. x.dump.id ≢ id) es
  others_of own es same a = subst (λ (n : ℕ). AllByRecursion (λ (o : Entry). o.dump.id ≢ n) es) same a

  pub one_less : (place : ℕ) (es : List Entry) → DistinctIds es → place_of id (map stand_of es) ≡ Some place → length (without_id id es) + 1 ≡ length es
  one_less place [] d found = absurd (let no : ⊥ = cc in no)
  one_less place (e ∷ es) d found =
      ⊎_elim
      (λ (same : e.dump.id ≡ id).
      let less = ap length (drops e es same ∙ without_fresh es (others_of e.dump.id es same d.0)) in
      omega (arith, less))
      (λ (ne : e.dump.id ≡ id → ⊥).
      let rest = one_less place es d.1 (sym (cond-false _ (Some e.place) (place_of id (map stand_of es)) (ne_eqb e.dump.id id ne)) ∙ found) in
      let kept = ap length (keeps e es ne) in
      omega (arith, rest, kept))
      (cases_eq e.dump.id id)

  all_without : (P : Entry → Type 0) (es : List Entry) → AllByRecursion P es → AllByRecursion P (without_id id es)
  all_without P [] a = tt
  all_without P (e ∷ es) a =
      let rest = all_without P es a.1 in
      ⊎_elim
      (λ (same : e.dump.id ≡ id). subst (AllByRecursion P) (sym (drops e es same)) rest)
      (λ (ne : e.dump.id ≡ id → ⊥). subst (AllByRecursion P) (sym (keeps e es ne)) (a.0, rest))
      (cases_eq e.dump.id id)

  pub ids_without : (es : List Entry) → DistinctIds es → DistinctIds (without_id id es)
  ids_without [] d = tt
  ids_without (e ∷ es) d =
      let rest = ids_without es d.1 in
      ⊎_elim
      (λ (same : e.dump.id ≡ id). subst DistinctIds (sym (drops e es same)) rest)
      (λ (ne : e.dump.id ≡ id → ⊥). subst DistinctIds (sym (keeps e es ne)) (all_without (λ o. o.dump.id ≢ e.dump.id) es d.0, rest))
      (cases_eq e.dump.id id)

  pub holds_without : (slots : List (Option DumpRecordFields)) (place : ℕ) (es : List Entry) → Agree id place es → Holds slots es → Holds (set slots place None) (without_id id es)
  holds_without slots place [] a h = tt
  holds_without slots place (e ∷ es) a h =
      let rest = holds_without slots place es a.1 h.1 in
      ⊎_elim
      (λ (same : e.dump.id ≡ id). subst (Holds (set slots place None)) (sym (drops e es same)) rest)
      (λ (ne : e.dump.id ≡ id → ⊥). subst (Holds (set slots place None)) (sym (keeps e es ne)) (get_or-set_other slots place e.place None None (λ p. ne (a.0.0 p)) ∙ h.0, rest))
      (cases_eq e.dump.id id)

  pub place_without : (place at : ℕ) (es : List Entry) → place ≢ at → Agree id place es → HasPlace at es → HasPlace at (without_id id es)
  place_without place at [] other a has = absurd has
  place_without place at (e ∷ es) other a (inl here) =
      ⊎_elim
      (λ (same : e.dump.id ≡ id). absurd (other (sym (a.0.1 same) ∙ here)))
      (λ (ne : e.dump.id ≡ id → ⊥). subst (HasPlace at) (sym (keeps e es ne)) (inl here))
      (cases_eq e.dump.id id)
  place_without place at (e ∷ es) other a (inr has) =
      let rest = place_without place at es other a.1 has in
      ⊎_elim
      (λ (same : e.dump.id ≡ id). subst (HasPlace at) (sym (drops e es same)) rest)
      (λ (ne : e.dump.id ≡ id → ⊥). subst (HasPlace at) (sym (keeps e es ne)) (inr rest))
      (cases_eq e.dump.id id)

-- ---- an unlink

module _ (arena arena' : Woven) (slots : List (Option DumpRecordFields)) (free : List ℕ) (es : List Entry) (id place : ℕ)
    (s : Stores arena slots free es) (found : place_of id (map stand_of es) ≡ Some place)
    (cut : (head : ℕ) → chain_of arena' 0 head ≡ without_place place (chain_of arena 0 head))
    (rows : length arena'.rows ≡ length arena.rows) (ends : length arena'.ends ≡ length arena.ends) where
  removed_only : (within : place < length slots) (at : ℕ) (d : DumpRecordFields) → slot_at (set slots place None) at ≡ Some d → HasPlace at (without_id id es)
  removed_only within at d full =
      ⊎_elim
      (λ (same : place ≡ at).
      let none = sym (get_or-set_same slots place None None within) ∙ ap (slot_at (set slots place None)) same ∙ full in
      absurd (let no : ⊥ = cc in no))
      (λ (ne : place ≡ at → ⊥).
      place_without id place at es ne (agree slots id place es s.holds s.ids found) (s.only at d (sym (get_or-set_other slots place at None None (λ e. ne (sym e))) ∙ full)))
      (cases_eq place at)

  pub removed : Stores arena' (set slots place None) (free ++ place ∷ []) (without_id id es)
  removed =
      let f = found_full slots id place es s.holds found in
      let a = agree slots id place es s.holds s.ids found in
      let within = full_within slots place f.dump f.full in
      let apart = full_apart slots free place f.dump s.vacant f.full in
      let long = length-set slots place None in
      let less = one_less id place es s.ids found in
      record {
        chains = λ head. cut head ∙ ap (without_place place) (s.chains head) ∙ without_at id place head es a;
        holds = holds_without id slots place es a s.holds;
        only = removed_only within;
        ids = ids_without id es s.ids;
        vacant = free_push (set slots place None) free place (free_set slots place None free apart s.vacant) (subst (λ (n : ℕ). place < n) (sym long) within) (get_or-set_same slots place None None within) apart;
        all = omega (arith, s.all, long, less, length-append free (place ∷ []));
        rows = omega (arith, s.rows, long, rows);
        heads = λ h. let old : 0 < length slots = omega (arith, h, long) in omega (arith, s.heads old, ends);
      }
