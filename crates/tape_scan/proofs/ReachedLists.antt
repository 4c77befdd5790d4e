-- Last ones of lists, pieces that are full, and the uses that heads tell.
use Rattle.std.proofs.Common.{◌≡◌, ◌⊎◌, ℕ, zero, suc, ◌+◌, ◌-◌, Bool, true, false, Some, List, [], ◌∷◌, ◌++◌, length, map, refl, sym, ap, ◌∙◌, arith, inl, inr, length-append}
use Rattle.std.specs.Prelude.{All, Contains, slice_get, ◌&&◌, ◌==◌, if◌then◌else◌}
use Rattle.std.proofs.lemmas.Bool.{eq-eqb, eqb-true, ne_eqb, and_from}
use Rattle.std.proofs.lemmas.List.{map-append}
use Rattle.std.proofs.lemmas.List.Elements.{All-head, All-tail}
use Rattle.tape_frames.specs.declared.data.DataFields.{DataFields}
use Rattle.tape_text.specs.Texts.{Fragment, Part, Linked, AreFilled, Begins, ends_dump, room}
use Rattle.tape_text.specs.Parts.{FoundFragment, FoundPart, fragments_len, part_len, part_marks, fragments_at, parts_at, uses_told}
use Rattle.tape_scan.specs.Steps.{last_of}
use Rattle.tape_scan.proofs.ListLaws.{same_or_not}
use Rattle.tape_scan.proofs.Reached.{closed_frag, closed_part, is_some, are_full}
use Rattle.tape_scan.proofs.ReachedTold.{fragments_at_append}

-- ---- last ones

pub by_last : {X : Type 0} (xs : List X) → (xs ≡ []) ⊎ ((before : List X) × (x : X) × (xs ≡ before ++ x ∷ []))
by_last [] = inl refl
by_last (x ∷ xs) = elim (by_last xs) [
  | inl none ↦ inr ([], x, ap (λ l. x ∷ l) none)
  | inr p ↦ inr (x ∷ p.0, p.1, ap (λ l. x ∷ l) p.2)
]

get_last : {X : Type 0} (xs : List X) (x : X) → slice_get (xs ++ x ∷ []) (length xs) ≡ Some x
get_last [] x = refl
get_last (y ∷ xs) x = get_last xs x

pub last_is : {X : Type 0} (xs : List X) (x : X) → last_of (xs ++ x ∷ []) ≡ Some x
last_is xs x =
    let place : length (xs ++ x ∷ []) - 1 ≡ length xs = omega (arith, length-append xs (x ∷ [])) in
    ap (λ (k : ℕ). slice_get (xs ++ x ∷ []) k) place ∙ get_last xs x

pub last_frag : (at : ℕ) (fs : List Fragment) (f : Fragment) → last_of (map closed_frag (fragments_at at (fs ++ f ∷ []))) ≡ Some (closed_frag (record { fragment = f; at = at + fragments_len fs }))
last_frag at fs f =
    ap last_of (ap (λ (l : List FoundFragment). map closed_frag l) (fragments_at_append at fs (f ∷ []) (at + fragments_len fs) refl) ∙ map-append closed_frag (fragments_at at fs) (record { fragment = f; at = at + fragments_len fs } ∷ []))
    ∙ last_is (map closed_frag (fragments_at at fs)) (closed_frag (record { fragment = f; at = at + fragments_len fs }))

abbrev pub found_behind : ℕ → ℕ → Part → FoundPart
found_behind at marks p = record { part = p; first = at; end = at + part_len p; marks = marks + part_marks p }

pub last_part : (at marks : ℕ) (ps : List Part) (p : Part) (at2 marks2 : ℕ) → parts_at at marks (ps ++ p ∷ []) ≡ parts_at at marks ps ++ found_behind at2 marks2 p ∷ [] → last_of (map closed_part (parts_at at marks (ps ++ p ∷ []))) ≡ Some (closed_part (found_behind at2 marks2 p))
last_part at marks ps p at2 marks2 same =
    ap last_of (ap (λ (l : List FoundPart). map closed_part l) same ∙ map-append closed_part (parts_at at marks ps) (found_behind at2 marks2 p ∷ [])) ∙ last_is (map closed_part (parts_at at marks ps)) (closed_part (found_behind at2 marks2 p))

pub linked_at : {X : Type 0} (Next : X → X → Type 0) (xs : List X) (x y : X) (ys : List X) → Linked Next ((xs ++ x ∷ []) ++ y ∷ ys) → Next x y
linked_at Next [] x y ys linked = linked.0
linked_at Next (z ∷ []) x y ys linked = linked_at Next [] x y ys linked.1
linked_at Next (z ∷ w ∷ xs) x y ys linked = linked_at Next (w ∷ xs) x y ys linked.1

pub all_behind : {X : Type 0} (P : X → Type 0) (xs ys : List X) → All P (xs ++ ys) → All P ys
all_behind P [] ys all = all
all_behind P (x ∷ xs) ys all = all_behind P xs ys (All-tail P x (xs ++ ys) all)

pub all_at : {X : Type 0} (P : X → Type 0) (xs : List X) (x : X) (ys : List X) → All P (xs ++ x ∷ ys) → P x
all_at P xs x ys all = All-head P x ys (all_behind P xs (x ∷ ys) all)

pub begins_more : (Is : Fragment → Type 0) (fs gs : List Fragment) → Begins Is fs → Begins Is (fs ++ gs)
begins_more Is [] gs begins = absurd begins
begins_more Is (f ∷ fs) gs begins = begins

pub ends_dump_at : (volumes : ℕ) (fs : List Fragment) (f : Fragment) → ends_dump volumes (fs ++ f ∷ []) ≡ ((f.end.last == 1) && (f.head.index + 1 == volumes))
ends_dump_at volumes [] f = refl
ends_dump_at volumes (x ∷ []) f = refl
ends_dump_at volumes (x ∷ y ∷ fs) f = ends_dump_at volumes (y ∷ fs) f

-- ---- pieces

and_first : (x y : Bool) → (x && y) ≡ true → x ≡ true
and_first true y both = refl
and_first false y both = both

and_second : (x y : Bool) → (x && y) ≡ true → y ≡ true
and_second true y both = both
and_second false y both = absurd (cc)

and_true : (x : Bool) → (x && true) ≡ x
and_true true = refl
and_true false = refl

pub front_full : (last : ℕ) (ds : List DataFields) (d : DataFields) (es : List DataFields) → AreFilled last (ds ++ d ∷ es) → are_full ds ≡ true
front_full last [] d es filled = refl
front_full last (x ∷ []) d es filled = and_from (x.used == room) true (eq-eqb x.used room filled.0) refl
front_full last (x ∷ y ∷ ds) d es filled = and_from (x.used == room) (are_full (y ∷ ds)) (eq-eqb x.used room filled.0) (front_full last (y ∷ ds) d es filled.1)

pub filled_or_last : (last : ℕ) (ds : List DataFields) → AreFilled last ds → (are_full ds ≡ true) ⊎ (last ≡ 1)
filled_or_last last [] filled = absurd filled
filled_or_last last (d ∷ []) (inl full) = inl (and_from (d.used == room) true (eq-eqb d.used room full) refl)
filled_or_last last (d ∷ []) (inr is) = inr is
filled_or_last last (d ∷ e ∷ ds) filled = elim (filled_or_last last (e ∷ ds) filled.1) [
  | inl full ↦ inl (and_from (d.used == room) (are_full (e ∷ ds)) (eq-eqb d.used room filled.0) full)
  | inr is ↦ inr is
]

pub some_filled : (last : ℕ) (ds : List DataFields) → AreFilled last ds → is_some ds ≡ true
some_filled last [] filled = absurd filled
some_filled last (d ∷ ds) filled = refl

pub push_filled : (ds : List DataFields) (d : DataFields) → are_full ds ≡ true → AreFilled 1 (ds ++ d ∷ [])
push_filled [] d full = inr refl
push_filled (x ∷ []) d full = (eqb-true x.used room (and_first (x.used == room) true full), inr refl)
push_filled (x ∷ y ∷ ds) d full = (eqb-true x.used room (and_first (x.used == room) (are_full (y ∷ ds)) full), push_filled (y ∷ ds) d (and_second (x.used == room) (are_full (y ∷ ds)) full))

pub full_filled : (last : ℕ) (ds : List DataFields) → AreFilled 1 ds → are_full ds ≡ true → AreFilled last ds
full_filled last [] filled full = absurd filled
full_filled last (d ∷ []) filled full = inl (eqb-true d.used room (and_first (d.used == room) true full))
full_filled last (d ∷ e ∷ ds) filled full = (filled.0, full_filled last (e ∷ ds) filled.1 (and_second (d.used == room) (are_full (e ∷ ds)) full))

pub full_push : (ds : List DataFields) (d : DataFields) → are_full ds ≡ true → are_full (ds ++ d ∷ []) ≡ (d.used == room)
full_push [] d full = and_true (d.used == room)
full_push (x ∷ ds) d full =
    ap (λ (b : Bool). b && are_full (ds ++ d ∷ [])) (and_first (x.used == room) (are_full ds) full) ∙ full_push ds d (and_second (x.used == room) (are_full ds) full)

pub some_push : (ds : List DataFields) (d : DataFields) → is_some (ds ++ d ∷ []) ≡ true
some_push [] d = refl
some_push (x ∷ ds) d = refl

-- ---- uses

told_none : (p : Part) (ps : List Part) → p.head.uses ≡ 0 → uses_told (p ∷ ps) ≡ uses_told ps
told_none p ps none = ap (λ (b : Bool). if b then uses_told ps else p.head.uses) (eq-eqb p.head.uses 0 none)

told_some : (p : Part) (ps : List Part) → (p.head.uses ≡ 0 → ⊥) → uses_told (p ∷ ps) ≡ p.head.uses
told_some p ps some = ap (λ (b : Bool). if b then uses_told ps else p.head.uses) (ne_eqb p.head.uses 0 some)

pub told_by_one : (ps : List Part) → (uses_told ps ≡ 0 → ⊥) → (q : Part) × Contains ps q × (q.head.uses ≡ uses_told ps)
told_by_one [] some = absurd (some refl)
told_by_one (p ∷ ps) some = elim (same_or_not p.head.uses 0) [
  | inl none ↦
      (let same : uses_told (p ∷ ps) ≡ uses_told ps = told_none p ps none in
      let rest = told_by_one ps (λ zero_uses. some (same ∙ zero_uses)) in
      (rest.0, (suc rest.1.0, omega (arith, rest.1.1), rest.1.2), rest.2 ∙ sym same))
  | inr tells ↦ (p, (0, omega arith, refl), sym (told_some p ps tells))
]

pub one_tells : (ps : List Part) (q : Part) → Contains ps q → (q.head.uses ≡ 0 → ⊥) → uses_told ps ≡ 0 → ⊥
one_tells [] q there tells none = absurd (omega (arith, there.1))
one_tells (p ∷ ps) q (zero, within, is) tells none =
    let own : p.head.uses ≡ 0 → ⊥ = λ zero_uses. tells (ap (λ (x : Part). x.head.uses) (sym is) ∙ zero_uses) in
    own (sym (told_some p ps own) ∙ none)
one_tells (p ∷ ps) q (suc k, within, is) tells none = elim (same_or_not p.head.uses 0) [
  | inl zero_uses ↦ one_tells ps q (k, omega (arith, within), is) tells (sym (told_none p ps zero_uses) ∙ none)
  | inr own ↦ own (sym (told_some p ps own) ∙ none)
]

pub told_push : (ps : List Part) (p : Part) → uses_told (ps ++ p ∷ []) ≡ (if uses_told ps == 0 then p.head.uses else uses_told ps)
told_push [] p = elim (same_or_not p.head.uses 0) [
  | inl none ↦ told_none p [] none ∙ sym none
  | inr some ↦ told_some p [] some
]
told_push (q ∷ ps) p = elim (same_or_not q.head.uses 0) [
  | inl none ↦ told_none q (ps ++ p ∷ []) none ∙ told_push ps p ∙ ap (λ (n : ℕ). if n == 0 then p.head.uses else n) (sym (told_none q ps none))
  | inr some ↦
      told_some q (ps ++ p ∷ []) some ∙ sym (ap (λ (b : Bool). if b then p.head.uses else q.head.uses) (ne_eqb q.head.uses 0 some)) ∙ ap (λ (n : ℕ). if n == 0 then p.head.uses else n) (sym (told_some q ps some))
]
