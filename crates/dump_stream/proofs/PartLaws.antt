-- Pieces that are put one behind another.
use Rattle.std.proofs.Common.{◌≡◌, ℕ, ◌+◌, ◌<◌, List, [], ◌∷◌, ◌++◌, length, map, take, drop, get_or, refl, sym, ap, subst, ◌∙◌, append_assoc}
use Rattle.std.specs.Prelude.{Result, Ok, Err, OnErr}
use Rattle.std.specs.List.{flat_map}
use Rattle.std.specs.Int.{w32, to_be_bytes}
use Rattle.std.proofs.lemmas.List.{append-nil, take_more, map-append, take-append-drop}
use Rattle.std.proofs.lemmas.List.Concat.{flat_map-append}
use Rattle.vnode_model.specs.declared.increments.Entry.{Entry}
use Rattle.vnode_model.specs.declared.increments.Entry.TheVariants.{Whole, Kept}
use Rattle.dump_stream.specs.declared.sofar.Field.{Field}
use Rattle.dump_stream.specs.Fields.{spelled}
use Rattle.dump_stream.specs.Stream.{section}
use Rattle.dump_stream.specs.Written.{vnode_fields, data_field, section_of}
use Rattle.dump_stream.specs.Parts.{early_fields, late_fields, kept_head, whole_head, head_of, data_of, HoldsFront}

pub row2 : (o : List ℕ) {o1 o2 : List ℕ} (a b : List ℕ) → o1 ≡ o ++ a → o2 ≡ o1 ++ b → o2 ≡ o ++ (a ++ b)
row2 o a b e1 e2 = rw (e2, e1) (append_assoc o a b)

pub row3 : (o : List ℕ) {o1 o2 o3 : List ℕ} (a b c : List ℕ) → o1 ≡ o ++ a → o2 ≡ o1 ++ b → o3 ≡ o2 ++ c → o3 ≡ o ++ (a ++ (b ++ c))
row3 o a b c e1 e2 e3 = row2 o a (b ++ c) e1 (row2 _ b c e2 e3)

pub row4 : (o : List ℕ) {o1 o2 o3 o4 : List ℕ} (a b c d : List ℕ) → o1 ≡ o ++ a → o2 ≡ o1 ++ b → o3 ≡ o2 ++ c → o4 ≡ o3 ++ d → o4 ≡ o ++ (a ++ (b ++ (c ++ d)))
row4 o a b c d e1 e2 e3 e4 = row2 o a (b ++ (c ++ d)) e1 (row3 _ b c d e2 e3 e4)

pub row6 : (o : List ℕ) {o1 o2 o3 o4 o5 o6 : List ℕ} (a b c d e f : List ℕ) → o1 ≡ o ++ a → o2 ≡ o1 ++ b → o3 ≡ o2 ++ c → o4 ≡ o3 ++ d → o5 ≡ o4 ++ e → o6 ≡ o5 ++ f → o6 ≡ o ++ (a ++ (b ++ (c ++ (d ++ (e ++ f)))))
row6 o a b c d e f e1 e2 e3 e4 e5 e6 = row2 o a (b ++ (c ++ (d ++ (e ++ f)))) e1 (row2 _ b (c ++ (d ++ (e ++ f))) e2 (row4 _ c d e f e3 e4 e5 e6))

pub spelled2 : (fs gs : List Field) → flat_map spelled (fs ++ gs) ≡ flat_map spelled fs ++ flat_map spelled gs
spelled2 fs gs = flat_map-append spelled fs gs

pub spelled3 : (fs gs hs : List Field) → flat_map spelled (fs ++ (gs ++ hs)) ≡ flat_map spelled fs ++ (flat_map spelled gs ++ flat_map spelled hs)
spelled3 fs gs hs = spelled2 fs (gs ++ hs) ∙ ap (λ (x : List ℕ). flat_map spelled fs ++ x) (spelled2 gs hs)

-- ---- a section is its head and its data

regrouped : (k e l c b : List ℕ) → k ++ (e ++ (l ++ (c ++ b))) ≡ (((k ++ e) ++ l) ++ c) ++ b
regrouped k e l c b = simp append_assoc

pub section_parts : (e : Entry) → section (section_of e) ≡ head_of e ++ data_of e
section_parts (Whole v) =
    let fields_are : flat_map spelled (vnode_fields v) ≡ flat_map spelled (early_fields v) ++ (flat_map spelled (late_fields v) ++ (102 ∷ to_be_bytes w32 (length v.body) ++ v.body)) =
    spelled3 (early_fields v) (late_fields v) (data_field 102 v.body ∷ [])
    ∙ ap (λ (x : List ℕ). flat_map spelled (early_fields v) ++ (flat_map spelled (late_fields v) ++ (102 ∷ to_be_bytes w32 (length v.body) ++ x))) (append-nil v.body) in
    ap (λ (x : List ℕ). kept_head v.number v.uniq ++ x) fields_are
    ∙ regrouped (kept_head v.number v.uniq) (flat_map spelled (early_fields v)) (flat_map spelled (late_fields v)) (102 ∷ to_be_bytes w32 (length v.body)) v.body
section_parts (Kept number uniq) = refl

-- ---- fronts

pub front_none : (o b new : List ℕ) → new ≡ o → HoldsFront o b new
front_none o b new e = record { front = []; rest = b; holds = e ∙ sym (append-nil o); is_front = refl }

pub front_first : (o a b new : List ℕ) → HoldsFront o a new → HoldsFront o (a ++ b) new
front_first o a b new h = record { front = h.front; rest = h.rest ++ b; holds = h.holds; is_front = sym (append_assoc h.front h.rest b) ∙ ap (λ (x : List ℕ). x ++ b) h.is_front }

pub front_behind : (o o1 a b new : List ℕ) → o1 ≡ o ++ a → HoldsFront o1 b new → HoldsFront o (a ++ b) new
front_behind o o1 a b new e h = record {
  front = a ++ h.front;
  rest = h.rest;
  holds = h.holds ∙ ap (λ (x : List ℕ). x ++ h.front) e ∙ append_assoc o a h.front;
  is_front = append_assoc a h.front h.rest ∙ ap (λ (x : List ℕ). a ++ x) h.is_front;
}

pub front_is : (o a b new : List ℕ) → a ≡ b → HoldsFront o a new → HoldsFront o b new
front_is o a b new e h = subst (λ (x : List ℕ). HoldsFront o x new) e h

-- ---- entries one behind another

abbrev pub sections_of : List Entry → List ℕ
sections_of es = flat_map section (map section_of es)

pub sections_more : (es : List Entry) (i : ℕ) (d : Entry) → i < length es → sections_of (take (i + 1) es) ≡ sections_of (take i es) ++ section (section_of (get_or es i d))
sections_more es i d lt =
    ap sections_of (take_more es i d lt) ∙ ap (flat_map section) (map-append section_of (take i es) (get_or es i d ∷ [])) ∙ flat_map-append section (map section_of (take i es)) (section_of (get_or es i d) ∷ [])
    ∙ ap (λ (x : List ℕ). sections_of (take i es) ++ x) (append-nil (section (section_of (get_or es i d))))

pub sections_parts : (es : List Entry) (i : ℕ) (d : Entry) → i < length es → sections_of es ≡ (sections_of (take i es) ++ section (section_of (get_or es i d))) ++ sections_of (drop (i + 1) es)
sections_parts es i d lt =
    ap sections_of (sym (take-append-drop (i + 1) es)) ∙ ap (flat_map section) (map-append section_of (take (i + 1) es) (drop (i + 1) es)) ∙ flat_map-append section (map section_of (take (i + 1) es)) (map section_of (drop (i + 1) es))
    ∙ ap (λ (x : List ℕ). x ++ sections_of (drop (i + 1) es)) (sections_more es i d lt)

pub on_err : {A E : Type 0} (r : Result A E) (P : Type 0) → P → OnErr r P
on_err (Ok a) P h = tt
on_err (Err e) P h = h
