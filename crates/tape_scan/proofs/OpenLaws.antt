-- Behind a tape an opened part is no part that a scan finds closed.
use Rattle.std.proofs.Common.{◌≡◌, ℕ, zero, suc, ◌-◌, ◌≤◌, List, [], ◌∷◌, ◌++◌, length, take, drop, sym, ap, subst, ◌∙◌, arith, inl, inr, append_assoc, append-nil}
use Rattle.std.specs.Prelude.{Contains}
use Rattle.std.specs.List.{flat_map}
use Rattle.std.proofs.lemmas.List.{take-append-drop}
use Rattle.std.proofs.lemmas.List.Elements.{Contains-append_left}
use Rattle.tape_text.specs.Items.{Item}
use Rattle.tape_text.specs.Texts.{Part, Tape, part_items, tape_items}
use Rattle.tape_text.specs.Parts.{FoundPart, parts_at, parts_of}
use Rattle.tape_scan.specs.Scans.{Scan, closed}
use Rattle.tape_text.proofs.TextLaws.{parts_apart, parts_front}
use Rattle.tape_scan.proofs.ScanLaws.{parts_at_more}
use Rattle.tape_scan.proofs.ListLaws.{take_of_append, either, no_more}
use Rattle.tape_scan.proofs.FrontLaws.{closed_stands}

take_over : (n : ℕ) (xs ys : List Item) → length xs ≤ n → take n (xs ++ ys) ≡ xs ++ take (n - length xs) ys
take_over n [] ys le = let e : n ≡ n - 0 = omega arith in ap (λ (k : ℕ). take k ys) e
take_over zero (x ∷ xs) ys le = absurd (omega arith)
take_over (suc n) (x ∷ xs) ys le = let e : n - length xs ≡ suc n - length (x ∷ xs) = omega arith in ap (λ t. x ∷ t) (take_over n xs ys (omega arith) ∙ ap (λ (k : ℕ). xs ++ take k ys) e)

-- what stands behind the labels
pub behind_label : (t u : Tape) (rest : List Item) → tape_items t ≡ tape_items u ++ rest → flat_map part_items t.parts ≡ flat_map part_items u.parts ++ rest
behind_label t u rest same = cc

-- the parts of a tape are among those of one that has more
pub parts_within : (t u : Tape) (os : List Part) (q : FoundPart) → t.parts ≡ u.parts ++ os → Contains (parts_of u) q → Contains (parts_of t) q
parts_within t u os q same there =
    let more = parts_at_more 2 1 u.parts os in
    subst (λ (ps : List Part). Contains (parts_at 2 1 ps) q) (sym same) (subst (λ (l : List FoundPart). Contains l q) (sym more.1) (Contains-append_left (parts_of u) more.0 q there))

-- a front of an opened part has no whole part
no_whole_part : (p o : Part) (os : List Part) (opened next_to : List Item) (k : ℕ) (next : Item) (more : List Item) → part_items p ≡ opened ++ next ∷ more → take k opened ≡ flat_map part_items (o ∷ os) → ⊥
no_whole_part p o os opened next_to k next more begins same =
    let whole : part_items p ++ [] ≡ part_items o ++ (flat_map part_items os ++ (drop k opened ++ next ∷ more)) =
    append-nil (part_items p) ∙ begins ∙ ap (λ t. t ++ next ∷ more) (sym (take-append-drop k opened) ∙ ap (λ t. t ++ drop k opened) same)
    ∙ append_assoc (flat_map part_items (o ∷ os)) (drop k opened) (next ∷ more) ∙ append_assoc (part_items o) (flat_map part_items os) (drop k opened ++ next ∷ more) in
    let rest : [] ≡ flat_map part_items os ++ (drop k opened ++ next ∷ more) = (parts_apart p o [] (flat_map part_items os ++ (drop k opened ++ next ∷ more)) whole).1 in
    no_more (flat_map part_items os ++ drop k opened) next more (rest ∙ sym (append_assoc (flat_map part_items os) (drop k opened) (next ∷ more)))

by_others : (t u : Tape) (p : Part) (os : List Part) (opened : List Item) (k : ℕ) (next : Item) (more : List Item) (q : FoundPart) → part_items p ≡ opened ++ next ∷ more → u.parts ≡ t.parts ++ os → take k opened ≡ flat_map part_items os → Contains (parts_of u) q → Contains (parts_of t) q
by_others t u p [] opened k next more q begins same rest there = subst (λ (ps : List Part). Contains (parts_at 2 1 ps) q) (same ∙ append-nil t.parts) there
by_others t u p (o ∷ os) opened k next more q begins same rest there = absurd (no_whole_part p o os opened [] k next more begins rest)

-- Behind a tape stands a front of a part that isn't all of it: every closed part of a scan is a part of the tape.
pub open_is_not_closed : (items : List Item) (s : Scan items) (t : Tape) (opened : List Item) (p : Part) (next : Item) (more : List Item) (q : FoundPart) → items ≡ tape_items t ++ opened → part_items p ≡ opened ++ next ∷ more → Contains (closed s) q → Contains (parts_of t) q
open_is_not_closed items s t opened p next more q is begins there =
    let stands = closed_stands items s q there in
    let u : Tape = stands.0 in
    let front : take q.end (tape_items t ++ opened) ≡ tape_items stands.0 = ap (λ (l : List Item). take q.end l) (sym is) ∙ stands.3 in
    elim (either (length (tape_items t)) q.end) [
      | inl longer ↦
          (let split : tape_items stands.0 ≡ tape_items t ++ take (q.end - length (tape_items t)) opened = sym front ∙ take_over q.end (tape_items t) opened (omega arith) in
          let found = parts_front stands.0.parts t.parts (take (q.end - length (tape_items t)) opened) (behind_label stands.0 t (take (q.end - length (tape_items t)) opened) split) in
          by_others t stands.0 p found.0 opened (q.end - length (tape_items t)) next more q begins found.1 found.2 stands.2)
      | inr short ↦
          (let same : take q.end (tape_items t) ≡ tape_items stands.0 = sym (take_of_append q.end (tape_items t) opened short) ∙ front in
          let split : tape_items t ≡ tape_items stands.0 ++ drop q.end (tape_items t) = sym (take-append-drop q.end (tape_items t)) ∙ ap (λ l. l ++ drop q.end (tape_items t)) same in
          let found = parts_front t.parts stands.0.parts (drop q.end (tape_items t)) (behind_label t stands.0 (drop q.end (tape_items t)) split) in
          parts_within t stands.0 found.0 q found.1 stands.2)
    ]
