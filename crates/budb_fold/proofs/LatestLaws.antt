-- Where there are pairs of a dump and a volume, one of them is beaten by none, so that there is a latest one.
use Rattle.std.proofs.Common.{◌≡◌, ℕ, List, [], ◌∷◌, Bool, true, false, cond, refl, sym, ◌∙◌, ap, arith}
use Rattle.std.specs.Prelude.{not, ◌||◌, Some, None}
use Rattle.std.specs.List.{find, list_any}
use Rattle.std.proofs.lemmas.Bool.{false≢true}
use Rattle.std.proofs.lemmas.Bool.Decides.{nat_tests}
use Rattle.budb_fold.specs.Lookups.{VolumeDump, beats}

onwards : (name : List ℕ) (a b c : VolumeDump) → beats name a b ≡ true → beats name b c ≡ true → beats name a c ≡ true
onwards name a b c first second = grind (arith, nat_tests)

not_itself : (name : List ℕ) (a : VolumeDump) → beats name a a ≡ false
not_itself name a = grind (arith, nat_tests)

-- ---- tests over lists

or_false : (a b : Bool) → a ≡ false → b ≡ false → (a || b) ≡ false
or_false true b off none = off
or_false false b off none = none

left_of_or : (a b : Bool) → (a || b) ≡ false → a ≡ false
left_of_or true b none = none
left_of_or false b none = refl

right_of_or : (a b : Bool) → (a || b) ≡ false → b ≡ false
right_of_or true b none = absurd (false≢true (sym none))
right_of_or false b none = none

not_true : (a b : Bool) → (a ≡ true → b ≡ true) → b ≡ false → a ≡ false
not_true true b gives off = sym (gives refl) ∙ off
not_true false b gives off = refl

none_narrower : {X : Type 0} (p q : X → Bool) (xs : List X) → ((x : X) → p x ≡ true → q x ≡ true) → list_any q xs ≡ false → list_any p xs ≡ false
none_narrower p q [] gives none = refl
none_narrower p q (x ∷ xs) gives none =
    or_false (p x) (list_any p xs) (not_true (p x) (q x) (gives x) (left_of_or (q x) (list_any q xs) none)) (none_narrower p q xs gives (right_of_or (q x) (list_any q xs) none))

none_found_at : {X : Type 0} (p : X → Bool) (x : X) (xs : List X) (b : Bool) → (find p xs ≡ None → list_any p xs ≡ false) → cond b (Some x) (find p xs) ≡ None → (b || list_any p xs) ≡ false
none_found_at p x xs true rest none = absurd (cc)
none_found_at p x xs false rest none = rest none

none_found : {X : Type 0} (p : X → Bool) (xs : List X) → find p xs ≡ None → list_any p xs ≡ false
none_found p [] none = refl
none_found p (x ∷ xs) none = none_found_at p x xs (p x) (none_found p xs) none

-- ---- the top of a list

-- One of these that none of them goes before. That it is one of them is said by tests: one that it passes, some of these
-- pass.
record Top (name : List ℕ) (all : List VolumeDump) : Type 0 where
  one : VolumeDump
  among : (p : VolumeDump → Bool) → p one ≡ true → list_any p all ≡ true
  unbeaten : list_any (λ other. beats name other one) all ≡ false

or_right : (a b : Bool) → b ≡ true → (a || b) ≡ true
or_right true b passes = refl
or_right false b passes = passes

or_left : (a b : Bool) → a ≡ true → (a || b) ≡ true
or_left true b passes = refl
or_left false b passes = absurd (false≢true passes)

with_one : (name : List ℕ) (held : VolumeDump) (all : List VolumeDump) (top : Top name all) (b : Bool) → beats name held top.one ≡ b → Top name (held ∷ all)
with_one name held all top true goes = record {
  one = held;
  among = λ p passes. or_left (p held) (list_any p all) passes;
  unbeaten = or_false (beats name held held) (list_any (λ other. beats name other held) all) (not_itself name held) (none_narrower (λ other. beats name other held) (λ other. beats name other top.one) all (λ other first. onwards name other held top.one first goes) top.unbeaten);
}
with_one name held all top false stays = record {
  one = top.one;
  among = λ p passes. or_right (p held) (list_any p all) (top.among p passes);
  unbeaten = or_false (beats name held top.one) (list_any (λ other. beats name other top.one) all) stays top.unbeaten;
}

top_of : (name : List ℕ) (held : VolumeDump) (all : List VolumeDump) → Top name (held ∷ all)
top_of name held [] = record { one = held; among = λ p passes. or_left (p held) false passes; unbeaten = or_false (beats name held held) false (not_itself name held) refl }
top_of name held (next ∷ all) = let top = top_of name next all in with_one name held (next ∷ all) top (beats name held top.one) refl

-- where none is unbeaten there are none
pub none_is_latest : (name : List ℕ) (all : List VolumeDump) → find (λ held. not (list_any (λ other. beats name other held) all)) all ≡ None → all ≡ []
none_is_latest name [] none = refl
none_is_latest name (held ∷ all) none =
    let top : Top name (held ∷ all) = top_of name held all in
    let p : VolumeDump → Bool = λ one. not (list_any (λ other. beats name other one) (held ∷ all)) in
    absurd (false≢true (sym (none_found p (held ∷ all) none) ∙ top.among p (ap not top.unbeaten)))
