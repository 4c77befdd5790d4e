-- Where a dump's record has the first volume of a name.
use Rattle.std.proofs.Common.{◌≡◌, ℕ, zero, suc, ◌+◌, ◌<◌, true, false, Some, None, List, [], ◌∷◌, length, get_or, slice_get, sym, ◌∙◌, ap, arith}
use Rattle.std.specs.Prelude.{find, nat_lt, cond}
use Rattle.std.specs.List.{position, position_or_len}
use Rattle.std.proofs.lemmas.Bool.{lt-ltb}
use Rattle.std.proofs.lemmas.List.Folds.{find_at}
use Rattle.std.proofs.lemmas.List.Quantifiers.{position-Some}
use Rattle.std.proofs.lemmas.Option.{slice_get_within, get_or_from_slice_get}
use Rattle.bk_text.specs.Blanks.{is_same_text}
use Rattle.budb_changes.specs.declared.records.VolRecordFields.{VolRecordFields}
use Rattle.archive_model.specs.Holding.{called_frags, called_of, placed_from}

first_at : (name : List ℕ) (n : ℕ) (vs : List VolRecordFields) (i : ℕ) (v : VolRecordFields) → slice_get vs i ≡ Some v → is_same_text v.name name ≡ true → ((k : ℕ) → k < i → is_same_text (get_or vs k v).name name ≡ false)
    → find (λ x. is_same_text x.1.name name) (placed_from n vs) ≡ Some (n + i, v)
first_at name n [] i v at passes fails = absurd (cc)
first_at name n (w ∷ vs) zero v at passes fails =
    let same : w ≡ v = cc in
    let hit : is_same_text w.name name ≡ true = ap (λ (x : VolRecordFields). is_same_text x.name name) same ∙ passes in
    let number : n ≡ n + 0 = omega arith in
    rw hit (ap (λ (x : VolRecordFields). Some (n, x)) same ∙ ap (λ (m : ℕ). Some (m, v)) number)
first_at name n (w ∷ vs) (suc i) v at passes fails =
    let miss : is_same_text w.name name ≡ false = fails 0 (omega arith) in
    let rest = first_at name (n + 1) vs i v at passes (λ k lt. fails (suc k) (omega (arith, lt))) in
    let number : n + 1 + i ≡ n + suc i = omega arith in
    rw miss (rest ∙ ap (λ (m : ℕ). Some (m, v)) number)

-- the place that is found is that of the first one, among the volumes with their places
pub placed_is : (name : List ℕ) (vs : List VolRecordFields) (i : ℕ) (v : VolRecordFields) → position (λ w. is_same_text w.name name) vs ≡ Some i → slice_get vs i ≡ Some v
    → find (λ x. is_same_text x.1.name name) (placed_from 0 vs) ≡ Some (i, v)
placed_is name vs i v is at =
    let found = position-Some (λ (w : VolRecordFields). is_same_text w.name name) vs i v is in
    let passes : is_same_text v.name name ≡ true = ap (λ (x : VolRecordFields). is_same_text x.name name) (sym (get_or_from_slice_get vs i v v at)) ∙ found.1 in
    let number : 0 + i ≡ i = omega arith in
    first_at name 0 vs i v at passes found.2 ∙ ap (λ (m : ℕ). Some (m, v)) number

pub placed_within : (name : List ℕ) (vs : List VolRecordFields) (i : ℕ) → position (λ w. is_same_text w.name name) vs ≡ Some i → i < length vs
placed_within name [] i is = absurd (cc)
placed_within name (w ∷ vs) i is = (position-Some (λ (x : VolRecordFields). is_same_text x.name name) (w ∷ vs) i w is).0

-- none is found where none has the name
pub none_placed : (name : List ℕ) (vs : List VolRecordFields) (v : VolRecordFields) → position (λ w. is_same_text w.name name) vs ≡ None → find (λ w. is_same_text w.name name) vs ≡ Some v → ⊥
none_placed name vs v none found =
    let k = position_or_len (λ (w : VolRecordFields). is_same_text w.name name) vs in
    let at : slice_get vs k ≡ Some v = sym (find_at (λ (w : VolRecordFields). is_same_text w.name name) vs) ∙ found in
    let test : nat_lt k (length vs) ≡ true = lt-ltb k (length vs) (slice_get_within vs k v at) in
    let is : position (λ (w : VolRecordFields). is_same_text w.name name) vs ≡ Some k = ap (λ b. cond b (Some k) None) test in
    absurd (cc)

-- what is called for of the volume at a place
pub placed_called : (id index : ℕ) (w : VolRecordFields) (dump place : ℕ) (v : VolRecordFields) → id ≡ dump → index ≡ place → w ≡ v → called_frags id index 1 w w.frags ≡ called_of dump (place, v)
placed_called id index w dump place v a b e = (λ i. called_frags (a i) (b i) 1 (e i) (e i).frags)
