-- A rehearsal is asked for with at most 200 volumes.
use Rattle.std.proofs.Common.{◌≡◌, ℕ, ◌≤◌, Bool, true, false, List, [], ◌∷◌, refl, subst, arith, Option, Some, None}
use Rattle.std.specs.Prelude.{◌&&◌, nat_le, if◌then◌else◌, codes}
use Rattle.std.specs.Str.{bytes_eq}
use Rattle.bk_text.specs.Digits.{digits_of}
use Rattle.backup_words.specs.declared.modes.Mode.TheVariants.{Run as RunMode, Examine as ExamineMode, Rehearse as RehearseMode}
use Rattle.backup_words.specs.Modes.{Text, rehearsal, mode_of}
use Rattle.backup_top.specs.declared.words.Asked.TheVariants.{Rehearse}
use Rattle.backup_top.specs.Words.{asked_of}

second : (a b : Bool) → (a && b) ≡ true → b ≡ true
second true b is = is
second false b is = absurd cc

rehearses : (k n : ℕ) (b : Bool) → (b ≡ true → k ≤ 200) → asked_of (if b then Some (RehearseMode k) else None) ≡ Rehearse n → n ≤ 200
rehearses k n true few is = (let same : k ≡ n = cc in subst (λ (x : ℕ). x ≤ 200) same (few refl))
rehearses k n false few is = absurd cc

below : (k : ℕ) → nat_le k 200 ≡ true → k ≤ 200
below k is = grind (arith, is)

counted : (count : Option ℕ) (n : ℕ) → asked_of (rehearsal count) ≡ Rehearse n → n ≤ 200
counted None n is = absurd cc
counted (Some k) n is = rehearses k n (nat_le 1 k && nat_le k 200) (λ both. below k (second (nat_le 1 k) (nat_le k 200) both)) is

one_word : (n : ℕ) (b d : Bool) → asked_of (if b then Some RunMode else if d then Some ExamineMode else None) ≡ Rehearse n → n ≤ 200
one_word n true d is = absurd cc
one_word n false true is = absurd cc
one_word n false false is = absurd cc

two_words : (count : Option ℕ) (n : ℕ) (b : Bool) → asked_of (if b then rehearsal count else None) ≡ Rehearse n → n ≤ 200
two_words count n true is = counted count n is
two_words count n false is = absurd cc

pub few_volumes : (words : List Text) (n : ℕ) → asked_of (mode_of words) ≡ Rehearse n → n ≤ 200
few_volumes [] n is = absurd cc
few_volumes (word ∷ []) n is = one_word n (bytes_eq word (codes "run")) (bytes_eq word (codes "examine")) is
few_volumes (word ∷ count ∷ []) n is = two_words (digits_of 1 3 count) n (bytes_eq word (codes "rehearse")) is
few_volumes (word ∷ count ∷ more ∷ rest) n is = absurd cc
