-- Laws on the words of a media, for all that stand on one.
use Rattle.std.proofs.Common.{◌≡◌, ℕ, ◌+◌, ◌≤◌, List, [], ◌∷◌, ◌++◌, length, take, drop, refl, ◌∙◌, ap, arith, length-append, length-drop}
use Rattle.std.proofs.lemmas.List.{take_at, drop_at, length-take-le}
use Rattle.media_core.specs.Media.{Torn, written}

-- a write that isn't cut short is one of those that are
pub written_torn : (at : ℕ) (bytes old : List ℕ) → at ≤ length old → Torn at (length bytes) old (written at bytes old)
written_torn at bytes old within =
    let front : length (take at old) ≡ at = length-take-le at old within in
    let both : length (take at old ++ bytes) ≡ at + length bytes = omega (arith, front, length-append (take at old) bytes) in
    let all : length (written at bytes old) ≡ length (take at old ++ bytes) + length (drop (at + length bytes) old) = length-append (take at old ++ bytes) (drop (at + length bytes) old) in
    record {
      before = ap (λ (l : List ℕ). take at l) (reassoc (take at old) bytes (drop (at + length bytes) old)) ∙ take_at (take at old) (bytes ++ drop (at + length bytes) old) at front;
      after = drop_at (take at old ++ bytes) (drop (at + length bytes) old) (at + length bytes) both;
      no_shorter = omega (arith, all, both, length-drop (at + length bytes) old);
      no_longer = omega (arith, all, both, length-drop (at + length bytes) old);
    }
  where
    reassoc : (a b c : List ℕ) → (a ++ b) ++ c ≡ a ++ (b ++ c)
    reassoc [] b c = refl
    reassoc (x ∷ a) b c = ap (λ (l : List ℕ). x ∷ l) (reassoc a b c)
