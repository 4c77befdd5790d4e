-- The lines of a configuration, taken from its front.
use Rattle.std.proofs.Common.{ℕ, ◌+◌, ◌<◌, ◌≤◌, ◌≡◌, List, [], ◌∷◌, length, take, drop, Bool, false, cond, ◌==◌, refl, sym, ◌∙◌, ap, subst, arith}
use Rattle.std.specs.List.{slice_split, position_or_len}
use Rattle.std.specs.Str.Lines.{lines, lines_of_parts, strip_carriage_return}
use Rattle.std.proofs.lemmas.Bool.{ne_eqb}
use Rattle.std.proofs.lemmas.List.Sums.{fails_before_first}
use Rattle.std.proofs.lemmas.List.Splits.{slice_split_first, slice_split_none, length-slice_split}
use Rattle.std.proofs.lemmas.List.Elements.{All-from_get_or}

-- a last line without an end
pub line_whole : (bytes : List ℕ) → 0 < length bytes → length bytes ≤ position_or_len (λ b. b == 10) bytes → lines bytes ≡ bytes ∷ []
line_whole bytes some whole =
    ap lines_of_parts (slice_split_none (λ b. b == 10) bytes (All-from_get_or (λ b. (b == 10) ≡ false) bytes 0 (λ k below. fails_before_first (λ b. b == 10) bytes k 0 (omega arith))))
    ∙ ap (λ (t : Bool). cond t [] (bytes ∷ [])) (ne_eqb (length bytes) 0 (λ e. omega arith))

parts_first : (x : List ℕ) (parts : List (List ℕ)) → 0 < length parts → lines_of_parts (x ∷ parts) ≡ strip_carriage_return x ∷ lines_of_parts parts
parts_first x [] some = absurd (omega arith)
parts_first x (y ∷ more) some = refl

-- a line with its end
pub line_first : (bytes : List ℕ) (n : ℕ) → n ≡ position_or_len (λ b. b == 10) bytes → n < length bytes → lines bytes ≡ strip_carriage_return (take n bytes) ∷ lines (drop (n + 1) bytes)
line_first bytes n is within = subst (λ (k : ℕ). lines bytes ≡ strip_carriage_return (take k bytes) ∷ lines (drop (k + 1) bytes)) (sym is)
    (ap lines_of_parts (slice_split_first (λ b. b == 10) bytes 0 (omega arith))
    ∙ parts_first (take (position_or_len (λ b. b == 10) bytes) bytes) (slice_split (λ b. b == 10) (drop (position_or_len (λ b. b == 10) bytes + 1) bytes)) (omega (arith, length-slice_split (λ b. b == 10) (drop (position_or_len (λ b. b == 10) bytes + 1) bytes))))
