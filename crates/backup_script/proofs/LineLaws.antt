-- Lines, one after the other.
use Rattle.std.proofs.Common.{◌≡◌, inl, inr, ℕ, ◌<◌, Bool, true, false, List, [], ◌∷◌, ◌++◌, length, All, cond, refl, sym, ◌∙◌, ap, arith, append_assoc}
use Rattle.std.specs.Prelude.{◌==◌, ◌||◌, if◌then◌else◌}
use Rattle.std.specs.List.{list_any, slice_split}
use Rattle.std.specs.Str.Lines.{lines, lines_of_parts, strip_carriage_return}
use Rattle.std.proofs.lemmas.Bool.{ne_eqb}
use Rattle.std.proofs.lemmas.List.{append-nil}
use Rattle.std.proofs.lemmas.List.Elements.{All-append, All-cons, All-nil}
use Rattle.std.proofs.lemmas.List.Folds.{list_any-append, list_any_none}
use Rattle.std.proofs.lemmas.List.Splits.{slice_split_at, slice_split_none, length-slice_split}
use Rattle.backup_script.specs.Lines.{is_feed, has_feed, ended, is_quit, has_quit, TookPiece}
use Rattle.backup_script.specs.Running.{IsOneLine}

-- one byte more
pub piece_more : (old new piece : List ℕ) (b : ℕ) → TookPiece old (b ∷ new) piece → (b ≡ 10 → ⊥) → TookPiece old new (piece ++ b ∷ [])
piece_more old new piece b took other = record {
  plain = All-append (λ c. is_feed c ≡ false) piece (b ∷ []) took.plain (All-cons (λ c. is_feed c ≡ false) b [] (ne_eqb b 10 other) (All-nil (λ c. is_feed c ≡ false)));
  is = took.is ∙ sym (append_assoc piece (b ∷ []) new);
}

parts_first : (x : List ℕ) (parts : List (List ℕ)) → 0 < length parts → lines_of_parts (x ∷ parts) ≡ strip_carriage_return x ∷ lines_of_parts parts
parts_first x [] some = absurd (omega arith)
parts_first x (y ∷ more) some = refl

-- a line with its end
pub line_first : (line more : List ℕ) → All (λ b. is_feed b ≡ false) line → lines (line ++ 10 ∷ more) ≡ strip_carriage_return line ∷ lines more
line_first line more plain =
    ap lines_of_parts (slice_split_at (λ b. b == 10) line 10 more plain refl)
    ∙ parts_first line (slice_split (λ b. b == 10) more) (omega (arith, length-slice_split (λ b. b == 10) more))

-- a last line without an end
pub line_last : (line : List ℕ) → All (λ b. is_feed b ≡ false) line → 0 < length line → lines line ≡ line ∷ []
line_last line plain some =
    ap lines_of_parts (slice_split_none (λ b. b == 10) line plain)
    ∙ ap (λ (t : Bool). cond t [] (line ∷ [])) (ne_eqb (length line) 0 (λ e. omega arith))

-- ---- what is ended

pub ended_none : (piece : List ℕ) → All (λ b. is_feed b ≡ false) piece → ended piece ≡ []
ended_none [] plain = refl
ended_none (b ∷ rest) plain = ap (λ (t : Bool). if t then b ∷ ended rest else []) (list_any_none is_feed (b ∷ rest) plain)

has_one : (line more : List ℕ) → has_feed (line ++ 10 ∷ more) ≡ true
has_one line more = list_any-append is_feed line (10 ∷ more) ∙ or_true (list_any is_feed line)
  where
    or_true : (b : Bool) → (b || true) ≡ true
    or_true true = refl
    or_true false = refl

pub ended_first : (line more : List ℕ) → ended (line ++ 10 ∷ more) ≡ line ++ 10 ∷ ended more
ended_first [] more = refl
ended_first (b ∷ line) more =
    ap (λ (t : Bool). if t then b ∷ ended (line ++ 10 ∷ more) else []) (has_one (b ∷ line) more)
    ∙ ap (λ (l : List ℕ). b ∷ l) (ended_first line more)

-- These bytes are whole lines, these ones, whatever stands behind them.
pub record AreLines (bytes : List ℕ) (these : List (List ℕ)) : Type 0 where
  pub lines : (more : List ℕ) → lines (bytes ++ more) ≡ these ++ lines more
  pub ended : (more : List ℕ) → ended (bytes ++ more) ≡ bytes ++ ended more

pub no_lines : AreLines [] []
no_lines = record { lines = λ more. refl; ended = λ more. refl }

-- one line more
pub one_line_more : (bytes line : List ℕ) (these : List (List ℕ)) → AreLines bytes these → All (λ b. is_feed b ≡ false) line → AreLines (bytes ++ line ++ 10 ∷ []) (these ++ strip_carriage_return line ∷ [])
one_line_more bytes line these are plain = record {
  lines = λ more. ap (λ (l : List ℕ). lines l) (regroup more) ∙ are.lines (line ++ 10 ∷ more) ∙ ap (λ (ls : List (List ℕ)). these ++ ls) (line_first line more plain)
      ∙ sym (append_assoc these (strip_carriage_return line ∷ []) (lines more));
  ended = λ more. ap (λ (l : List ℕ). ended l) (regroup more) ∙ are.ended (line ++ 10 ∷ more) ∙ ap (λ (l : List ℕ). bytes ++ l) (ended_first line more) ∙ sym (regroup (ended more));
}
  where
    regroup : (more : List ℕ) → (bytes ++ line ++ 10 ∷ []) ++ more ≡ bytes ++ (line ++ 10 ∷ more)
    regroup more = append_assoc (bytes ++ line) (10 ∷ []) more ∙ append_assoc bytes line (10 ∷ more)

-- a piece behind whole lines, which no line feed has ended
pub lines_cut : (bytes piece : List ℕ) (these : List (List ℕ)) → AreLines bytes these → All (λ b. is_feed b ≡ false) piece → lines (ended (bytes ++ piece)) ≡ these
lines_cut bytes piece these are plain =
    ap (λ (l : List ℕ). lines l) (are.ended piece ∙ ap (λ (l : List ℕ). bytes ++ l) (ended_none piece plain)) ∙ are.lines [] ∙ append-nil these

pub lines_ended : (bytes : List ℕ) (these : List (List ℕ)) → AreLines bytes these → lines (ended bytes) ≡ these
lines_ended bytes these are = ap (λ (l : List ℕ). lines (ended l)) (sym (append-nil bytes)) ∙ lines_cut bytes [] these are (All-nil (λ b. is_feed b ≡ false))

-- ---- one line at most is ended

pub or_false : (a b : Bool) → a ≡ false → b ≡ false → (a || b) ≡ false
or_false true b is other = cc
or_false false b is other = other

-- nothing is ended
pub none_ended : (piece : List ℕ) → All (λ b. is_feed b ≡ false) piece → IsOneLine (lines (ended piece))
none_ended piece plain = inl (lines_cut [] piece [] no_lines plain)

-- a line with its end
pub one_ended : (line : List ℕ) → All (λ b. is_feed b ≡ false) line → is_quit (strip_carriage_return line) ≡ false → IsOneLine (lines (ended (line ++ 10 ∷ [])))
one_ended line plain other =
    inr (strip_carriage_return line, lines_ended (line ++ 10 ∷ []) (strip_carriage_return line ∷ []) (one_line_more [] line [] no_lines plain), other)

pub one_no_quit : (these : List (List ℕ)) → IsOneLine these → has_quit these ≡ false
one_no_quit these one = elim one [
  | inl none ↦ ap has_quit none
  | inr (line, is, other) ↦ ap has_quit is ∙ or_false (is_quit line) false other refl
]
