-- The words of a line, taken from its front.
use Rattle.std.proofs.Common.{suc, ℕ, ◌+◌, ◌<◌, ◌≤◌, ◌≡◌, List, [], ◌∷◌, length, take, drop, get_or, Bool, true, false, nat_lt, cond, sym, ◌∙◌, ap, subst, arith, true≢false, inl, inr}
use Rattle.std.specs.List.{filter, slice_split, position_or_len}
use Rattle.std.proofs.lemmas.Bool.{cases_lt, lt-ltb}
use Rattle.std.proofs.lemmas.List.{at_drop_more, take_all, drop_all, length-take-le}
use Rattle.std.proofs.lemmas.List.Sums.{fails_before_first, passes_at_first}
use Rattle.std.proofs.lemmas.List.Splits.{slice_split_first, slice_split_none, slice_split-cons_yes}
use Rattle.std.proofs.lemmas.List.Elements.{All-from_get_or}
use Rattle.bk_text.specs.Blanks.{is_blank, words_of}

pub words_blank : (b : ℕ) (line : List ℕ) → is_blank b ≡ true → words_of (b ∷ line) ≡ words_of line
words_blank b line blank = ap (filter (λ word. nat_lt 0 (length word))) (slice_split-cons_yes is_blank b line blank)

-- a space or tab in front is passed over
pub words_behind : (line : List ℕ) (at : ℕ) → at < length line → is_blank (get_or line at 0) ≡ true → words_of (drop at line) ≡ words_of (drop (at + 1) line)
words_behind line at within blank = at_drop_more words_of line at 0 within ∙ words_blank (get_or line at 0) (drop (at + 1) line) blank

word_kept : (word : List ℕ) (rest : List (List ℕ)) → 0 < length word → filter (λ w. nat_lt 0 (length w)) (word ∷ rest) ≡ word ∷ filter (λ w. nat_lt 0 (length w)) rest
word_kept [] rest some = absurd (omega arith)
word_kept (b ∷ bs) rest some = ap (λ (t : Bool). cond t ((b ∷ bs) ∷ filter (λ w. nat_lt 0 (length w)) rest) (filter (λ w. nat_lt 0 (length w)) rest)) (lt-ltb 0 (suc (length bs)) (omega arith))

some_first : (line : List ℕ) → 0 < length line → is_blank (get_or line 0 0) ≡ false → 0 < position_or_len is_blank line
some_first line some first = elim (cases_lt 0 (position_or_len is_blank line)) [
  | inl more ↦ more
  | inr none ↦
      let zero_at : position_or_len is_blank line ≡ 0 = omega arith in
      let blank = passes_at_first is_blank line 0 (omega arith) in
      absurd (true≢false (sym (subst (λ (k : ℕ). is_blank (get_or line k 0) ≡ true) zero_at blank) ∙ first))
]

length_front : (line : List ℕ) (n : ℕ) → 0 < n → n ≤ length line → 0 < length (take n line)
length_front line n some within = omega (arith, length-take-le n line within)

word_within : (line : List ℕ) → 0 < length line → is_blank (get_or line 0 0) ≡ false → position_or_len is_blank line < length line → words_of line ≡ take (position_or_len is_blank line) line ∷ words_of (drop (position_or_len is_blank line) line)
word_within line some first within =
    let n = position_or_len is_blank line in
    ap (filter (λ w. nat_lt 0 (length w))) (slice_split_first is_blank line 0 within)
    ∙ word_kept (take n line) (slice_split is_blank (drop (n + 1) line)) (length_front line n (some_first line some first) (omega arith))
    ∙ ap (λ (l : List (List ℕ)). take n line ∷ l) (sym (words_behind line n within (passes_at_first is_blank line 0 within)))

before_end : (k n m : ℕ) → k < n → n ≤ m → k < m
before_end k n m below most = omega arith

word_whole : (line : List ℕ) → 0 < length line → length line ≤ position_or_len is_blank line → words_of line ≡ take (position_or_len is_blank line) line ∷ words_of (drop (position_or_len is_blank line) line)
word_whole line some whole =
    let n = position_or_len is_blank line in
    let none : slice_split is_blank line ≡ line ∷ [] = slice_split_none is_blank line (All-from_get_or (λ b. is_blank b ≡ false) line 0 (λ k below. fails_before_first is_blank line k 0 (before_end k (length line) n below whole))) in
    ap (filter (λ w. nat_lt 0 (length w))) none ∙ word_kept line [] some ∙ ap (λ (l : List ℕ). l ∷ []) (sym (take_all n line whole)) ∙ ap (λ (l : List ℕ). take n line ∷ words_of l) (sym (drop_all n line whole))

-- the first word, and what stands behind it
pub first_word : (line : List ℕ) (n : ℕ) → 0 < length line → is_blank (get_or line 0 0) ≡ false → n ≡ position_or_len is_blank line → words_of line ≡ take n line ∷ words_of (drop n line)
first_word line n some first is = subst (λ (k : ℕ). words_of line ≡ take k line ∷ words_of (drop k line)) (sym is) (elim (cases_lt (position_or_len is_blank line) (length line)) [
  | inl within ↦ word_within line some first within
  | inr whole ↦ word_whole line some whole
])
