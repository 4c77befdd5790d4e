-- A watch that was told a text knows whether some line of it begins with `refused`.
use Rattle.std.proofs.Common.{◌≡◌, inl, inr, ℕ, Bool, true, false, List, [], ◌∷◌, ◌++◌, length, drop, cond, refl, sym, ◌∙◌, ap, arith}
use Rattle.std.specs.Prelude.{◌||◌, ◌==◌, nat_eq, if◌then◌else◌}
use Rattle.std.specs.List.{fold, list_any, slice_split, starts_with, onto_first}
use Rattle.std.proofs.lemmas.Bool.{cases_Bool, ne_eqb}
use Rattle.backup_replies.specs.Texts.{is_feed, is_refusal, has_refusal}
use Rattle.backup_script.specs.Watching.{word, Watched, at_start, begins_with, with_byte, with_text}

-- a line begins with what is due
abbrev begins : List ℕ → List ℕ → Bool
begins [] line = false
begins (c ∷ cs) line = starts_with nat_eq line (c ∷ cs)

-- the first of these lines does, or another one begins with the word
abbrev some_from : List ℕ → List (List ℕ) → Bool
some_from due [] = false
some_from due (line ∷ lines) = begins due line || list_any is_refusal lines

some_word : (lines : List (List ℕ)) → some_from word lines ≡ list_any is_refusal lines
some_word [] = refl
some_word (line ∷ lines) = refl

or_false : (a : Bool) → a ≡ (a || false)
or_false true = refl
or_false false = refl

or_true : (a b : Bool) → ((a || true) || b) ≡ (a || true)
or_true true b = refl
or_true false b = refl

no_line : (due : List ℕ) → begins due [] ≡ false
no_line [] = refl
no_line (c ∷ cs) = refl

-- a byte in front of the first line, where nothing is due, and where another byte is
none_due : (b : ℕ) (lines : List (List ℕ)) → some_from [] (onto_first b lines) ≡ some_from [] lines
none_due b [] = refl
none_due b (line ∷ lines) = refl

other_due : (c : ℕ) (cs : List ℕ) (b : ℕ) (lines : List (List ℕ)) → (c == b) ≡ false → some_from (c ∷ cs) (onto_first b lines) ≡ some_from [] lines
other_due c cs b [] miss = rw miss refl
other_due c cs b (line ∷ lines) miss = rw miss refl

-- the last byte that is due, and one before it
last_due : (c b : ℕ) (lines : List (List ℕ)) → (c == b) ≡ true → some_from (c ∷ []) (onto_first b lines) ≡ true
last_due c b [] hit = rw hit refl
last_due c b (line ∷ lines) hit = rw hit refl

next_due : (c d : ℕ) (cs : List ℕ) (b : ℕ) (lines : List (List ℕ)) → (c == b) ≡ true → some_from (c ∷ d ∷ cs) (onto_first b lines) ≡ some_from (d ∷ cs) lines
next_due c d cs b [] hit = rw hit refl
next_due c d cs b (line ∷ lines) hit = rw hit refl

abbrev at_due : Bool → List ℕ → Watched
at_due refused due = record { refused = refused; due = due }

-- what a watch knows once it was told a text
abbrev Knows : List ℕ → Type 0
Knows text = (refused : Bool) (due : List ℕ) → (fold with_byte (at_due refused due) text).refused ≡ (refused || some_from due (slice_split is_feed text))

due_byte : (text : List ℕ) → Knows text → (refused : Bool) (b c : ℕ) (cs : List ℕ) → (c == b) ≡ true
    → (fold with_byte (at_due (refused || (length (c ∷ cs) == 1)) cs) text).refused ≡ (refused || some_from (c ∷ cs) (onto_first b (slice_split is_feed text)))
due_byte text knows refused b c [] hit =
    knows (refused || true) [] ∙ or_true refused (some_from [] (slice_split is_feed text)) ∙ ap (λ (x : Bool). refused || x) (sym (last_due c b (slice_split is_feed text) hit))
due_byte text knows refused b c (d ∷ cs) hit =
    ap (λ (x : Bool). (fold with_byte (at_due (refused || x) (d ∷ cs)) text).refused) (ne_eqb (length (c ∷ d ∷ cs)) 1 (λ e. omega arith))
    ∙ knows (refused || false) (d ∷ cs)
    ∙ ap (λ (x : Bool). x || some_from (d ∷ cs) (slice_split is_feed text)) (sym (or_false refused))
    ∙ ap (λ (x : Bool). refused || x) (sym (next_due c d cs b (slice_split is_feed text) hit))

plain_byte : (text : List ℕ) → Knows text → (refused : Bool) (b : ℕ) (due : List ℕ)
    → (fold with_byte (if begins_with due b then at_due (refused || (length due == 1)) (drop 1 due) else at_due refused []) text).refused ≡ (refused || some_from due (onto_first b (slice_split is_feed text)))
plain_byte text knows refused b [] = knows refused [] ∙ ap (λ (x : Bool). refused || x) (sym (none_due b (slice_split is_feed text)))
plain_byte text knows refused b (c ∷ cs) = elim (cases_Bool (c == b)) [
  | inl hit ↦ rw hit (due_byte text knows refused b c cs hit)
  | inr miss ↦ rw miss (knows refused [] ∙ ap (λ (x : Bool). refused || x) (sym (other_due c cs b (slice_split is_feed text) miss)))
]

-- by whether a byte ends the line
next_byte : (text : List ℕ) → Knows text → (refused : Bool) (b : ℕ) (due : List ℕ) (feed : Bool)
    → (fold with_byte (if feed then at_due refused word else (if begins_with due b then at_due (refused || (length due == 1)) (drop 1 due) else at_due refused [])) text).refused
    ≡ (refused || some_from due (cond feed ([] ∷ slice_split is_feed text) (onto_first b (slice_split is_feed text))))
next_byte text knows refused b due true =
    knows refused word ∙ ap (λ (x : Bool). refused || x) (some_word (slice_split is_feed text) ∙ ap (λ (x : Bool). x || list_any is_refusal (slice_split is_feed text)) (sym (no_line due)))
next_byte text knows refused b due false = plain_byte text knows refused b due

knows_all : (text : List ℕ) → Knows text
knows_all [] refused due = or_false refused ∙ ap (λ (b : Bool). refused || b) (ap (λ (b : Bool). b || false) (sym (no_line due)))
knows_all (b ∷ text) refused due = next_byte text (knows_all text) refused b due (is_feed b)

pub watched_from_start : (text : List ℕ) → (with_text at_start text).refused ≡ has_refusal text
watched_from_start text = knows_all text false word ∙ some_word (slice_split is_feed text)

-- one text behind another
pub with_both : (w : Watched) (first next : List ℕ) → with_text (with_text w first) next ≡ with_text w (first ++ next)
with_both w [] next = refl
with_both w (b ∷ first) next = with_both (with_byte w b) first next
