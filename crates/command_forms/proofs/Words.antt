-- The words of a line have its bytes.
use Rattle.std.proofs.Common.{◌≡◌, ℕ, ◌<◌, ◌≤◌, Bool, true, false, List, [], ◌∷◌, length, arith, inl, inr}
use Rattle.std.specs.Prelude.{All, nat_lt, if◌then◌else◌, option_map, Option, Some, None, IfSome}
use Rattle.std.specs.List.{slice_split, onto_first, position_or_len}
use Rattle.std.proofs.lemmas.Bool.{cases_Bool}
use Rattle.std.proofs.lemmas.Bool.Decides.{nat_tests}
use Rattle.std.proofs.lemmas.List.Splits.{slice_split-cons_yes, slice_split-cons_no}
use Rattle.std.proofs.lemmas.List.Sums.{fails_before_first}
use Rattle.std.proofs.lemmas.List.Elements.{All-nil, All-cons, All-head, All-tail, All-filter, All-weaker, All-from_get_or}
use Rattle.bk_text.specs.Blanks.{is_blank, words_of}
use Rattle.dump_stream.specs.Forms.{IsBytes}
use Rattle.backup_words.specs.declared.options.OptionName.{OptionName}
use Rattle.backup_words.specs.Kinds.{is_same}
use Rattle.backup_words.specs.Options.{option_word}
use Rattle.backup_words.specs.Words.{is_option, values_of, given}
use Rattle.backup_words.specs.Values.{first_word, maybe_word}
use Rattle.backup_words.specs.Commands.{is_foreign}

-- ---- a line

own_byte : (b : ℕ) → is_foreign b ≡ false → b < 256
own_byte b is = grind (arith, nat_tests)

pub line_bytes : (line : List ℕ) → nat_lt (position_or_len is_foreign line) (length line) ≡ false → IsBytes line
line_bytes line none =
    let far : length line ≤ position_or_len is_foreign line = grind (arith, nat_tests) in
    All-weaker (λ (b : ℕ). is_foreign b ≡ false) (λ (b : ℕ). b < 256) own_byte line
    (All-from_get_or (λ (b : ℕ). is_foreign b ≡ false) line 0 (λ k below. fails_before_first is_foreign line k 0 (omega (arith, below, far))))

-- ---- its words

onto_bytes : (b : ℕ) (parts : List (List ℕ)) → b < 256 → All IsBytes parts → All IsBytes (onto_first b parts)
onto_bytes b [] is all = All-cons IsBytes (b ∷ []) [] (All-cons (λ (x : ℕ). x < 256) b [] is (All-nil (λ (x : ℕ). x < 256))) (All-nil IsBytes)
onto_bytes b (part ∷ parts) is all = All-cons IsBytes (b ∷ part) parts (All-cons (λ (x : ℕ). x < 256) b part is (All-head IsBytes part parts all)) (All-tail IsBytes part parts all)

split_bytes : (line : List ℕ) → IsBytes line → All IsBytes (slice_split is_blank line)
split_bytes [] all = All-cons IsBytes [] [] (All-nil (λ (x : ℕ). x < 256)) (All-nil IsBytes)
split_bytes (b ∷ line) all =
    let rest : All IsBytes (slice_split is_blank line) = split_bytes line (All-tail (λ (x : ℕ). x < 256) b line all) in
    elim (cases_Bool (is_blank b)) [
      | inl blank ↦ rw (slice_split-cons_yes is_blank b line blank) (All-cons IsBytes [] (slice_split is_blank line) (All-nil (λ (x : ℕ). x < 256)) rest)
      | inr plain ↦ rw (slice_split-cons_no is_blank b line plain) (onto_bytes b (slice_split is_blank line) (All-head (λ (x : ℕ). x < 256) b line all) rest)
    ]

pub words_bytes : (line : List ℕ) → IsBytes line → All IsBytes (words_of line)
words_bytes line all = All-filter (λ word. nat_lt 0 (length word)) IsBytes (slice_split is_blank line) (split_bytes line all)

-- ---- the word of an option

picked : (b : Bool) (x y : List (List ℕ)) → All IsBytes x → All IsBytes y → All IsBytes (if b then x else y)
picked true x y is_x is_y = is_x
picked false x y is_x is_y = is_y

values_bytes : (words : List (List ℕ)) → All IsBytes words → All IsBytes (values_of words)
values_bytes [] all = All-nil IsBytes
values_bytes (word ∷ words) all = picked (is_option word) [] (word ∷ values_of words) (All-nil IsBytes) (All-cons IsBytes word (values_of words) (All-head IsBytes word words all) (values_bytes words (All-tail IsBytes word words all)))

either : (b : Bool) (x y : Option (List (List ℕ))) → IfSome x (All IsBytes) → IfSome y (All IsBytes) → IfSome (if b then x else y) (All IsBytes)
either true x y is_x is_y = is_x
either false x y is_x is_y = is_y

given_bytes : (o : OptionName) (words : List (List ℕ)) → All IsBytes words → IfSome (given o words) (All IsBytes)
given_bytes o [] all = tt
given_bytes o (word ∷ words) all =
    let rest : All IsBytes words = All-tail IsBytes word words all in
    either (is_same word (option_word o)) (Some (values_of words)) (given o words) (values_bytes words rest) (given_bytes o words rest)

first_bytes : (values : Option (List (List ℕ))) → IfSome values (All IsBytes) → IfSome (option_map first_word values) IsBytes
first_bytes None all = tt
first_bytes (Some []) all = All-nil (λ (x : ℕ). x < 256)
first_bytes (Some (value ∷ more)) all = All-head IsBytes value more all

pub maybe_bytes : (o : OptionName) (words : List (List ℕ)) → All IsBytes words → IfSome (maybe_word o words) IsBytes
maybe_bytes o words all = first_bytes (given o words) (given_bytes o words all)
