-- Texts behind their lengths, and texts that may be empty.
use Rattle.std.proofs.Common.{zero, suc, ◌≡◌, ℕ, ◌≤◌, List, [], ◌∷◌, length, refl, ap, arith, lit≤}
use Rattle.std.specs.Prelude.{Some, None, Ok, Err}
use Rattle.bk_text.specs.Alphabets.{IsName, IsHost, IsSetName, IsTapeName}
use Rattle.bk_text.specs.LevelPaths.{IsLevelPath}
use Rattle.bk_text.specs.Words.{IsWordOf}
use Rattle.bk_text.specs.declared.words.Alphabet.{Alphabet}
use Rattle.bk_text.specs.declared.words.Alphabet.TheVariants.{Plain, NoPeriod, AnyFirst}
use Rattle.byte_formats.specs.declared.text.Text.TheVariants.{Name, Host, SetName, TapeName, Base}
use Rattle.byte_formats.specs.declared.fault.ReadFault.TheVariants.{Bad}
use Rattle.byte_formats.specs.Forms.{IsBase}
use Rattle.byte_formats.specs.Formats.{both, one_in, two_in, stated, text1_of, text2_of, any_of, maybe}
use Rattle.byte_formats.proofs.Leaves.{like_text1, like_text2, word_bounds, path_bounds, sole_any, has_any, any_none, any_some, any_stops, not_zero}
use Rattle.byte_formats.proofs.Maybe.{sole_maybe, has_maybe, maybe_none, maybe_some, maybe_stops}
use Rattle.log_readings.specs.Readers.{Read, Reader, taken_as, read_both, read_one, read_two}
use Rattle.log_readings.specs.Texts.{read_word, read_path, read_text1, read_text2, read_text, read_level, read_or, read_any, read_maybe}
use Rattle.log_readings.proofs.Answering.{Answers, Reads, reads_one, reads_like, reads_both}
use Rattle.log_readings.proofs.Numbers.{reads_two}
use Rattle.log_readings.proofs.Words.{reads_word}
use Rattle.log_readings.proofs.Paths.{reads_path}

reads_text1 : (low high : ℕ) (Form : List ℕ → Type 0) (text : ℕ → Reader (List ℕ)) → ((t : List ℕ) → Form t → (low ≤ length t) × (length t ≤ high)) → low ≤ high
    → ((n : ℕ) → low ≤ n → n ≤ high → Reads (stated n Form) (text n)) → Reads (text1_of Form) (read_text1 low high text)
unfolding read_text1 like_text1
reads_text1 low high Form text bounds le each =
    reads_like (both (one_in low high) (λ n. stated n Form)) (text1_of Form) (read_both (read_one low high) text) (like_text1 low high Form bounds)
    (reads_both (one_in low high) (λ n. stated n Form) (read_one low high) text (reads_one low high le) (λ n is. each n is.0 is.1))

reads_text2 : (low high : ℕ) (Form : List ℕ → Type 0) (text : ℕ → Reader (List ℕ)) → ((t : List ℕ) → Form t → (low ≤ length t) × (length t ≤ high)) → low ≤ high → high ≤ 65535
    → ((n : ℕ) → low ≤ n → n ≤ high → Reads (stated n Form) (text n)) → Reads (text2_of Form) (read_text2 low high text)
unfolding read_text2 like_text2
reads_text2 low high Form text bounds le small each =
    reads_like (both (two_in low high) (λ n. stated n Form)) (text2_of Form) (read_both (read_two low high) text) (like_text2 low high Form bounds)
    (reads_both (two_in low high) (λ n. stated n Form) (read_two low high) text (reads_two low high le small) (λ n is. each n is.0 is.1))

reads_word1 : (alphabet : Alphabet) (most : ℕ) → 1 ≤ most → Reads (text1_of (IsWordOf alphabet most)) (read_text1 1 most (read_word alphabet))
reads_word1 alphabet most some = reads_text1 1 most (IsWordOf alphabet most) (read_word alphabet) (word_bounds alphabet most) some (λ n low high. reads_word alphabet most n low high)

pub reads_word2 : (alphabet : Alphabet) (most : ℕ) → 1 ≤ most → most ≤ 65535 → Reads (text2_of (IsWordOf alphabet most)) (read_text2 1 most (read_word alphabet))
reads_word2 alphabet most some small = reads_text2 1 most (IsWordOf alphabet most) (read_word alphabet) (word_bounds alphabet most) some small (λ n low high. reads_word alphabet most n low high)

pub reads_name : Reads (text1_of IsName) (read_text Name)
unfolding read_text
reads_name = reads_word1 Plain 31 (lit≤ tt)

pub reads_host : Reads (text1_of IsHost) (read_text Host)
unfolding read_text
reads_host = reads_word1 Plain 63 (lit≤ tt)

pub reads_set : Reads (text1_of IsSetName) (read_text SetName)
unfolding read_text
reads_set = reads_word1 NoPeriod 31 (lit≤ tt)

pub reads_tape_name : Reads (text1_of IsTapeName) (read_text TapeName)
unfolding read_text
reads_tape_name = reads_word1 AnyFirst 80 (lit≤ tt)

pub reads_base : Reads (text1_of IsBase) (read_text Base)
unfolding read_text
reads_base = reads_word1 AnyFirst 69 (lit≤ tt)

pub reads_level : Reads (text2_of IsLevelPath) read_level
unfolding read_level
reads_level = reads_text2 2 256 IsLevelPath read_path path_bounds (lit≤ tt) (lit≤ tt) (λ n low high. reads_path n low high)

-- ---- texts that may be empty

no_first : (r : List ℕ) → [] ≡ 0 ∷ r → ⊥
no_first r e = omega (arith, ap length e)

other_first : (b : ℕ) (rest r : List ℕ) → suc b ∷ rest ≡ 0 ∷ r → ⊥
other_first b rest = not_zero (suc b ∷ rest) (λ some e. omega (arith, e))

pub reads_any : (Form : List ℕ → Type 0) (read : Reader (List ℕ)) → ((text : List ℕ) → Form text → 1 ≤ length text) → Reads (text1_of Form) read → Reads (any_of Form) (read_any read)
unfolding read_any read_or taken_as
reads_any Form read some r = record { sole = sole_any Form some r.sole; has = has_any Form; answers = go }
  where
    by : (bytes : List ℕ) → ((rest : List ℕ) → bytes ≡ 0 ∷ rest → ⊥) → (out : Read (List ℕ)) → Answers (text1_of Form) bytes out → Answers (any_of Form) bytes (taken_as (λ (text : List ℕ). Some text) out)
    by bytes not (Ok taken) took = any_some Form bytes taken.0 taken.1 took
    by bytes not (Err left) s = any_stops Form bytes (Bad left) not s

    go : (bytes : List ℕ) → Answers (any_of Form) bytes (read_or None (λ (text : List ℕ). Some text) read bytes)
    go [] = by [] no_first (read []) (r.answers [])
    go (zero ∷ rest) = any_none Form (0 ∷ rest) (omega arith) refl
    go (suc b ∷ rest) = by (suc b ∷ rest) (other_first b rest) (read (suc b ∷ rest)) (r.answers (suc b ∷ rest))

pub reads_maybe : (Form : List ℕ → Type 0) (read : Reader (List ℕ)) → Reads (text1_of Form) read → Reads (maybe Form) (read_maybe read)
unfolding read_maybe read_or taken_as
reads_maybe Form read r = record { sole = sole_maybe Form; has = has_maybe Form; answers = go }
  where
    by : (bytes : List ℕ) → ((rest : List ℕ) → bytes ≡ 0 ∷ rest → ⊥) → (out : Read (List ℕ)) → Answers (text1_of Form) bytes out → Answers (maybe Form) bytes (taken_as (λ (text : List ℕ). text) out)
    by bytes not (Ok taken) took = maybe_some Form bytes taken.0 taken.1 took
    by bytes not (Err left) s = maybe_stops Form bytes (Bad left) not s

    go : (bytes : List ℕ) → Answers (maybe Form) bytes (read_or [] (λ (text : List ℕ). text) read bytes)
    go [] = by [] no_first (read []) (r.answers [])
    go (zero ∷ rest) = maybe_none Form (0 ∷ rest) (omega arith) refl
    go (suc b ∷ rest) = by (suc b ∷ rest) (other_first b rest) (read (suc b ∷ rest)) (r.answers (suc b ∷ rest))
