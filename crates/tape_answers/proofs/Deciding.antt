-- What the tests of single fields tell.
use Rattle.std.proofs.Common.{◌≡◌, ℕ, ◌<◌, ◌≤◌, Bool, true, List, [], ◌∷◌, length, refl, ap, arith}
use Rattle.std.specs.Prelude.{nat_le, ◌==◌, All}
use Rattle.std.specs.Bool.{Decides}
use Rattle.std.specs.List.{list_all}
use Rattle.std.proofs.lemmas.Bool.{eqb-true}
use Rattle.std.proofs.lemmas.Bool.Decides.{Decides-and, Decides-or, Decides-ltb, Decides-by_and}
use Rattle.byte_formats.specs.Forms.{IsMaybe}
use Rattle.tape_scan.proofs.Deciding.{upto}
use Rattle.tape_answers.specs.FieldTests.{is_four, is_counted, is_empty, is_maybe, is_byte}

pub four_fits : (n : ℕ) → Decides (is_four n) (n ≤ 4294967295)
four_fits n = upto n 4294967295

pub counted_fits : (n : ℕ) → Decides (is_counted n) ((1 ≤ n) × (n ≤ 4294967295))
counted_fits n = Decides-and (nat_le 1 n) (is_four n) (upto 1 n) (four_fits n)

pub empty_text : (text : List ℕ) → Decides (is_empty text) (text ≡ [])
empty_text text = ((λ e. none text e), (λ e. ap (λ (t : List ℕ). length t == 0) e))
  where
    none : (t : List ℕ) → (length t == 0) ≡ true → t ≡ []
    none [] e = refl
    none (x ∷ t) e = let f : length (x ∷ t) ≡ 0 = eqb-true (length (x ∷ t)) 0 e in absurd (omega arith)

pub maybe_text : (Form : List ℕ → Type 0) (test : List ℕ → Bool) (text : List ℕ) → Decides (test text) (Form text) → Decides (is_maybe test text) (IsMaybe Form text)
maybe_text Form test text holds = Decides-or {P = Form text} {Q = text ≡ []} (test text) (is_empty text) holds (empty_text text)

pub bytes_fit : (bytes : List ℕ) → Decides (list_all is_byte bytes) (All (λ b. b < 256) bytes)
bytes_fit bytes = Decides-by_and is_byte (λ b. b < 256) (list_all is_byte) (λ b. Decides-ltb b 256) refl (λ _ _. refl) bytes
