-- Numbers of two bytes and of four.
use Rattle.std.proofs.Common.{◌≡◌, ℕ, ◌+◌, ◌-◌, ◌*◌, ◌/◌, ◌%◌, ◌≤◌, [], ◌∷◌, ◌++◌, ap, ◌∙◌, arith, lit≤, min}
use Rattle.byte_formats.specs.Bytes.{two, four}
use Rattle.byte_formats.specs.Formats.{Format, both, pair, one_in, two_in, any_four}
use Rattle.byte_formats.proofs.FormatLaws.{Like}
use Rattle.byte_formats.proofs.Leaves.{two_cells}
use Rattle.log_readings.specs.Readers.{read_one, read_two, read_four, read_both, read_pair}
use Rattle.log_readings.proofs.Answering.{Reads, reads_one, reads_like, reads_both, reads_pair}

abbrev second : ℕ → ℕ → ℕ → Format ℕ
second low high a = one_in (low - a * 256) (min 255 (high - a * 256))

abbrev bytes_in : ℕ → ℕ → Format (ℕ × ℕ)
bytes_in low high = both (one_in (low / 256) (high / 256)) (second low high)

two_there : (low high a b : ℕ) → low / 256 ≤ a → a ≤ high / 256 → low - a * 256 ≤ b → b ≤ min 255 (high - a * 256) → (low ≤ a * 256 + b) × (a * 256 + b ≤ high)
two_there low high a b h1 h2 h3 h4 = (omega arith, omega arith)

two_back : (low high n : ℕ) → low ≤ n → n ≤ high → (bytes_in low high).Is (n / 256, n % 256)
two_back low high n lo hi = ((omega arith, omega arith), (omega arith, omega arith))

two_again : (a b : ℕ) → b ≤ 255 → ((a * 256 + b) / 256 ≡ a) × ((a * 256 + b) % 256 ≡ b)
two_again a b le = (omega arith, omega arith)

two_same : (n : ℕ) → n ≤ 65535 → two n ≡ (n / 256) ∷ (n % 256) ∷ []
two_same n le = two_cells n ∙ ap (λ (a : ℕ). a ∷ (n % 256) ∷ []) (omega arith)

unfoldable like_two : (low high : ℕ) → high ≤ 65535 → Like (bytes_in low high) (two_in low high)
like_two low high small = record {
  to = λ p. p.0 * 256 + p.1;
  from = λ n. (n / 256, n % 256);
  there = λ p is. two_there low high p.0 p.1 is.0.0 is.0.1 is.1.0 is.1.1;
  back = λ n is. two_back low high n is.0 is.1;
  again = λ p is.
      let le : p.1 ≤ 255 = omega (arith, is.1.1) in
      let e = two_again p.0 p.1 le in
      ap (λ (a : ℕ). (a, (p.0 * 256 + p.1) % 256)) e.0 ∙ ap (λ (b : ℕ). (p.0, b)) e.1;
  restored = λ n is. omega arith;
  same = λ n is. two_same n (omega (arith, is.1, small));
}

second_some : (low high a : ℕ) → low ≤ high → low / 256 ≤ a → a ≤ high / 256 → low - a * 256 ≤ min 255 (high - a * 256)
second_some low high a le h1 h2 = omega arith

first_some : (low high : ℕ) → low ≤ high → low / 256 ≤ high / 256
first_some low high le = omega arith

pub reads_two : (low high : ℕ) → low ≤ high → high ≤ 65535 → Reads (two_in low high) (read_two low high)
unfolding read_two like_two
reads_two low high le small =
    reads_like (bytes_in low high) (two_in low high) (read_both (read_one (low / 256) (high / 256)) (λ a. read_one (low - a * 256) (min 255 (high - a * 256)))) (like_two low high small)
    (reads_both (one_in (low / 256) (high / 256)) (second low high) (read_one (low / 256) (high / 256)) (λ a. read_one (low - a * 256) (min 255 (high - a * 256)))
    (reads_one (low / 256) (high / 256) (first_some low high le))
    (λ a is. reads_one (low - a * 256) (min 255 (high - a * 256)) (second_some low high a le is.0 is.1)))

abbrev pub any_two : Format ℕ
any_two = two_in 0 65535

pub reads_any_two : Reads any_two (read_two 0 65535)
reads_any_two = reads_two 0 65535 (lit≤ tt) (lit≤ tt)

four_again : (a b : ℕ) → b ≤ 65535 → ((a * 65536 + b) / 65536 ≡ a) × ((a * 65536 + b) % 65536 ≡ b)
four_again a b le = (omega arith, omega arith)

-- the cells of four bytes are those of two halves
four_same : (n : ℕ) → four n ≡ two (n / 65536) ++ two (n % 65536)
unfolding two four
four_same n =
    let a : n / 16777216 % 256 ≡ n / 65536 / 256 % 256 = omega arith in
    let c : n / 256 % 256 ≡ n % 65536 / 256 % 256 = omega arith in
    let d : n % 256 ≡ n % 65536 % 256 = omega arith in
    ap (λ (x : ℕ). x ∷ (n / 65536 % 256) ∷ (n / 256 % 256) ∷ (n % 256) ∷ []) a
    ∙ ap (λ (x : ℕ). (n / 65536 / 256 % 256) ∷ (n / 65536 % 256) ∷ x ∷ (n % 256) ∷ []) c
    ∙ ap (λ (x : ℕ). (n / 65536 / 256 % 256) ∷ (n / 65536 % 256) ∷ (n % 65536 / 256 % 256) ∷ x ∷ []) d

unfoldable like_four : Like (pair any_two any_two) any_four
like_four = record {
  to = λ p. p.0 * 65536 + p.1;
  from = λ n. (n / 65536, n % 65536);
  there = λ p is. omega (arith, is.0.1, is.1.1);
  back = λ n is. ((omega arith, omega (arith, is)), (omega arith, omega arith));
  again = λ p is.
      let e = four_again p.0 p.1 is.1.1 in
      ap (λ (a : ℕ). (a, (p.0 * 65536 + p.1) % 65536)) e.0 ∙ ap (λ (b : ℕ). (p.0, b)) e.1;
  restored = λ n is. omega arith;
  same = λ n is. four_same n;
}

pub reads_four : Reads any_four read_four
unfolding read_four like_four
reads_four = reads_like (pair any_two any_two) any_four (read_pair (read_two 0 65535) (read_two 0 65535)) like_four (reads_pair any_two any_two (read_two 0 65535) (read_two 0 65535) reads_any_two reads_any_two)
