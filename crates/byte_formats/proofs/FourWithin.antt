-- Numbers of four bytes within bounds: where their bytes stop.
use Rattle.std.proofs.Common.{◌≡◌, ℕ, ◌+◌, ◌-◌, ◌/◌, ◌%◌, ◌<◌, ◌≤◌, List, [], ◌∷◌, ◌++◌, length, drop, get_or, refl, sym, ap, ◌∙◌, arith, lit<}
use Rattle.std.proofs.lemmas.Nat.{from_be_bytes-to_be_bytes_4}
use Rattle.std.proofs.lemmas.List.{append-nil}
use Rattle.byte_formats.specs.Bytes.{four}
use Rattle.byte_formats.specs.Formats.{Took, Sticks, four_in}
use Rattle.byte_formats.proofs.Leaves.{of_four, four_took}

-- the four bytes of a number
record Four (n : ℕ) : Type 0 where
  a : ℕ
  b : ℕ
  c : ℕ
  d : ℕ
  a_fits : a < 256
  b_fits : b < 256
  c_fits : c < 256
  d_fits : d < 256
  number : n ≡ of_four a b c d
  bytes : four n ≡ a ∷ b ∷ c ∷ d ∷ []

mod_small : (n : ℕ) → n % 256 < 256
mod_small n = omega arith

cells : (n : ℕ) → n ≤ 4294967295 → Four n
unfolding four
cells n le = record {
  a = n / 16777216 % 256;
  b = n / 65536 % 256;
  c = n / 256 % 256;
  d = n % 256;
  a_fits = mod_small (n / 16777216);
  b_fits = mod_small (n / 65536);
  c_fits = mod_small (n / 256);
  d_fits = mod_small n;
  number = sym (from_be_bytes-to_be_bytes_4 n (omega arith));
  bytes = refl;
}

-- a number in two pairs of bounds that meet
record Between (low high least most : ℕ) : Type 0 where
  n : ℕ
  low_n : low ≤ n
  n_high : n ≤ high
  least_n : least ≤ n
  n_most : n ≤ most

between : (low high least most : ℕ) → low ≤ high → least ≤ most → low ≤ most → least ≤ high → Between low high least most
between low high least most h1 h2 h3 h4 = record {
  n = low + (least - low);
  low_n = omega arith;
  n_high = omega arith;
  least_n = omega arith;
  n_most = omega arith;
}

-- a number of these bounds that begins with these bytes and wants more
record Start (low high : ℕ) (front : List ℕ) : Type 0 where
  n : ℕ
  low_n : low ≤ n
  n_high : n ≤ high
  rest : List ℕ
  wanting : 0 < length rest
  is : four n ≡ front ++ rest

start_0 : (low high : ℕ) → low ≤ high → high ≤ 4294967295 → Start low high []
start_0 low high le big =
    let f = cells low (omega arith) in
    record { n = low; low_n = omega arith; n_high = le; rest = f.a ∷ f.b ∷ f.c ∷ f.d ∷ []; wanting = lit< tt; is = f.bytes }

start_1 : (low high a : ℕ) → low ≤ high → high ≤ 4294967295 → a < 256 → low ≤ of_four a 255 255 255 → of_four a 0 0 0 ≤ high → Start low high (a ∷ [])
start_1 low high a le big fa lo hi =
    let m = between low high (of_four a 0 0 0) (of_four a 255 255 255) le (omega arith) lo hi in
    let f = cells m.n (omega (arith, m.n_high)) in
    let same : f.a ≡ a = omega (arith, m.least_n, m.n_most, f.number, f.a_fits, f.b_fits, f.c_fits, f.d_fits) in
    record { n = m.n; low_n = m.low_n; n_high = m.n_high; rest = f.b ∷ f.c ∷ f.d ∷ []; wanting = lit< tt; is = f.bytes ∙ ap (λ (x : ℕ). x ∷ f.b ∷ f.c ∷ f.d ∷ []) same }

start_2 : (low high a b : ℕ) → low ≤ high → high ≤ 4294967295 → a < 256 → b < 256 → low ≤ of_four a b 255 255 → of_four a b 0 0 ≤ high → Start low high (a ∷ b ∷ [])
start_2 low high a b le big fa fb lo hi =
    let m = between low high (of_four a b 0 0) (of_four a b 255 255) le (omega arith) lo hi in
    let f = cells m.n (omega (arith, m.n_high)) in
    let same : f.a ≡ a = omega (arith, m.least_n, m.n_most, f.number, f.a_fits, f.b_fits, f.c_fits, f.d_fits) in
    let same_b : f.b ≡ b = omega (arith, same, m.least_n, m.n_most, f.number, f.a_fits, f.b_fits, f.c_fits, f.d_fits) in
    record { n = m.n; low_n = m.low_n; n_high = m.n_high; rest = f.c ∷ f.d ∷ []; wanting = lit< tt; is = f.bytes ∙ ap (λ (x : ℕ). x ∷ f.b ∷ f.c ∷ f.d ∷ []) same ∙ ap (λ (x : ℕ). a ∷ x ∷ f.c ∷ f.d ∷ []) same_b }

start_3 : (low high a b c : ℕ) → low ≤ high → high ≤ 4294967295 → a < 256 → b < 256 → c < 256 → low ≤ of_four a b c 255 → of_four a b c 0 ≤ high → Start low high (a ∷ b ∷ c ∷ [])
start_3 low high a b c le big fa fb fc lo hi =
    let m = between low high (of_four a b c 0) (of_four a b c 255) le (omega arith) lo hi in
    let f = cells m.n (omega (arith, m.n_high)) in
    let same : f.a ≡ a = omega (arith, m.least_n, m.n_most, f.number, f.a_fits, f.b_fits, f.c_fits, f.d_fits) in
    let same_b : f.b ≡ b = omega (arith, same, m.least_n, m.n_most, f.number, f.a_fits, f.b_fits, f.c_fits, f.d_fits) in
    let same_c : f.c ≡ c = omega (arith, same, same_b, m.least_n, m.n_most, f.number, f.a_fits, f.b_fits, f.c_fits, f.d_fits) in
    record { n = m.n; low_n = m.low_n; n_high = m.n_high; rest = f.d ∷ []; wanting = lit< tt; is = f.bytes ∙ ap (λ (x : ℕ). x ∷ f.b ∷ f.c ∷ f.d ∷ []) same ∙ ap (λ (x : ℕ). a ∷ x ∷ f.c ∷ f.d ∷ []) same_b ∙ ap (λ (x : ℕ). a ∷ b ∷ x ∷ f.d ∷ []) same_c }

-- the bytes end where a number begins so
cut : (low high : ℕ) (front : List ℕ) → Start low high front → Sticks (four_in low high) front 0
cut low high front s = record {
  good = front;
  bad = [];
  joined = sym (append-nil front);
  count = refl;
  value = s.n;
  is = (s.low_n, s.n_high);
  more = s.rest;
  wanting = s.wanting;
  begun = s.is;
  here = λ b behind e. absurd (cc e);
}

-- a number begins so, and none goes on so
stuck : (low high left : ℕ) (front bad : List ℕ) → length bad ≡ left → Start low high front
    → ((b : ℕ) (behind : List ℕ) → bad ≡ b ∷ behind → (n : ℕ) (rest after : List ℕ) → low ≤ n → n ≤ high → front ++ (b ∷ after) ≡ four n ++ rest → ⊥)
    → Sticks (four_in low high) (front ++ bad) left
stuck low high left front bad count s none = record {
  good = front;
  bad = bad;
  joined = refl;
  count = count;
  value = s.n;
  is = (s.low_n, s.n_high);
  more = s.rest;
  wanting = s.wanting;
  begun = s.is;
  here = λ b behind e n rest after is eq. none b behind e n rest after is.0 is.1 eq;
}

pub within_cut_0 : (low high : ℕ) (bytes : List ℕ) → low ≤ high → high ≤ 4294967295 → length bytes < 1 → Sticks (four_in low high) bytes 0
within_cut_0 low high [] le big few = cut low high [] (start_0 low high le big)
within_cut_0 low high (a ∷ r) le big few = absurd (omega (arith, few))

pub within_stuck_0 : (low high : ℕ) (bytes : List ℕ) → low ≤ high → high ≤ 4294967295 → 1 ≤ length bytes
    → ((low ≤ of_four (get_or bytes 0 0) 255 255 255) × (of_four (get_or bytes 0 0) 0 0 0 ≤ high) → ⊥) → Sticks (four_in low high) bytes (length bytes)
within_stuck_0 low high [] le big some apart = absurd (omega (arith, some))
within_stuck_0 low high (a ∷ r) le big some apart = stuck low high (length (a ∷ r)) [] (a ∷ r) refl (start_0 low high le big) (λ x behind e n rest after ln nh eq.
    let f = cells n (omega (arith, nh, big)) in
    let e2 : x ∷ after ≡ f.a ∷ f.b ∷ f.c ∷ f.d ∷ rest = eq ∙ ap (λ (l : List ℕ). l ++ rest) f.bytes in
    let same : a ≡ f.a = cc in
    apart (omega (arith, same, f.number, f.b_fits, f.c_fits, f.d_fits, ln), omega (arith, same, f.number, nh)))

pub within_cut_1 : (low high : ℕ) (bytes : List ℕ) → low ≤ high → high ≤ 4294967295 → 1 ≤ length bytes → length bytes < 2 → get_or bytes 0 0 < 256
    → low ≤ of_four (get_or bytes 0 0) 255 255 255 → of_four (get_or bytes 0 0) 0 0 0 ≤ high → Sticks (four_in low high) bytes 0
within_cut_1 low high [] le big some few fa lo hi = absurd (omega (arith, some))
within_cut_1 low high (a ∷ []) le big some few fa lo hi = cut low high (a ∷ []) (start_1 low high a le big fa lo hi)
within_cut_1 low high (a ∷ b ∷ r) le big some few fa lo hi = absurd (omega (arith, few))

pub within_stuck_1 : (low high : ℕ) (bytes : List ℕ) → low ≤ high → high ≤ 4294967295 → 2 ≤ length bytes → get_or bytes 0 0 < 256
    → low ≤ of_four (get_or bytes 0 0) 255 255 255 → of_four (get_or bytes 0 0) 0 0 0 ≤ high
    → ((low ≤ of_four (get_or bytes 0 0) (get_or bytes 1 0) 255 255) × (of_four (get_or bytes 0 0) (get_or bytes 1 0) 0 0 ≤ high) → ⊥) → Sticks (four_in low high) bytes (length bytes - 1)
within_stuck_1 low high [] le big some fa lo hi apart = absurd (omega (arith, some))
within_stuck_1 low high (a ∷ []) le big some fa lo hi apart = absurd (omega (arith, some))
within_stuck_1 low high (a ∷ b ∷ r) le big some fa lo hi apart = stuck low high (length (a ∷ b ∷ r) - 1) (a ∷ []) (b ∷ r) (omega arith) (start_1 low high a le big fa lo hi) (λ x behind e n rest after ln nh eq.
    let f = cells n (omega (arith, nh, big)) in
    let e2 : a ∷ x ∷ after ≡ f.a ∷ f.b ∷ f.c ∷ f.d ∷ rest = eq ∙ ap (λ (l : List ℕ). l ++ rest) f.bytes in
    let same : a ≡ f.a = cc in
    let same_b : b ≡ f.b = cc in
    apart (omega (arith, same, same_b, f.number, f.c_fits, f.d_fits, ln), omega (arith, same, same_b, f.number, nh)))

pub within_cut_2 : (low high : ℕ) (bytes : List ℕ) → low ≤ high → high ≤ 4294967295 → 2 ≤ length bytes → length bytes < 3 → get_or bytes 0 0 < 256 → get_or bytes 1 0 < 256
    → low ≤ of_four (get_or bytes 0 0) (get_or bytes 1 0) 255 255 → of_four (get_or bytes 0 0) (get_or bytes 1 0) 0 0 ≤ high → Sticks (four_in low high) bytes 0
within_cut_2 low high [] le big some few fa fb lo hi = absurd (omega (arith, some))
within_cut_2 low high (a ∷ []) le big some few fa fb lo hi = absurd (omega (arith, some))
within_cut_2 low high (a ∷ b ∷ []) le big some few fa fb lo hi = cut low high (a ∷ b ∷ []) (start_2 low high a b le big fa fb lo hi)
within_cut_2 low high (a ∷ b ∷ c ∷ r) le big some few fa fb lo hi = absurd (omega (arith, few))

pub within_stuck_2 : (low high : ℕ) (bytes : List ℕ) → low ≤ high → high ≤ 4294967295 → 3 ≤ length bytes → get_or bytes 0 0 < 256 → get_or bytes 1 0 < 256
    → low ≤ of_four (get_or bytes 0 0) (get_or bytes 1 0) 255 255 → of_four (get_or bytes 0 0) (get_or bytes 1 0) 0 0 ≤ high
    → ((low ≤ of_four (get_or bytes 0 0) (get_or bytes 1 0) (get_or bytes 2 0) 255) × (of_four (get_or bytes 0 0) (get_or bytes 1 0) (get_or bytes 2 0) 0 ≤ high) → ⊥) → Sticks (four_in low high) bytes (length bytes - 2)
within_stuck_2 low high [] le big some fa fb lo hi apart = absurd (omega (arith, some))
within_stuck_2 low high (a ∷ []) le big some fa fb lo hi apart = absurd (omega (arith, some))
within_stuck_2 low high (a ∷ b ∷ []) le big some fa fb lo hi apart = absurd (omega (arith, some))
within_stuck_2 low high (a ∷ b ∷ c ∷ r) le big some fa fb lo hi apart = stuck low high (length (a ∷ b ∷ c ∷ r) - 2) (a ∷ b ∷ []) (c ∷ r) (omega arith) (start_2 low high a b le big fa fb lo hi) (λ x behind e n rest after ln nh eq.
    let f = cells n (omega (arith, nh, big)) in
    let e2 : a ∷ b ∷ x ∷ after ≡ f.a ∷ f.b ∷ f.c ∷ f.d ∷ rest = eq ∙ ap (λ (l : List ℕ). l ++ rest) f.bytes in
    let same : a ≡ f.a = cc in
    let same_b : b ≡ f.b = cc in
    let same_c : c ≡ f.c = cc in
    apart (omega (arith, same, same_b, same_c, f.number, f.d_fits, ln), omega (arith, same, same_b, same_c, f.number, nh)))

pub within_cut_3 : (low high : ℕ) (bytes : List ℕ) → low ≤ high → high ≤ 4294967295 → 3 ≤ length bytes → length bytes < 4 → get_or bytes 0 0 < 256 → get_or bytes 1 0 < 256 → get_or bytes 2 0 < 256
    → low ≤ of_four (get_or bytes 0 0) (get_or bytes 1 0) (get_or bytes 2 0) 255 → of_four (get_or bytes 0 0) (get_or bytes 1 0) (get_or bytes 2 0) 0 ≤ high → Sticks (four_in low high) bytes 0
within_cut_3 low high [] le big some few fa fb fc lo hi = absurd (omega (arith, some))
within_cut_3 low high (a ∷ []) le big some few fa fb fc lo hi = absurd (omega (arith, some))
within_cut_3 low high (a ∷ b ∷ []) le big some few fa fb fc lo hi = absurd (omega (arith, some))
within_cut_3 low high (a ∷ b ∷ c ∷ []) le big some few fa fb fc lo hi = cut low high (a ∷ b ∷ c ∷ []) (start_3 low high a b c le big fa fb fc lo hi)
within_cut_3 low high (a ∷ b ∷ c ∷ d ∷ r) le big some few fa fb fc lo hi = absurd (omega (arith, few))

pub within_stuck_3 : (low high m : ℕ) (bytes : List ℕ) → low ≤ high → high ≤ 4294967295 → 4 ≤ length bytes → get_or bytes 0 0 < 256 → get_or bytes 1 0 < 256 → get_or bytes 2 0 < 256
    → low ≤ of_four (get_or bytes 0 0) (get_or bytes 1 0) (get_or bytes 2 0) 255 → of_four (get_or bytes 0 0) (get_or bytes 1 0) (get_or bytes 2 0) 0 ≤ high
    → m ≡ of_four (get_or bytes 0 0) (get_or bytes 1 0) (get_or bytes 2 0) (get_or bytes 3 0) → ((low ≤ m) × (m ≤ high) → ⊥) → Sticks (four_in low high) bytes (length bytes - 3)
within_stuck_3 low high m [] le big some fa fb fc lo hi is apart = absurd (omega (arith, some))
within_stuck_3 low high m (a ∷ []) le big some fa fb fc lo hi is apart = absurd (omega (arith, some))
within_stuck_3 low high m (a ∷ b ∷ []) le big some fa fb fc lo hi is apart = absurd (omega (arith, some))
within_stuck_3 low high m (a ∷ b ∷ c ∷ []) le big some fa fb fc lo hi is apart = absurd (omega (arith, some))
within_stuck_3 low high m (a ∷ b ∷ c ∷ d ∷ r) le big some fa fb fc lo hi is apart = stuck low high (length (a ∷ b ∷ c ∷ d ∷ r) - 3) (a ∷ b ∷ c ∷ []) (d ∷ r) (omega arith) (start_3 low high a b c le big fa fb fc lo hi) (λ x behind e n rest after ln nh eq.
    let f = cells n (omega (arith, nh, big)) in
    let e2 : a ∷ b ∷ c ∷ x ∷ after ≡ f.a ∷ f.b ∷ f.c ∷ f.d ∷ rest = eq ∙ ap (λ (l : List ℕ). l ++ rest) f.bytes in
    let same : a ≡ f.a = cc in
    let same_b : b ≡ f.b = cc in
    let same_c : c ≡ f.c = cc in
    let same_d : d ≡ f.d = cc in
    apart (omega (arith, is, same, same_b, same_c, same_d, f.number, ln), omega (arith, is, same, same_b, same_c, same_d, f.number, nh)))

pub within_took : (low high : ℕ) (bytes : List ℕ) (n : ℕ) → 4 ≤ length bytes → ((i : ℕ) → get_or bytes i 0 < 256) → n ≡ of_four (get_or bytes 0 0) (get_or bytes 1 0) (get_or bytes 2 0) (get_or bytes 3 0)
    → low ≤ n → n ≤ high → Took (four_in low high) bytes n (drop 4 bytes)
within_took low high bytes n some fits is lo hi = record { is = (lo, hi); joined = (four_took bytes n some fits is).joined }
