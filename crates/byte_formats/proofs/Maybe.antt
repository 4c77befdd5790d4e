-- Texts that may be empty, numbers of four bytes within bounds, and values that have no bytes.
use Rattle.std.proofs.Common.{◌≡◌, inl, inr, ℕ, ◌≤◌, List, [], ◌∷◌, ◌++◌, length, drop, get_or, refl, ap, sym, ◌∙◌, arith}
use Rattle.byte_formats.specs.Bytes.{text1}
use Rattle.byte_formats.specs.Forms.{IsMaybe}
use Rattle.byte_formats.specs.declared.fault.ReadFault.{ReadFault}
use Rattle.byte_formats.specs.declared.fault.ReadFault.TheVariants.{Bad, Memory}
use Rattle.byte_formats.specs.Formats.{Took, Sticks, Stops, absent, four_in, text1_of, maybe}
use Rattle.byte_formats.proofs.FormatLaws.{Sole, Has, split_same}
use Rattle.byte_formats.proofs.Leaves.{sole_four, no_zero}

-- a text behind its length is known by its bytes, whatever its form
pub sole_text : (Form : List ℕ → Type 0) → Sole (text1_of Form)
unfolding text1
sole_text Form = record { same = go }
  where
    go : (x y r s : List ℕ) → Form x → Form y → text1 x ++ r ≡ text1 y ++ s → (x ≡ y) × (r ≡ s)
    go x y r s isx isy e =
        let e2 : length x ∷ (x ++ r) ≡ length y ∷ (y ++ s) = e in
        let long : length x ≡ length y = cc in
        let tails : x ++ r ≡ y ++ s = cc in
        split_same x y r s long tails

pub sole_maybe : (Form : List ℕ → Type 0) → Sole (maybe Form)
sole_maybe Form = sole_text (IsMaybe Form)

pub has_maybe : (Form : List ℕ → Type 0) → Has (maybe Form)
has_maybe Form = record { value = []; is = inr refl }

empty_cells : text1 [] ≡ 0 ∷ []
unfolding text1
empty_cells = refl

pub maybe_sticks : (Form : List ℕ → Type 0) (bytes : List ℕ) (left : ℕ) → ((r : List ℕ) → bytes ≡ 0 ∷ r → ⊥) → Sticks (text1_of Form) bytes left → Sticks (maybe Form) bytes left
maybe_sticks Form bytes left not s = record {
  good = s.good;
  bad = s.bad;
  joined = s.joined;
  count = s.count;
  value = s.value;
  is = inl s.is;
  more = s.more;
  wanting = s.wanting;
  begun = s.begun;
  here = go;
}
  where
    go : (b : ℕ) (behind : List ℕ) → s.bad ≡ b ∷ behind → (x rest after : List ℕ) → IsMaybe Form x → s.good ++ (b ∷ after) ≡ text1 x ++ rest → ⊥
    go b behind e x rest after (inl is) eq = s.here b behind e x rest after is eq
    go b behind e x rest after (inr empty) eq = no_zero s.good s.bad bytes after rest b behind s.joined e not (eq ∙ ap (λ (y : List ℕ). text1 y ++ rest) empty ∙ ap (λ (y : List ℕ). y ++ rest) empty_cells)

pub maybe_stops : (Form : List ℕ → Type 0) (bytes : List ℕ) (fault : ReadFault) → ((r : List ℕ) → bytes ≡ 0 ∷ r → ⊥) → Stops (text1_of Form) bytes fault → Stops (maybe Form) bytes fault
maybe_stops Form bytes (Bad left) not s = maybe_sticks Form bytes left not s
maybe_stops Form bytes Memory not s = tt

pub maybe_none : (Form : List ℕ → Type 0) (bytes : List ℕ) → 1 ≤ length bytes → get_or bytes 0 0 ≡ 0 → Took (maybe Form) bytes [] (drop 1 bytes)
maybe_none Form [] some zero_is = absurd (omega (arith, some))
maybe_none Form (a ∷ r) some zero_is = record { is = inr refl; joined = ap (λ (z : ℕ). z ∷ r) zero_is ∙ ap (λ (y : List ℕ). y ++ r) (sym empty_cells) }

pub maybe_some : (Form : List ℕ → Type 0) (bytes text rest : List ℕ) → Took (text1_of Form) bytes text rest → Took (maybe Form) bytes text rest
maybe_some Form bytes text rest took = record { is = inl took.is; joined = took.joined }

-- ---- numbers of four bytes within bounds

pub sole_four_in : (low high : ℕ) → high ≤ 4294967295 → Sole (four_in low high)
sole_four_in low high small = record { same = λ x y r s isx isy e. sole_four.same x y r s (omega (arith, isx.1, small)) (omega (arith, isy.1, small)) e }

pub has_four_in : (low high : ℕ) → low ≤ high → Has (four_in low high)
has_four_in low high le = record { value = low; is = (omega arith, le) }

-- ---- a value that has no bytes

pub sole_absent : {X : Type 0} (value : X) → Sole (absent value)
sole_absent value = record { same = λ x y r s isx isy e. (isx ∙ sym isy, e) }

pub has_absent : {X : Type 0} (value : X) → Has (absent value)
has_absent value = record { value = value; is = refl }

pub took_absent : {X : Type 0} (value : X) (bytes : List ℕ) → Took (absent value) bytes value bytes
took_absent value bytes = record { is = refl; joined = refl }
