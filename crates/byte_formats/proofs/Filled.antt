-- A value and zeros up to a length: what was read, and what stuck.
use Rattle.std.proofs.Common.{◌≡◌, ℕ, ◌+◌, ◌-◌, ◌<◌, List, [], ◌∷◌, ◌++◌, length, get_or, replicate, refl, sym, ap, ◌∙◌, append_assoc, arith, length-append}
use Rattle.std.proofs.lemmas.List.{append-nil, length-replicate, replicate-append-replicate, append_cancel_left, get_or_append_left, get_or-replicate}
use Rattle.byte_formats.specs.Formats.{Format, Took, Sticks, filled}
use Rattle.byte_formats.proofs.FormatLaws.{Sole}

pub took_filled : {X : Type 0} (F : Format X) (bytes : List ℕ) (x : X) (rest : List ℕ) → Took F bytes x rest → rest ≡ replicate (length rest) 0 → Took (filled (length bytes) F) bytes x []
took_filled F bytes x rest took zeros =
    let n : length rest ≡ length bytes - length (F.spelled x) = omega (arith, ap length took.joined, length-append (F.spelled x) rest) in
    record {
      is = took.is;
      joined = took.joined ∙ ap (λ (y : List ℕ). F.spelled x ++ y) (zeros ∙ ap (λ (k : ℕ). replicate k 0) n) ∙ sym (append-nil (F.spelled x ++ replicate (length bytes - length (F.spelled x)) 0));
    }

pub sticks_filled : {X : Type 0} (F : Format X) (n : ℕ) (bytes : List ℕ) (left : ℕ) → Sticks F bytes left → Sticks (filled n F) bytes left
sticks_filled F n bytes left s =
    let pad : List ℕ = replicate (n - length (F.spelled s.value)) 0 in
    record {
      good = s.good;
      bad = s.bad;
      joined = s.joined;
      count = s.count;
      value = s.value;
      is = s.is;
      more = s.more ++ pad;
      wanting = omega (arith, s.wanting, length-append s.more pad);
      begun = ap (λ (y : List ℕ). y ++ pad) s.begun ∙ append_assoc s.good s.more pad;
      here = λ b behind e x rest after is eq. s.here b behind e x (replicate (n - length (F.spelled x)) 0 ++ rest) after is (eq ∙ append_assoc (F.spelled x) (replicate (n - length (F.spelled x)) 0) rest);
    }

pub tail_sticks : {X : Type 0} (F : Format X) (bytes : List ℕ) (x : X) (k b : ℕ) (behind : List ℕ) → Sole F
    → Took F bytes x (replicate k 0 ++ (b ∷ behind)) → (b ≡ 0 → ⊥) → Sticks (filled (length bytes) F) bytes (length (b ∷ behind))
tail_sticks {X} F bytes x k b behind sole took set =
    let zeros : List ℕ = replicate k 0 in
    let padding : X → List ℕ = λ (y : X). replicate (length bytes - length (F.spelled y)) 0 in
    let size : length bytes - length (F.spelled x) ≡ k + (1 + length behind) =
    omega (arith, ap length took.joined, length-append (F.spelled x) (zeros ++ (b ∷ behind)), length-append zeros (b ∷ behind), length-replicate {A = ℕ} k 0) in
    let split : padding x ≡ zeros ++ replicate (1 + length behind) 0 = ap (λ (n : ℕ). replicate n 0) size ∙ sym (replicate-append-replicate {A = ℕ} k (1 + length behind) 0) in
    record {
      good = F.spelled x ++ zeros;
      bad = b ∷ behind;
      joined = took.joined ∙ sym (append_assoc (F.spelled x) zeros (b ∷ behind));
      count = refl;
      value = x;
      is = took.is;
      more = replicate (1 + length behind) 0;
      wanting = omega (arith, length-replicate {A = ℕ} (1 + length behind) 0);
      begun = ap (λ (y : List ℕ). F.spelled x ++ y) split ∙ sym (append_assoc (F.spelled x) zeros (replicate (1 + length behind) 0));
      here = λ b2 behind2 e y r after is eq.
          let eq2 : F.spelled x ++ (zeros ++ (b2 ∷ after)) ≡ F.spelled y ++ (padding y ++ r)
          = sym (append_assoc (F.spelled x) zeros (b2 ∷ after)) ∙ eq ∙ append_assoc (F.spelled y) (padding y) r in
          let two = sole.same x y (zeros ++ (b2 ∷ after)) (padding y ++ r) took.is is eq2 in
          let pads : zeros ++ (b2 ∷ after) ≡ padding x ++ r = two.1 ∙ ap (λ (z : X). padding z ++ r) (sym two.0) in
          let rest : b2 ∷ after ≡ replicate (1 + length behind) 0 ++ r
          = append_cancel_left zeros (b2 ∷ after) (replicate (1 + length behind) 0 ++ r) (pads ∙ ap (λ (z : List ℕ). z ++ r) split ∙ append_assoc zeros (replicate (1 + length behind) 0) r) in
          let n : ℕ = 1 + length behind in
          let long : 0 < length (replicate {A = ℕ} n 0) = omega (arith, length-replicate {A = ℕ} n 0) in
          let first : get_or (replicate n 0 ++ r) 0 0 ≡ 0 = get_or_append_left (replicate n 0) r 0 0 long ∙ get_or-replicate n 0 0 0 (omega arith) in
          set (ap (λ (z : List ℕ). get_or z 0 0) e ∙ ap (λ (z : List ℕ). get_or z 0 0) rest ∙ first);
    }
