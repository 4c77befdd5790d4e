-- Zeros, and the first byte that isn't one.
use Rattle.std.proofs.Common.{◌≡◌, ℕ, ◌+◌, ◌-◌, ◌<◌, ◌≤◌, List, [], ◌∷◌, ◌++◌, length, take, drop, get_or, replicate, refl, sym, ap, subst, ◌∙◌, arith, length-append, length-drop, lit<}
use Rattle.std.specs.Prelude.{All}
use Rattle.std.proofs.lemmas.List.{length-take-le, take-append-drop, take-take, length-replicate, get_or-replicate, get_or_append_left, get_or-take, get_or-drop, replicate-append-replicate, replicate_more, take_more, drop_more, drop-append-le, drop-take}
use Rattle.std.proofs.lemmas.List.Elements.{All-append, All-take, All-replicate, All-from_get_or}
use Rattle.byte_formats.specs.Formats.{Format, Took, Sticks, filled, any_four, four_in}
use Rattle.byte_formats.proofs.FormatLaws.{Sole}
use Rattle.byte_formats.proofs.Filled.{tail_sticks}
use Rattle.byte_formats.specs.Bytes.{four}
use Rattle.tape_frames.specs.Heads.{IsFirstSet}
use Rattle.tape_frames.specs.Formats.{zeros_of, used_of}

pub zeros_more : (bytes : List ℕ) (at : ℕ) → at < length bytes → take at bytes ≡ replicate at 0 → get_or bytes at 0 ≡ 0 → take (at + 1) bytes ≡ replicate (at + 1) 0
zeros_more bytes at lt zeros none = take_more bytes at 0 lt ∙ ap (λ (x : List ℕ). x ++ get_or bytes at 0 ∷ []) zeros ∙ ap (λ (x : ℕ). replicate at 0 ++ x ∷ []) none ∙ replicate_more {X = ℕ} at 0

four_long : (n : ℕ) → length (four n) ≡ 4
unfolding four
four_long n = refl

-- ---- zeros behind fields

first_split : (rest : List ℕ) (at : ℕ) → IsFirstSet rest at → rest ≡ replicate at 0 ++ (get_or rest at 0 ∷ drop (at + 1) rest)
first_split rest at first =
    sym (take-append-drop at rest) ∙ ap (λ (x : List ℕ). x ++ drop at rest) first.1 ∙ ap (λ (x : List ℕ). replicate at 0 ++ x) (drop_more rest at 0 first.0)

pub whole_tail : {X : Type 0} (F : Format X) (body rest : List ℕ) (x : X) (at : ℕ) → Sole F → Took F body x rest → IsFirstSet rest at → Sticks (filled (length body) F) body (length rest - at)
whole_tail F body rest x at sole took first =
    let b = get_or rest at 0 in
    let behind : List ℕ = drop (at + 1) rest in
    let split : Took F body x (replicate at 0 ++ (b ∷ behind)) = record { is = took.is; joined = took.joined ∙ ap (λ (y : List ℕ). F.spelled x ++ y) (first_split rest at first) } in
    let left : length (b ∷ behind) ≡ length rest - at = omega (arith, length-drop (at + 1) rest, first.0) in
    subst (Sticks (filled (length body) F) body) left (tail_sticks F body x at b behind sole split first.2)

-- ---- where a part of stated length stops

mid : (w : List ℕ) (g : ℕ) (after : List ℕ) → get_or (w ++ (g ∷ after)) (length w) 0 ≡ g
mid [] g after = refl
mid (x ∷ w) g after = mid w g after

stuck_at : {X : Type 0} (F : Format X) (bytes : List ℕ) (at : ℕ) (x : X) (more : List ℕ) → at < length bytes → F.Is x → F.spelled x ≡ take at bytes ++ more → 0 < length more
    → ((y : X) (rest after : List ℕ) → F.Is y → take at bytes ++ (get_or bytes at 0 ∷ after) ≡ F.spelled y ++ rest → ⊥) → Sticks F bytes (length bytes - at)
stuck_at {X} F bytes at x more lt is begun wanting none = record {
  good = take at bytes;
  bad = drop at bytes;
  joined = sym (take-append-drop at bytes);
  count = length-drop at bytes;
  value = x;
  is = is;
  more = more;
  wanting = wanting;
  begun = begun;
  here = go;
}
  where
    go : (b : ℕ) (behind : List ℕ) → drop at bytes ≡ b ∷ behind → (y : X) (rest after : List ℕ) → F.Is y → take at bytes ++ (b ∷ after) ≡ F.spelled y ++ rest → ⊥
    go b behind e y rest after isy eq =
        let d = drop_more bytes at 0 lt in
        let same : get_or bytes at 0 ≡ b = cc in
        none y rest after isy (ap (λ (z : ℕ). take at bytes ++ (z ∷ after)) same ∙ eq)

-- what stands at the place, by either reading
at_place : (bytes after y rest : List ℕ) (at : ℕ) → at < length bytes → at < length y → take at bytes ++ (get_or bytes at 0 ∷ after) ≡ y ++ rest → get_or bytes at 0 ≡ get_or y at 0
at_place bytes after y rest at lt within e =
    let long : length (take at bytes) ≡ at = length-take-le at bytes (omega (arith, lt)) in
    sym (ap (λ (k : ℕ). get_or (take at bytes ++ (get_or bytes at 0 ∷ after)) k 0) (sym long) ∙ mid (take at bytes) (get_or bytes at 0) after)
    ∙ ap (λ (l : List ℕ). get_or l at 0) e ∙ get_or_append_left y rest 0 at within

-- ---- so many zeros

front_zeros : (n at : ℕ) (rest : List ℕ) → n ≤ length rest → IsFirstSet (take n rest) at → take at rest ≡ replicate at 0
front_zeros n at rest long first =
    sym (take-take at n rest (omega (arith, first.0, length-take-le n rest long))) ∙ first.1

first_byte : (n at : ℕ) (rest : List ℕ) → n ≤ length rest → IsFirstSet (take n rest) at → get_or rest at 0 ≡ 0 → ⊥
first_byte n at rest long first e = first.2 (get_or-take n rest at 0 (omega (arith, first.0, length-take-le n rest long)) ∙ e)

pub zeros_took : (n : ℕ) (bytes front rest : List ℕ) → n ≤ length bytes → front ≡ take n bytes → rest ≡ drop n bytes → front ≡ replicate (length front) 0 → Took (zeros_of n) bytes front rest
zeros_took n bytes front rest long is behind zeros = record {
  is = zeros ∙ ap (λ (k : ℕ). replicate k 0) (ap length is ∙ length-take-le n bytes long);
  joined = sym (take-append-drop n bytes) ∙ ap (λ (x : List ℕ). x ++ drop n bytes) (sym is) ∙ ap (λ (x : List ℕ). front ++ x) (sym behind);
}

pub zeros_sticks : (n : ℕ) (bytes front : List ℕ) (at : ℕ) → n ≤ length bytes → front ≡ take n bytes → IsFirstSet front at → Sticks (zeros_of n) bytes (length bytes - at)
zeros_sticks n bytes front at long is first_here =
    let first : IsFirstSet (take n bytes) at = subst (λ (x : List ℕ). IsFirstSet x at) is first_here in
    let small : at < n = omega (arith, first.0, length-take-le n bytes long) in
    let sum : at + (n - at) ≡ n = omega (arith, small) in
    let begun : replicate n 0 ≡ take at bytes ++ replicate (n - at) 0
    = sym (ap (λ (x : List ℕ). x ++ replicate (n - at) 0) (front_zeros n at bytes long first) ∙ replicate-append-replicate {A = ℕ} at (n - at) 0 ∙ ap (λ (k : ℕ). replicate k 0) sum) in
    stuck_at (zeros_of n) bytes at (replicate n 0) (replicate (n - at) 0) (omega (arith, small, long)) refl begun (omega (arith, small, length-replicate {A = ℕ} (n - at) 0)) (λ y rest after is e.
    let within : at < length y = omega (arith, small, ap length is, length-replicate {A = ℕ} n 0) in
    first_byte n at bytes long first (at_place bytes after y rest at (omega (arith, small, long)) within e ∙ ap (λ (l : List ℕ). get_or l at 0) is ∙ get_or-replicate n at 0 0 small))

-- ---- bytes with zeros from one on

pub used_took : (n used : ℕ) (bytes front blank rest : List ℕ) → n ≤ length bytes → ((i : ℕ) → get_or bytes i 0 < 256) → front ≡ take n bytes → blank ≡ drop used front → rest ≡ drop n bytes → blank ≡ replicate (length blank) 0 → Took (used_of n used) bytes front rest
used_took n used bytes front blank rest long fits is blank_is behind zeros =
    let size : length front ≡ n = ap length is ∙ length-take-le n bytes long in
    let left : length blank ≡ n - used = omega (arith, ap length blank_is, length-drop used front, size) in
    record {
      is = (
        size,
        subst (All (λ (b : ℕ). b < 256)) (sym is) (All-take (λ (b : ℕ). b < 256) n bytes (All-from_get_or (λ (b : ℕ). b < 256) bytes 0 (λ i _. fits i))),
        sym blank_is ∙ zeros ∙ ap (λ (k : ℕ). replicate k 0) left,
      );
      joined = sym (take-append-drop n bytes) ∙ ap (λ (x : List ℕ). x ++ drop n bytes) (sym is) ∙ ap (λ (x : List ℕ). front ++ x) (sym behind);
    }

-- zeros where the first other byte stands, and behind it
abbrev zeroed : ℕ → ℕ → List ℕ → List ℕ
zeroed n k bytes = take k bytes ++ replicate (n - k) 0

inner_front : (n from at : ℕ) (rest : List ℕ) → n ≤ length rest → from + at ≤ n → take at (drop from (take n rest)) ≡ take at (drop from rest)
inner_front n from at rest long le =
    let sum : from + (n - from) ≡ n = omega (arith, le) in
    ap (λ (k : ℕ). take at (drop from (take k rest))) (sym sum) ∙ ap (take at) (drop-take from (n - from) rest) ∙ take-take at (n - from) (drop from rest) (omega (arith, le))

zeroed_used : (n used at : ℕ) (bytes : List ℕ) → n ≤ length bytes → used + at ≤ n → take at (drop used (take n bytes)) ≡ replicate at 0 → drop used (zeroed n (used + at) bytes) ≡ replicate (n - used) 0
zeroed_used n used at bytes long le zeros =
    let front : List ℕ = take (used + at) bytes in
    let tail : List ℕ = replicate (n - (used + at)) 0 in
    let front_long : length front ≡ used + at = length-take-le (used + at) bytes (omega (arith, le, long)) in
    let sum : at + (n - (used + at)) ≡ n - used = omega (arith, le) in
    drop-append-le used front tail (omega (arith, front_long))
    ∙ ap (λ (x : List ℕ). x ++ tail) (drop-take used at bytes ∙ sym (inner_front n used at bytes long le) ∙ zeros)
    ∙ replicate-append-replicate {A = ℕ} at (n - (used + at)) 0
    ∙ ap (λ (m : ℕ). replicate m 0) sum

zero_at : (n used at : ℕ) (y : List ℕ) → length y ≡ n → used + at < n → drop used y ≡ replicate (n - used) 0 → get_or y (used + at) 0 ≡ 0
zero_at n used at y long lt zeros = sym (get_or-drop used y at 0) ∙ ap (λ (x : List ℕ). get_or x at 0) zeros ∙ get_or-replicate (n - used) at 0 0 (omega (arith, lt))

set_at : (n used at : ℕ) (bytes : List ℕ) → used + at < n → get_or (drop used (take n bytes)) at 0 ≡ get_or bytes (used + at) 0
set_at n used at bytes lt = get_or-drop used (take n bytes) at 0 ∙ get_or-take n bytes (used + at) 0 lt

pub used_sticks : (n used at : ℕ) (bytes front blank : List ℕ) → n ≤ length bytes → used ≤ n → ((i : ℕ) → get_or bytes i 0 < 256) → front ≡ take n bytes → blank ≡ drop used front
    → IsFirstSet blank at → Sticks (used_of n used) bytes (length bytes - (used + at))
used_sticks n used at bytes front_here blank long few fits is blank_is first_here =
    let first : IsFirstSet (drop used (take n bytes)) at = subst (λ (x : List ℕ). IsFirstSet x at) (blank_is ∙ ap (drop used) is) first_here in
    let lt : used + at < n = omega (arith, first.0, length-drop used (take n bytes), length-take-le n bytes long) in
    let front : List ℕ = take (used + at) bytes in
    let tail : List ℕ = replicate (n - (used + at)) 0 in
    let front_long : length front ≡ used + at = length-take-le (used + at) bytes (omega (arith, lt, long)) in
    let size : length (front ++ tail) ≡ n = omega (arith, length-append front tail, front_long, length-replicate {A = ℕ} (n - (used + at)) 0, lt) in
    let each : All (λ (b : ℕ). b < 256) (front ++ tail) = All-append (λ (b : ℕ). b < 256) front tail (All-take (λ (b : ℕ). b < 256) (used + at) bytes (All-from_get_or (λ (b : ℕ). b < 256) bytes 0 (λ i _. fits i))) (All-replicate (λ (b : ℕ). b < 256) (n - (used + at)) 0 (lit< tt)) in
    stuck_at (used_of n used) bytes (used + at) (front ++ tail) tail (omega (arith, lt, long)) (size, each, zeroed_used n used at bytes long (omega (arith, lt)) first.1) refl (omega (arith, lt, length-replicate {A = ℕ} (n - (used + at)) 0)) (λ y rest after is e.
    let within : used + at < length y = omega (arith, is.0, lt) in
    first.2 (set_at n used at bytes lt ∙ at_place bytes after y rest (used + at) (omega (arith, lt, long)) within e ∙ zero_at n used at y is.0 lt is.2))

-- ---- lengths of what was read

pub took_four_long : (low high : ℕ) (bytes : List ℕ) (n : ℕ) (rest : List ℕ) → Took (four_in low high) bytes n rest → length bytes ≡ 4 + length rest
took_four_long low high bytes n rest took = omega (arith, ap length took.joined, length-append (four n) rest, four_long n)

pub took_any_long : (bytes : List ℕ) (n : ℕ) (rest : List ℕ) → Took any_four bytes n rest → length bytes ≡ 4 + length rest
took_any_long bytes n rest took = omega (arith, ap length took.joined, length-append (four n) rest, four_long n)

pub took_zeros_long : (k : ℕ) (bytes x rest : List ℕ) → Took (zeros_of k) bytes x rest → length bytes ≡ k + length rest
took_zeros_long k bytes x rest took = omega (arith, ap length took.joined, length-append x rest, ap length took.is, length-replicate {A = ℕ} k 0)
