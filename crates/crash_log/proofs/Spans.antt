-- Which parts of a file a torn write leaves alone.
use Rattle.std.proofs.Common.{◌≡◌, ◌⊎◌, inl, inr, ℕ, ◌+◌, ◌-◌, ◌≤◌, List, ◌++◌, length, take, drop, sym, ◌∙◌, ap, arith, append_assoc, take-append-drop}
use Rattle.std.proofs.lemmas.List.{take-take, drop-take, drop-drop, drop_at, take_at, length-take-le}
use Rattle.media_core.specs.Media.{Torn, written}
use Rattle.crash_log.specs.Log.{span}
use Rattle.crash_log.specs.Fit.{SameBehind}

span_front : (a n at : ℕ) (l : List ℕ) → a + n ≤ at → span a n l ≡ drop a (take (a + n) (take at l))
span_front a n at l le = sym (drop-take a n l) ∙ ap (λ (m : List ℕ). drop a m) (sym (take-take (a + n) at l le))

span_back : (a n at : ℕ) (l : List ℕ) → at ≤ a → span a n l ≡ take n (drop (a - at) (drop at l))
span_back a n at l le =
    let sum : at + (a - at) ≡ a = omega arith in
    ap (λ (k : ℕ). take n (drop k l)) (sym sum) ∙ ap (λ (m : List ℕ). take n m) (sym (drop-drop (a - at) at l))

pub torn_span : (at m a n : ℕ) (old new : List ℕ) → Torn at m old new → (a + n ≤ at) ⊎ (at + m ≤ a) → span a n new ≡ span a n old
torn_span at m a n old new torn (inl before) = span_front a n at new before ∙ ap (λ (l : List ℕ). drop a (take (a + n) l)) torn.before ∙ sym (span_front a n at old before)
torn_span at m a n old new torn (inr after) = span_back a n (at + m) new after ∙ ap (λ (l : List ℕ). take n (drop (a - (at + m)) l)) torn.after ∙ sym (span_back a n (at + m) old after)

-- no bytes leave all alone
pub torn_none : (at n : ℕ) (old new : List ℕ) → n ≡ 0 → Torn at n old new → new ≡ old
torn_none at n old new none torn =
    let place : at + n ≡ at = omega (arith, none) in
    let behind : drop at new ≡ drop at old = ap (λ (k : ℕ). drop k new) (sym place) ∙ torn.after ∙ ap (λ (k : ℕ). drop k old) place in
    sym (take-append-drop at new) ∙ (λ i. torn.before i ++ behind i) ∙ take-append-drop at old

pub written_span : (at : ℕ) (bytes old : List ℕ) (n : ℕ) → at ≤ length old → length bytes ≡ n → span at n (written at bytes old) ≡ bytes
written_span at bytes old n within size =
    let front : length (take at old) ≡ at = length-take-le at old within in
    ap (λ (l : List ℕ). span at n l) (append_assoc (take at old) bytes (drop (at + length bytes) old))
    ∙ ap (λ (l : List ℕ). take n l) (drop_at (take at old) (bytes ++ drop (at + length bytes) old) at front)
    ∙ take_at bytes (drop (at + length bytes) old) n size

-- what is behind a range that was written stays, and so what is in front of it
pub same_behind : (at m : ℕ) (old new : List ℕ) → at + m ≤ 8192 → Torn at m old new → SameBehind old new
same_behind at m old new low torn = record { bytes = λ a n high. torn_span at m a n old new torn (inr (omega arith)); long = torn.no_shorter }
