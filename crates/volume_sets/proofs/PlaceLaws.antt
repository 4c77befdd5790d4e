-- The place where a text stops being a pattern.
use Rattle.std.proofs.Common.{◌≡◌, ℕ, ◌+◌, ◌<◌, ◌≤◌, List, [], ◌∷◌, length, drop, get_or, refl, sym, ◌∙◌, ap, subst, arith, inl, inr, Bool}
use Rattle.std.specs.Prelude.{Option, Some, None, MatchOption, if◌then◌else◌}
use Rattle.std.proofs.lemmas.Bool.{cases_lt, false_from_ne_true}
use Rattle.std.proofs.lemmas.List.{drop_more, length-drop}
use Rattle.bk_text.specs.Places.{FailsAt}
use Rattle.bk_text.specs.Patterns.{IsPattern}
use Rattle.bk_text.proofs.Fails.{one_place}
use Rattle.volume_sets.specs.declared.reading.State.{State}
use Rattle.volume_sets.specs.declared.reading.State.TheVariants.{Start}
use Rattle.volume_sets.specs.Reading.{after_byte, needs}
use Rattle.volume_sets.specs.Testing.{is_pattern, stops, pattern_place}
use Rattle.volume_sets.proofs.ParseLaws.{GoesPattern, pattern_begins, pattern_more, pattern_fails, pattern_whole, pattern_unended, pattern_nothing}
use Rattle.volume_sets.proofs.TestLaws.{tests_pattern, pattern_tests}

some_need : (n : ℕ) → 0 < n → n ≡ 0 → ⊥
some_need n some none = omega arith

at_end : (text : List ℕ) (state : State) → 0 < length text → GoesPattern (length text) text state → (IsPattern text → ⊥) → FailsAt IsPattern text (length text)
at_end text state some so_far none = elim (cases_lt 0 (needs state)) [
  | inl wants ↦ pattern_unended text state so_far (some_need (needs state) wants)
  | inr ends ↦ let nothing : needs state ≡ 0 = omega arith in absurd (none (pattern_whole text state some so_far nothing))
]

one_byte : (text rest : List ℕ) (state : State) (at : ℕ) (next : Option State) → at < length text → GoesPattern at text state → after_byte state at (get_or text at 0) ≡ next
    → ((after : State) → next ≡ Some after → FailsAt IsPattern text (stops after (at + 1) rest))
    → FailsAt IsPattern text (elim next [ None ↦ at | Some after ↦ stops after (at + 1) rest ])
one_byte text rest state at None within so_far e more = pattern_fails at text state within so_far e
one_byte text rest state at (Some after) within so_far e more = more after refl

fails_on : (rest text : List ℕ) (state : State) (at : ℕ) → 0 < length text → drop at text ≡ rest → at ≤ length text → GoesPattern at text state → (IsPattern text → ⊥) → FailsAt IsPattern text (stops state at rest)
fails_on [] text state at some is within so_far none =
    let ended : at ≡ length text = omega (arith, length-drop at text, ap length is) in
    subst (FailsAt IsPattern text) (sym ended) (at_end text state some (subst (λ (k : ℕ). GoesPattern k text state) ended so_far) none)
fails_on (b ∷ rest) text state at some is within so_far none =
    let in_text : at < length text = omega (arith, length-drop at text, ap length is) in
    let both : b ∷ rest ≡ get_or text at 0 ∷ drop (at + 1) text = sym is ∙ drop_more text at 0 in_text in
    let byte : b ≡ get_or text at 0 = cc in
    let behind : drop (at + 1) text ≡ rest = cc in
    subst (λ (c : ℕ). FailsAt IsPattern text (stops state at (c ∷ rest))) (sym byte)
    (one_byte text rest state at (after_byte state at (get_or text at 0)) in_text so_far refl
    (λ after e. fails_on rest text after (at + 1) some behind (omega arith) (pattern_more at text state after in_text so_far e) none))

pub pattern_fails_at : (text : List ℕ) → (IsPattern text → ⊥) → FailsAt IsPattern text (pattern_place text)
unfolding pattern_place
pattern_fails_at [] none = pattern_nothing [] refl
pattern_fails_at (b ∷ rest) none = fails_on (b ∷ rest) (b ∷ rest) Start 0 (omega arith) refl (omega arith) (pattern_begins (b ∷ rest)) none

-- the place that the parse of a pattern tells
pub told_place : (text : List ℕ) (at : ℕ) → FailsAt IsPattern text at → at ≡ pattern_place text
told_place text at fails = one_place IsPattern text at (pattern_place text) fails (pattern_fails_at text fails.not_whole)

-- what the search for a fault tells
pub fault_is : (text : List ℕ) (found : Option ℕ) → MatchOption found (IsPattern text) (λ at. FailsAt IsPattern text at) → found ≡ (if is_pattern text then None else Some (pattern_place text))
fault_is text None is = sym (ap (λ (t : Bool). if t then None else Some (pattern_place text)) (pattern_tests text is))
fault_is text (Some at) fails =
    sym (ap (λ (t : Bool). if t then None else Some (pattern_place text)) (false_from_ne_true (is_pattern text) (λ tests. fails.not_whole (tests_pattern text tests)))
    ∙ ap (λ (k : ℕ). Some k) (sym (told_place text at fails)))
