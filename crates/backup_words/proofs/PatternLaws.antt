-- A word with which nothing is wrong is a pattern.
use Rattle.std.proofs.Common.{◌≡◌, ℕ, List, refl, Bool, true, false}
use Rattle.std.specs.Prelude.{Option, Some, None, if◌then◌else◌}
use Rattle.bk_text.specs.Patterns.{IsPattern}
use Rattle.volume_sets.specs.Testing.{is_pattern, pattern_place}
use Rattle.volume_sets.proofs.TestLaws.{tests_pattern}
use Rattle.backup_words.specs.declared.faults.ValueFault.{ValueFault}
use Rattle.backup_words.specs.declared.faults.ValueFault.TheVariants.{NoPattern}

form_by : (text : List ℕ) (t : Bool) (fault : ValueFault) → is_pattern text ≡ t → (if t then None else Some fault) ≡ None → IsPattern text
form_by text true fault e none = tests_pattern text e
form_by text false fault e none = absurd (cc)

-- a word with which nothing is wrong is a pattern
pub pattern_form : (text : List ℕ) (fault : ValueFault) → (if is_pattern text then None else Some fault) ≡ None → IsPattern text
pattern_form text fault none = form_by text (is_pattern text) fault refl none

none_by : (t : Bool) (place : ℕ) → None ≡ (if t then None else Some place) → None ≡ (if t then None else Some (NoPattern place))
none_by true place e = refl
none_by false place e = absurd cc

some_by : (t : Bool) (place at : ℕ) → Some at ≡ (if t then None else Some place) → Some (NoPattern at) ≡ (if t then None else Some (NoPattern place))
some_by true place at e = absurd cc
some_by false place at e = cc

-- what is told of a text, by its fault
pub told_none : (text : List ℕ) → None ≡ (if is_pattern text then None else Some (pattern_place text)) → None ≡ (if is_pattern text then None else Some (NoPattern (pattern_place text)))
told_none text e = none_by (is_pattern text) (pattern_place text) e

pub told_some : (text : List ℕ) (at : ℕ) → Some at ≡ (if is_pattern text then None else Some (pattern_place text)) → Some (NoPattern at) ≡ (if is_pattern text then None else Some (NoPattern (pattern_place text)))
told_some text at e = some_by (is_pattern text) (pattern_place text) at e
