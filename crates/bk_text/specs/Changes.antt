-- What a call that may be refused leaves.
use Rattle.std.specs.Prelude.{◌≡◌, Result, Ok, Err}

-- This is left, or this fault is told and all is as before.
abbrev pub Changes : {X E : Type 0} → Result X E → X → Result (Unit {0}) E → X → Type 0
Changes outcome old (Ok done) new = outcome ≡ Ok new
Changes outcome old (Err fault) new = (outcome ≡ Err fault) × (new ≡ old)

-- The same, unless memory runs out, which is told by a fault of its own; there all is as before too.
abbrev pub ChangesUnless : {X E : Type 0} → E → Result X E → X → Result (Unit {0}) E → X → Type 0
ChangesUnless memory outcome old (Ok done) new = outcome ≡ Ok new
ChangesUnless memory outcome old (Err fault) new = ((fault ≡ memory → ⊥) → outcome ≡ Err fault) × (new ≡ old)
