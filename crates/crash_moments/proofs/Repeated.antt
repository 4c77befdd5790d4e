-- Steps that may be taken again.
use Rattle.crash_moments.specs.Moments.{Moments, Leads}
use Rattle.crash_moments.proofs.Joining.{joined}

-- one call more of the same step, where two of them are one
pub followed : {D I : Type 0} (moments : Moments D I) (Step : I → I → Type 0) → ((a b c : I) → Step a b → Step b c → Step a c) → (old mid new : D)
    → Leads moments old mid Step → Leads moments mid new Step → Leads moments old new Step
followed moments Step both old mid new first second = joined moments old mid new Step Step Step first second (λ a b was step. step) (λ a b c was step left next. both a b c step next)
