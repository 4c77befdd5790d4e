-- WHAT IS ANSWERED FOR A NAME among several: what a restore of it alone gives.
use Rattle.std.specs.Prelude.{◌⊎◌, ℕ, Option, Ok, Err, List, [], ◌∷◌}
use Rattle.budb_changes.specs.declared.records.DumpRecordFields.{DumpRecordFields}
use Rattle.tape_scan.specs.Slots.{Slot}
use Rattle.restore_chain.specs.declared.chain_plan.ChainPlan.{ChainPlan}
use Rattle.restore_chain.specs.Planning.{Plans}
use Rattle.restore_chain.specs.Restoring.{PlaysPlan}
use Rattle.mount_plan.specs.declared.fault.Played.{Played}
use Rattle.mount_plan.specs.declared.fault.Played.TheVariants as played
use Rattle.mount_plan.specs.Tellings.{IsTold}

-- The plan of the name is refused, or there is a plan and this is what it plays to.
abbrev pub AnswersName : List Slot → List DumpRecordFields → Option ℕ → List ℕ → Played → Type 0
AnswersName slots listed before name (played.Volume volume) = (plan : ChainPlan) × Plans slots listed name before (Ok plan) × PlaysPlan slots listed plan (Ok volume)
AnswersName slots listed before name (played.Refused fault) =
    Plans slots listed name before (Err fault) ⊎ ((plan : ChainPlan) × Plans slots listed name before (Ok plan) × PlaysPlan slots listed plan (Err fault))

-- one answer for each name, in order
abbrev pub AnswersNames : List Slot → List DumpRecordFields → Option ℕ → List (List ℕ) → List Played → Type 0
AnswersNames slots listed before [] [] = Unit {0}
AnswersNames slots listed before (name ∷ names) (p ∷ ps) = AnswersName slots listed before name p × AnswersNames slots listed before names ps
AnswersNames slots listed before [] (p ∷ ps) = ⊥
AnswersNames slots listed before (name ∷ names) [] = ⊥

-- nothing of the outside, and nothing of memory
abbrev pub IsPlayed : Played → Type 0
IsPlayed (played.Volume volume) = Unit {0}
IsPlayed (played.Refused fault) = IsTold fault
