-- What is so of a plant while a dump is on its way.
use Rattle.std.specs.Prelude.{◌≡◌, ℕ, true, List, ◌++◌, Option, Some, None}
use Rattle.plant_core.specs.declared.plant.Plant.{Ghosts as Plant}
use Rattle.plant_core.specs.Effects.{Effect, come}
use Rattle.plant_effects.specs.Runs.{state_of, Leaves}
use Rattle.cell_core.specs.declared.cell.Cell.{Ghosts as Cell}
use Rattle.budb.specs.Views.{BudbView}
use Rattle.budb.specs.Kept.{Keeps}
use Rattle.dump_job.specs.declared.answer.StepAnswer.{StepAnswer}
use Rattle.dump_job.specs.declared.answer.StepAnswer.TheVariants as answer
use Rattle.dump_job.specs.declared.fields.JobFields.{JobFields}
use Rattle.dump_job.specs.Events.{Event}
use Rattle.dump_courses.specs.declared.running.End.{End}
use Rattle.dump_courses.specs.declared.running.End.TheVariants.{Made, Refused}
use Rattle.dump_courses.specs.Ahead.{IsAhead, DoneAhead}
use Rattle.dump_courses.specs.Scenes.{Scene}
use Rattle.dump_courses.specs.Courses.{Point, goes_on, behind, course}

-- ---- a dump on its way

-- What stands there is this point of a dump, of whose tapes more may be settled.
pub record IsAtPoint {D E : Type 0} (P : Plant D) (C : Cell E) (s : Scene) (p : Point) (budb : BudbView) (plant : D) (site : E) (has : JobFields) : Type 0 where
  pub keeps : Keeps p.log p.state.log budb
  pub state : IsAhead p.state (state_of P plant)
  pub slots : (P.view plant).slots ≡ s.slots
  pub present : (k : ℕ) → (P.view plant).present k ≡ s.present k
  pub cell : C.list site ≡ s.cell
  pub job : has ≡ p.job

-- the end of a dump, as its last step answers it
abbrev pub answer_of : End → StepAnswer
answer_of (Made id) = answer.Done id
answer_of (Refused fault) = answer.Refused fault

-- an event was done: the dump goes on from the point behind it, or it is over, and the database keeps the log
abbrev pub Moves : {D E : Type 0} → Plant D → Cell E → Scene → Point → Event → Option End → BudbView → D → E → JobFields → Type 0
Moves P C s p e None budb plant site job = (goes_on e.answer ≡ true) × IsAtPoint P C s (behind p e) budb plant site job
Moves P C s p e (Some end) budb plant site job = (e.answer ≡ answer_of end) × Keeps (p.log ++ e.changes) (come e.effects p.state).log budb

-- some events were done, and from this point on the rest of the course is left
pub record IsOnWay {D E : Type 0} (P : Plant D) (C : Cell E) (s : Scene) (p : Point) (old : D) (budb : BudbView) (plant : D) (site : E) (job : JobFields) : Type 0 where
  pub effects : List Effect
  pub now : Point
  pub at : IsAtPoint P C s now budb plant site job
  pub state : now.state ≡ come effects p.state
  pub done : DoneAhead P effects old plant
  pub leaves : Leaves P effects old plant
  pub rest : course s p ≡ record { effects = effects ++ (course s now).effects; log = (course s now).log; answer = (course s now).answer }

-- all events were done, and the database keeps the log
pub record IsEnded {D : Type 0} (P : Plant D) (s : Scene) (p : Point) (end : End) (budb : BudbView) (old new : D) : Type 0 where
  pub answer : (course s p).answer ≡ answer_of end
  pub keeps : Keeps (course s p).log (come (course s p).effects p.state).log budb
  pub done : DoneAhead P (course s p).effects old new
