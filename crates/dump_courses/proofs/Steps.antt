-- A step of a dump, as a move from one point to the next.
use Rattle.std.proofs.Common.{◌≡◌, length, sym, ap}
use Rattle.std.specs.Prelude.{Some, None}
use Rattle.plant_core.specs.declared.plant.Plant.{Ghosts as Plant}
use Rattle.plant_core.specs.Crashes.{IsWithin}
use Rattle.plant_effects.specs.Runs.{state_of, Leaves, StaysQuiet}
use Rattle.plant_effects.proofs.Joining.{Fits}
use Rattle.cell_core.specs.declared.cell.Cell.{Ghosts as Cell}
use Rattle.budb.specs.Views.{BudbView}
use Rattle.dump_job.specs.declared.answer.StepAnswer.{StepAnswer}
use Rattle.dump_job.specs.declared.answer.StepAnswer.TheVariants as answer
use Rattle.dump_job.specs.declared.fields.JobFields.{JobFields}
use Rattle.dump_job.specs.declared.fields.Phase.{Phase}
use Rattle.dump_job.specs.declared.fields.Phase.TheVariants as phase
use Rattle.dump_job.specs.Jobs.{FitsAt, FitsJob}
use Rattle.dump_job.specs.Events.{Around, event}
use Rattle.dump_job.specs.Stepping.{HasStepped, IsAround, Does}
use Rattle.dump_courses.specs.declared.running.End.{End}
use Rattle.dump_courses.specs.declared.running.End.TheVariants.{Made, Refused}
use Rattle.dump_courses.specs.Scenes.{Scene}
use Rattle.dump_courses.specs.Courses.{Point, goes_on, around, next_event}
use Rattle.dump_courses.specs.Ahead.{DoneAhead}
use Rattle.dump_courses.specs.Running.{IsAtPoint, Moves, answer_of}
use Rattle.dump_courses.proofs.Ways.{SlotLaws, point_around, the_event, event_done, event_leaves, event_point, event_keeps}

-- what is known of a plant in front of a step
pub record IsReady {D : Type 0} (P : Plant D) (old : D) : Type 0 where
  pub slots : SlotLaws
  pub sound : P.sound old
  pub within : P.tells → IsWithin (state_of P old)
  pub fits : Fits P old
  pub log_told : P.tells → (P.view old).log_size ≡ length (state_of P old).log

-- a dump that fits it has it sound
fits_at : {D : Type 0} (P : Plant D) (p : Phase) (j : JobFields) (plant : D) → FitsAt P p j plant → P.sound plant
fits_at P phase.Tape j plant fit = fit.next.sound
fits_at P phase.Clone j plant fit = fit.sound
fits_at P phase.Head j plant fit = fit.sound
fits_at P phase.Piece j plant fit = fit.sound
fits_at P phase.VolumeEnd j plant fit = fit.sound
fits_at P phase.PartEnd j plant fit = fit.sound
fits_at P phase.DumpEnd j plant fit = fit.sound
fits_at P phase.Over j plant fit = fit.sound

pub fit_sound : {D : Type 0} (P : Plant D) (j : JobFields) (plant : D) → FitsJob P j plant → P.sound plant
fit_sound P j plant fit = fits_at P j.phase j plant fit.tape

has_stepped : (end : End) → HasStepped (answer_of end)
has_stepped (Made id) = tt
has_stepped (Refused fault) = tt

module _ {D E : Type 0} (P : Plant D) (C : Cell E) (budb budb_after : BudbView) (old new : D) (site site_after : E) (job job_after : JobFields) (ready : IsReady P old) (told : P.tells) (told_cell : C.tells) (s : Scene) (p : Point) (at : IsAtPoint P C s p budb old site job) where
  does_next : (told_answer : StepAnswer) → ((a : Around) → IsAround P C a budb old site → Does P (event a job) told_answer budb budb_after old new job_after) → Does P (next_event s p) told_answer budb budb_after old new job_after
  does_next told_answer does =
      the_event P C s p budb budb_after old new site site_after job job_after told_answer at
      (does (around s p) (point_around P C s ready.slots told told_cell p budb old site job (ready.log_told told) at))

  pub step_done : (told_answer : StepAnswer) → ((a : Around) → IsAround P C a budb old site → Does P (event a job) told_answer budb budb_after old new job_after) → HasStepped told_answer → DoneAhead P (next_event s p).effects old new
  step_done told_answer does stepped =
      event_done P C s p budb budb_after old new site site_after job job_after told_answer ready.sound ready.within (does_next told_answer does) stepped

  pub step_leaves : (told_answer : StepAnswer) → ((a : Around) → IsAround P C a budb old site → Does P (event a job) told_answer budb budb_after old new job_after) → Leaves P (next_event s p).effects old new
  step_leaves told_answer does =
      event_leaves P C s p budb budb_after old new site site_after job job_after told_answer ready.sound ready.within ready.fits (does_next told_answer does)

  pub step_more : ((a : Around) → IsAround P C a budb old site → Does P (event a job) answer.More budb budb_after old new job_after) → StaysQuiet P old new → C.list site_after ≡ C.list site → Moves P C s p (next_event s p) None budb_after new site_after job_after
  step_more does stays list = (
    ap goes_on (sym ((does_next answer.More does).answers tt)),
    event_point P C s p budb budb_after old new site site_after job job_after answer.More told at (step_done answer.More does tt) (does_next answer.More does) tt stays list,
  )

  pub step_last : (end : End) → ((a : Around) → IsAround P C a budb old site → Does P (event a job) (answer_of end) budb budb_after old new job_after) → Moves P C s p (next_event s p) (Some end) budb_after new site_after job_after
  step_last end does = (
    sym ((does_next (answer_of end) does).answers (has_stepped end)),
    event_keeps P C s p budb budb_after old new site site_after job job_after (answer_of end) told at (step_done (answer_of end) does (has_stepped end)) (does_next (answer_of end) does) (has_stepped end),
  )
