-- What a crash leaves of turns: the archive of the first of their effects, for one count.
use Rattle.std.proofs.Common.{◌≡◌, ℕ, ◌≤◌, Bool, List, map, take}
use Rattle.std.specs.Prelude.{All, Contains}
use Rattle.cell_core.specs.Cells.{IsCell}
use Rattle.cell_core.specs.Fairness.{NoneIsMadeAfter, NoSourceHasBackupName}
use Rattle.cell_core.specs.Forms.{IsStoredForm}
use Rattle.budb_changes.specs.declared.records.DumpRecordFields.{DumpRecordFields}
use Rattle.budb_changes.specs.declared.change.Change.{Change}
use Rattle.plant_core.specs.Crashes.{State}
use Rattle.plant_core.specs.Effects.{Effect, come, Joint}
use Rattle.plant_core.specs.Stock.{Stock}
use Rattle.tape_scan.specs.Slots.{Slot}
use Rattle.archive_model.specs.Archives.{Archive, listed_of, Holds}
use Rattle.archive_model.specs.Turns.{is_here, StillHeld, remaining}
use Rattle.archive_model.proofs.StillLaws.{image_still_held}
use Rattle.dump_forms.specs.Journals.{IsJournalAfter}
use Rattle.dump_courses.specs.Scenes.{Scene}
use Rattle.dump_commands.specs.Answers.{Contents}
use Rattle.dump_archives.proofs.Keeping.{archive_at, kept_after}
use Rattle.dump_archives.proofs.Slots.{ReadOnce}
use Rattle.job_pool.specs.declared.turn.Turn.{Turn}
use Rattle.job_pool.specs.Pools.{PoolPoint, interleaved}
use Rattle.budb_changes.specs.declared.change.Change.{Change}
use Rattle.plant_core.specs.Crashes.{State}
use Rattle.pool_laws.specs.Underway.{KeepsAll, AllUnderway}
use Rattle.pool_laws.specs.Left.{ImageHolds}
use Rattle.pool_laws.proofs.Pool.{course_kept}

-- an image of effects that keep the archive, one after the other
pub image_of : (s : Scene) (top : ℕ) (grown : Contents) (log new : List Change) (t : State) (effects : List Effect) → KeepsAll s top grown log t effects new → (old c : Stock) → (joint : Joint t effects old c) → ImageHolds s grown log t effects joint.count c
image_of s top grown log new t effects kept old c joint =
    let k = kept_after s.slots s.present grown (λ (d : DumpRecordFields). d.id ≤ top) joint.count effects t log new kept.way in
    let image = image_still_held (come (take joint.count effects) t) c (archive_at s.slots s.present grown k.0 (come (take joint.count effects) t).tape) k.2.0 k.2.1 joint.left in
    record {
      changes = k.0;
      journal = k.1;
      records = k.2.0;
      slots = image.0;
      here = image.1;
      still = image.2;
      holds = image.3;
    }

module _ (once : ReadOnce) (s : Scene) (time top : ℕ) (grown : Contents) (is_cell : IsCell s.cell) (stored : All IsStoredForm s.cell) (made : NoneIsMadeAfter time s.cell) (named : NoSourceHasBackupName s.cell) where
  pub course_image : (turns : List Turn) (p : PoolPoint) → AllUnderway s time top grown p → (old c : Stock) → (joint : Joint p.state (interleaved s p turns).effects old c) → ImageHolds s grown p.log p.state (interleaved s p turns).effects joint.count c
  course_image turns p u old c joint =
      image_of s top grown p.log (interleaved s p turns).log p.state (interleaved s p turns).effects (course_kept once s time top grown is_cell stored made named turns p u).0 old c joint
