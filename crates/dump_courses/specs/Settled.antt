-- WHAT IS SETTLED between two events of a dump.
use Rattle.std.specs.Prelude.{◌≡◌, ◌≢◌, ℕ, length}
use Rattle.plant_core.specs.Crashes.{State, IsSettled}
use Rattle.dump_job.specs.declared.fields.JobFields.{JobFields}
use Rattle.dump_job.specs.declared.fields.Phase.{Phase}
use Rattle.dump_job.specs.declared.fields.Phase.TheVariants as phase

-- all but what was put on the tape of this slot
pub record IsSettledBut (slot : ℕ) (s : State) : Type 0 where
  pub log : s.log_settled ≡ length s.log
  pub tapes : (k : ℕ) → k ≢ slot → s.settled k ≡ length (s.tape k)

-- all, or all but the tape in hand: by the phase of a dump
abbrev pub IsSettledAt : Phase → ℕ → State → Type 0
IsSettledAt phase.Tape slot s = IsSettled s
IsSettledAt phase.Clone slot s = IsSettledBut slot s
IsSettledAt phase.Head slot s = IsSettledBut slot s
IsSettledAt phase.Piece slot s = IsSettledBut slot s
IsSettledAt phase.VolumeEnd slot s = IsSettledBut slot s
IsSettledAt phase.PartEnd slot s = IsSettledBut slot s
IsSettledAt phase.DumpEnd slot s = IsSettledBut slot s
IsSettledAt phase.Over slot s = IsSettled s

-- what is settled between two events of this dump
abbrev pub IsSettledFor : JobFields → State → Type 0
IsSettledFor j s = IsSettledAt j.phase j.reel.slot s
