-- WHAT BEGINS A DUMP: its order and the tape on which it begins; or what it is refused by before anything is written. Of a dump that isn't tried
-- out this is all that its command asks.
use Rattle.std.specs.Prelude.{◌≡◌, ℕ, List, [], Option, Some, None, Result, Ok, Err}
use Rattle.tape_config.specs.declared.port.PortFields.{PortFields}
use Rattle.plant_core.specs.declared.plant.Plant.{Ghosts as Plant}
use Rattle.plant_core.specs.Effects.{Effect}
use Rattle.cell_core.specs.declared.cell.Cell.{Ghosts as Cell}
use Rattle.budb.specs.Views.{BudbView}
use Rattle.dump_job.specs.declared.fault.JobFault.{JobFault}
use Rattle.dump_job.specs.declared.first_tapes.FirstTape.{FirstTape}
use Rattle.dump_job.specs.declared.fields.JobFields.{JobFields}
use Rattle.dump_job.specs.declared.order.DumpOrder.{DumpOrder}
use Rattle.dump_courses.specs.Ahead.{DoneAhead}
use Rattle.dump_courses.specs.Scenes.{Scene, database_in, entries_in}
use Rattle.dump_courses.specs.Running.{IsAtPoint}
use Rattle.backup_words.specs.declared.command.DumpCommand.{DumpCommand}
use Rattle.dump_commands.specs.Orders.{asked_port, order_of}
use Rattle.dump_commands.specs.Refusals.{fault_text, fault_of, refusal_by}
use Rattle.dump_commands.specs.Answers.{tape_for, commit_of, begun_point}

-- a dump that begins: its order, and the tape on which it does
pub record Start : Type 0 where
  pub order : DumpOrder
  pub tape : FirstTape

-- it begins on the tape that was found, or is refused by what the search was refused by
abbrev pub start_on : DumpOrder → Result FirstTape JobFault → Result Start (List ℕ)
start_on o (Ok t) = Ok (record { order = o; tape = t })
start_on o (Err f) = Err (fault_text o f)

-- a refusal is told, or else this comes of it
abbrev pub start_or : Option (List ℕ) → Result Start (List ℕ) → Result Start (List ℕ)
start_or (Some text) otherwise = Err text
start_or None otherwise = otherwise

-- an order begins a dump, or the first of its refusals is told
abbrev pub order_start : Scene → DumpOrder → Result Start (List ℕ)
order_start s o = start_or (refusal_by (entries_in s) o (fault_of (tape_for s o))) (start_on o (tape_for s o))

-- the port is refused, or what the command orders begins
abbrev pub port_start : Scene → DumpCommand → Result PortFields (List ℕ) → Result Start (List ℕ)
port_start s a (Err text) = Err text
port_start s a (Ok port) = order_start s (order_of s.config (database_in s) (entries_in s) s.time a port)

-- WHAT BEGINS of a command, or the text of its refusal.
unfoldable pub dump_start : Scene → DumpCommand → Result Start (List ℕ)
dump_start s a = port_start s a (asked_port s.config (database_in s) a)

-- ---- what is owed of it

-- the one commit of a begin; nothing is done where it is refused
abbrev pub start_effects : Scene → Result Start (List ℕ) → List Effect
start_effects s (Ok b) = commit_of s b.order b.tape
start_effects s (Err text) = []

-- A dump was begun: this is its first point, and its commit was done. More may be settled.
pub record IsStarted {D E : Type 0} (P : Plant D) (C : Cell E) (s : Scene) (b : Start) (budb : BudbView) (old new : D) (site : E) (job : JobFields) : Type 0 where
  pub done : DoneAhead P (commit_of s b.order b.tape) old new
  pub at : IsAtPoint P C s (begun_point s b.order b.tape) budb new site job

-- A dump was begun as it is due, or the due refusal is told and the database is as it was, nothing being done but loads.
abbrev pub Starts : {D E : Type 0} → Plant D → Cell E → Scene → Result Start (List ℕ) → BudbView → BudbView → D → D → E → Result JobFields (List ℕ) → Type 0
Starts P C s due budb budb_after old new site (Ok job) = (b : Start) × (due ≡ Ok b) × IsStarted P C s b budb_after old new site job
Starts P C s due budb budb_after old new site (Err text) = (due ≡ Err text) × (budb_after ≡ budb) × DoneAhead P [] old new
