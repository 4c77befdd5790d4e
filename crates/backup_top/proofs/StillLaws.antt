-- A run whose status is that of a script that was run to its end.
use Rattle.std.proofs.Common.{◌≡◌, ◌⊎◌, inl, inr, Bool, ℕ, List, Result, Ok, Err, IfOk}
use Rattle.plant_core.specs.declared.plant.Plant.{Ghosts as Plant}
use Rattle.plant_core.specs.Effects.{told_by}
use Rattle.plant_media.specs.declared.open.OpenFault.{OpenFault}
use Rattle.plant_media.specs.declared.open.OpenFault.TheVariants as opening
use Rattle.cell_core.specs.declared.cell.Cell.{Ghosts as Cell}
use Rattle.tape_config.specs.declared.fault.ConfigFault.{ConfigFault}
use Rattle.tape_config.specs.declared.fault.ConfigFault.TheVariants as config
use Rattle.backup_replies.specs.Texts.{has_refusal}
use Rattle.backup_script.specs.declared.running.RunStop.{RunStop}
use Rattle.backup_script.specs.declared.running.RunStop.TheVariants as stop
use Rattle.backup_script.specs.Scripts.{Outcome}
use Rattle.backup_script.specs.Ended.{Ends}
use Rattle.backup_top.specs.declared.status.Status.{Status}
use Rattle.backup_top.specs.declared.status.Status.TheVariants.{Done, SomeRefused, Memory}
use Rattle.backup_top.specs.Answers.{run_status, stop_status, opening_status, config_status}

-- all lines were run
abbrev pub IsWhole : Status → Type 0
IsWhole s = (s ≡ Done) ⊎ (s ≡ SomeRefused)

stopped : (e : RunStop) → IsWhole (stop_status e) → ⊥
stopped stop.Read (inl is) = cc
stopped stop.Read (inr is) = cc
stopped stop.Plant (inl is) = cc
stopped stop.Plant (inr is) = cc
stopped stop.Cell (inl is) = cc
stopped stop.Cell (inr is) = cc
stopped stop.Output (inl is) = cc
stopped stop.Output (inr is) = cc
stopped stop.TooLong (inl is) = cc
stopped stop.TooLong (inr is) = cc
stopped stop.Memory (inl is) = cc
stopped stop.Memory (inr is) = cc
stopped (stop.BadLog at) (inl is) = cc
stopped (stop.BadLog at) (inr is) = cc

pub not_opened : (fault : OpenFault) → IsWhole (opening_status fault) → ⊥
not_opened opening.Failed (inl is) = cc
not_opened opening.Failed (inr is) = cc
not_opened (opening.BadLog at) (inl is) = cc
not_opened (opening.BadLog at) (inr is) = cc

pub not_configured : (fault : ConfigFault) → IsWhole (config_status fault) → ⊥
not_configured (config.BadLine line) (inl is) = cc
not_configured (config.BadLine line) (inr is) = cc
not_configured (config.PortTwice line) (inl is) = cc
not_configured (config.PortTwice line) (inr is) = cc
not_configured (config.SlotTwice line) (inl is) = cc
not_configured (config.SlotTwice line) (inr is) = cc
not_configured config.Memory (inl is) = cc
not_configured config.Memory (inr is) = cc

pub not_begun : IsWhole Memory → ⊥
not_begun (inl is) = cc
not_begun (inr is) = cc

-- what the script was run to
pub whole_ends : {D E : Type 0} (P : Plant D) (C : Cell E) (s : Outcome) (old new : D) (site : E) (left : List ℕ) (r : Result Bool RunStop) → IsWhole (run_status r)
    → IfOk r (λ refused. Ends P C s old new site left × (refused ≡ has_refusal (told_by s.effects))) → Ends P C s old new site left
whole_ends P C s old new site left (Ok refused) whole ran = ran.0
whole_ends P C s old new site left (Err e) whole ran = absurd (stopped e whole)
