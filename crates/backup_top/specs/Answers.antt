-- The status of each answer of what a run calls.
use Rattle.std.specs.Prelude.{Bool, true, false, Result, Ok, Err}
use Rattle.plant_media.specs.declared.open.OpenFault.{OpenFault}
use Rattle.plant_media.specs.declared.open.OpenFault.TheVariants as opening
use Rattle.tape_config.specs.declared.fault.ConfigFault.{ConfigFault}
use Rattle.tape_config.specs.declared.fault.ConfigFault.TheVariants as config
use Rattle.backup_script.specs.declared.running.RunStop.{RunStop}
use Rattle.backup_script.specs.declared.running.RunStop.TheVariants as stop
use Rattle.backup_top.specs.declared.status.Status.{Status}
use Rattle.backup_top.specs.declared.status.Status.TheVariants.{Done, SomeRefused, ReadFault, MediaFault, CellFault, Memory, BadConfig, BadLog, OutputFault, ScriptTooLong}

-- a script that was run to its end, by whether a line of a reply begins with `refused`
abbrev pub whole_status : Bool → Status
whole_status true = SomeRefused
whole_status false = Done

-- the status of a script that was stopped
abbrev pub stop_status : RunStop → Status
stop_status stop.Read = ReadFault
stop_status stop.Plant = MediaFault
stop_status stop.Cell = CellFault
stop_status stop.Output = OutputFault
stop_status stop.TooLong = ScriptTooLong
stop_status (stop.BadLog at) = BadLog at
stop_status stop.Memory = Memory

-- the status of a script: of its end, or of what stopped it
abbrev pub run_status : Result Bool RunStop → Status
run_status (Ok refused) = whole_status refused
run_status (Err stop) = stop_status stop

-- the status of an opening that failed, by what it failed
abbrev pub opening_status : OpenFault → Status
opening_status opening.Failed = MediaFault
opening_status (opening.BadLog at) = BadLog at

-- a configuration is refused at a line, whatever is wrong there
abbrev pub config_status : ConfigFault → Status
config_status (config.BadLine line) = BadConfig line
config_status (config.PortTwice line) = BadConfig line
config_status (config.SlotTwice line) = BadConfig line
config_status config.Memory = Memory
