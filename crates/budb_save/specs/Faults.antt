-- What holds of a save's answer.
use Rattle.std.specs.Prelude.{Result, Ok, Err}
use Rattle.budb_save.specs.declared.saving.Saved.{Saved}
use Rattle.budb_save.specs.declared.fault.SaveFault.{SaveFault}
use Rattle.budb_save.specs.declared.fault.SaveFault.TheVariants as saves

-- this holds unless the outside refused or memory ran out
abbrev pub UnlessStopped : Result Saved SaveFault → Type 0 → Type 0
UnlessStopped (Ok saved) holds = holds
UnlessStopped (Err saves.NoTape) holds = holds
UnlessStopped (Err saves.TooBig) holds = holds
UnlessStopped (Err saves.Failed) holds = Unit {0}
UnlessStopped (Err saves.Memory) holds = Unit {0}

-- this holds of a refusal that isn't the outside's
abbrev pub WhereRefused : Result Saved SaveFault → Type 0 → Type 0
WhereRefused (Ok saved) holds = Unit {0}
WhereRefused (Err saves.NoTape) holds = holds
WhereRefused (Err saves.TooBig) holds = holds
WhereRefused (Err saves.Failed) holds = Unit {0}
WhereRefused (Err saves.Memory) holds = holds
