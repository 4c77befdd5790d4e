-- What a search over the slots of a plant leaves.
use Rattle.std.specs.Prelude.{Result, Ok, Err}
use Rattle.tape_choice.specs.declared.fault.ChoiceFault.{ChoiceFault}
use Rattle.tape_choice.specs.declared.fault.ChoiceFault.TheVariants.{Failed, Memory}

-- this holds unless the outside refused
abbrev pub UnlessFailed : {T : Type 0} → Result T ChoiceFault → Type 0 → Type 0
UnlessFailed (Ok value) holds = holds
UnlessFailed (Err Failed) holds = Unit {0}
UnlessFailed (Err Memory) holds = holds
