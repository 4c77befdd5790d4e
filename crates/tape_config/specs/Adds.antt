-- What a line leaves of those before it.
use Rattle.std.specs.Prelude.{◌≡◌, ◌⊎◌, Result, Ok, Err}
use Rattle.tape_config.specs.declared.fault.ConfigFault.{ConfigFault}
use Rattle.tape_config.specs.declared.fault.ConfigFault.TheVariants.{Memory}

-- this is left, or this fault is told, unless memory runs out
abbrev pub Adds : {A : Type 0} → Result A ConfigFault → Result (Unit {0}) ConfigFault → A → Type 0
Adds outcome (Ok done) after = outcome ≡ Ok after
Adds outcome (Err fault) after = (outcome ≡ Err fault) ⊎ (fault ≡ Memory)
