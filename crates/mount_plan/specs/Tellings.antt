-- Faults that are told of one name.
use Rattle.restore_chain.specs.declared.fault.RestoreFault.{RestoreFault}
use Rattle.restore_chain.specs.declared.fault.RestoreFault.TheVariants as faults

-- a fault that is told of one name: none of the outside, and none of memory
abbrev pub IsTold : RestoreFault → Type 0
IsTold faults.NoDump = Unit {0}
IsTold (faults.MissingDump id) = Unit {0}
IsTold (faults.MissingTape name initial) = Unit {0}
IsTold (faults.BaseLacks number) = Unit {0}
IsTold (faults.BadOnTape tape place) = Unit {0}
IsTold faults.TooLarge = Unit {0}
IsTold faults.Failed = ⊥
IsTold faults.Memory = ⊥
