-- The fault of a call that the system refused.
use Rattle.std.specs.Prelude.{◌≡◌, ⊤, ℕ, List}
use Rattle.std.specs.String.{string_bytes}
use Rattle.std.specs.declared.io.Error.{Error}
use Rattle.host_edge.specs.declared.fault.EdgeFault.{EdgeFault}
use Rattle.host_edge.specs.declared.fault.EdgeFault.TheVariants.{Unreadable, TooMany, Memory}

-- it names the path and the cause, or memory was refused
abbrev pub IsFaultAt : List ℕ → Error → EdgeFault → Type 0
IsFaultAt path cause (Unreadable place why) = (string_bytes place ≡ path) × (why ≡ cause)
IsFaultAt path cause TooMany = ⊥
IsFaultAt path cause Memory = ⊤
