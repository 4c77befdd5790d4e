-- What is kept of a call that the system refused.
use Rattle.std.specs.Prelude.{◌≡◌, ℕ, List, Option, Some, None, IfSome}
use Rattle.std.specs.String.{string_bytes}
use Rattle.std.specs.declared.io.Error.{Error}
use Rattle.dir_cell.specs.declared.outside.Refusal.{Refusal}

-- what the system says of it, and the path, where there was memory for it
abbrev pub IsRefusalAt : List ℕ → Error → Option Refusal → Type 0
IsRefusalAt path cause None = ⊥
IsRefusalAt path cause (Some refusal) = (refusal.cause ≡ cause) × IfSome refusal.path (λ place. string_bytes place ≡ path)
