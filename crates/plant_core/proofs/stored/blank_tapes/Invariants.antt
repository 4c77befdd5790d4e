use Rattle.std.proofs.Common.{◌≡◌, ℕ, [], length}
use Rattle.plant_core.specs.Tapes.{records_at}
use Rattle.plant_core.proofs.stored.blank_tapes.Given as goal

abbrev pub invariant-loop-index : goal.invariant-loop-index
invariant-loop-index l = record { count : length l.tapes.items ≡ l.index; blank : (k : ℕ) → records_at l.tapes.items k ≡ [] }
