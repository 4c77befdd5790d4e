use Rattle.std.proofs.Common.{◌≡◌, ℕ, ◌<◌, get_or}
use Rattle.std.specs.Prelude.{Contains}
use Rattle.tape_scan.specs.declared.assembling_chains.Chain.{Chain}
use Rattle.tape_scan.proofs.assembling.is_on_way.Given as goal

abbrev pub invariant-loop-i : goal.invariant-loop-i
invariant-loop-i l = (k : ℕ) (c : Chain) → k < l.i → get_or l.chains k c ≡ c → Contains c.places l.at → ⊥
