-- A state that is settled whole.
use Rattle.std.specs.Prelude.{length}
use Rattle.plant_core.specs.Crashes.{State}

-- the same state, and all that was put is settled
abbrev pub settled_whole : State → State
settled_whole s = record s { log_settled = length s.log; settled = λ k. length (s.tape k) }
