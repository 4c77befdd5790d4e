use Rattle.std.proofs.Common.{◌≡◌, ◌-◌, ◌++◌, length, map}
use Rattle.budb_fold.specs.Lookups.{record_of}
use Rattle.tape_choice.specs.Choice.{upwards, initials_above}
use Rattle.tape_choice.proofs.parents.initials_above.Given as goal

abbrev pub invariant-loop-step : goal.invariant-loop-step
invariant-loop-step l = l.initials ++ map (λ d. d.initial) (upwards l.listed (length l.listed - l._step) (record_of l.listed l.next)) ≡ initials_above l.listed l.fn.parent
