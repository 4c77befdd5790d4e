use Rattle.std.proofs.Common.{◌≡◌, drop}
use Rattle.std.specs.List.{flat_map}
use Rattle.tape_choice.specs.Append.{greatest, tapes_in, last_tape}
use Rattle.tape_choice.specs.Surveys.{joined}
use Rattle.tape_choice.proofs.lasts.last_tape.Given as goal

abbrev pub invariant-loop-dump : goal.invariant-loop-dump
invariant-loop-dump l = joined l.last (greatest (flat_map (tapes_in l.fn.initial) (drop l.dump-index l.listed))) ≡ last_tape l.listed l.fn.initial
