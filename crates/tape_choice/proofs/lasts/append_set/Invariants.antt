use Rattle.std.proofs.Common.{◌≡◌, drop, map}
use Rattle.std.specs.List.{filter}
use Rattle.bk_text.specs.Blanks.{is_same_text}
use Rattle.tape_choice.specs.Append.{greatest, append_set}
use Rattle.tape_choice.specs.Surveys.{joined}
use Rattle.tape_choice.proofs.lasts.append_set.Given as goal

abbrev pub invariant-loop-dump : goal.invariant-loop-dump
invariant-loop-dump l = joined l.last (greatest (map (λ d. d.initial) (filter (λ d. is_same_text d.set l.set) (drop l.dump-index l.listed)))) ≡ append_set l.listed l.set
