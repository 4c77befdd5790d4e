use Rattle.std.proofs.Common.{◌≡◌, drop, map}
use Rattle.tape_choice.specs.Append.{greatest}
use Rattle.tape_choice.specs.Surveys.{joined}
use Rattle.tape_choice.proofs.lasts.last_of.Given as goal

abbrev pub invariant-loop-part : goal.invariant-loop-part
invariant-loop-part l = joined l.last (greatest (map (λ p. p.tape) (drop l.part-index l.parts))) ≡ joined l.fn.so_far (greatest (map (λ p. p.tape) l.parts))
