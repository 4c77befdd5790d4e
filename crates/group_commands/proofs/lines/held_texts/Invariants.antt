use Rattle.std.proofs.Common.{◌≡◌, ◌+◌, ◌++◌, drop}
use Rattle.group_commands.specs.Lines.{held_texts}
use Rattle.group_commands.proofs.lines.held_texts.Given as goal

abbrev pub invariant-loop-i : goal.invariant-loop-i
invariant-loop-i l = l.lines ++ held_texts (l.i + 1) (drop l.i l.held) (drop l.i l.began) l.pool.jobs ≡ held_texts 1 l.held l.began l.pool.jobs
