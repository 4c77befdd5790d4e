use Rattle.std.proofs.Common.{◌≤◌}
use Rattle.bench_tools.proofs.copying.keep_lines.Given as goal

abbrev pub invariant-loop-at : goal.invariant-loop-at
invariant-loop-at g l = l.start ≤ l.at
