use Rattle.std.proofs.Common.{◌≡◌, ◌≤◌, ◌+◌, ◌-◌, length}
use Rattle.backup_script.specs.Lines.{TookPiece}
use Rattle.backup_script.proofs.lines.take_line.Given as goal

abbrev pub invariant-loop-taken : goal.invariant-loop-taken
invariant-loop-taken g l = record {
  within : l.taken ≤ 16777217;
  count : l.taken ≡ l.fn.taken + length l.line;
  took : g.S.Source.tells → TookPiece (g.S.Source.left l.fn.source) (g.S.Source.left l.source) l.line;
  same : g.S.Source.faults l.source ≡ g.S.Source.faults l.fn.source;
}

abbrev pub decreases-loop-taken : goal.decreases-loop-taken
decreases-loop-taken g l = 16777217 - l.taken
