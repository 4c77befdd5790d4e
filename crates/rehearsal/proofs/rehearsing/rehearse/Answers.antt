use Rattle.std.proofs.Common.{◌≡◌, subst}
use Rattle.std.specs.Prelude.{IfOk}
use Rattle.rehearsal.specs.declared.lines.Tally.{Tally}
use Rattle.rehearsal.specs.Lines.{tally_lines}
use Rattle.rehearsal.specs.Rehearsed.{rehearsed}
use Rattle.rehearsal.proofs.rehearsing.rehearse.Goals as goal

pub returns : goal.returns
unfolding rehearsed
returns c = subst (λ (t : Tally). IfOk c.lines_of.result (λ lines. lines ≡ tally_lines t)) c.in_ok-counts.ensures c.lines_of.ensures
