use Rattle.std.proofs.Common.{◌≡◌, take}
use Rattle.std.specs.List.{flat_map}
use Rattle.group_commands.specs.Lines.{told_line}
use Rattle.group_commands.proofs.telling.jobs_text.Given as goal

abbrev pub invariant-loop-job : goal.invariant-loop-job
invariant-loop-job l = l.lines ≡ flat_map told_line (take l.job-index l.jobs)
