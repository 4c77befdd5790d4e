use Rattle.std.proofs.Common.{◌≡◌, ◌≤◌, take}
use Rattle.backup_session.specs.Verified.{lost_count}
use Rattle.backup_session.proofs.verifying.lost_count.Given as goal

abbrev pub invariant-loop-group : goal.invariant-loop-group
invariant-loop-group l = record { counted : l.count ≡ lost_count (take l.group-index l.groups); few : l.count ≤ l.group-index }
