use Rattle.std.proofs.Common.{◌≡◌, take}
use Rattle.std.specs.List.{fold}
use Rattle.backup_session.specs.Opening.{with_clone}
use Rattle.backup_session.proofs.opening.with_clones.Given as goal

abbrev pub invariant-loop-volume : goal.invariant-loop-volume
invariant-loop-volume l = l.greatest ≡ fold with_clone l.time (take l.volume-index l.volume-items)
