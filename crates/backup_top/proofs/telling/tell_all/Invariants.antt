use Rattle.std.proofs.Common.{◌≡◌, ◌-◌, length}
use Rattle.backup_top.specs.Tells.{OnlyTells}
use Rattle.backup_top.proofs.TellLaws.{TellingAt}
use Rattle.backup_top.proofs.telling.tell_all.Given as goal

abbrev pub invariant-loop-at : goal.invariant-loop-at
invariant-loop-at g l = TellingAt g.M.Media.tells g.M.Media.seen g.M.Media.time l.at l.piece l.fn.media l.media
    × OnlyTells g.M.Media.tells g.M.Media.seen g.M.Media.time g.M.Media.count g.M.Media.present g.M.Media.faults g.M.Media.tell_faults l.fn.media l.media
    × (g.M.Media.tell_faults l.media ≡ g.M.Media.tell_faults l.fn.media)

abbrev pub decreases-loop-at : goal.decreases-loop-at
decreases-loop-at g l = length l.piece - l.at
