use Rattle.std.proofs.Common.{◌≡◌, ◌++◌, take}
use Rattle.std.specs.List.{flat_map}
use Rattle.crash_moments.specs.Moments.{Leads}
use Rattle.backup_top.specs.Tells.{TellsOn, OnlyTells}
use Rattle.backup_top.specs.Replies.{entry_line}
use Rattle.backup_top.proofs.telling.tell_entries.Given as goal

abbrev pub invariant-loop-entry : goal.invariant-loop-entry
invariant-loop-entry g l = (g.M.Media.tells → (g.M.Media.seen l.media).told ≡ (g.M.Media.seen l.fn.media).told ++ flat_map entry_line (take l.entry-index l.entries))
    × (OnlyTells g.M.Media.tells g.M.Media.seen g.M.Media.time g.M.Media.count g.M.Media.present g.M.Media.faults g.M.Media.tell_faults l.fn.media l.media
    × (g.M.Media.tells → Leads g.M.Media.time l.fn.media l.media (TellsOn (flat_map entry_line (take l.entry-index l.entries)) (g.M.Media.seen l.fn.media).told))
    × (g.M.Media.tell_faults l.media ≡ g.M.Media.tell_faults l.fn.media))
