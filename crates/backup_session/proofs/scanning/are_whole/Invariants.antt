use Rattle.std.proofs.Common.{◌≡◌, take, true}
use Rattle.std.specs.List.{list_all}
use Rattle.budb_fold.specs.Database.{is_whole}
use Rattle.backup_session.proofs.scanning.are_whole.Given as goal

abbrev pub invariant-loop-volume : goal.invariant-loop-volume
invariant-loop-volume l = list_all is_whole (take l.volume-index l.volumes) ≡ true
