use Rattle.std.proofs.Common.{◌≡◌, ℕ, max, drop}
use Rattle.std.specs.Prelude.{Option, Some, None}
use Rattle.std.specs.Option.{unwrap_or}
use Rattle.budb_fold.specs.Lookups.{dumps_at, greatest_id, greatest_at}
use Rattle.budb_fold.proofs.lookups.greatest_at.Given as goal

-- the greatest of an id so far and another, where there are these
abbrev pub greater : Option ℕ → Option ℕ → Option ℕ
greater None rest = rest
greater (Some id) rest = Some (max id (unwrap_or rest 0))

abbrev pub invariant-loop-dump : goal.invariant-loop-dump
invariant-loop-dump l = greater l.greatest (greatest_id (dumps_at (drop l.dump-index l.listed) l.set l.level)) ≡ greatest_at l.listed l.set l.level
