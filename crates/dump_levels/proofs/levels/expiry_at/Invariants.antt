use Rattle.std.proofs.Common.{◌≡◌, drop}
use Rattle.dump_levels.specs.Spans.{expiry_in}
use Rattle.dump_levels.proofs.levels.expiry_at.Given as goal

abbrev pub invariant-loop-level : goal.invariant-loop-level
invariant-loop-level l = expiry_in l.levels l.path ≡ expiry_in (drop l.level-index l.levels) l.path
