use Rattle.std.proofs.Common.{◌≡◌, ◌++◌, take}
use Rattle.std.specs.Prelude.{filter}
use Rattle.std.specs.List.{flat_map}
use Rattle.budb_fold.specs.Lookups.{volume_of, dump_by, is_before}
use Rattle.budb_fold.proofs.latest_dumps.push_each.Given as goal

abbrev pub invariant-loop-name : goal.invariant-loop-name
invariant-loop-name l = l.dumps.items ≡ l.initial.dumps.items ++ filter (is_before l.before) (flat_map (λ name. dump_by l.dump (volume_of l.dump name)) (take l.name-index l.names))
