use Rattle.std.proofs.Common.{◌≡◌, map, take}
use Rattle.budb.proofs.database.Budb.ids.Given as goal

abbrev pub invariant-loop-dump : goal.invariant-loop-dump
invariant-loop-dump l = l.ids ≡ map (λ dump. dump.id) (take l.dump-index l.listed)
