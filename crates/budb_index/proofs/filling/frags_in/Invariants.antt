use Rattle.std.proofs.Common.{◌≡◌, length, take}
use Rattle.budb_links.specs.Frags.{frags_of}
use Rattle.budb_index.proofs.filling.frags_in.Given as goal

abbrev pub invariant-loop-dump : goal.invariant-loop-dump
invariant-loop-dump l = l.count ≡ length (frags_of (take l.dump-index l.listed))
