use Rattle.std.proofs.Common.{◌≡◌, ◌++◌, take}
use Rattle.dump_stream.proofs.PartLaws.{sections_of}
use Rattle.dump_stream.proofs.writing.write_entries.Given as goal

abbrev pub invariant-loop-entry : goal.invariant-loop-entry
invariant-loop-entry l = l.out ≡ l.fn.out ++ sections_of (take l.entry-index l.entries)
