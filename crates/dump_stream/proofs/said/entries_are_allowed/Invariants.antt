use Rattle.std.proofs.Common.{take}
use Rattle.std.specs.Prelude.{All}
use Rattle.dump_stream.specs.Allowed.{AllowedEntry}
use Rattle.dump_stream.proofs.said.entries_are_allowed.Given as goal

abbrev pub invariant-loop-entry : goal.invariant-loop-entry
invariant-loop-entry l = All AllowedEntry (take l.entry-index l.entries)
