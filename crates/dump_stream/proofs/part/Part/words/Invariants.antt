use Rattle.std.proofs.Common.{◌≡◌, ◌+◌, ◌*◌, ◌++◌, take, length}
use Rattle.std.specs.List.{flat_map}
use Rattle.std.specs.Int.{w32, to_be_bytes}
use Rattle.dump_stream.proofs.part.Part.words.Given as goal

abbrev pub invariant-loop-word : goal.invariant-loop-word
invariant-loop-word l = (l.self ≡ l.fn.self ++ flat_map (to_be_bytes w32) (take l.word-index l.words)) × (length l.self ≡ length l.fn.self + 4 * l.word-index)
