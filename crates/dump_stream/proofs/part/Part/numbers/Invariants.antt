use Rattle.std.proofs.Common.{◌≡◌, ◌+◌, ◌*◌, ◌++◌, take, length}
use Rattle.std.specs.List.{flat_map}
use Rattle.dump_stream.specs.Fields.{spelled}
use Rattle.dump_stream.specs.Parts.{number_fields}
use Rattle.dump_stream.proofs.part.Part.numbers.Given as goal

abbrev pub invariant-loop-tag : goal.invariant-loop-tag
invariant-loop-tag l = (l.self ≡ l.fn.self ++ flat_map spelled (number_fields (take l.tag-index l.fields))) × (length l.self ≡ length l.fn.self + 5 * l.tag-index)
