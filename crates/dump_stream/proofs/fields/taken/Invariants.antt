use Rattle.std.proofs.Common.{◌≡◌}
use Rattle.std.specs.Vec.Iter.{into_iter_items}
use Rattle.dump_stream.specs.Fields.{payload_of}
use Rattle.dump_stream.proofs.fields.taken.Given as goal

abbrev pub invariant-loop-field : goal.invariant-loop-field
invariant-loop-field l = payload_of l.tag (into_iter_items l.field-iterator) ≡ payload_of l.tag l.fn.fields
