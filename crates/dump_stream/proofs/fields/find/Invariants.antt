use Rattle.std.proofs.Common.{◌≡◌, drop}
use Rattle.dump_stream.specs.Fields.{payload_of}
use Rattle.dump_stream.proofs.fields.find.Given as goal

abbrev pub invariant-loop-field : goal.invariant-loop-field
invariant-loop-field l = payload_of l.tag (drop l.field-index l.fields) ≡ payload_of l.tag l.fields
