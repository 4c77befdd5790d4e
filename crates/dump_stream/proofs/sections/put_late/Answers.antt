use Rattle.std.proofs.Common.{ℕ, List, [], ◌∷◌, ◌++◌}
use Rattle.std.specs.List.{flat_map}
use Rattle.dump_stream.specs.Fields.{spelled}
use Rattle.dump_stream.specs.Written.{number_field, short_field, access_fields}
use Rattle.dump_stream.proofs.PartLaws.{row3}
use Rattle.dump_stream.proofs.sections.put_late.Goals as goal

pub returns-clause-bytes : goal.returns-clause-bytes
returns-clause-bytes c =
    let v = c.args.vnode.now in
    row3 c.args.part.now (spelled (short_field 98 v.mode)) (flat_map spelled (number_field 112 v.parent ∷ number_field 115 v.server_modified ∷ [])) (flat_map spelled (access_fields v.kind v.access))
    c.short.ensures.bytes
    c.numbers.ensures.bytes
    c.put_access.ensures.bytes
