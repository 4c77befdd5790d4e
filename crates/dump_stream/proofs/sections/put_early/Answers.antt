use Rattle.std.proofs.Common.{ℕ, List, [], ◌∷◌, ◌++◌, ap, ◌∙◌}
use Rattle.std.specs.List.{flat_map}
use Rattle.dump_stream.specs.Fields.{spelled}
use Rattle.dump_stream.specs.Written.{number_field, short_field, byte_field, kind_byte, group_fields}
use Rattle.dump_stream.proofs.PartLaws.{row4}
use Rattle.dump_stream.proofs.sections.put_early.Goals as goal

pub returns-clause-bytes : goal.returns-clause-bytes
returns-clause-bytes c =
    let v = c.args.vnode.now in
    row4 c.args.part.now (spelled (byte_field 116 (kind_byte v.kind))) (spelled (short_field 108 v.links)) (flat_map spelled (number_field 118 v.data_version ∷ number_field 109 v.modified ∷ number_field 97 v.author ∷ number_field 111 v.owner ∷ [])) (flat_map spelled (group_fields v.group))
    (c.field.ensures.bytes ∙ ap (λ (b : ℕ). c.args.part.now ++ spelled (byte_field 116 b)) c.kind_code.ensures)
    c.short.ensures.bytes
    c.numbers.ensures.bytes
    c.put_group.ensures.bytes
