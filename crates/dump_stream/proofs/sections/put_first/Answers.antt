use Rattle.std.proofs.Common.{ℕ, List, [], ◌∷◌, ◌++◌, ap, ◌∙◌}
use Rattle.std.specs.List.{flat_map}
use Rattle.dump_stream.specs.Fields.{spelled}
use Rattle.dump_stream.specs.Written.{number_field, text_field, byte_field}
use Rattle.dump_stream.proofs.PartLaws.{row6}
use Rattle.dump_stream.proofs.sections.put_first.Goals as goal

pub returns-clause-bytes : goal.returns-clause-bytes
returns-clause-bytes c =
    let h = c.args.header.now in
    row6 c.args.part.now (flat_map spelled (number_field 105 h.id ∷ number_field 118 h.stamp ∷ [])) (spelled (text_field 110 h.name)) (spelled (byte_field 115 h.in_service)) (spelled (byte_field 98 h.blessed)) (spelled (number_field 117 h.uniq)) (spelled (byte_field 116 h.kind))
    c.numbers.ensures.bytes
    (c.text.ensures.bytes ∙ ap (λ (x : List ℕ). c.numbers.new.self ++ spelled (text_field 110 x)) c.bytes.ensures.value)
    c.field.ensures.bytes
    c.field-2.ensures.bytes
    c.number.ensures.bytes
    c.field-3.ensures.bytes
