use Rattle.std.proofs.Common.{ℕ, List, ◌++◌, ap, sym, ◌∙◌}
use Rattle.std.specs.List.{flat_map}
use Rattle.vnode_model.specs.declared.headers.HeaderFields.{HeaderFields}
use Rattle.dump_stream.specs.Fields.{spelled}
use Rattle.dump_stream.specs.Parts.{first_fields, middle_fields, last_fields}
use Rattle.dump_stream.proofs.PartLaws.{row3, spelled3}
use Rattle.dump_stream.proofs.sections.put_header.Goals as goal

pub returns : goal.returns
returns c =
    let h = c.args.header.now in
    let is = c.fields-header.ensures.value in
    let e1 = c.put_first.ensures.bytes ∙ ap (λ (x : HeaderFields). c.args.part.now ++ flat_map spelled (first_fields x)) is in
    let e2 = c.put_middle.ensures.bytes ∙ ap (λ (x : HeaderFields). c.put_first.new.part ++ flat_map spelled (middle_fields x)) is in
    let e3 = c.put_last.ensures.bytes ∙ ap (λ (x : HeaderFields). c.put_middle.new.part ++ flat_map spelled (last_fields x)) is in
    row3 c.args.part.now (flat_map spelled (first_fields h)) (flat_map spelled (middle_fields h)) (flat_map spelled (last_fields h)) e1 e2 e3
    ∙ ap (λ (x : List ℕ). c.args.part.now ++ x) (sym (spelled3 (first_fields h) (middle_fields h) (last_fields h)))
