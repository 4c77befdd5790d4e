use Rattle.std.proofs.Common.{◌≡◌, ℕ, List, ◌∷◌, ◌++◌, map, sym, ap, subst, ◌∙◌}
use Rattle.vnode_model.specs.declared.headers.HeaderFields.{HeaderFields}
use Rattle.vnode_model.specs.Increments.{entry_from, selected}
use Rattle.dump_stream.specs.Forms.{closing}
use Rattle.dump_stream.specs.Stream.{Spells}
use Rattle.dump_stream.specs.Written.{written}
use Rattle.dump_stream.specs.Parts.{headers}
use Rattle.dump_stream.proofs.PartLaws.{sections_of}
use Rattle.dump_stream.proofs.LeftLaws.{begun}
use Rattle.dump_stream.proofs.WrittenLaws.{written_spells}
use Rattle.dump_stream.proofs.writer.Writer.new.Goals as goal

pub returns-clause-left : goal.returns-clause-left
unfolding written
returns-clause-left c =
    let v = c.args.volume in
    let header_is = c.header-header.ensures in
    let fields_are : c.fields-fields.result.now ≡ v.header = c.fields-fields.ensures.value ∙ header_is in
    let part_is : c.put_headers.new.part ≡ headers v.header.id v.header.name c.args.from c.args.to v.header =
    c.put_headers.ensures ∙ ap (λ (h : HeaderFields). headers h.id h.name c.args.from c.args.to c.header-header.result.now) fields_are
    ∙ ap (λ (h : HeaderFields). headers v.header.id v.header.name c.args.from c.args.to h) header_is in
    begun v.vnodes c.args.from c.put_headers.new.part
    ∙ ap (λ (x : List ℕ). (x ++ sections_of (map (entry_from c.args.from) v.vnodes)) ++ 4 ∷ closing) part_is

pub returns-clause-stream : goal.returns-clause-stream
returns-clause-stream c =
    let i = selected c.args.volume c.args.from c.args.to in
    subst (λ (x : List ℕ). Spells x i) (sym (returns-clause-left c)) (written_spells i c.volume_is_allowed.ensures)
