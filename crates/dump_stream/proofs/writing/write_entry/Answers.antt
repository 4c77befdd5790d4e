use Rattle.std.proofs.Common.{ℕ, List, ◌++◌, ap, sym, ◌∙◌}
use Rattle.vnode_model.specs.declared.vnodes.Vnode.{Vnode}
use Rattle.vnode_model.specs.declared.increments.Entry.{Entry}
use Rattle.vnode_model.specs.declared.increments.Entry.TheVariants.{Whole}
use Rattle.dump_stream.specs.Stream.{section}
use Rattle.dump_stream.specs.Written.{section_of}
use Rattle.dump_stream.proofs.PartLaws.{section_parts}
use Rattle.dump_stream.proofs.writing.write_entry.Goals as goal

pub returns-in_ok-write_whole-in-Whole-clause-ok : goal.returns-in_ok-write_whole-in-Whole-clause-ok
returns-in_ok-write_whole-in-Whole-clause-ok c =
    c.in_ok-write_whole-in-Whole.ensures.ok ∙ ap (λ (x : List ℕ). c.args.out.now ++ x) (sym (section_parts (Whole c.in-Whole.vnode)))
    ∙ ap (λ (e : Entry). c.args.out.now ++ section (section_of e)) (sym c.in-Whole.is)
