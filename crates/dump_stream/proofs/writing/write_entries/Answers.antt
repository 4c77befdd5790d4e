use Rattle.std.proofs.Common.{ℕ, ◌+◌, List, ◌++◌, take, drop, get_or, subst, sym}
use Rattle.vnode_model.specs.declared.increments.Entry.{Entry}
use Rattle.dump_stream.specs.Stream.{section}
use Rattle.dump_stream.specs.Written.{section_of}
use Rattle.dump_stream.specs.Parts.{HoldsFront}
use Rattle.dump_stream.proofs.PartLaws.{sections_of, front_behind, front_first, front_is, sections_parts, on_err}
use Rattle.dump_stream.proofs.writing.write_entries.Goals as goal

pub returns-in_err-write_entry-clause-err : goal.returns-in_err-write_entry-clause-err
returns-in_err-write_entry-clause-err c =
    let es = c.args.entries.now in
    let i = c.loop-entry.entry-index in
    let item = c.entry-item.result in
    let old = c.args.out.now in
    let new = c.write_entry.new.out in
    let here : HoldsFront c.loop-entry.out (section (section_of (get_or es i item))) new =
    subst (λ (e : Entry). HoldsFront c.loop-entry.out (section (section_of e)) new) c.entry-item.is c.in_err-write_entry.ensures.err in
    let upto = sections_of (take i es) ++ section (section_of (get_or es i item)) in
    let front = front_behind old c.loop-entry.out (sections_of (take i es)) (section (section_of (get_or es i item))) new c.loop-entry.invariant here in
    let whole : HoldsFront old (sections_of es) new =
    front_is old (upto ++ sections_of (drop (i + 1) es)) (sections_of es) new (sym (sections_parts es i item c.loop-entry-test.true)) (front_first old upto (sections_of (drop (i + 1) es)) new front) in
    on_err c.from_residual.result (HoldsFront old (sections_of es) new) whole
