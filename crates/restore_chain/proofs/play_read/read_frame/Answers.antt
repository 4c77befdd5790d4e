use Rattle.std.proofs.Common.{arith, subst}
use Rattle.plant_core.specs.declared.record.Kind.{Kind}
use Rattle.plant_core.specs.Records.{ShowsAt}
use Rattle.plant_effects.specs.Runs.{state_of}
use Rattle.restore_chain.proofs.RecordLaws.{none_past, shown_block, shown_mark, shown_bad}
use Rattle.restore_chain.proofs.play_read.read_frame.Goals as goal

pub returns-then-place-tape_len-clause-said : goal.returns-then-place-tape_len-clause-said
returns-then-place-tape_len-clause-said g c = λ told items reads.
    let P = g.P.Plant in
    let old = c.args.plant.now in
    none_past ((state_of P old).tape reads.slot) items c.args.place reads.read (omega (arith, c.tape_len.ensures, g.met.P.Plant.records_told old reads.slot told c.requires.sound reads.loaded))

pub returns-in-Ok-Mark-clause-said : goal.returns-in-Ok-Mark-clause-said
returns-in-Ok-Mark-clause-said g c = λ told items reads.
    let tape = (state_of g.P.Plant c.args.plant.now).tape reads.slot in
    shown_mark tape items c.args.place c.get_record.new.into reads.read
    (subst (λ (k : Kind). ShowsAt tape c.args.place k c.get_record.new.into) c.in-Ok-Mark.field-0-is (c.in-Ok-Mark.ensures.found told reads.slot reads.loaded))

pub returns-in-Ok-Bad-clause-said : goal.returns-in-Ok-Bad-clause-said
returns-in-Ok-Bad-clause-said g c = λ told items reads.
    let tape = (state_of g.P.Plant c.args.plant.now).tape reads.slot in
    shown_bad tape items c.args.place c.get_record.new.into reads.read
    (subst (λ (k : Kind). ShowsAt tape c.args.place k c.get_record.new.into) c.in-Ok-Bad.field-0-is (c.in-Ok-Bad.ensures.found told reads.slot reads.loaded))

pub returns-in-Ok-clause-said : goal.returns-in-Ok-clause-said
returns-in-Ok-clause-said g c = λ told items reads.
    let tape = (state_of g.P.Plant c.args.plant.now).tape reads.slot in
    shown_block c.one_item.ensures tape items c.args.place c.get_record.new.into c.in-Ok.found reads.read
    (subst (λ (k : Kind). ShowsAt tape c.args.place k c.get_record.new.into) c.in-Ok-Block.field-0-is (c.in-Ok-Block.ensures.found told reads.slot reads.loaded)) c.in-Ok.ensures
