use Rattle.std.proofs.Common.{refl, Err}
use Rattle.restore_chain.specs.declared.fault.LookFault.TheVariants.{Failed}
use Rattle.tape_scan.proofs.Looking.{looks_ill, looks_after, a_load_loads, a_load_leaves}
use Rattle.restore_chain.proofs.LoadLaws.{reads_look, loaded_reads}
use Rattle.restore_chain.proofs.play_volume.play_on.Goals as goal

pub returns-in-Err-clause-looks : goal.returns-in-Err-clause-looks
returns-in-Err-clause-looks g c =
    let P = g.P.Plant in
    let old = c.args.plant.now in
    let new = c.load_tape.new.plant in
    looks_ill P Failed old new (Err Failed) (a_load_leaves P old new c.args.slot c.load_tape.ensures.leaves) c.load_tape.ensures.stays c.in-Err.ensures.cause.failed refl

pub returns-in-Ok-clause-ends : goal.returns-in-Ok-clause-ends
returns-in-Ok-clause-ends g c = λ told slots s has at.
    let P = g.P.Plant in
    let old = c.args.plant.now in
    let mid = c.load_tape.new.plant in
    let e = c.in-Ok.ensures in
    let loads = a_load_loads P old mid c.args.slot e.done c.load_tape.ensures.leaves e.log_size in
    c.play_fragment.ensures.ends told s.items (loaded_reads P slots old mid c.args.slot s told has at loads c.load_tape.ensures.stays e.loaded)

pub returns-in-Ok-clause-looks : goal.returns-in-Ok-clause-looks
returns-in-Ok-clause-looks g c =
    let P = g.P.Plant in
    let old = c.args.plant.now in
    let mid = c.load_tape.new.plant in
    let new = c.play_fragment.new.plant in
    let e = c.in-Ok.ensures in
    let f = c.play_fragment.ensures in
    let loads = a_load_loads P old mid c.args.slot e.done c.load_tape.ensures.leaves e.log_size in
    looks_after P Failed old mid new c.play_fragment.result loads c.load_tape.ensures.stays e.cause.stays (reads_look P Failed mid new c.play_fragment.result f.done f.leaves f.numbers f.stays f.cause)
