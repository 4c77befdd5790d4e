use Rattle.std.proofs.Common.{List, Ok, Err, refl, sym, ◌∙◌, subst}
use Rattle.std.specs.Prelude.{slice_get}
use Rattle.plant_core.specs.Records.{Record}
use Rattle.plant_effects.specs.Runs.{state_of}
use Rattle.tape_text.specs.Items.{Read}
use Rattle.archive_model.specs.Holding.{is_head_frame}
use Rattle.restore_chain.specs.declared.fault.LookFault.TheVariants.{Failed}
use Rattle.restore_chain.proofs.Items.{so_is, said_frame}
use Rattle.restore_chain.proofs.LoadLaws.{reads_look}
use Rattle.tape_scan.proofs.Looking.{looks_ill, looks_after, looks_as, a_load_leaves, a_load_loads, loads_keep_tape}
use Rattle.restore_chain.proofs.holders.has_head.Goals as goal

pub returns-in-Err-clause-looks : goal.returns-in-Err-clause-looks
returns-in-Err-clause-looks g c =
    let old = c.args.plant.now in
    let new = c.load_tape.new.plant in
    looks_ill g.P.Plant Failed old new (Err Failed) (a_load_leaves g.P.Plant old new c.args.slot c.load_tape.ensures.leaves) c.load_tape.ensures.stays c.in-Err.ensures.cause.failed refl

pub returns-in-Ok-read_frame-clause-is : goal.returns-in-Ok-read_frame-clause-is
returns-in-Ok-read_frame-clause-is g c = λ told items read.
    let P = g.P.Plant in
    let old = c.args.plant.now in
    let mid = c.load_tape.new.plant in
    let e = c.in-Ok.ensures in
    let loads = a_load_loads P old mid c.args.slot e.done c.load_tape.ensures.leaves e.log_size in
    let later : Read ((state_of P mid).tape c.args.slot) items = subst (λ (t : List Record). Read t items) (sym (loads_keep_tape P old mid loads told c.args.slot)) read in
    c.is_head-is.ensures ∙ so_is (is_head_frame c.args.id c.args.tape) (slice_get items c.args.place) c.in-Ok-read_frame.frame
    (said_frame items c.args.place c.in-Ok-read_frame.frame (c.in-Ok-read_frame.ensures.said told items (record { slot = c.args.slot; loaded = e.loaded; read = later })))

pub returns-in-Ok-read_frame-clause-looks : goal.returns-in-Ok-read_frame-clause-looks
returns-in-Ok-read_frame-clause-looks g c =
    let P = g.P.Plant in
    let old = c.args.plant.now in
    let mid = c.load_tape.new.plant in
    let new = c.read_frame.new.plant in
    let e = c.in-Ok.ensures in
    looks_after P Failed old mid new (Ok c.is_head-is.result) (a_load_loads P old mid c.args.slot e.done c.load_tape.ensures.leaves e.log_size) e.stays e.cause.stays
    (looks_as P Failed Failed mid new (Ok c.in-Ok-read_frame.frame) (Ok c.is_head-is.result) (λ is. absurd (cc)) (λ is. absurd (cc)) (reads_look P Failed mid new (Ok c.in-Ok-read_frame.frame) c.in-Ok-read_frame.ensures.done c.read_frame.ensures.leaves c.in-Ok-read_frame.ensures.numbers c.read_frame.ensures.stays c.in-Ok-read_frame.ensures.cause))

pub returns-in-Err-read_frame-clause-looks : goal.returns-in-Err-read_frame-clause-looks
returns-in-Err-read_frame-clause-looks g c =
    let P = g.P.Plant in
    let old = c.args.plant.now in
    let mid = c.load_tape.new.plant in
    let new = c.read_frame.new.plant in
    let e = c.in-Ok.ensures in
    looks_after P Failed old mid new (Err c.in-Err-read_frame.fault) (a_load_loads P old mid c.args.slot e.done c.load_tape.ensures.leaves e.log_size) e.stays e.cause.stays
    (looks_as P Failed Failed mid new (Err c.in-Err-read_frame.fault) (Err c.in-Err-read_frame.fault) (λ is. (cc)) (λ is. (cc)) (reads_look P Failed mid new (Err c.in-Err-read_frame.fault) c.in-Err-read_frame.ensures.done c.read_frame.ensures.leaves c.in-Err-read_frame.ensures.numbers c.read_frame.ensures.stays c.in-Err-read_frame.ensures.cause))

pub returns-in-Ok-read_frame-clause-loaded : goal.returns-in-Ok-read_frame-clause-loaded
returns-in-Ok-read_frame-clause-loaded g c = (c.in-Ok-read_frame.ensures.numbers (λ is. absurd (cc))).tape.loaded ∙ c.in-Ok.ensures.loaded
