use Rattle.std.proofs.Common.{◌≡◌, ℕ, List, [], refl, sym, ◌∙◌, ap, subst}
use Rattle.std.specs.Prelude.{Option, Some, None, Err}
use Rattle.plant_core.specs.Effects.{putting_away}
use Rattle.plant_core.specs.Records.{Record}
use Rattle.plant_effects.specs.Runs.{state_of, loaded_of, Done, Leaves, SameNumbers}
use Rattle.plant_effects.proofs.Joining.{done_both, leaves_both}
use Rattle.tape_scan.proofs.Looking.{reads_are_loads, reads_leave, looks_well, looks_ill, looks_after, a_load_loads, a_load_leaves}
use Rattle.budb_save.specs.declared.choosing.Picked.{Picked}
use Rattle.budb_save.specs.declared.fault.LoadFault.TheVariants.{NoSave, Failed, Memory}
use Rattle.budb_save.specs.Reading.{IsLabelled}
use Rattle.budb_save.specs.Saving.{load_pick}
use Rattle.budb_save.specs.Loading.{ReadsChanges, ReadsPicked}
use Rattle.budb_save.proofs.LabelLaws.{labelled}
use Rattle.budb_save.proofs.LoadLaws.{failed_reads, memory_reads, found_ok}
use Rattle.budb_save.proofs.loading.find_changes.Goals as goal

-- ---- no slot, or a search that stopped

pub returns-in-Ok-None-clause-read : goal.returns-in-Ok-None-clause-read
returns-in-Ok-None-clause-read g c = λ told slots has.
    let P = g.P.Plant in
    subst (λ (o : Option Picked). ReadsPicked (state_of P c.args.plant.now).tape o (Err NoSave)) (sym c.in-Ok-None.field-0-is ∙ c.in-Ok-None.ensures.picked told slots has) tt

pub returns-in-Ok-None-clause-looks : goal.returns-in-Ok-None-clause-looks
returns-in-Ok-None-clause-looks g c =
    let P = g.P.Plant in
    let old = c.args.plant.now in
    let new = c.choose_save.new.plant in
    let e = c.in-Ok-None.ensures in
    looks_well P Failed old new (Err NoSave) (reads_are_loads P old new e.done c.choose_save.ensures.leaves e.numbers) c.choose_save.ensures.stays (e.cause.stays (λ is. absurd (cc))) (λ is. absurd (cc))

pub returns-in-Err-Failed-clause-read : goal.returns-in-Err-Failed-clause-read
returns-in-Err-Failed-clause-read g c = λ told slots has. failed_reads (state_of g.P.Plant c.args.plant.now).tape (load_pick c.args.port.now slots)

pub returns-in-Err-Failed-clause-looks : goal.returns-in-Err-Failed-clause-looks
returns-in-Err-Failed-clause-looks g c =
    let P = g.P.Plant in
    let old = c.args.plant.now in
    let new = c.choose_save.new.plant in
    looks_ill P Failed old new (Err Failed) (reads_leave P old new c.choose_save.ensures.leaves) c.choose_save.ensures.stays (c.in-Err-Failed.ensures.cause.failed (ap Err c.in-Err-Failed.field-0-is)) refl

pub returns-in-Err-Memory-clause-read : goal.returns-in-Err-Memory-clause-read
returns-in-Err-Memory-clause-read g c = λ told slots has. memory_reads (state_of g.P.Plant c.args.plant.now).tape (load_pick c.args.port.now slots)

pub returns-in-Err-Memory-clause-looks : goal.returns-in-Err-Memory-clause-looks
returns-in-Err-Memory-clause-looks g c =
    let P = g.P.Plant in
    let old = c.args.plant.now in
    let new = c.choose_save.new.plant in
    let e = c.in-Err-Memory.ensures in
    let m = c.in-Err-Memory.field-0-is in
    let done : Done P [] old new = rw m at e.done in
    let numbers : SameNumbers P old new = rw m at e.numbers in
    looks_well P Failed old new (Err Memory) (reads_are_loads P old new done c.choose_save.ensures.leaves numbers) c.choose_save.ensures.stays (e.cause.stays (λ is. absurd (cc))) (λ is. absurd (cc))

-- ---- a slot

pub returns-in-Ok-Some-clause-read : goal.returns-in-Ok-Some-clause-read
returns-in-Ok-Some-clause-read g c = λ told slots has.
    let P = g.P.Plant in
    let old = c.args.plant.now in
    let p = c.in-Ok-Some.picked in
    let e = c.in-Ok-Some.ensures in
    let is : Some p ≡ load_pick c.args.port.now slots = sym c.in-Ok-Some.field-0-is ∙ e.picked told slots has in
    let label = labelled P c.args.port.now slots old p has (sym is) in
    let same = (e.done.state told).tape p.slot in
    let reads = subst (λ (tape : List Record). ReadsChanges tape p.slot c.load_changes.result) same (c.load_changes.ensures.read told label.permanent (subst (IsLabelled label.permanent) (sym same) label.is)) in
    subst (λ (o : Option Picked). ReadsPicked (state_of P old).tape o c.load_changes.result) is reads

pub returns-in-Ok-Some-clause-found : goal.returns-in-Ok-Some-clause-found
returns-in-Ok-Some-clause-found g c =
    let P = g.P.Plant in
    let old = c.args.plant.now in
    let mid = c.choose_save.new.plant in
    let new = c.load_changes.new.plant in
    let p = c.in-Ok-Some.picked in
    let e = c.in-Ok-Some.ensures in
    let f = c.load_changes.ensures in
    found_ok P c.args.port.now old new p c.load_changes.result (λ slots told has. sym (e.picked told slots has) ∙ c.in-Ok-Some.field-0-is) (returns-in-Ok-Some-clause-read g c) f.form
    (λ well. subst (λ (l : Option ℕ). Done P (putting_away l p.slot) old new) e.numbers.tape.loaded (done_both P [] (putting_away (loaded_of P mid) p.slot) old mid new e.done (f.done well)))
    (subst (λ (l : Option ℕ). Leaves P (putting_away l p.slot) old new) e.numbers.tape.loaded (leaves_both P [] (putting_away (loaded_of P mid) p.slot) old mid new e.done c.choose_save.ensures.leaves f.leaves))
    (λ well. f.log_size well ∙ e.numbers.log_size)

pub returns-in-Ok-Some-clause-looks : goal.returns-in-Ok-Some-clause-looks
returns-in-Ok-Some-clause-looks g c =
    let P = g.P.Plant in
    let old = c.args.plant.now in
    let mid = c.choose_save.new.plant in
    let new = c.load_changes.new.plant in
    let p = c.in-Ok-Some.picked in
    let e = c.in-Ok-Some.ensures in
    let f = c.load_changes.ensures in
    looks_after P Failed old mid new c.load_changes.result (reads_are_loads P old mid e.done c.choose_save.ensures.leaves e.numbers) c.choose_save.ensures.stays (e.cause.stays (λ is. absurd (cc)))
    (record { done = λ well. a_load_loads P mid new p.slot (f.done well) f.leaves (f.log_size well); leaves = a_load_leaves P mid new p.slot f.leaves; stays = f.stays; cause = f.cause })
