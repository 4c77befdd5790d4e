use Rattle.std.proofs.Common.{inl, inr, refl, sym, ◌∙◌, subst}
use Rattle.std.specs.Prelude.{Ok}
use Rattle.plant_effects.specs.Runs.{state_of}
use Rattle.budb_save.specs.declared.fault.LoadFault.TheVariants as loads
use Rattle.budb_save.specs.declared.fault.Stopped.TheVariants as stops
use Rattle.budb_save.specs.Reading.{ReadsSave}
use Rattle.budb_save.specs.Saves.{label_record, HasSave}
use Rattle.budb_save.proofs.LoadLaws.{last_is, cause_as}
use Rattle.budb_save.proofs.loading.read_changes.Goals as goal

pub returns-in-Ok-Whole-clause-read : goal.returns-in-Ok-Whole-clause-read
returns-in-Ok-Whole-clause-read g c = λ told permanent at.
    let P = g.P.Plant in
    let old = c.args.plant.now in
    let k = c.args.slot in
    let tape = (state_of P old).tape k in
    let read : ReadsSave tape c.in-Ok-Whole.field-0 = c.in-Ok-Whole.ensures.read told k permanent c.requires.loaded at in
    let has : HasSave tape c.in-Ok-Whole.bytes = subst (ReadsSave tape) c.in-Ok-Whole.field-0-is read in
    let count = c.tape_len-records.ensures ∙ g.met.P.Plant.records_told old k told c.requires.sound c.requires.loaded in
    c.changes_in.ensures.read tape (subst (HasSave tape) (sym c.as_slice.ensures) has) (g.met.P.Plant.short_tapes old k told c.requires.sound)
    (last_is tape (label_record permanent) c.tape_len-records.result c.saturating_sub-last.result at.first count c.saturating_sub-last.ensures)

pub returns-in-Ok-Whole-clause-cause : goal.returns-in-Ok-Whole-clause-cause
returns-in-Ok-Whole-clause-cause g c =
    let P = g.P.Plant in
    cause_as stops.Failed loads.Failed (P.view c.args.plant.now).faults (P.view c.read_save.new.plant).faults (Ok c.in-Ok-Whole.field-0) c.changes_in.result (λ is. absurd (cc)) c.changes_in.ensures.well c.in-Ok-Whole.ensures.cause

pub returns-in-Ok-Wrong-clause-read : goal.returns-in-Ok-Wrong-clause-read
returns-in-Ok-Wrong-clause-read g c = λ told permanent at. (refl, inl (subst (ReadsSave ((state_of g.P.Plant c.args.plant.now).tape c.args.slot)) c.in-Ok-Wrong.field-0-is (c.in-Ok-Wrong.ensures.read told c.args.slot permanent c.requires.loaded at)))

pub returns-in-Ok-Wanting-clause-read : goal.returns-in-Ok-Wanting-clause-read
returns-in-Ok-Wanting-clause-read g c = λ told permanent at.
    let P = g.P.Plant in
    let old = c.args.plant.now in
    let k = c.args.slot in
    let tape = (state_of P old).tape k in
    let count = c.tape_len-records.ensures ∙ g.met.P.Plant.records_told old k told c.requires.sound c.requires.loaded in
    (refl, inr (inl (subst (ReadsSave tape) c.in-Ok-Wanting.field-0-is (c.in-Ok-Wanting.ensures.read told k permanent c.requires.loaded at), last_is tape (label_record permanent) c.tape_len-records.result c.saturating_sub-last.result at.first count c.saturating_sub-last.ensures)))
