use Rattle.std.proofs.Common.{◌≡◌, ℕ, List, [], length, sym, ◌∙◌, ap, subst}
use Rattle.std.specs.Prelude.{Option, Some, None, IfOk, OnOk}
use Rattle.plant_core.specs.Effects.{Effect}
use Rattle.plant_effects.specs.Runs.{state_of, loaded_of, Done, Leaves, SameNumbers}
use Rattle.plant_effects.proofs.Joining.{done_both, leaves_both, leaves_more}
use Rattle.budb_save.specs.declared.choosing.Picked.{Picked}
use Rattle.budb_fold.specs.declared.database.Database.{Database}
use Rattle.budb_fold.specs.Checkpoints.{checkpoint}
use Rattle.budb_changes.specs.Forms.{AreChanges}
use Rattle.budb_save.specs.Saves.{HasSave}
use Rattle.budb_save.specs.Faults.{UnlessStopped}
use Rattle.budb_save.specs.Saving.{saved_bytes, save_pick, saved_in, save_answer, effects_in, save_effects, Untouched}
use Rattle.budb_save.proofs.SavingLaws.{stopped_map, refused_map}
use Rattle.budb_save.proofs.saving.save.Goals as goal

-- ---- no tape

pub returns-in-Ok-None-clause-answer : goal.returns-in-Ok-None-clause-answer
returns-in-Ok-None-clause-answer g c = λ told slots has.
    ap (λ (o : Option Picked). save_answer c.args.port.now o (length (saved_bytes c.args.budb.now.database))) (sym c.in-Ok-None.field-0-is ∙ c.in-Ok-None.ensures.picked told slots has)

pub returns-in-Ok-None-clause-done : goal.returns-in-Ok-None-clause-done
returns-in-Ok-None-clause-done g c = λ told slots has.
    let P = g.P.Plant in
    let old = c.args.plant.now in
    subst (λ (o : Option Picked). Done P (save_effects c.args.port.now o (loaded_of P old) (saved_bytes c.args.budb.now.database)) old c.choose_save.new.plant) (sym c.in-Ok-None.field-0-is ∙ c.in-Ok-None.ensures.picked told slots has) c.in-Ok-None.ensures.done

pub returns-in-Ok-None-clause-leaves : goal.returns-in-Ok-None-clause-leaves
returns-in-Ok-None-clause-leaves g c = λ told slots has.
    leaves_more g.P.Plant [] (save_effects c.args.port.now (save_pick c.args.port.now slots) (loaded_of g.P.Plant c.args.plant.now) (saved_bytes c.args.budb.now.database)) c.args.plant.now c.choose_save.new.plant c.choose_save.ensures.leaves

pub returns-in-Ok-None-clause-refused : goal.returns-in-Ok-None-clause-refused
returns-in-Ok-None-clause-refused g c = record { done = c.in-Ok-None.ensures.done; numbers = c.in-Ok-None.ensures.numbers }

-- ---- a search that stopped

pub returns-in-Err-Failed-clause-leaves : goal.returns-in-Err-Failed-clause-leaves
returns-in-Err-Failed-clause-leaves g c = λ told slots has.
    leaves_more g.P.Plant [] (save_effects c.args.port.now (save_pick c.args.port.now slots) (loaded_of g.P.Plant c.args.plant.now) (saved_bytes c.args.budb.now.database)) c.args.plant.now c.choose_save.new.plant c.choose_save.ensures.leaves

pub returns-in-Err-Memory-clause-leaves : goal.returns-in-Err-Memory-clause-leaves
returns-in-Err-Memory-clause-leaves g c = λ told slots has.
    leaves_more g.P.Plant [] (save_effects c.args.port.now (save_pick c.args.port.now slots) (loaded_of g.P.Plant c.args.plant.now) (saved_bytes c.args.budb.now.database)) c.args.plant.now c.choose_save.new.plant c.choose_save.ensures.leaves

pub returns-in-Err-Memory-clause-refused : goal.returns-in-Err-Memory-clause-refused
returns-in-Err-Memory-clause-refused g c =
    let P = g.P.Plant in
    let old = c.args.plant.now in
    let new = c.choose_save.new.plant in
    let m = c.in-Err-Memory.field-0-is in
    let done : Done P [] old new = rw m at c.in-Err-Memory.ensures.done in
    let numbers : SameNumbers P old new = rw m at c.in-Err-Memory.ensures.numbers in
    record { done = done; numbers = numbers }

-- ---- a tape

pub returns-in-Ok-Some-clause-answer : goal.returns-in-Ok-Some-clause-answer
returns-in-Ok-Some-clause-answer g c = λ told slots has.
    let p = c.in-Ok-Some.picked in
    let db = c.args.budb.now.database in
    let r = c.save_on.result in
    let is : Some p ≡ save_pick c.args.port.now slots = sym c.in-Ok-Some.field-0-is ∙ c.in-Ok-Some.ensures.picked told slots has in
    subst (λ (o : Option Picked). UnlessStopped r (r ≡ save_answer c.args.port.now o (length (saved_bytes db)))) is
    (subst (λ (d : Database). UnlessStopped r (r ≡ saved_in c.args.port.now p.slot (length (saved_bytes d)))) c.database.ensures c.save_on.ensures.answer)

pub returns-in-Ok-Some-clause-done : goal.returns-in-Ok-Some-clause-done
returns-in-Ok-Some-clause-done g c = λ told slots has.
    let P = g.P.Plant in
    let old = c.args.plant.now in
    let mid = c.choose_save.new.plant in
    let new = c.save_on.new.plant in
    let p = c.in-Ok-Some.picked in
    let e = c.in-Ok-Some.ensures in
    let bytes = saved_bytes c.args.budb.now.database in
    let is : Some p ≡ save_pick c.args.port.now slots = sym c.in-Ok-Some.field-0-is ∙ e.picked told slots has in
    let effects = effects_in c.args.port.now p (loaded_of P mid) bytes in
    let same : effects ≡ save_effects c.args.port.now (save_pick c.args.port.now slots) (loaded_of P old) bytes
    = ap (λ (l : Option ℕ). effects_in c.args.port.now p l bytes) e.numbers.tape.loaded ∙ ap (λ (o : Option Picked). save_effects c.args.port.now o (loaded_of P old) bytes) is in
    stopped_map c.save_on.result (λ done. subst (λ (es : List Effect). Done P es old new) same (done_both P [] effects old mid new e.done done))
    (subst (λ (d : Database). UnlessStopped c.save_on.result (Done P (effects_in c.args.port.now p (loaded_of P mid) (saved_bytes d)) mid new)) c.database.ensures c.save_on.ensures.done)

pub returns-in-Ok-Some-clause-leaves : goal.returns-in-Ok-Some-clause-leaves
returns-in-Ok-Some-clause-leaves g c = λ told slots has.
    let P = g.P.Plant in
    let old = c.args.plant.now in
    let mid = c.choose_save.new.plant in
    let new = c.save_on.new.plant in
    let p = c.in-Ok-Some.picked in
    let e = c.in-Ok-Some.ensures in
    let bytes = saved_bytes c.args.budb.now.database in
    let is : Some p ≡ save_pick c.args.port.now slots = sym c.in-Ok-Some.field-0-is ∙ e.picked told slots has in
    let effects = effects_in c.args.port.now p (loaded_of P mid) bytes in
    let same : effects ≡ save_effects c.args.port.now (save_pick c.args.port.now slots) (loaded_of P old) bytes
    = ap (λ (l : Option ℕ). effects_in c.args.port.now p l bytes) e.numbers.tape.loaded ∙ ap (λ (o : Option Picked). save_effects c.args.port.now o (loaded_of P old) bytes) is in
    subst (λ (es : List Effect). Leaves P es old new) same (leaves_both P [] effects old mid new e.done c.choose_save.ensures.leaves
    (subst (λ (d : Database). Leaves P (effects_in c.args.port.now p (loaded_of P mid) (saved_bytes d)) mid new) c.database.ensures c.save_on.ensures.leaves))

pub returns-in-Ok-Some-clause-refused : goal.returns-in-Ok-Some-clause-refused
returns-in-Ok-Some-clause-refused g c =
    let P = g.P.Plant in
    let old = c.args.plant.now in
    let mid = c.choose_save.new.plant in
    let e = c.in-Ok-Some.ensures in
    refused_map c.save_on.result (λ same. subst (Untouched P old) (sym same) record { done = e.done; numbers = e.numbers }) c.save_on.ensures.same

pub returns-in-Ok-Some-clause-form : goal.returns-in-Ok-Some-clause-form
returns-in-Ok-Some-clause-form g c = subst (λ (d : Database). OnOk c.save_on.result (AreChanges (checkpoint d))) c.database.ensures c.save_on.ensures.form

pub returns-in-Ok-Some-clause-has : goal.returns-in-Ok-Some-clause-has
returns-in-Ok-Some-clause-has g c = λ told.
    subst (λ (d : Database). IfOk c.save_on.result (λ saved. HasSave ((state_of g.P.Plant c.save_on.new.plant).tape saved.slot) (saved_bytes d))) c.database.ensures (c.save_on.ensures.has told)
