use Rattle.std.proofs.Common.{refl}
use Rattle.std.specs.Prelude.{Some, None}
use Rattle.dump_job.specs.declared.answer.StepAnswer.TheVariants as answers
use Rattle.dump_courses.proofs.Steps.{IsReady, fit_sound}
use Rattle.dump_courses.proofs.Ways.{SlotLaws}
use Rattle.job_pool.specs.declared.ends.JobEnd.TheVariants.{Done, Refused}
use Rattle.job_pool.proofs.Turning.{others_fit, slots_there, step_ahead, step_left, step_turned}
use Rattle.job_pool.proofs.turns.take_step.Goals as goal

pub returns-in-More-clause-elsewhere : goal.returns-in-More-clause-elsewhere
returns-in-More-clause-elsewhere g c = λ told unfailed.
    let slots : SlotLaws = record { count = c.the_slots_are_read.ensures.count; here = c.the_slots_are_read.ensures.here; items = c.the_slots_are_read.ensures.items } in
    c.in-More.ensures.elsewhere told _ (slots_there slots g.P.Plant c.args.plant.now) (λ same. cc)

pub returns-in-More-clause-others : goal.returns-in-More-clause-others
returns-in-More-clause-others g c = λ unfailed other fit apart.
    let slots : SlotLaws = record { count = c.the_slots_are_read.ensures.count; here = c.the_slots_are_read.ensures.here; items = c.the_slots_are_read.ensures.items } in
    others_fit g.P.Plant c.args.plant.now c.step.new.plant (fit_sound g.P.Plant c.step.new.self c.step.new.plant (c.in-More.ensures.steps.fit (λ same. cc))) c.in-More.ensures.steps.stays c.args.job.now c.step.new.self
    (λ told. c.in-More.ensures.elsewhere told _ (slots_there slots g.P.Plant c.args.plant.now) (λ same. cc)) other fit apart

pub returns-in-More-clause-leaves : goal.returns-in-More-clause-leaves
returns-in-More-clause-leaves g c = λ told told_cell s p n q turn.
    let ready : IsReady g.P.Plant c.args.plant.now = record {
      slots = record { count = c.the_slots_are_read.ensures.count; here = c.the_slots_are_read.ensures.here; items = c.the_slots_are_read.ensures.items };
      sound = fit_sound g.P.Plant c.args.job.now c.args.plant.now c.requires.fit;
      within = λ tells. g.met.P.Plant.within c.args.plant.now tells (fit_sound g.P.Plant c.args.job.now c.args.plant.now c.requires.fit);
      fits = λ tells survives image left. g.met.P.Plant.left c.args.plant.now image tells (fit_sound g.P.Plant c.args.job.now c.args.plant.now c.requires.fit) survives left;
      log_told = λ tells. g.met.P.Plant.log_told c.args.plant.now tells (fit_sound g.P.Plant c.args.job.now c.args.plant.now c.requires.fit);
    } in
    step_left g.P.Plant g.C.Cell c.args.budb.now c.step.new.budb c.args.plant.now c.step.new.plant c.args.cell.now c.step.new.cell c.args.job.now c.step.new.self ready told told_cell s p n q turn answers.More c.in-More.ensures.does

pub returns-in-More-clause-turned : goal.returns-in-More-clause-turned
returns-in-More-clause-turned g c = λ told told_cell s p n q turn.
    let ready : IsReady g.P.Plant c.args.plant.now = record {
      slots = record { count = c.the_slots_are_read.ensures.count; here = c.the_slots_are_read.ensures.here; items = c.the_slots_are_read.ensures.items };
      sound = fit_sound g.P.Plant c.args.job.now c.args.plant.now c.requires.fit;
      within = λ tells. g.met.P.Plant.within c.args.plant.now tells (fit_sound g.P.Plant c.args.job.now c.args.plant.now c.requires.fit);
      fits = λ tells survives image left. g.met.P.Plant.left c.args.plant.now image tells (fit_sound g.P.Plant c.args.job.now c.args.plant.now c.requires.fit) survives left;
      log_told = λ tells. g.met.P.Plant.log_told c.args.plant.now tells (fit_sound g.P.Plant c.args.job.now c.args.plant.now c.requires.fit);
    } in
    step_turned g.P.Plant g.C.Cell c.args.budb.now c.step.new.budb c.args.plant.now c.step.new.plant c.args.cell.now c.step.new.cell c.args.job.now c.step.new.self ready told told_cell s p n q turn answers.More c.in-More.ensures.does tt c.in-More.ensures.steps.stays (c.in-More.ensures.list told_cell) None refl

pub returns-in-More-clause-done : goal.returns-in-More-clause-done
returns-in-More-clause-done g c = λ told told_cell s p n q turn.
    let ready : IsReady g.P.Plant c.args.plant.now = record {
      slots = record { count = c.the_slots_are_read.ensures.count; here = c.the_slots_are_read.ensures.here; items = c.the_slots_are_read.ensures.items };
      sound = fit_sound g.P.Plant c.args.job.now c.args.plant.now c.requires.fit;
      within = λ tells. g.met.P.Plant.within c.args.plant.now tells (fit_sound g.P.Plant c.args.job.now c.args.plant.now c.requires.fit);
      fits = λ tells survives image left. g.met.P.Plant.left c.args.plant.now image tells (fit_sound g.P.Plant c.args.job.now c.args.plant.now c.requires.fit) survives left;
      log_told = λ tells. g.met.P.Plant.log_told c.args.plant.now tells (fit_sound g.P.Plant c.args.job.now c.args.plant.now c.requires.fit);
    } in
    step_ahead g.P.Plant g.C.Cell c.args.budb.now c.step.new.budb c.args.plant.now c.step.new.plant c.args.cell.now c.step.new.cell c.args.job.now c.step.new.self ready told told_cell s p n q turn answers.More c.in-More.ensures.does tt

pub returns-in-Done-clause-elsewhere : goal.returns-in-Done-clause-elsewhere
returns-in-Done-clause-elsewhere g c = λ told unfailed.
    let slots : SlotLaws = record { count = c.the_slots_are_read.ensures.count; here = c.the_slots_are_read.ensures.here; items = c.the_slots_are_read.ensures.items } in
    c.in-Done.ensures.elsewhere told _ (slots_there slots g.P.Plant c.args.plant.now) (λ same. cc)

pub returns-in-Done-clause-others : goal.returns-in-Done-clause-others
returns-in-Done-clause-others g c = λ unfailed other fit apart.
    let slots : SlotLaws = record { count = c.the_slots_are_read.ensures.count; here = c.the_slots_are_read.ensures.here; items = c.the_slots_are_read.ensures.items } in
    others_fit g.P.Plant c.args.plant.now c.step.new.plant (fit_sound g.P.Plant c.step.new.self c.step.new.plant (c.in-Done.ensures.steps.fit (λ same. cc))) c.in-Done.ensures.steps.stays c.args.job.now c.step.new.self
    (λ told. c.in-Done.ensures.elsewhere told _ (slots_there slots g.P.Plant c.args.plant.now) (λ same. cc)) other fit apart

pub returns-in-Done-clause-leaves : goal.returns-in-Done-clause-leaves
returns-in-Done-clause-leaves g c = λ told told_cell s p n q turn.
    let ready : IsReady g.P.Plant c.args.plant.now = record {
      slots = record { count = c.the_slots_are_read.ensures.count; here = c.the_slots_are_read.ensures.here; items = c.the_slots_are_read.ensures.items };
      sound = fit_sound g.P.Plant c.args.job.now c.args.plant.now c.requires.fit;
      within = λ tells. g.met.P.Plant.within c.args.plant.now tells (fit_sound g.P.Plant c.args.job.now c.args.plant.now c.requires.fit);
      fits = λ tells survives image left. g.met.P.Plant.left c.args.plant.now image tells (fit_sound g.P.Plant c.args.job.now c.args.plant.now c.requires.fit) survives left;
      log_told = λ tells. g.met.P.Plant.log_told c.args.plant.now tells (fit_sound g.P.Plant c.args.job.now c.args.plant.now c.requires.fit);
    } in
    step_left g.P.Plant g.C.Cell c.args.budb.now c.step.new.budb c.args.plant.now c.step.new.plant c.args.cell.now c.step.new.cell c.args.job.now c.step.new.self ready told told_cell s p n q turn (answers.Done c.in-Done.id) c.in-Done.ensures.does

pub returns-in-Done-clause-turned : goal.returns-in-Done-clause-turned
returns-in-Done-clause-turned g c = λ told told_cell s p n q turn.
    let ready : IsReady g.P.Plant c.args.plant.now = record {
      slots = record { count = c.the_slots_are_read.ensures.count; here = c.the_slots_are_read.ensures.here; items = c.the_slots_are_read.ensures.items };
      sound = fit_sound g.P.Plant c.args.job.now c.args.plant.now c.requires.fit;
      within = λ tells. g.met.P.Plant.within c.args.plant.now tells (fit_sound g.P.Plant c.args.job.now c.args.plant.now c.requires.fit);
      fits = λ tells survives image left. g.met.P.Plant.left c.args.plant.now image tells (fit_sound g.P.Plant c.args.job.now c.args.plant.now c.requires.fit) survives left;
      log_told = λ tells. g.met.P.Plant.log_told c.args.plant.now tells (fit_sound g.P.Plant c.args.job.now c.args.plant.now c.requires.fit);
    } in
    step_turned g.P.Plant g.C.Cell c.args.budb.now c.step.new.budb c.args.plant.now c.step.new.plant c.args.cell.now c.step.new.cell c.args.job.now c.step.new.self ready told told_cell s p n q turn (answers.Done c.in-Done.id) c.in-Done.ensures.does tt c.in-Done.ensures.steps.stays (c.in-Done.ensures.list told_cell) (Some (Done c.in-Done.id)) refl

pub returns-in-Done-clause-done : goal.returns-in-Done-clause-done
returns-in-Done-clause-done g c = λ told told_cell s p n q turn.
    let ready : IsReady g.P.Plant c.args.plant.now = record {
      slots = record { count = c.the_slots_are_read.ensures.count; here = c.the_slots_are_read.ensures.here; items = c.the_slots_are_read.ensures.items };
      sound = fit_sound g.P.Plant c.args.job.now c.args.plant.now c.requires.fit;
      within = λ tells. g.met.P.Plant.within c.args.plant.now tells (fit_sound g.P.Plant c.args.job.now c.args.plant.now c.requires.fit);
      fits = λ tells survives image left. g.met.P.Plant.left c.args.plant.now image tells (fit_sound g.P.Plant c.args.job.now c.args.plant.now c.requires.fit) survives left;
      log_told = λ tells. g.met.P.Plant.log_told c.args.plant.now tells (fit_sound g.P.Plant c.args.job.now c.args.plant.now c.requires.fit);
    } in
    step_ahead g.P.Plant g.C.Cell c.args.budb.now c.step.new.budb c.args.plant.now c.step.new.plant c.args.cell.now c.step.new.cell c.args.job.now c.step.new.self ready told told_cell s p n q turn (answers.Done c.in-Done.id) c.in-Done.ensures.does tt

pub returns-in-Refused-clause-elsewhere : goal.returns-in-Refused-clause-elsewhere
returns-in-Refused-clause-elsewhere g c = λ told unfailed.
    let slots : SlotLaws = record { count = c.the_slots_are_read.ensures.count; here = c.the_slots_are_read.ensures.here; items = c.the_slots_are_read.ensures.items } in
    c.in-Refused.ensures.elsewhere told _ (slots_there slots g.P.Plant c.args.plant.now) (λ same. cc)

pub returns-in-Refused-clause-others : goal.returns-in-Refused-clause-others
returns-in-Refused-clause-others g c = λ unfailed other fit apart.
    let slots : SlotLaws = record { count = c.the_slots_are_read.ensures.count; here = c.the_slots_are_read.ensures.here; items = c.the_slots_are_read.ensures.items } in
    others_fit g.P.Plant c.args.plant.now c.step.new.plant (fit_sound g.P.Plant c.step.new.self c.step.new.plant (c.in-Refused.ensures.steps.fit (λ same. cc))) c.in-Refused.ensures.steps.stays c.args.job.now c.step.new.self
    (λ told. c.in-Refused.ensures.elsewhere told _ (slots_there slots g.P.Plant c.args.plant.now) (λ same. cc)) other fit apart

pub returns-in-Refused-clause-leaves : goal.returns-in-Refused-clause-leaves
returns-in-Refused-clause-leaves g c = λ told told_cell s p n q turn.
    let ready : IsReady g.P.Plant c.args.plant.now = record {
      slots = record { count = c.the_slots_are_read.ensures.count; here = c.the_slots_are_read.ensures.here; items = c.the_slots_are_read.ensures.items };
      sound = fit_sound g.P.Plant c.args.job.now c.args.plant.now c.requires.fit;
      within = λ tells. g.met.P.Plant.within c.args.plant.now tells (fit_sound g.P.Plant c.args.job.now c.args.plant.now c.requires.fit);
      fits = λ tells survives image left. g.met.P.Plant.left c.args.plant.now image tells (fit_sound g.P.Plant c.args.job.now c.args.plant.now c.requires.fit) survives left;
      log_told = λ tells. g.met.P.Plant.log_told c.args.plant.now tells (fit_sound g.P.Plant c.args.job.now c.args.plant.now c.requires.fit);
    } in
    step_left g.P.Plant g.C.Cell c.args.budb.now c.step.new.budb c.args.plant.now c.step.new.plant c.args.cell.now c.step.new.cell c.args.job.now c.step.new.self ready told told_cell s p n q turn (answers.Refused c.in-Refused.fault) c.in-Refused.ensures.does

pub returns-in-Refused-clause-turned : goal.returns-in-Refused-clause-turned
returns-in-Refused-clause-turned g c = λ told told_cell s p n q turn.
    let ready : IsReady g.P.Plant c.args.plant.now = record {
      slots = record { count = c.the_slots_are_read.ensures.count; here = c.the_slots_are_read.ensures.here; items = c.the_slots_are_read.ensures.items };
      sound = fit_sound g.P.Plant c.args.job.now c.args.plant.now c.requires.fit;
      within = λ tells. g.met.P.Plant.within c.args.plant.now tells (fit_sound g.P.Plant c.args.job.now c.args.plant.now c.requires.fit);
      fits = λ tells survives image left. g.met.P.Plant.left c.args.plant.now image tells (fit_sound g.P.Plant c.args.job.now c.args.plant.now c.requires.fit) survives left;
      log_told = λ tells. g.met.P.Plant.log_told c.args.plant.now tells (fit_sound g.P.Plant c.args.job.now c.args.plant.now c.requires.fit);
    } in
    step_turned g.P.Plant g.C.Cell c.args.budb.now c.step.new.budb c.args.plant.now c.step.new.plant c.args.cell.now c.step.new.cell c.args.job.now c.step.new.self ready told told_cell s p n q turn (answers.Refused c.in-Refused.fault) c.in-Refused.ensures.does tt c.in-Refused.ensures.steps.stays (c.in-Refused.ensures.list told_cell) (Some (Refused c.in-Refused.fault)) refl

pub returns-in-Refused-clause-done : goal.returns-in-Refused-clause-done
returns-in-Refused-clause-done g c = λ told told_cell s p n q turn.
    let ready : IsReady g.P.Plant c.args.plant.now = record {
      slots = record { count = c.the_slots_are_read.ensures.count; here = c.the_slots_are_read.ensures.here; items = c.the_slots_are_read.ensures.items };
      sound = fit_sound g.P.Plant c.args.job.now c.args.plant.now c.requires.fit;
      within = λ tells. g.met.P.Plant.within c.args.plant.now tells (fit_sound g.P.Plant c.args.job.now c.args.plant.now c.requires.fit);
      fits = λ tells survives image left. g.met.P.Plant.left c.args.plant.now image tells (fit_sound g.P.Plant c.args.job.now c.args.plant.now c.requires.fit) survives left;
      log_told = λ tells. g.met.P.Plant.log_told c.args.plant.now tells (fit_sound g.P.Plant c.args.job.now c.args.plant.now c.requires.fit);
    } in
    step_ahead g.P.Plant g.C.Cell c.args.budb.now c.step.new.budb c.args.plant.now c.step.new.plant c.args.cell.now c.step.new.cell c.args.job.now c.step.new.self ready told told_cell s p n q turn (answers.Refused c.in-Refused.fault) c.in-Refused.ensures.does tt

pub returns-in-PlantFailed-clause-leaves : goal.returns-in-PlantFailed-clause-leaves
returns-in-PlantFailed-clause-leaves g c = λ told told_cell s p n q turn.
    let ready : IsReady g.P.Plant c.args.plant.now = record {
      slots = record { count = c.the_slots_are_read.ensures.count; here = c.the_slots_are_read.ensures.here; items = c.the_slots_are_read.ensures.items };
      sound = fit_sound g.P.Plant c.args.job.now c.args.plant.now c.requires.fit;
      within = λ tells. g.met.P.Plant.within c.args.plant.now tells (fit_sound g.P.Plant c.args.job.now c.args.plant.now c.requires.fit);
      fits = λ tells survives image left. g.met.P.Plant.left c.args.plant.now image tells (fit_sound g.P.Plant c.args.job.now c.args.plant.now c.requires.fit) survives left;
      log_told = λ tells. g.met.P.Plant.log_told c.args.plant.now tells (fit_sound g.P.Plant c.args.job.now c.args.plant.now c.requires.fit);
    } in
    step_left g.P.Plant g.C.Cell c.args.budb.now c.step.new.budb c.args.plant.now c.step.new.plant c.args.cell.now c.step.new.cell c.args.job.now c.step.new.self ready told told_cell s p n q turn answers.PlantFailed c.in-PlantFailed.ensures.does

pub returns-in-CellFailed-clause-elsewhere : goal.returns-in-CellFailed-clause-elsewhere
returns-in-CellFailed-clause-elsewhere g c = λ told unfailed.
    let slots : SlotLaws = record { count = c.the_slots_are_read.ensures.count; here = c.the_slots_are_read.ensures.here; items = c.the_slots_are_read.ensures.items } in
    c.in-CellFailed.ensures.elsewhere told _ (slots_there slots g.P.Plant c.args.plant.now) (λ same. cc)

pub returns-in-CellFailed-clause-others : goal.returns-in-CellFailed-clause-others
returns-in-CellFailed-clause-others g c = λ unfailed other fit apart.
    let slots : SlotLaws = record { count = c.the_slots_are_read.ensures.count; here = c.the_slots_are_read.ensures.here; items = c.the_slots_are_read.ensures.items } in
    others_fit g.P.Plant c.args.plant.now c.step.new.plant (fit_sound g.P.Plant c.step.new.self c.step.new.plant (c.in-CellFailed.ensures.steps.fit (λ same. cc))) c.in-CellFailed.ensures.steps.stays c.args.job.now c.step.new.self
    (λ told. c.in-CellFailed.ensures.elsewhere told _ (slots_there slots g.P.Plant c.args.plant.now) (λ same. cc)) other fit apart

pub returns-in-CellFailed-clause-leaves : goal.returns-in-CellFailed-clause-leaves
returns-in-CellFailed-clause-leaves g c = λ told told_cell s p n q turn.
    let ready : IsReady g.P.Plant c.args.plant.now = record {
      slots = record { count = c.the_slots_are_read.ensures.count; here = c.the_slots_are_read.ensures.here; items = c.the_slots_are_read.ensures.items };
      sound = fit_sound g.P.Plant c.args.job.now c.args.plant.now c.requires.fit;
      within = λ tells. g.met.P.Plant.within c.args.plant.now tells (fit_sound g.P.Plant c.args.job.now c.args.plant.now c.requires.fit);
      fits = λ tells survives image left. g.met.P.Plant.left c.args.plant.now image tells (fit_sound g.P.Plant c.args.job.now c.args.plant.now c.requires.fit) survives left;
      log_told = λ tells. g.met.P.Plant.log_told c.args.plant.now tells (fit_sound g.P.Plant c.args.job.now c.args.plant.now c.requires.fit);
    } in
    step_left g.P.Plant g.C.Cell c.args.budb.now c.step.new.budb c.args.plant.now c.step.new.plant c.args.cell.now c.step.new.cell c.args.job.now c.step.new.self ready told told_cell s p n q turn answers.CellFailed c.in-CellFailed.ensures.does

pub returns-in-CellFailed-clause-stopped : goal.returns-in-CellFailed-clause-stopped
returns-in-CellFailed-clause-stopped g c = λ other. (c.in-CellFailed.ensures.steps.same_job tt, c.in-CellFailed.ensures.steps.same_budb tt, c.in-CellFailed.ensures.steps.loads tt)

pub returns-in-Memory-clause-elsewhere : goal.returns-in-Memory-clause-elsewhere
returns-in-Memory-clause-elsewhere g c = λ told unfailed.
    let slots : SlotLaws = record { count = c.the_slots_are_read.ensures.count; here = c.the_slots_are_read.ensures.here; items = c.the_slots_are_read.ensures.items } in
    c.in-Memory.ensures.elsewhere told _ (slots_there slots g.P.Plant c.args.plant.now) (λ same. cc)

pub returns-in-Memory-clause-others : goal.returns-in-Memory-clause-others
returns-in-Memory-clause-others g c = λ unfailed other fit apart.
    let slots : SlotLaws = record { count = c.the_slots_are_read.ensures.count; here = c.the_slots_are_read.ensures.here; items = c.the_slots_are_read.ensures.items } in
    others_fit g.P.Plant c.args.plant.now c.step.new.plant (fit_sound g.P.Plant c.step.new.self c.step.new.plant (c.in-Memory.ensures.steps.fit (λ same. cc))) c.in-Memory.ensures.steps.stays c.args.job.now c.step.new.self
    (λ told. c.in-Memory.ensures.elsewhere told _ (slots_there slots g.P.Plant c.args.plant.now) (λ same. cc)) other fit apart

pub returns-in-Memory-clause-leaves : goal.returns-in-Memory-clause-leaves
returns-in-Memory-clause-leaves g c = λ told told_cell s p n q turn.
    let ready : IsReady g.P.Plant c.args.plant.now = record {
      slots = record { count = c.the_slots_are_read.ensures.count; here = c.the_slots_are_read.ensures.here; items = c.the_slots_are_read.ensures.items };
      sound = fit_sound g.P.Plant c.args.job.now c.args.plant.now c.requires.fit;
      within = λ tells. g.met.P.Plant.within c.args.plant.now tells (fit_sound g.P.Plant c.args.job.now c.args.plant.now c.requires.fit);
      fits = λ tells survives image left. g.met.P.Plant.left c.args.plant.now image tells (fit_sound g.P.Plant c.args.job.now c.args.plant.now c.requires.fit) survives left;
      log_told = λ tells. g.met.P.Plant.log_told c.args.plant.now tells (fit_sound g.P.Plant c.args.job.now c.args.plant.now c.requires.fit);
    } in
    step_left g.P.Plant g.C.Cell c.args.budb.now c.step.new.budb c.args.plant.now c.step.new.plant c.args.cell.now c.step.new.cell c.args.job.now c.step.new.self ready told told_cell s p n q turn answers.Memory c.in-Memory.ensures.does

pub returns-in-Memory-clause-stopped : goal.returns-in-Memory-clause-stopped
returns-in-Memory-clause-stopped g c = λ other. (c.in-Memory.ensures.steps.same_job tt, c.in-Memory.ensures.steps.same_budb tt, c.in-Memory.ensures.steps.loads tt)
