use Rattle.dump_job.specs.declared.answer.StepAnswer.TheVariants as answer
use Rattle.dump_courses.specs.declared.running.End.TheVariants.{Made, Refused}
use Rattle.dump_courses.proofs.Steps.{fit_sound, step_done, step_leaves, step_more, step_last}
use Rattle.dump_courses.proofs.running.go_on.Goals as goal

pub returns-in-More-clause-moves : goal.returns-in-More-clause-moves
returns-in-More-clause-moves g c = λ told told_cell s p at.
    step_more g.P.Plant g.C.Cell c.args.budb.now c.step.new.budb c.args.plant.now c.step.new.plant c.args.cell.now c.step.new.cell c.args.job.now c.step.new.self (record {
      slots = record { count = c.the_slots_are_read.ensures.count; here = c.the_slots_are_read.ensures.here; items = c.the_slots_are_read.ensures.items };
      sound = fit_sound g.P.Plant c.args.job.now c.args.plant.now c.requires.fit;
      within = λ tells. g.met.P.Plant.within c.args.plant.now tells (fit_sound g.P.Plant c.args.job.now c.args.plant.now c.requires.fit);
      fits = λ tells survives image left. g.met.P.Plant.left c.args.plant.now image tells (fit_sound g.P.Plant c.args.job.now c.args.plant.now c.requires.fit) survives left;
      log_told = λ tells. g.met.P.Plant.log_told c.args.plant.now tells (fit_sound g.P.Plant c.args.job.now c.args.plant.now c.requires.fit);
    }) told told_cell s p at c.in-More.ensures.does c.in-More.ensures.steps.stays (c.in-More.ensures.list told_cell)

pub returns-in-More-clause-done : goal.returns-in-More-clause-done
returns-in-More-clause-done g c = λ told told_cell s p at.
    step_done g.P.Plant g.C.Cell c.args.budb.now c.step.new.budb c.args.plant.now c.step.new.plant c.args.cell.now c.step.new.cell c.args.job.now c.step.new.self (record {
      slots = record { count = c.the_slots_are_read.ensures.count; here = c.the_slots_are_read.ensures.here; items = c.the_slots_are_read.ensures.items };
      sound = fit_sound g.P.Plant c.args.job.now c.args.plant.now c.requires.fit;
      within = λ tells. g.met.P.Plant.within c.args.plant.now tells (fit_sound g.P.Plant c.args.job.now c.args.plant.now c.requires.fit);
      fits = λ tells survives image left. g.met.P.Plant.left c.args.plant.now image tells (fit_sound g.P.Plant c.args.job.now c.args.plant.now c.requires.fit) survives left;
      log_told = λ tells. g.met.P.Plant.log_told c.args.plant.now tells (fit_sound g.P.Plant c.args.job.now c.args.plant.now c.requires.fit);
    }) told told_cell s p at answer.More c.in-More.ensures.does tt

pub returns-in-More-clause-leaves : goal.returns-in-More-clause-leaves
returns-in-More-clause-leaves g c = λ told told_cell s p at.
    step_leaves g.P.Plant g.C.Cell c.args.budb.now c.step.new.budb c.args.plant.now c.step.new.plant c.args.cell.now c.step.new.cell c.args.job.now c.step.new.self (record {
      slots = record { count = c.the_slots_are_read.ensures.count; here = c.the_slots_are_read.ensures.here; items = c.the_slots_are_read.ensures.items };
      sound = fit_sound g.P.Plant c.args.job.now c.args.plant.now c.requires.fit;
      within = λ tells. g.met.P.Plant.within c.args.plant.now tells (fit_sound g.P.Plant c.args.job.now c.args.plant.now c.requires.fit);
      fits = λ tells survives image left. g.met.P.Plant.left c.args.plant.now image tells (fit_sound g.P.Plant c.args.job.now c.args.plant.now c.requires.fit) survives left;
      log_told = λ tells. g.met.P.Plant.log_told c.args.plant.now tells (fit_sound g.P.Plant c.args.job.now c.args.plant.now c.requires.fit);
    }) told told_cell s p at answer.More c.in-More.ensures.does

pub returns-in-Done-clause-moves : goal.returns-in-Done-clause-moves
returns-in-Done-clause-moves g c = λ told told_cell s p at.
    step_last g.P.Plant g.C.Cell c.args.budb.now c.step.new.budb c.args.plant.now c.step.new.plant c.args.cell.now c.step.new.cell c.args.job.now c.step.new.self (record {
      slots = record { count = c.the_slots_are_read.ensures.count; here = c.the_slots_are_read.ensures.here; items = c.the_slots_are_read.ensures.items };
      sound = fit_sound g.P.Plant c.args.job.now c.args.plant.now c.requires.fit;
      within = λ tells. g.met.P.Plant.within c.args.plant.now tells (fit_sound g.P.Plant c.args.job.now c.args.plant.now c.requires.fit);
      fits = λ tells survives image left. g.met.P.Plant.left c.args.plant.now image tells (fit_sound g.P.Plant c.args.job.now c.args.plant.now c.requires.fit) survives left;
      log_told = λ tells. g.met.P.Plant.log_told c.args.plant.now tells (fit_sound g.P.Plant c.args.job.now c.args.plant.now c.requires.fit);
    }) told told_cell s p at (Made c.in-Done.id) c.in-Done.ensures.does

pub returns-in-Done-clause-done : goal.returns-in-Done-clause-done
returns-in-Done-clause-done g c = λ told told_cell s p at.
    step_done g.P.Plant g.C.Cell c.args.budb.now c.step.new.budb c.args.plant.now c.step.new.plant c.args.cell.now c.step.new.cell c.args.job.now c.step.new.self (record {
      slots = record { count = c.the_slots_are_read.ensures.count; here = c.the_slots_are_read.ensures.here; items = c.the_slots_are_read.ensures.items };
      sound = fit_sound g.P.Plant c.args.job.now c.args.plant.now c.requires.fit;
      within = λ tells. g.met.P.Plant.within c.args.plant.now tells (fit_sound g.P.Plant c.args.job.now c.args.plant.now c.requires.fit);
      fits = λ tells survives image left. g.met.P.Plant.left c.args.plant.now image tells (fit_sound g.P.Plant c.args.job.now c.args.plant.now c.requires.fit) survives left;
      log_told = λ tells. g.met.P.Plant.log_told c.args.plant.now tells (fit_sound g.P.Plant c.args.job.now c.args.plant.now c.requires.fit);
    }) told told_cell s p at (answer.Done c.in-Done.id) c.in-Done.ensures.does tt

pub returns-in-Done-clause-leaves : goal.returns-in-Done-clause-leaves
returns-in-Done-clause-leaves g c = λ told told_cell s p at.
    step_leaves g.P.Plant g.C.Cell c.args.budb.now c.step.new.budb c.args.plant.now c.step.new.plant c.args.cell.now c.step.new.cell c.args.job.now c.step.new.self (record {
      slots = record { count = c.the_slots_are_read.ensures.count; here = c.the_slots_are_read.ensures.here; items = c.the_slots_are_read.ensures.items };
      sound = fit_sound g.P.Plant c.args.job.now c.args.plant.now c.requires.fit;
      within = λ tells. g.met.P.Plant.within c.args.plant.now tells (fit_sound g.P.Plant c.args.job.now c.args.plant.now c.requires.fit);
      fits = λ tells survives image left. g.met.P.Plant.left c.args.plant.now image tells (fit_sound g.P.Plant c.args.job.now c.args.plant.now c.requires.fit) survives left;
      log_told = λ tells. g.met.P.Plant.log_told c.args.plant.now tells (fit_sound g.P.Plant c.args.job.now c.args.plant.now c.requires.fit);
    }) told told_cell s p at (answer.Done c.in-Done.id) c.in-Done.ensures.does

pub returns-in-Refused-clause-moves : goal.returns-in-Refused-clause-moves
returns-in-Refused-clause-moves g c = λ told told_cell s p at.
    step_last g.P.Plant g.C.Cell c.args.budb.now c.step.new.budb c.args.plant.now c.step.new.plant c.args.cell.now c.step.new.cell c.args.job.now c.step.new.self (record {
      slots = record { count = c.the_slots_are_read.ensures.count; here = c.the_slots_are_read.ensures.here; items = c.the_slots_are_read.ensures.items };
      sound = fit_sound g.P.Plant c.args.job.now c.args.plant.now c.requires.fit;
      within = λ tells. g.met.P.Plant.within c.args.plant.now tells (fit_sound g.P.Plant c.args.job.now c.args.plant.now c.requires.fit);
      fits = λ tells survives image left. g.met.P.Plant.left c.args.plant.now image tells (fit_sound g.P.Plant c.args.job.now c.args.plant.now c.requires.fit) survives left;
      log_told = λ tells. g.met.P.Plant.log_told c.args.plant.now tells (fit_sound g.P.Plant c.args.job.now c.args.plant.now c.requires.fit);
    }) told told_cell s p at (Refused c.in-Refused.fault) c.in-Refused.ensures.does

pub returns-in-Refused-clause-done : goal.returns-in-Refused-clause-done
returns-in-Refused-clause-done g c = λ told told_cell s p at.
    step_done g.P.Plant g.C.Cell c.args.budb.now c.step.new.budb c.args.plant.now c.step.new.plant c.args.cell.now c.step.new.cell c.args.job.now c.step.new.self (record {
      slots = record { count = c.the_slots_are_read.ensures.count; here = c.the_slots_are_read.ensures.here; items = c.the_slots_are_read.ensures.items };
      sound = fit_sound g.P.Plant c.args.job.now c.args.plant.now c.requires.fit;
      within = λ tells. g.met.P.Plant.within c.args.plant.now tells (fit_sound g.P.Plant c.args.job.now c.args.plant.now c.requires.fit);
      fits = λ tells survives image left. g.met.P.Plant.left c.args.plant.now image tells (fit_sound g.P.Plant c.args.job.now c.args.plant.now c.requires.fit) survives left;
      log_told = λ tells. g.met.P.Plant.log_told c.args.plant.now tells (fit_sound g.P.Plant c.args.job.now c.args.plant.now c.requires.fit);
    }) told told_cell s p at (answer.Refused c.in-Refused.fault) c.in-Refused.ensures.does tt

pub returns-in-Refused-clause-leaves : goal.returns-in-Refused-clause-leaves
returns-in-Refused-clause-leaves g c = λ told told_cell s p at.
    step_leaves g.P.Plant g.C.Cell c.args.budb.now c.step.new.budb c.args.plant.now c.step.new.plant c.args.cell.now c.step.new.cell c.args.job.now c.step.new.self (record {
      slots = record { count = c.the_slots_are_read.ensures.count; here = c.the_slots_are_read.ensures.here; items = c.the_slots_are_read.ensures.items };
      sound = fit_sound g.P.Plant c.args.job.now c.args.plant.now c.requires.fit;
      within = λ tells. g.met.P.Plant.within c.args.plant.now tells (fit_sound g.P.Plant c.args.job.now c.args.plant.now c.requires.fit);
      fits = λ tells survives image left. g.met.P.Plant.left c.args.plant.now image tells (fit_sound g.P.Plant c.args.job.now c.args.plant.now c.requires.fit) survives left;
      log_told = λ tells. g.met.P.Plant.log_told c.args.plant.now tells (fit_sound g.P.Plant c.args.job.now c.args.plant.now c.requires.fit);
    }) told told_cell s p at (answer.Refused c.in-Refused.fault) c.in-Refused.ensures.does

pub returns-in-PlantFailed-clause-leaves : goal.returns-in-PlantFailed-clause-leaves
returns-in-PlantFailed-clause-leaves g c = λ told told_cell s p at.
    step_leaves g.P.Plant g.C.Cell c.args.budb.now c.step.new.budb c.args.plant.now c.step.new.plant c.args.cell.now c.step.new.cell c.args.job.now c.step.new.self (record {
      slots = record { count = c.the_slots_are_read.ensures.count; here = c.the_slots_are_read.ensures.here; items = c.the_slots_are_read.ensures.items };
      sound = fit_sound g.P.Plant c.args.job.now c.args.plant.now c.requires.fit;
      within = λ tells. g.met.P.Plant.within c.args.plant.now tells (fit_sound g.P.Plant c.args.job.now c.args.plant.now c.requires.fit);
      fits = λ tells survives image left. g.met.P.Plant.left c.args.plant.now image tells (fit_sound g.P.Plant c.args.job.now c.args.plant.now c.requires.fit) survives left;
      log_told = λ tells. g.met.P.Plant.log_told c.args.plant.now tells (fit_sound g.P.Plant c.args.job.now c.args.plant.now c.requires.fit);
    }) told told_cell s p at answer.PlantFailed c.in-PlantFailed.ensures.does

pub returns-in-CellFailed-clause-leaves : goal.returns-in-CellFailed-clause-leaves
returns-in-CellFailed-clause-leaves g c = λ told told_cell s p at.
    step_leaves g.P.Plant g.C.Cell c.args.budb.now c.step.new.budb c.args.plant.now c.step.new.plant c.args.cell.now c.step.new.cell c.args.job.now c.step.new.self (record {
      slots = record { count = c.the_slots_are_read.ensures.count; here = c.the_slots_are_read.ensures.here; items = c.the_slots_are_read.ensures.items };
      sound = fit_sound g.P.Plant c.args.job.now c.args.plant.now c.requires.fit;
      within = λ tells. g.met.P.Plant.within c.args.plant.now tells (fit_sound g.P.Plant c.args.job.now c.args.plant.now c.requires.fit);
      fits = λ tells survives image left. g.met.P.Plant.left c.args.plant.now image tells (fit_sound g.P.Plant c.args.job.now c.args.plant.now c.requires.fit) survives left;
      log_told = λ tells. g.met.P.Plant.log_told c.args.plant.now tells (fit_sound g.P.Plant c.args.job.now c.args.plant.now c.requires.fit);
    }) told told_cell s p at answer.CellFailed c.in-CellFailed.ensures.does

pub returns-in-Memory-clause-leaves : goal.returns-in-Memory-clause-leaves
returns-in-Memory-clause-leaves g c = λ told told_cell s p at.
    step_leaves g.P.Plant g.C.Cell c.args.budb.now c.step.new.budb c.args.plant.now c.step.new.plant c.args.cell.now c.step.new.cell c.args.job.now c.step.new.self (record {
      slots = record { count = c.the_slots_are_read.ensures.count; here = c.the_slots_are_read.ensures.here; items = c.the_slots_are_read.ensures.items };
      sound = fit_sound g.P.Plant c.args.job.now c.args.plant.now c.requires.fit;
      within = λ tells. g.met.P.Plant.within c.args.plant.now tells (fit_sound g.P.Plant c.args.job.now c.args.plant.now c.requires.fit);
      fits = λ tells survives image left. g.met.P.Plant.left c.args.plant.now image tells (fit_sound g.P.Plant c.args.job.now c.args.plant.now c.requires.fit) survives left;
      log_told = λ tells. g.met.P.Plant.log_told c.args.plant.now tells (fit_sound g.P.Plant c.args.job.now c.args.plant.now c.requires.fit);
    }) told told_cell s p at answer.Memory c.in-Memory.ensures.does

pub returns-in-CellFailed-clause-stopped : goal.returns-in-CellFailed-clause-stopped
returns-in-CellFailed-clause-stopped g c = λ other. c.in-CellFailed.ensures.steps.loads tt

pub returns-in-Memory-clause-stopped : goal.returns-in-Memory-clause-stopped
returns-in-Memory-clause-stopped g c = λ other. c.in-Memory.ensures.steps.loads tt
