use Rattle.std.proofs.Common.{refl, sym, ◌∙◌, ap, ◌≢◌}
use Rattle.std.proofs.lemmas.Bool.{false≢true}
use Rattle.std.proofs.lemmas.Result.{IfOk-at_ok, err_from_is_err_and}
use Rattle.std.specs.Prelude.{Result, is_ok, IfOk, Err, OnErr}
use Rattle.tape_config.specs.declared.port.PortFields.{PortFields}
use Rattle.dump_job.specs.declared.fault.JobFault.{JobFault}
use Rattle.dump_job.specs.declared.fields.JobFields.{JobFields}
use Rattle.dump_job.specs.Beginning.{IsBegun}
use Rattle.dump_courses.specs.declared.stop.DumpStop.TheVariants as stop
use Rattle.dump_courses.proofs.Stopping.{on_stop, handed, left_loads}
use Rattle.dump_courses.specs.Ahead.{LeftAhead}
use Rattle.dump_commands.specs.Answers.{begun, IsAnswered}
use Rattle.dump_commands.proofs.Making.{begun_going, begun_places, make_left, make_never, make_leaves, make_told, make_stopped}
use Rattle.tape_scan.specs.Looking.{Loads}
use Rattle.dump_commands.proofs.made.make.Goals as goal

pub run-requires-clause-going : goal.run-requires-clause-going
run-requires-clause-going g c = begun_going g.P.Plant c.args.order c.args.budb.now c.begin.new.budb c.args.plant.now c.begin.new.plant c.in-Ok.job (IfOk-at_ok (IsBegun g.P.Plant c.args.order c.args.budb.now c.begin.new.budb c.args.plant.now c.begin.new.plant) c.in-Ok.is c.in_ok-job.ensures.begun)

pub run-requires-clause-places : goal.run-requires-clause-places
run-requires-clause-places g c = begun_places g.P.Plant g.C.Cell c.args.order c.args.budb.now c.begin.new.budb c.args.plant.now c.begin.new.plant c.args.cell.now c.in-Ok.job (IfOk-at_ok (IsBegun g.P.Plant c.args.order c.args.budb.now c.begin.new.budb c.args.plant.now c.begin.new.plant) c.in-Ok.is c.in_ok-job.ensures.begun) c.requires.places

pub returns-in-Ok-clause-answered : goal.returns-in-Ok-clause-answered
returns-in-Ok-clause-answered g c = λ told told_cell s t is time found.
    make_told g.P.Plant g.C.Cell s c.args.order t c.args.budb.now c.args.plant.now c.args.cell.now (record {
      slots = record { count = c.the_slots_are_read.ensures.count; here = c.the_slots_are_read.ensures.here; items = c.the_slots_are_read.ensures.items };
      sound = c.requires.sound;
      within = λ tells. g.met.P.Plant.within c.args.plant.now tells c.requires.sound;
      fits = λ tells survives image left. g.met.P.Plant.left c.args.plant.now image tells c.requires.sound survives left;
      log_told = λ tells. g.met.P.Plant.log_told c.args.plant.now tells c.requires.sound;
    }) told is found c.begin.new.budb c.begin.new.plant c.run.new.plant c.in-Ok.job (IfOk-at_ok (IsBegun g.P.Plant c.args.order c.args.budb.now c.begin.new.budb c.args.plant.now c.begin.new.plant) c.in-Ok.is c.in_ok-job.ensures.begun) c.begin.ensures.stays
    c.run.result c.run.new.budb c.args.set.now c.fields-offset.result.offset c.args.order.time c.requires.set (ap (λ (f : PortFields). f.offset) c.fields-offset.ensures.value) refl time
    (c.run.ensures.finished told told_cell s) c.run.ensures.time

pub returns-in-Ok-clause-leaves : goal.returns-in-Ok-clause-leaves
returns-in-Ok-clause-leaves g c = λ told told_cell s t is found.
    make_leaves g.P.Plant g.C.Cell s c.args.order t c.args.budb.now c.args.plant.now c.args.cell.now (record {
      slots = record { count = c.the_slots_are_read.ensures.count; here = c.the_slots_are_read.ensures.here; items = c.the_slots_are_read.ensures.items };
      sound = c.requires.sound;
      within = λ tells. g.met.P.Plant.within c.args.plant.now tells c.requires.sound;
      fits = λ tells survives image left. g.met.P.Plant.left c.args.plant.now image tells c.requires.sound survives left;
      log_told = λ tells. g.met.P.Plant.log_told c.args.plant.now tells c.requires.sound;
    }) told is found c.begin.new.budb c.begin.new.plant c.run.new.plant c.in-Ok.job (IfOk-at_ok (IsBegun g.P.Plant c.args.order c.args.budb.now c.begin.new.budb c.args.plant.now c.begin.new.plant) c.in-Ok.is c.in_ok-job.ensures.begun) c.begin.ensures.stays
    (c.begin.ensures.leaves told) (c.run.ensures.leaves told told_cell s)

pub returns-in-Err-clause-answered : goal.returns-in-Err-clause-answered
returns-in-Err-clause-answered g c = λ told told_cell s t is time found.
    make_never g.P.Plant g.C.Cell s c.args.order t c.args.budb.now c.args.plant.now c.args.cell.now (record {
      slots = record { count = c.the_slots_are_read.ensures.count; here = c.the_slots_are_read.ensures.here; items = c.the_slots_are_read.ensures.items };
      sound = c.requires.sound;
      within = λ tells. g.met.P.Plant.within c.args.plant.now tells c.requires.sound;
      fits = λ tells survives image left. g.met.P.Plant.left c.args.plant.now image tells c.requires.sound survives left;
      log_told = λ tells. g.met.P.Plant.log_told c.args.plant.now tells c.requires.sound;
    }) told is found
    (IfOk c.refuse.result (IsAnswered g.P.Plant s (begun s c.args.order t) c.begin.new.budb c.args.plant.now c.begin.new.plant))
    (λ slots whole u has are right. absurd (false≢true (sym (ap (λ (r : Result JobFields JobFault). is_ok r) c.in-Err.is) ∙ c.in_ok-job.ensures.never told slots whole u has are right)))

pub returns-in-Err-clause-leaves : goal.returns-in-Err-clause-leaves
returns-in-Err-clause-leaves g c = λ told told_cell s t is found.
    make_left g.P.Plant g.C.Cell s c.args.order t c.args.budb.now c.args.plant.now c.args.cell.now (record {
      slots = record { count = c.the_slots_are_read.ensures.count; here = c.the_slots_are_read.ensures.here; items = c.the_slots_are_read.ensures.items };
      sound = c.requires.sound;
      within = λ tells. g.met.P.Plant.within c.args.plant.now tells c.requires.sound;
      fits = λ tells survives image left. g.met.P.Plant.left c.args.plant.now image tells c.requires.sound survives left;
      log_told = λ tells. g.met.P.Plant.log_told c.args.plant.now tells c.requires.sound;
    }) told is found c.begin.new.plant (c.begin.ensures.leaves told)

pub returns-in_err-job-clause-leaves : goal.returns-in_err-job-clause-leaves
returns-in_err-job-clause-leaves g c = λ told told_cell s t is found.
    make_left g.P.Plant g.C.Cell s c.args.order t c.args.budb.now c.args.plant.now c.args.cell.now (record {
      slots = record { count = c.the_slots_are_read.ensures.count; here = c.the_slots_are_read.ensures.here; items = c.the_slots_are_read.ensures.items };
      sound = c.requires.sound;
      within = λ tells. g.met.P.Plant.within c.args.plant.now tells c.requires.sound;
      fits = λ tells survives image left. g.met.P.Plant.left c.args.plant.now image tells c.requires.sound survives left;
      log_told = λ tells. g.met.P.Plant.log_told c.args.plant.now tells c.requires.sound;
    }) told is found c.begin.new.plant (c.begin.ensures.leaves told)

pub returns-in_err-job-clause-unfailed : goal.returns-in_err-job-clause-unfailed
returns-in_err-job-clause-unfailed g c = λ other.
    let e = err_from_is_err_and c.from_residual.result c.from_residual.ensures.1 in
    (handed stop.Plant _ c.from_residual.result (Loads g.P.Plant c.args.plant.now c.begin.new.plant) (e.1 ∙ ap Err e.2) c.in_err-job.ensures.stopped other).done.sound

pub returns-in_err-job-clause-stopped : goal.returns-in_err-job-clause-stopped
returns-in_err-job-clause-stopped g c = λ told told_cell s t is found.
    let e = err_from_is_err_and c.from_residual.result c.from_residual.ensures.1 in
    on_stop stop.Plant c.from_residual.result _ (λ other. left_loads g.P.Plant (begun s c.args.order t).effects c.args.plant.now c.begin.new.plant s.state (λ _. is.state)
    (handed stop.Plant _ c.from_residual.result (Loads g.P.Plant c.args.plant.now c.begin.new.plant) (e.1 ∙ ap Err e.2) c.in_err-job.ensures.stopped other))

pub returns-in-Ok-clause-stopped : goal.returns-in-Ok-clause-stopped
returns-in-Ok-clause-stopped g c = λ told told_cell s t is found.
    make_stopped g.P.Plant g.C.Cell s c.args.order t c.args.budb.now c.args.plant.now c.args.cell.now (record {
      slots = record { count = c.the_slots_are_read.ensures.count; here = c.the_slots_are_read.ensures.here; items = c.the_slots_are_read.ensures.items };
      sound = c.requires.sound;
      within = λ tells. g.met.P.Plant.within c.args.plant.now tells c.requires.sound;
      fits = λ tells survives image left. g.met.P.Plant.left c.args.plant.now image tells c.requires.sound survives left;
      log_told = λ tells. g.met.P.Plant.log_told c.args.plant.now tells c.requires.sound;
    }) told is found c.begin.new.budb c.begin.new.plant c.run.new.plant c.in-Ok.job (IfOk-at_ok (IsBegun g.P.Plant c.args.order c.args.budb.now c.begin.new.budb c.args.plant.now c.begin.new.plant) c.in-Ok.is c.in_ok-job.ensures.begun) c.begin.ensures.stays
    c.run.result (c.run.ensures.stopped told told_cell s)

pub returns-in-Err-clause-stopped : goal.returns-in-Err-clause-stopped
returns-in-Err-clause-stopped g c = λ told told_cell s t is found.
    make_never g.P.Plant g.C.Cell s c.args.order t c.args.budb.now c.args.plant.now c.args.cell.now (record {
      slots = record { count = c.the_slots_are_read.ensures.count; here = c.the_slots_are_read.ensures.here; items = c.the_slots_are_read.ensures.items };
      sound = c.requires.sound;
      within = λ tells. g.met.P.Plant.within c.args.plant.now tells c.requires.sound;
      fits = λ tells survives image left. g.met.P.Plant.left c.args.plant.now image tells c.requires.sound survives left;
      log_told = λ tells. g.met.P.Plant.log_told c.args.plant.now tells c.requires.sound;
    }) told is found
    (OnErr c.refuse.result (c.refuse.result ≢ Err stop.Plant → LeftAhead g.P.Plant (begun s c.args.order t).effects c.args.plant.now c.begin.new.plant))
    (λ slots whole u has are right. absurd (false≢true (sym (ap (λ (r : Result JobFields JobFault). is_ok r) c.in-Err.is) ∙ c.in_ok-job.ensures.never told slots whole u has are right)))
