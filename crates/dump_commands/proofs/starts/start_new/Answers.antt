use Rattle.std.proofs.Common.{◌≡◌, sym, ◌∙◌, ap, ◌≢◌}
use Rattle.std.proofs.lemmas.Bool.{false≢true}
use Rattle.std.proofs.lemmas.Result.{IfOk-at_ok, err_from_is_err_and}
use Rattle.std.specs.Prelude.{Result, Ok, is_ok, IfOk, Err, OnErr}
use Rattle.tape_scan.specs.Looking.{Loads}
use Rattle.dump_job.specs.declared.fault.JobFault.{JobFault}
use Rattle.dump_job.specs.declared.fields.JobFields.{JobFields}
use Rattle.dump_job.specs.declared.fields.Phase.TheVariants as phase
use Rattle.dump_job.specs.Beginning.{IsBegun}
use Rattle.dump_job.specs.Jobs.{FitsJob, HasPlaces}
use Rattle.dump_job.specs.Elsewhere.{IsOnPort}
use Rattle.dump_courses.specs.declared.stop.DumpStop.TheVariants as stop
use Rattle.dump_courses.specs.Ahead.{LeftAhead}
use Rattle.dump_courses.proofs.Stopping.{on_stop, handed, left_loads}
use Rattle.dump_commands.specs.Refusals.{fault_line}
use Rattle.dump_commands.specs.Answers.{commit_of}
use Rattle.dump_commands.specs.Starts.{Starts}
use Rattle.dump_commands.proofs.Making.{begun_going, begun_places, make_never}
use Rattle.dump_commands.proofs.OnPort.{begun_on}
use Rattle.dump_commands.proofs.Starting.{start_left, start_made, begun_tapes, loads_tapes, refused_if, at_err}
use Rattle.dump_commands.proofs.starts.start_new.Goals as goal

pub returns-in-Ok-clause-started : goal.returns-in-Ok-clause-started
returns-in-Ok-clause-started g c = λ told told_cell s t is found.
    start_made g.P.Plant g.C.Cell s c.args.order t c.args.budb.now c.args.plant.now c.args.cell.now (record {
      slots = record { count = c.the_slots_are_read.ensures.count; here = c.the_slots_are_read.ensures.here; items = c.the_slots_are_read.ensures.items };
      sound = c.requires.sound;
      within = λ tells. g.met.P.Plant.within c.args.plant.now tells c.requires.sound;
      fits = λ tells survives image left. g.met.P.Plant.left c.args.plant.now image tells c.requires.sound survives left;
      log_told = λ tells. g.met.P.Plant.log_told c.args.plant.now tells c.requires.sound;
    }) told is found c.begin.new.budb c.begin.new.plant c.in-Ok.job (IfOk-at_ok (IsBegun g.P.Plant c.args.order c.args.budb.now c.begin.new.budb c.args.plant.now c.begin.new.plant) c.in-Ok.is c.in_ok-job.ensures.begun) c.begin.ensures.stays

pub returns-in-Ok-clause-leaves : goal.returns-in-Ok-clause-leaves
returns-in-Ok-clause-leaves g c = λ told told_cell s t is found.
    start_left g.P.Plant g.C.Cell s c.args.order t c.args.budb.now c.args.plant.now c.args.cell.now (record {
      slots = record { count = c.the_slots_are_read.ensures.count; here = c.the_slots_are_read.ensures.here; items = c.the_slots_are_read.ensures.items };
      sound = c.requires.sound;
      within = λ tells. g.met.P.Plant.within c.args.plant.now tells c.requires.sound;
      fits = λ tells survives image left. g.met.P.Plant.left c.args.plant.now image tells c.requires.sound survives left;
      log_told = λ tells. g.met.P.Plant.log_told c.args.plant.now tells c.requires.sound;
    }) told is found c.begin.new.plant (c.begin.ensures.leaves told)

pub returns-in-Ok-clause-going : goal.returns-in-Ok-clause-going
returns-in-Ok-clause-going g c = begun_going g.P.Plant c.args.order c.args.budb.now c.begin.new.budb c.args.plant.now c.begin.new.plant c.in-Ok.job (IfOk-at_ok (IsBegun g.P.Plant c.args.order c.args.budb.now c.begin.new.budb c.args.plant.now c.begin.new.plant) c.in-Ok.is c.in_ok-job.ensures.begun)

pub returns-in-Ok-clause-places : goal.returns-in-Ok-clause-places
returns-in-Ok-clause-places g c = begun_places g.P.Plant g.C.Cell c.args.order c.args.budb.now c.begin.new.budb c.args.plant.now c.begin.new.plant c.args.cell.now c.in-Ok.job (IfOk-at_ok (IsBegun g.P.Plant c.args.order c.args.budb.now c.begin.new.budb c.args.plant.now c.begin.new.plant) c.in-Ok.is c.in_ok-job.ensures.begun) c.requires.places

pub returns-in-Ok-clause-on : goal.returns-in-Ok-clause-on
returns-in-Ok-clause-on g c = λ told.
    begun_on g.P.Plant (record { count = c.the_slots_are_read.ensures.count; here = c.the_slots_are_read.ensures.here; items = c.the_slots_are_read.ensures.items }) told c.args.order c.args.budb.now c.begin.new.budb c.args.plant.now c.begin.new.plant c.in-Ok.job (IfOk-at_ok (IsBegun g.P.Plant c.args.order c.args.budb.now c.begin.new.budb c.args.plant.now c.begin.new.plant) c.in-Ok.is c.in_ok-job.ensures.begun)

pub returns-in-Ok-clause-port : goal.returns-in-Ok-clause-port
returns-in-Ok-clause-port g c = ap (λ (j : JobFields). j.port) (IfOk-at_ok (IsBegun g.P.Plant c.args.order c.args.budb.now c.begin.new.budb c.args.plant.now c.begin.new.plant) c.in-Ok.is c.in_ok-job.ensures.begun).is

pub returns-in-Ok-clause-elsewhere : goal.returns-in-Ok-clause-elsewhere
returns-in-Ok-clause-elsewhere g c = λ told other.
    begun_tapes g.P.Plant told c.args.order c.args.budb.now c.begin.new.budb c.args.plant.now c.begin.new.plant c.in-Ok.job (IfOk-at_ok (IsBegun g.P.Plant c.args.order c.args.budb.now c.begin.new.budb c.args.plant.now c.begin.new.plant) c.in-Ok.is c.in_ok-job.ensures.begun)

pub returns-in-Err-clause-started : goal.returns-in-Err-clause-started
returns-in-Err-clause-started g c = λ told told_cell s t is found.
    make_never g.P.Plant g.C.Cell s c.args.order t c.args.budb.now c.args.plant.now c.args.cell.now (record {
      slots = record { count = c.the_slots_are_read.ensures.count; here = c.the_slots_are_read.ensures.here; items = c.the_slots_are_read.ensures.items };
      sound = c.requires.sound;
      within = λ tells. g.met.P.Plant.within c.args.plant.now tells c.requires.sound;
      fits = λ tells survives image left. g.met.P.Plant.left c.args.plant.now image tells c.requires.sound survives left;
      log_told = λ tells. g.met.P.Plant.log_told c.args.plant.now tells c.requires.sound;
    }) told is found
    (IfOk c.refuse.result (Starts g.P.Plant g.C.Cell s (Ok (record { order = c.args.order; tape = t })) c.args.budb.now c.begin.new.budb c.args.plant.now c.begin.new.plant c.args.cell.now))
    (λ slots whole u has are right. absurd (false≢true (sym (ap (λ (r : Result JobFields JobFault). is_ok r) c.in-Err.is) ∙ c.in_ok-job.ensures.never told slots whole u has are right)))

pub returns-in-Err-clause-leaves : goal.returns-in-Err-clause-leaves
returns-in-Err-clause-leaves g c = λ told told_cell s t is found.
    start_left g.P.Plant g.C.Cell s c.args.order t c.args.budb.now c.args.plant.now c.args.cell.now (record {
      slots = record { count = c.the_slots_are_read.ensures.count; here = c.the_slots_are_read.ensures.here; items = c.the_slots_are_read.ensures.items };
      sound = c.requires.sound;
      within = λ tells. g.met.P.Plant.within c.args.plant.now tells c.requires.sound;
      fits = λ tells survives image left. g.met.P.Plant.left c.args.plant.now image tells c.requires.sound survives left;
      log_told = λ tells. g.met.P.Plant.log_told c.args.plant.now tells c.requires.sound;
    }) told is found c.begin.new.plant (c.begin.ensures.leaves told)

pub returns-in-Err-clause-stopped : goal.returns-in-Err-clause-stopped
returns-in-Err-clause-stopped g c = λ told told_cell s t is found.
    make_never g.P.Plant g.C.Cell s c.args.order t c.args.budb.now c.args.plant.now c.args.cell.now (record {
      slots = record { count = c.the_slots_are_read.ensures.count; here = c.the_slots_are_read.ensures.here; items = c.the_slots_are_read.ensures.items };
      sound = c.requires.sound;
      within = λ tells. g.met.P.Plant.within c.args.plant.now tells c.requires.sound;
      fits = λ tells survives image left. g.met.P.Plant.left c.args.plant.now image tells c.requires.sound survives left;
      log_told = λ tells. g.met.P.Plant.log_told c.args.plant.now tells c.requires.sound;
    }) told is found
    (OnErr c.refuse.result (c.refuse.result ≢ Err stop.Plant → LeftAhead g.P.Plant (commit_of s c.args.order t) c.args.plant.now c.begin.new.plant))
    (λ slots whole u has are right. absurd (false≢true (sym (ap (λ (r : Result JobFields JobFault). is_ok r) c.in-Err.is) ∙ c.in_ok-job.ensures.never told slots whole u has are right)))

pub returns-in-Err-clause-fit : goal.returns-in-Err-clause-fit
returns-in-Err-clause-fit g c = refused_if c.refuse.result (fault_line c.args.set.now c.fields-offset.result.offset c.in-Err.fault) (λ job. FitsJob g.P.Plant job c.begin.new.plant) c.refuse.ensures.text

pub returns-in-Err-clause-going : goal.returns-in-Err-clause-going
returns-in-Err-clause-going g c = refused_if c.refuse.result (fault_line c.args.set.now c.fields-offset.result.offset c.in-Err.fault) (λ job. job.phase ≢ phase.Over) c.refuse.ensures.text

pub returns-in-Err-clause-places : goal.returns-in-Err-clause-places
returns-in-Err-clause-places g c = refused_if c.refuse.result (fault_line c.args.set.now c.fields-offset.result.offset c.in-Err.fault) (λ job. HasPlaces g.C.Cell job.places c.args.cell.now) c.refuse.ensures.text

pub returns-in-Err-clause-on : goal.returns-in-Err-clause-on
returns-in-Err-clause-on g c = λ told. refused_if c.refuse.result (fault_line c.args.set.now c.fields-offset.result.offset c.in-Err.fault) IsOnPort c.refuse.ensures.text

pub returns-in-Err-clause-port : goal.returns-in-Err-clause-port
returns-in-Err-clause-port g c = refused_if c.refuse.result (fault_line c.args.set.now c.fields-offset.result.offset c.in-Err.fault) (λ job. job.port ≡ c.args.order.port) c.refuse.ensures.text

pub returns-in-Err-clause-elsewhere : goal.returns-in-Err-clause-elsewhere
returns-in-Err-clause-elsewhere g c = λ told other.
    loads_tapes g.P.Plant told c.args.plant.now c.begin.new.plant (at_err c.in_ok-job.field-0 c.in-Err.fault (Loads g.P.Plant c.args.plant.now c.begin.new.plant) c.in-Err.is c.in_ok-job.ensures.refused)

pub returns-in_err-job-clause-leaves : goal.returns-in_err-job-clause-leaves
returns-in_err-job-clause-leaves g c = λ told told_cell s t is found.
    start_left g.P.Plant g.C.Cell s c.args.order t c.args.budb.now c.args.plant.now c.args.cell.now (record {
      slots = record { count = c.the_slots_are_read.ensures.count; here = c.the_slots_are_read.ensures.here; items = c.the_slots_are_read.ensures.items };
      sound = c.requires.sound;
      within = λ tells. g.met.P.Plant.within c.args.plant.now tells c.requires.sound;
      fits = λ tells survives image left. g.met.P.Plant.left c.args.plant.now image tells c.requires.sound survives left;
      log_told = λ tells. g.met.P.Plant.log_told c.args.plant.now tells c.requires.sound;
    }) told is found c.begin.new.plant (c.begin.ensures.leaves told)

pub returns-in_err-job-clause-unfailed : goal.returns-in_err-job-clause-unfailed
returns-in_err-job-clause-unfailed g c = λ other.
    let e = err_from_is_err_and c.from_residual.result c.from_residual.ensures.1 in
    (handed stop.Plant _ c.from_residual.result (Loads g.P.Plant c.args.plant.now c.begin.new.plant) (e.1 ∙ ap Err e.2) c.in_err-job.ensures.stopped other).done.sound

pub returns-in_err-job-clause-elsewhere : goal.returns-in_err-job-clause-elsewhere
returns-in_err-job-clause-elsewhere g c = λ told other.
    let e = err_from_is_err_and c.from_residual.result c.from_residual.ensures.1 in
    loads_tapes g.P.Plant told c.args.plant.now c.begin.new.plant
    (handed stop.Plant _ c.from_residual.result (Loads g.P.Plant c.args.plant.now c.begin.new.plant) (e.1 ∙ ap Err e.2) c.in_err-job.ensures.stopped other)

pub returns-in_err-job-clause-stopped : goal.returns-in_err-job-clause-stopped
returns-in_err-job-clause-stopped g c = λ told told_cell s t is found.
    let e = err_from_is_err_and c.from_residual.result c.from_residual.ensures.1 in
    on_stop stop.Plant c.from_residual.result _ (λ other. left_loads g.P.Plant (commit_of s c.args.order t) c.args.plant.now c.begin.new.plant s.state (λ _. is.state)
    (handed stop.Plant _ c.from_residual.result (Loads g.P.Plant c.args.plant.now c.begin.new.plant) (e.1 ∙ ap Err e.2) c.in_err-job.ensures.stopped other))
