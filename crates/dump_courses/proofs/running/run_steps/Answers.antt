use Rattle.std.proofs.Common.{refl, ◌∙◌, subst}
use Rattle.std.specs.Prelude.{Option, Ok}
use Rattle.plant_effects.proofs.Joining.{nothing_quiet, quiet_both}
use Rattle.dump_courses.specs.declared.running.End.{End}
use Rattle.dump_courses.specs.Courses.{next_event}
use Rattle.dump_courses.specs.Running.{Moves}
use Rattle.dump_courses.proofs.Steps.{fit_sound}
use Rattle.dump_courses.proofs.Ways.{begin_way, more_way, end_way, leave_way, idle_way}
use Rattle.dump_courses.specs.declared.stop.DumpStop.TheVariants as stop
use Rattle.dump_courses.proofs.Stopping.{handed}
use Rattle.tape_scan.specs.Looking.{Loads}
use Rattle.dump_courses.proofs.running.run_steps.Goals as goal

pub steps-init : goal.steps-init
steps-init g c = record {
  going = c.requires.going;
  fit = c.requires.fit;
  nothing = c.requires.nothing;
  places = refl;
  way = λ told told_cell s p at.
      begin_way g.P.Plant g.C.Cell s p c.args.plant.now c.args.budb.now c.args.cell.now c.args.job.now (fit_sound g.P.Plant c.args.job.now c.args.plant.now c.requires.fit)
      (λ tells. g.met.P.Plant.within c.args.plant.now tells (fit_sound g.P.Plant c.args.job.now c.args.plant.now c.requires.fit))
      (λ tells survives image left. g.met.P.Plant.left c.args.plant.now image tells (fit_sound g.P.Plant c.args.job.now c.args.plant.now c.requires.fit) survives left) at;
  list = λ told. refl;
  size = refl;
  stays = nothing_quiet g.P.Plant c.args.plant.now;
  faults = refl;
  cell_faults = refl;
}

pub steps-preserved : goal.steps-preserved
steps-preserved g c =
    let so_far = c.steps.invariant in
    record {
      going = c.in-Ok-None.ensures.going (λ i. Ok (c.in-Ok-None.field-0-is i));
      fit = c.in-Ok-None.ensures.fit;
      nothing = c.go_on.ensures.nothing;
      places = c.in-Ok-None.ensures.places ∙ so_far.places;
      way = λ told told_cell s p at.
          let way = c.steps.invariant.way told told_cell s p at in
          let moves = subst (λ (end : Option End). Moves g.P.Plant g.C.Cell s way.now (next_event s way.now) end c.go_on.new.budb c.go_on.new.plant c.go_on.new.cell c.go_on.new.job) c.in-Ok-None.field-0-is (c.in-Ok-None.ensures.moves told told_cell s way.now way.at) in
          more_way g.P.Plant g.C.Cell s p c.args.plant.now c.steps.budb c.go_on.new.budb c.steps.plant c.go_on.new.plant c.steps.cell c.go_on.new.cell c.steps.job c.go_on.new.job way moves.0 moves.1
          (c.in-Ok-None.ensures.done told told_cell s way.now way.at) (c.go_on.ensures.leaves told told_cell s way.now way.at);
      list = λ told. c.go_on.ensures.list told ∙ so_far.list told;
      size = c.go_on.ensures.size ∙ so_far.size;
      stays = quiet_both g.P.Plant c.args.plant.now c.steps.plant c.go_on.new.plant so_far.stays c.go_on.ensures.stays;
      faults = c.in-Ok-None.ensures.plant_cause.stays (λ failed. cc) ∙ so_far.faults;
      cell_faults = c.in-Ok-None.ensures.cell_cause.stays (λ failed. cc) ∙ so_far.cell_faults;
    }

pub returns-in-Ok-Some-clause-ended : goal.returns-in-Ok-Some-clause-ended
returns-in-Ok-Some-clause-ended g c = λ told told_cell s p at.
    let way = c.steps.invariant.way told told_cell s p at in
    let moves = subst (λ (end : Option End). Moves g.P.Plant g.C.Cell s way.now (next_event s way.now) end c.go_on.new.budb c.go_on.new.plant c.go_on.new.cell c.go_on.new.job) c.in-Ok-Some.field-0-is (c.in-Ok-Some.ensures.moves told told_cell s way.now way.at) in
    end_way g.P.Plant g.C.Cell s p c.args.plant.now c.in-Ok-Some.end c.steps.budb c.go_on.new.budb c.steps.plant c.go_on.new.plant c.steps.cell c.steps.job way moves.0 moves.1 (c.in-Ok-Some.ensures.done told told_cell s way.now way.at)

pub returns-in-Ok-Some-clause-leaves : goal.returns-in-Ok-Some-clause-leaves
returns-in-Ok-Some-clause-leaves g c = λ told told_cell s p at.
    let way = c.steps.invariant.way told told_cell s p at in
    leave_way g.P.Plant g.C.Cell s p c.args.plant.now c.steps.budb c.steps.plant c.go_on.new.plant c.steps.cell c.steps.job way (c.go_on.ensures.leaves told told_cell s way.now way.at)

pub returns-in-Err-clause-leaves : goal.returns-in-Err-clause-leaves
returns-in-Err-clause-leaves g c = λ told told_cell s p at.
    let way = c.steps.invariant.way told told_cell s p at in
    leave_way g.P.Plant g.C.Cell s p c.args.plant.now c.steps.budb c.steps.plant c.go_on.new.plant c.steps.cell c.steps.job way (c.go_on.ensures.leaves told told_cell s way.now way.at)

pub returns-in-Ok-Some-clause-unfailed : goal.returns-in-Ok-Some-clause-unfailed
returns-in-Ok-Some-clause-unfailed g c = λ other. fit_sound g.P.Plant c.go_on.new.job c.go_on.new.plant c.in-Ok-Some.ensures.fit

pub returns-in-Err-clause-unfailed : goal.returns-in-Err-clause-unfailed
returns-in-Err-clause-unfailed g c = λ other. (handed stop.Plant c.in-Err.stop _ (Loads g.P.Plant c.steps.plant c.go_on.new.plant) refl c.in-Err.ensures.stopped other).done.sound

pub returns-in-Err-clause-stopped : goal.returns-in-Err-clause-stopped
returns-in-Err-clause-stopped g c = λ told told_cell s p at other.
    let way = c.steps.invariant.way told told_cell s p at in
    idle_way g.P.Plant g.C.Cell s p c.args.plant.now c.steps.budb c.steps.plant c.go_on.new.plant c.steps.cell c.steps.job way
    (handed stop.Plant c.in-Err.stop _ (Loads g.P.Plant c.steps.plant c.go_on.new.plant) refl c.in-Err.ensures.stopped other)
