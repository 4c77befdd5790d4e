use Rattle.std.proofs.Common.{◌+◌, ℕ, refl, ap, ◌∙◌, length, arith}
use Rattle.std.specs.Prelude.{Err}
use Rattle.std.proofs.lemmas.Result.{err_from_is_err_and}
use Rattle.plant_effects.proofs.Joining.{nothing_quiet, quiet_both}
use Rattle.dump_courses.specs.declared.stop.DumpStop.TheVariants as stop
use Rattle.dump_courses.proofs.Stopping.{on_stop, handed}
use Rattle.job_pool.specs.PoolViews.{PoolView}
use Rattle.group_commands.specs.declared.began.Began.TheVariants.{Runs}
use Rattle.group_commands.proofs.Adding.{no_get, no_began, none_fits, held_others, held_more}
use Rattle.group_commands.proofs.HeldBegins.{held_at, held_drop, no_begins, finds_next, more_begins, leave_begins, stop_begins}
use Rattle.group_commands.proofs.beginning.begin_held.Goals as goal

pub loop-i-init : goal.loop-i-init
loop-i-init g c =
    let empty = ap (λ (v : PoolView). v.jobs) c.requires.pool in
    record {
      fit = none_fits g.P.Plant c.args.plant.now c.args.begun.now.pool.jobs c.requires.sound empty;
      places = λ n q at runs. absurd (no_get c.args.begun.now.pool.jobs n q empty at);
      nothing = c.requires.nothing;
      room = ap (λ (v : PoolView). v.room) c.requires.pool;
      count = omega (arith, ap length empty);
      each = ap length c.requires.began;
      within = λ i n at. absurd (no_began c.args.begun.now.began i (Runs n) c.requires.began at);
      ports = λ n q at. absurd (no_get c.args.begun.now.pool.jobs n q empty at);
      way = λ told told_cell s finds.
          no_begins g.P.Plant g.C.Cell s c.args.held.now c.args.plant.now c.args.cell.now c.args.config.now c.args.now c.args.budb.now c.args.begun.now.began c.args.begun.now.time c.args.begun.now.pool.jobs c.requires.sound
          (λ tells survives image left. g.met.P.Plant.left c.args.plant.now image tells c.requires.sound survives left) finds c.requires.began c.requires.time empty;
      stays = nothing_quiet g.P.Plant c.args.plant.now;
      faults = refl;
    }

pub begin_next-requires-clause-others : goal.begin_next-requires-clause-others
begin_next-requires-clause-others g c =
    held_others c.args.config.now c.args.held.now c.loop-i.i c.index-held-i.result c.loop-i.begun.pool.jobs (held_at c.args.held.now c.loop-i.i c.index-held-i.result c.loop-i-test.true c.index-held-i.is) c.requires.ports c.loop-i.invariant.ports

pub returns-in_err-begin_next-clause-leaves : goal.returns-in_err-begin_next-clause-leaves
returns-in_err-begin_next-clause-leaves g c = λ told told_cell s finds.
    let P = g.P.Plant in
    let C = g.C.Cell in
    let way = c.loop-i.invariant.way told told_cell s finds in
    leave_begins P C s c.args.held.now c.args.plant.now c.args.cell.now c.loop-i.i c.loop-i.begun.began c.loop-i.begun.time c.loop-i.budb c.loop-i.plant c.loop-i.begun.pool.jobs way
    c.index-held-i.result (c.loop-i.i + 1) (held_drop c.args.held.now c.loop-i.i c.index-held-i.result c.loop-i-test.true c.index-held-i.is) c.begin_next.new.plant
    (c.begin_next.ensures.leaves told told_cell s way.now
    (finds_next P C s c.args.held.now c.args.plant.now c.args.cell.now c.loop-i.i c.loop-i.begun.began c.loop-i.begun.time c.loop-i.budb c.loop-i.plant c.loop-i.begun.pool.jobs way c.args.config.now c.args.now finds.config finds.time))

pub returns-in_err-begin_next-clause-stopped : goal.returns-in_err-begin_next-clause-stopped
returns-in_err-begin_next-clause-stopped g c = λ told told_cell s finds.
    let P = g.P.Plant in
    let C = g.C.Cell in
    let way = c.loop-i.invariant.way told told_cell s finds in
    let e = err_from_is_err_and c.from_residual.result c.from_residual.ensures.1 in
    on_stop stop.Plant c.from_residual.result _ (λ other.
    stop_begins P C s c.args.held.now c.args.plant.now c.args.cell.now c.loop-i.i c.loop-i.begun.began c.loop-i.begun.time c.loop-i.budb c.loop-i.plant c.loop-i.begun.pool.jobs way
    c.index-held-i.result (c.loop-i.i + 1) (held_drop c.args.held.now c.loop-i.i c.index-held-i.result c.loop-i-test.true c.index-held-i.is) c.begin_next.new.plant
    (handed stop.Plant _ c.from_residual.result _ (e.1 ∙ ap Err e.2)
    (c.in_err-begin_next.ensures.stopped told told_cell s way.now
    (finds_next P C s c.args.held.now c.args.plant.now c.args.cell.now c.loop-i.i c.loop-i.begun.began c.loop-i.begun.time c.loop-i.budb c.loop-i.plant c.loop-i.begun.pool.jobs way c.args.config.now c.args.now finds.config finds.time)) other))

pub loop-i-preserved : goal.loop-i-preserved
loop-i-preserved g c =
    let P = g.P.Plant in
    let C = g.C.Cell in
    let inv = c.loop-i.invariant in
    record {
      fit = c.in_ok-begin_next.ensures.fit;
      places = c.in_ok-begin_next.ensures.places;
      nothing = c.begin_next.ensures.nothing;
      room = c.begin_next.ensures.room ∙ inv.room;
      count = omega (arith, c.begin_next.ensures.count, inv.count);
      each = c.in_ok-begin_next.ensures.each ∙ ap (λ (n : ℕ). n + 1) inv.each;
      within = c.in_ok-begin_next.ensures.within;
      ports = held_more c.args.config.now c.args.held.now c.loop-i.i (c.loop-i.i + 1) c.index-held-i.result c.loop-i.begun.pool.jobs c.begin_next.new.begun.pool.jobs
          (held_at c.args.held.now c.loop-i.i c.index-held-i.result c.loop-i-test.true c.index-held-i.is) (omega arith) inv.ports c.in_ok-begin_next.ensures.ports;
      way = λ told told_cell s finds.
          let way = inv.way told told_cell s finds in
          let there = finds_next P C s c.args.held.now c.args.plant.now c.args.cell.now c.loop-i.i c.loop-i.begun.began c.loop-i.begun.time c.loop-i.budb c.loop-i.plant c.loop-i.begun.pool.jobs way c.args.config.now c.args.now finds.config finds.time in
          more_begins P C s c.args.held.now c.args.plant.now c.args.cell.now c.loop-i.i c.loop-i.begun.began c.loop-i.begun.time c.loop-i.budb c.loop-i.plant c.loop-i.begun.pool.jobs way
          c.index-held-i.result (c.loop-i.i + 1) (held_drop c.args.held.now c.loop-i.i c.index-held-i.result c.loop-i-test.true c.index-held-i.is)
          c.begin_next.new.begun.began c.begin_next.new.begun.time c.begin_next.new.budb c.begin_next.new.plant c.begin_next.new.begun.pool.jobs
          (c.in_ok-begin_next.ensures.begun told told_cell s way.now there) (c.begin_next.ensures.leaves told told_cell s way.now there);
      stays = quiet_both P c.args.plant.now c.loop-i.plant c.begin_next.new.plant inv.stays c.begin_next.ensures.stays;
      faults = c.in_ok-begin_next.ensures.cause.stays (λ failed. cc) ∙ inv.faults;
    }
