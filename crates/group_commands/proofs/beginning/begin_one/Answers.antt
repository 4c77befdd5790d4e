use Rattle.std.proofs.Common.{◌≡◌, ◌≢◌, List, ℕ, subst, arith}
use Rattle.std.specs.Prelude.{max, Some, Result}
use Rattle.std.proofs.lemmas.Result.{IfOk-at_ok}
use Rattle.tape_config.specs.Configs.{port_in}
use Rattle.dump_job.specs.declared.fields.JobFields.{JobFields}
use Rattle.dump_job.specs.declared.fields.Phase.TheVariants as phase
use Rattle.dump_job.specs.Elsewhere.{IsOnPort}
use Rattle.dump_job.specs.Jobs.{FitsJob, HasPlaces}
use Rattle.dump_commands.specs.Starts.{dump_start, Starts}
use Rattle.group_commands.specs.Begins.{scene_at}
use Rattle.group_commands.proofs.Adding.{fits_still, fits_more, places_more, ports_more}
use Rattle.group_commands.proofs.HeldBegins.{finds_there, job_begun, text_told}
use Rattle.group_commands.proofs.beginning.begin_one.Goals as goal

pub returns-in-Ok-clause-fit : goal.returns-in-Ok-clause-fit
returns-in-Ok-clause-fit g c =
    fits_more g.P.Plant c.args.plant.now c.start_dump.new.plant c.in_ok-job.ensures.sound c.start_dump.ensures.stays (λ tells. c.in_ok-job.ensures.elsewhere tells (λ same. cc))
    c.args.pool.now.jobs c.add_job.new.pool.jobs c.in-Ok.job c.requires.fit
    (IfOk-at_ok (λ (j : JobFields). FitsJob g.P.Plant j c.start_dump.new.plant) c.in-Ok.is c.in_ok-job.ensures.fit)
    (IfOk-at_ok (λ (j : JobFields). j.phase ≢ phase.Over) c.in-Ok.is c.in_ok-job.ensures.going)
    (λ tells. IfOk-at_ok IsOnPort c.in-Ok.is (c.in_ok-job.ensures.on tells))
    c.add_job.ensures.apart c.add_job.ensures.jobs

pub returns-in-Ok-clause-places : goal.returns-in-Ok-clause-places
returns-in-Ok-clause-places g c =
    places_more g.C.Cell c.args.cell.now c.args.pool.now.jobs c.add_job.new.pool.jobs c.in-Ok.job c.requires.places
    (IfOk-at_ok (λ (j : JobFields). HasPlaces g.C.Cell j.places c.args.cell.now) c.in-Ok.is c.in_ok-job.ensures.places) c.add_job.ensures.jobs

pub returns-in-Ok-clause-ports : goal.returns-in-Ok-clause-ports
returns-in-Ok-clause-ports g c =
    ports_more c.args.config.now c.args.command.now.offset c.args.pool.now.jobs c.add_job.new.pool.jobs c.in-Ok.job
    (IfOk-at_ok (λ (j : JobFields). port_in c.args.command.now.offset c.args.config.now.entries ≡ Some j.port) c.in-Ok.is c.in_ok-job.ensures.port) c.add_job.ensures.jobs

pub returns-in-Ok-clause-begun : goal.returns-in-Ok-clause-begun
returns-in-Ok-clause-begun g c = λ told told_cell s p finds.
    let P = g.P.Plant in
    let C = g.C.Cell in
    let time : c.max.result ≡ max c.args.time.now c.in-Ok.job.head.id = omega (arith, c.max.ensures, c.id.ensures) in
    job_begun P C s p c.args.config.now c.args.budb.now c.start_dump.new.budb c.args.plant.now c.start_dump.new.plant c.args.cell.now c.args.now c.args.pool.now.jobs finds
    (dump_start (scene_at s p) c.args.command.now) c.in-Ok.job c.add_job.result c.args.time.now c.max.result c.add_job.new.pool.jobs
    (subst (λ (r : Result JobFields (List ℕ)). Starts P C (scene_at s p) (dump_start (scene_at s p) c.args.command.now) c.args.budb.now c.start_dump.new.budb c.args.plant.now c.start_dump.new.plant c.args.cell.now r) c.in-Ok.is
    (c.in_ok-job.ensures.started told told_cell (scene_at s p) (finds_there P C s p c.args.config.now c.args.budb.now c.start_dump.new.budb c.args.plant.now c.start_dump.new.plant c.args.cell.now c.args.now c.args.pool.now.jobs finds)))
    c.add_job.ensures.number time c.add_job.ensures.jobs

pub returns-in-Err-clause-fit : goal.returns-in-Err-clause-fit
returns-in-Err-clause-fit g c =
    fits_still g.P.Plant c.args.plant.now c.start_dump.new.plant c.in_ok-job.ensures.sound c.start_dump.ensures.stays (λ tells. c.in_ok-job.ensures.elsewhere tells (λ same. cc)) c.args.pool.now.jobs c.requires.fit

pub returns-in-Err-clause-begun : goal.returns-in-Err-clause-begun
returns-in-Err-clause-begun g c = λ told told_cell s p finds.
    let P = g.P.Plant in
    let C = g.C.Cell in
    text_told P C s p c.args.config.now c.args.budb.now c.start_dump.new.budb c.args.plant.now c.start_dump.new.plant c.args.cell.now c.args.now c.args.pool.now.jobs finds told c.start_dump.ensures.stays
    (dump_start (scene_at s p) c.args.command.now) c.in-Err.text c.args.time.now
    (subst (λ (r : Result JobFields (List ℕ)). Starts P C (scene_at s p) (dump_start (scene_at s p) c.args.command.now) c.args.budb.now c.start_dump.new.budb c.args.plant.now c.start_dump.new.plant c.args.cell.now r) c.in-Err.is
    (c.in_ok-job.ensures.started told told_cell (scene_at s p) (finds_there P C s p c.args.config.now c.args.budb.now c.start_dump.new.budb c.args.plant.now c.start_dump.new.plant c.args.cell.now c.args.now c.args.pool.now.jobs finds)))
