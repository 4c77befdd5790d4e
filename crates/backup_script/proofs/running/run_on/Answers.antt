use Rattle.std.proofs.Common.{[], length, ap, refl, arith, Err}
use Rattle.plant_effects.proofs.Joining.{done_both}
use Rattle.std.specs.Str.Lines.{lines}
use Rattle.backup_session.proofs.Settling.{stands_fit}
use Rattle.backup_script.specs.Scripts.{script}
use Rattle.backup_script.specs.Ended.{world_on}
use Rattle.backup_script.specs.declared.running.RunStop.TheVariants.{Read, TooLong}
use Rattle.backup_script.specs.declared.running.RunStop.TheVariants as runs
use Rattle.backup_script.specs.declared.serving.ServeStop.TheVariants as serves
use Rattle.backup_script.specs.declared.serving.ServeStop.{ServeStop}
use Rattle.backup_script.proofs.AnswerLaws.{err_same}
use Rattle.backup_script.proofs.StopLaws.{cause_told, takes_told, takes_none}
use Rattle.backup_script.proofs.RunLaws.{opened_fits, told_behind, told_effects, no_contents, went_ends, short_ends, left_after, not_opened}
use Rattle.backup_script.proofs.running.run_on.Goals as goal

pub returns-in-Ok-ran-clause-ran : goal.returns-in-Ok-ran-clause-ran
returns-in-Ok-ran-clause-ran g c = λ told tells_cell tells_clock source settled log form is contents held.
    let P = g.P.Plant in
    let C = g.C.Cell in
    let old = c.args.plant.now in
    let mid = c.open.new.plant in
    let n = c.run_script-ran.new in
    let w = world_on P C c.args.config log contents old c.args.cell.now in
    let ms = g.K.Clock.moments c.args.clock.now in
    let f = c.in-Ok.ensures.stands told in
    let fits = opened_fits P C c.args.config log contents old mid c.args.cell.now c.open.new.cell c.in-Ok.session form is f.0 f.1 f.2 (stands_fit P C (world_on P C c.args.config f.0 contents old c.args.cell.now) mid c.open.new.cell c.in-Ok.session settled (f.3 tells_cell contents)) in
    let ran = c.in-Ok-ran.ensures.ran told tells_cell tells_clock source w fits held in (
      went_ends P C w ms old mid n.plant n.cell c.in-Ok.ensures.done c.in-Ok.ensures.leaves (script w ms (lines (g.S.Source.left c.args.source.now))) n.session (g.K.Clock.moments n.clock) ran.went,
      told_effects P C (script w ms (lines (g.S.Source.left c.args.source.now))).effects old n.plant c.in-Ok-ran.refused told (done_both P [] (script w ms (lines (g.S.Source.left c.args.source.now))).effects old mid n.plant c.in-Ok.ensures.done ran.went.done)
          (told_behind P C old mid n.plant c.in-Ok-ran.refused told c.in-Ok.ensures.done (c.in-Ok-ran.ensures.flag told tells_cell w fits)),
    )

pub returns-in-Ok-ran-clause-flag : goal.returns-in-Ok-ran-clause-flag
returns-in-Ok-ran-clause-flag g c = λ told tells_cell settled.
    let P = g.P.Plant in
    let C = g.C.Cell in
    let old = c.args.plant.now in
    let f = c.in-Ok.ensures.stands told in
    told_behind P C old c.open.new.plant c.run_script-ran.new.plant c.in-Ok-ran.refused told c.in-Ok.ensures.done
    (c.in-Ok-ran.ensures.flag told tells_cell (world_on P C c.args.config f.0 no_contents old c.args.cell.now) (stands_fit P C (world_on P C c.args.config f.0 no_contents old c.args.cell.now) c.open.new.plant c.open.new.cell c.in-Ok.session settled (f.3 tells_cell no_contents)))

pub returns-in-Ok-ran-clause-left : goal.returns-in-Ok-ran-clause-left
returns-in-Ok-ran-clause-left g c = λ told tells_cell tells_clock source settled log form is contents held.
    let P = g.P.Plant in
    let C = g.C.Cell in
    let old = c.args.plant.now in
    let mid = c.open.new.plant in
    let n = c.run_script-ran.new in
    let w = world_on P C c.args.config log contents old c.args.cell.now in
    let f = c.in-Ok.ensures.stands told in
    let fits = opened_fits P C c.args.config log contents old mid c.args.cell.now c.open.new.cell c.in-Ok.session form is f.0 f.1 f.2 (stands_fit P C (world_on P C c.args.config f.0 contents old c.args.cell.now) mid c.open.new.cell c.in-Ok.session settled (f.3 tells_cell contents)) in
    left_after P C w (g.K.Clock.moments c.args.clock.now) old mid n.plant n.cell c.in-Ok.ensures.done c.in-Ok.ensures.leaves (g.S.Source.left c.args.source.now) (g.S.Source.left n.source) (g.K.Clock.moments n.clock) (c.run_script-ran.ensures.left told tells_cell tells_clock source w fits held)

pub returns-in-Err-ran-clause-left : goal.returns-in-Err-ran-clause-left
returns-in-Err-ran-clause-left g c = λ told tells_cell tells_clock source settled log form is contents held.
    let P = g.P.Plant in
    let C = g.C.Cell in
    let old = c.args.plant.now in
    let mid = c.open.new.plant in
    let n = c.run_script-ran.new in
    let w = world_on P C c.args.config log contents old c.args.cell.now in
    let f = c.in-Ok.ensures.stands told in
    let fits = opened_fits P C c.args.config log contents old mid c.args.cell.now c.open.new.cell c.in-Ok.session form is f.0 f.1 f.2 (stands_fit P C (world_on P C c.args.config f.0 contents old c.args.cell.now) mid c.open.new.cell c.in-Ok.session settled (f.3 tells_cell contents)) in
    left_after P C w (g.K.Clock.moments c.args.clock.now) old mid n.plant n.cell c.in-Ok.ensures.done c.in-Ok.ensures.leaves (g.S.Source.left c.args.source.now) (g.S.Source.left n.source) (g.K.Clock.moments n.clock) (c.run_script-ran.ensures.left told tells_cell tells_clock source w fits held)

pub returns-in-Err-ran-clause-read_short : goal.returns-in-Err-ran-clause-read_short
returns-in-Err-ran-clause-read_short g c = λ told tells_cell tells_clock source settled log form is contents held stops.
    let P = g.P.Plant in
    let C = g.C.Cell in
    let old = c.args.plant.now in
    let mid = c.open.new.plant in
    let n = c.run_script-ran.new in
    let w = world_on P C c.args.config log contents old c.args.cell.now in
    let f = c.in-Ok.ensures.stands told in
    let fits = opened_fits P C c.args.config log contents old mid c.args.cell.now c.open.new.cell c.in-Ok.session form is f.0 f.1 f.2 (stands_fit P C (world_on P C c.args.config f.0 contents old c.args.cell.now) mid c.open.new.cell c.in-Ok.session settled (f.3 tells_cell contents)) in
    short_ends P C w (g.K.Clock.moments c.args.clock.now) old mid n.plant n.cell c.in-Ok.ensures.done c.in-Ok.ensures.leaves (g.S.Source.left c.args.source.now) (g.S.Source.left n.source) n.session (g.K.Clock.moments n.clock)
    (c.in-Err-ran.ensures.read_short told tells_cell tells_clock source w fits held (ap (λ (e : ServeStop). Err e) (c.serving_stop.ensures.read (err_same Read c.serving_stop.result stops))))

pub returns-in-Err-ran-clause-long_short : goal.returns-in-Err-ran-clause-long_short
returns-in-Err-ran-clause-long_short g c = λ told tells_cell tells_clock source settled log form is contents held stops.
    let P = g.P.Plant in
    let C = g.C.Cell in
    let old = c.args.plant.now in
    let mid = c.open.new.plant in
    let n = c.run_script-ran.new in
    let w = world_on P C c.args.config log contents old c.args.cell.now in
    let f = c.in-Ok.ensures.stands told in
    let fits = opened_fits P C c.args.config log contents old mid c.args.cell.now c.open.new.cell c.in-Ok.session form is f.0 f.1 f.2 (stands_fit P C (world_on P C c.args.config f.0 contents old c.args.cell.now) mid c.open.new.cell c.in-Ok.session settled (f.3 tells_cell contents)) in
    short_ends P C w (g.K.Clock.moments c.args.clock.now) old mid n.plant n.cell c.in-Ok.ensures.done c.in-Ok.ensures.leaves (g.S.Source.left c.args.source.now) (g.S.Source.left n.source) n.session (g.K.Clock.moments n.clock)
    (c.in-Err-ran.ensures.long_short told tells_cell tells_clock source w fits held (ap (λ (e : ServeStop). Err e) (c.serving_stop.ensures.long (err_same TooLong c.serving_stop.result stops))))

pub returns-in-Err-ran-clause-takes : goal.returns-in-Err-ran-clause-takes
returns-in-Err-ran-clause-takes g c = λ told.
    let s = c.serving_stop.ensures in
    takes_told _ _ _ c.serving_stop.result s.long s.long_back s.log (c.in-Err-ran.ensures.takes told)

pub returns-in-Err-clause-takes : goal.returns-in-Err-clause-takes
returns-in-Err-clause-takes g c = λ told. takes_none (g.S.Source.left c.args.source.now) c.opening_stop.result c.opening_stop.ensures.long

pub returns-in-Err-ran-clause-order : goal.returns-in-Err-ran-clause-order
returns-in-Err-ran-clause-order g c = λ stops tells_clock source many same.
    let used = c.in-Err-ran.ensures.used tells_clock (ap (λ (e : ServeStop). Err e) (c.serving_stop.ensures.cell (err_same runs.Cell c.serving_stop.result stops))) many in
    absurd (omega (arith, ap length same, used))

pub returns-in-Err-ran-clause-plant_order : goal.returns-in-Err-ran-clause-plant_order
returns-in-Err-ran-clause-plant_order g c = λ stops tells_clock source many same.
    let used = c.in-Err-ran.ensures.plant_used tells_clock (ap (λ (e : ServeStop). Err e) (c.serving_stop.ensures.plant (err_same runs.Plant c.serving_stop.result stops))) many in
    absurd (omega (arith, ap length same, used))

pub returns-in-Err-ran-clause-plant_cause : goal.returns-in-Err-ran-clause-plant_cause
returns-in-Err-ran-clause-plant_cause g c =
    let s = c.serving_stop.ensures in
    cause_told serves.Plant _ runs.Plant c.serving_stop.result _ _ _ s.plant s.plant_back (c.in-Ok.ensures.plant_cause.stays (λ is. absurd (cc))) c.in-Err-ran.ensures.plant_cause

pub returns-in-Err-ran-clause-cell_cause : goal.returns-in-Err-ran-clause-cell_cause
returns-in-Err-ran-clause-cell_cause g c =
    let s = c.serving_stop.ensures in
    cause_told serves.Cell _ runs.Cell c.serving_stop.result _ _ _ s.cell s.cell_back (c.in-Ok.ensures.cell_cause.stays (λ is. absurd (cc))) c.in-Err-ran.ensures.cell_cause

pub returns-in-Err-ran-clause-output_cause : goal.returns-in-Err-ran-clause-output_cause
returns-in-Err-ran-clause-output_cause g c =
    let s = c.serving_stop.ensures in
    cause_told serves.Output _ runs.Output c.serving_stop.result _ _ _ s.output s.output_back c.in-Ok.ensures.stays.tell_faults c.in-Err-ran.ensures.output_cause

pub returns-in-Err-ran-clause-read_cause : goal.returns-in-Err-ran-clause-read_cause
returns-in-Err-ran-clause-read_cause g c =
    let s = c.serving_stop.ensures in
    cause_told serves.Read _ runs.Read c.serving_stop.result _ _ _ s.read s.read_back refl c.in-Err-ran.ensures.read_cause

pub returns-in-Err-clause-left : goal.returns-in-Err-clause-left
returns-in-Err-clause-left g c = λ told tells_cell tells_clock source settled log form is contents held.
    not_opened g.P.Plant g.C.Cell (world_on g.P.Plant g.C.Cell c.args.config log contents c.args.plant.now c.args.cell.now) (g.K.Clock.moments c.args.clock.now) (g.S.Source.left c.args.source.now) c.args.plant.now c.open.new.plant c.open.new.cell
    (c.in-Err.ensures.cell tells_cell) c.in-Err.ensures.leaves

pub returns-in-Ok-ran-clause-refused_log_looks : goal.returns-in-Ok-ran-clause-refused_log_looks
returns-in-Ok-ran-clause-refused_log_looks g c = λ told none. let f = c.in-Ok.ensures.stands told in absurd (none (f.0, f.1, f.2))

pub returns-in-Ok-ran-clause-refused_log_cell : goal.returns-in-Ok-ran-clause-refused_log_cell
returns-in-Ok-ran-clause-refused_log_cell g c = λ told none. let f = c.in-Ok.ensures.stands told in absurd (none (f.0, f.1, f.2))

pub returns-in-Ok-ran-clause-refused_log_clock : goal.returns-in-Ok-ran-clause-refused_log_clock
returns-in-Ok-ran-clause-refused_log_clock g c = λ told none. let f = c.in-Ok.ensures.stands told in absurd (none (f.0, f.1, f.2))

pub returns-in-Err-ran-clause-refused_log_looks : goal.returns-in-Err-ran-clause-refused_log_looks
returns-in-Err-ran-clause-refused_log_looks g c = λ told none. let f = c.in-Ok.ensures.stands told in absurd (none (f.0, f.1, f.2))

pub returns-in-Err-ran-clause-refused_log_cell : goal.returns-in-Err-ran-clause-refused_log_cell
returns-in-Err-ran-clause-refused_log_cell g c = λ told none. let f = c.in-Ok.ensures.stands told in absurd (none (f.0, f.1, f.2))

pub returns-in-Err-ran-clause-refused_log_clock : goal.returns-in-Err-ran-clause-refused_log_clock
returns-in-Err-ran-clause-refused_log_clock g c = λ told none. let f = c.in-Ok.ensures.stands told in absurd (none (f.0, f.1, f.2))
