use Rattle.std.proofs.Common.{◌≡◌, inl, inr, [], ◌∷◌, ◌++◌, true, false, refl, sym, ◌∙◌, ap, arith, Err}
use Rattle.std.specs.Str.Lines.{lines, strip_carriage_return}
use Rattle.std.proofs.lemmas.List.{append-nil}
use Rattle.std.proofs.lemmas.List.Elements.{All-nil}
use Rattle.plant_effects.specs.Runs.{state_of}
use Rattle.backup_script.specs.declared.serving.ServeStop.{ServeStop}
use Rattle.backup_script.specs.declared.serving.ServeStop.TheVariants.{Read, Plant as PlantStop, Cell as CellStop, TooLong}
use Rattle.backup_script.specs.Lines.{is_feed}
use Rattle.backup_script.specs.Scripts.{script}
use Rattle.backup_script.proofs.ServingLaws.{went_nothing, nothing_begun}
use Rattle.backup_script.specs.Watching.{Watched}
use Rattle.backup_script.proofs.WatchLaws.{watched_from_start}
use Rattle.backup_script.proofs.AnswerLaws.{not_false, not_true, err_is}
use Rattle.plant_effects.proofs.Joining.{nothing_stays, stays_both}
use Rattle.backup_script.proofs.LineLaws.{none_ended}
use Rattle.backup_script.proofs.LoopLaws.{reading_starts, reading_more, took_end, took_at_end, took_too_many, serving_starts, serving_held, serving_more, serving_ended, serving_left, serving_short, all_left, stop_takes, used_behind}
use Rattle.backup_script.proofs.serve.run_script.Goals as goal

pub loop-taken-init : goal.loop-taken-init
loop-taken-init g c =
    let P = g.P.Plant in
    let plant = c.args.plant.now in
    let left = g.S.Source.left c.args.source.now in
    record {
      within = omega arith;
      sound = c.requires;
      stays = nothing_stays P plant;
      plant_faults = refl;
      cell_faults = refl;
      output_faults = refl;
      read_faults = refl;
      fewer = λ tells_clock. omega arith;
      count = λ source. omega arith;
      reading = λ source. ([], reading_starts left);
      serving = λ told tells_cell tells_clock source w fits held. serving_starts P g.C.Cell w (g.K.Clock.moments c.args.clock.now) left plant c.args.cell.now c.args.session.now c.requires
          (λ told survives image was. g.met.P.Plant.left plant image told c.requires survives was) fits;
      watching = λ told tells_cell w fits. record { world = w; fits = fits; text = []; told = sym (append-nil (state_of P plant).told); is = c.new-watch.ensures };
    }

pub returns-in-Err-clause-left : goal.returns-in-Err-clause-left
returns-in-Err-clause-left g c = λ told tells_cell tells_clock source w fits held.
    let P = g.P.Plant in
    let l = c.loop-taken in
    let n = c.serve_line.new in
    let e = c.in-Err.ensures in
    let so = l.invariant.serving told tells_cell tells_clock source w fits held in
    let took = e.took source in
    serving_left P g.C.Cell w (g.K.Clock.moments c.args.clock.now) (g.S.Source.left c.args.source.now) c.args.plant.now l.plant l.cell l.session (g.K.Clock.moments l.clock) (g.S.Source.left l.source) so n.plant n.cell (g.K.Clock.moments n.clock) (g.S.Source.left n.source)
    took.0 n.taken took.1 took.3 (omega (arith, l.invariant.count source, e.count source)) e.within
    (e.left told tells_cell tells_clock source (script w (g.K.Clock.moments c.args.clock.now) so.ran).world so.so_far.went.fits (serving_held P g.C.Cell w (g.K.Clock.moments c.args.clock.now) (g.S.Source.left c.args.source.now) c.args.plant.now l.plant l.cell l.session (g.K.Clock.moments l.clock) (g.S.Source.left l.source) so held))

pub returns-in-Err-clause-read_short : goal.returns-in-Err-clause-read_short
returns-in-Err-clause-read_short g c = λ told tells_cell tells_clock source w fits held is.
    let P = g.P.Plant in
    let l = c.loop-taken in
    let n = c.serve_line.new in
    let e = c.in-Err.ensures in
    let so = l.invariant.serving told tells_cell tells_clock source w fits held in
    let took = e.took source in
    serving_short P g.C.Cell w (g.K.Clock.moments c.args.clock.now) (g.S.Source.left c.args.source.now) c.args.plant.now l.plant l.cell l.session (g.K.Clock.moments l.clock) (g.S.Source.left l.source) so n.plant n.cell n.session (g.K.Clock.moments n.clock) (g.S.Source.left n.source)
    took.0 n.taken took.1 (took.2 (inr (err_is Read c.in-Err.stop is))) (omega (arith, l.invariant.count source, e.count source)) e.within
    (e.read_short told tells_cell tells_clock (script w (g.K.Clock.moments c.args.clock.now) so.ran).world so.so_far.went.fits (ap (λ (s : ServeStop). Err s) (err_is Read c.in-Err.stop is)))

pub returns-in-Err-clause-long_short : goal.returns-in-Err-clause-long_short
returns-in-Err-clause-long_short g c = λ told tells_cell tells_clock source w fits held is.
    let P = g.P.Plant in
    let l = c.loop-taken in
    let n = c.serve_line.new in
    let e = c.in-Err.ensures in
    let so = l.invariant.serving told tells_cell tells_clock source w fits held in
    let took = e.took source in
    serving_short P g.C.Cell w (g.K.Clock.moments c.args.clock.now) (g.S.Source.left c.args.source.now) c.args.plant.now l.plant l.cell l.session (g.K.Clock.moments l.clock) (g.S.Source.left l.source) so n.plant n.cell n.session (g.K.Clock.moments n.clock) (g.S.Source.left n.source)
    took.0 n.taken took.1 (took.2 (inl (err_is TooLong c.in-Err.stop is))) (omega (arith, l.invariant.count source, e.count source)) e.within
    (e.long_short told tells_cell tells_clock (script w (g.K.Clock.moments c.args.clock.now) so.ran).world so.so_far.went.fits (ap (λ (s : ServeStop). Err s) (err_is TooLong c.in-Err.stop is)))

pub returns-in-Err-clause-takes : goal.returns-in-Err-clause-takes
returns-in-Err-clause-takes g c = λ source.
    let l = c.loop-taken in
    let n = c.serve_line.new in
    let e = c.in-Err.ensures in
    let so = l.invariant.reading source in
    stop_takes (g.S.Source.left c.args.source.now) (g.S.Source.left l.source) (g.S.Source.left n.source) so.0 n.taken c.in-Err.stop so.1 (e.took source) (omega (arith, l.invariant.count source, e.count source)) e.within
    (λ long. e.long (ap (λ (s : ServeStop). Err s) long))

pub returns-in-Err-clause-used : goal.returns-in-Err-clause-used
returns-in-Err-clause-used g c = λ tells_clock is.
    let l = c.loop-taken in
    let e = c.in-Err.ensures in
    used_behind (g.K.Clock.moments c.args.clock.now) (g.K.Clock.moments l.clock) (g.K.Clock.moments c.serve_line.new.clock) (l.invariant.fewer tells_clock) (e.fewer tells_clock)
    (e.used tells_clock (ap (λ (s : ServeStop). Err s) (err_is CellStop c.in-Err.stop is)))

pub returns-in-Err-clause-plant_used : goal.returns-in-Err-clause-plant_used
returns-in-Err-clause-plant_used g c = λ tells_clock is.
    let l = c.loop-taken in
    let e = c.in-Err.ensures in
    used_behind (g.K.Clock.moments c.args.clock.now) (g.K.Clock.moments l.clock) (g.K.Clock.moments c.serve_line.new.clock) (l.invariant.fewer tells_clock) (e.fewer tells_clock)
    (e.plant_used tells_clock (ap (λ (s : ServeStop). Err s) (err_is PlantStop c.in-Err.stop is)))

pub returns-then-not-passed-clause-ran : goal.returns-then-not-passed-clause-ran
returns-then-not-passed-clause-ran g c = λ told tells_cell tells_clock source w fits held.
    let P = g.P.Plant in
    let l = c.loop-taken in
    let n = c.serve_line.new in
    let ms = g.K.Clock.moments c.args.clock.now in
    let input = g.S.Source.left c.args.source.now in
    let so = l.invariant.serving told tells_cell tells_clock source w fits held in
    let passed = c.in-Ok.passed in
    serving_ended P g.C.Cell w ms input c.args.plant.now l.plant l.cell l.session (g.K.Clock.moments l.clock) (g.S.Source.left l.source) so n.plant n.cell n.session (g.K.Clock.moments n.clock)
    (c.in-Ok.ensures.ended told tells_cell tells_clock source (script w ms so.ran).world so.so_far.went.fits (serving_held P g.C.Cell w (g.K.Clock.moments c.args.clock.now) (g.S.Source.left c.args.source.now) c.args.plant.now l.plant l.cell l.session (g.K.Clock.moments l.clock) (g.S.Source.left l.source) so held) (not_true passed.goes c.if-not-passed.true))

pub returns-then-not-passed-clause-flag : goal.returns-then-not-passed-clause-flag
returns-then-not-passed-clause-flag g c = λ told tells_cell w fits.
    let P = g.P.Plant in
    let so = c.in-Ok.ensures.watched told tells_cell (state_of P c.args.plant.now).told (c.loop-taken.invariant.watching told tells_cell w fits) in
    record { text = so.text; told = so.told; is = c.refused.ensures ∙ ap (λ (v : Watched). v.refused) so.is ∙ watched_from_start so.text }

pub returns-then-not-passed-clause-left : goal.returns-then-not-passed-clause-left
returns-then-not-passed-clause-left g c = λ told tells_cell tells_clock source w fits held.
    let P = g.P.Plant in
    let l = c.loop-taken in
    let n = c.serve_line.new in
    let ms = g.K.Clock.moments c.args.clock.now in
    let input = g.S.Source.left c.args.source.now in
    let so = l.invariant.serving told tells_cell tells_clock source w fits held in
    let ran = c.in-Ok.ensures.ended told tells_cell tells_clock source (script w ms so.ran).world so.so_far.went.fits (serving_held P g.C.Cell w (g.K.Clock.moments c.args.clock.now) (g.S.Source.left c.args.source.now) c.args.plant.now l.plant l.cell l.session (g.K.Clock.moments l.clock) (g.S.Source.left l.source) so held) (not_true c.in-Ok.passed.goes c.if-not-passed.true) in
    let e = c.in-Ok.ensures in
    let reading = l.invariant.reading source in
    all_left P g.C.Cell w ms input (g.S.Source.left n.source) c.args.plant.now n.plant n.cell n.session (g.K.Clock.moments n.clock)
    (took_at_end input (g.S.Source.left n.source) (took_end input (g.S.Source.left l.source) reading.0 reading.1 (g.S.Source.left n.source) n.taken ((e.took source).1 (not_true c.in-Ok.passed.goes c.if-not-passed.true)) (omega (arith, l.invariant.count source, e.count source)) e.within))
    (λ told survives image was. g.met.P.Plant.left n.plant image told c.in-Ok.ensures.sound survives was)
    (serving_ended P g.C.Cell w ms input c.args.plant.now l.plant l.cell l.session (g.K.Clock.moments l.clock) (g.S.Source.left l.source) so n.plant n.cell n.session (g.K.Clock.moments n.clock) ran)

pub returns-then-not-passed-clause-takes : goal.returns-then-not-passed-clause-takes
returns-then-not-passed-clause-takes g c = λ source.
    let l = c.loop-taken in
    let n = c.serve_line.new in
    let e = c.in-Ok.ensures in
    let so = l.invariant.reading source in
    took_end (g.S.Source.left c.args.source.now) (g.S.Source.left l.source) so.0 so.1 (g.S.Source.left n.source) n.taken ((e.took source).1 (not_true c.in-Ok.passed.goes c.if-not-passed.true)) (omega (arith, l.invariant.count source, e.count source)) e.within

pub loop-taken-preserved : goal.loop-taken-preserved
loop-taken-preserved g c =
    let P = g.P.Plant in
    let l = c.loop-taken in
    let n = c.serve_line.new in
    let i = l.invariant in
    let e = c.in-Ok.ensures in
    let ms = g.K.Clock.moments c.args.clock.now in
    let input = g.S.Source.left c.args.source.now in
    let passed = c.in-Ok.passed in
    let on : passed.goes ≡ true = not_false passed.goes c.if-not-passed.false in
    record {
      within = e.within;
      sound = e.sound;
      stays = stays_both P c.args.plant.now l.plant n.plant i.stays e.stays;
      plant_faults = e.plant_cause.stays (λ is. cc) ∙ i.plant_faults;
      cell_faults = e.cell_cause.stays (λ is. cc) ∙ i.cell_faults;
      output_faults = e.output_cause.stays (λ is. cc) ∙ i.output_faults;
      read_faults = e.read_cause.stays (λ is. cc) ∙ i.read_faults;
      fewer = λ tells_clock. omega (arith, i.fewer tells_clock, e.fewer tells_clock);
      count = λ source. omega (arith, i.count source, e.count source);
      reading = λ source.
          let so = i.reading source in
          let took = (e.took source).0 on in
          (so.0 ++ strip_carriage_return took.0 ∷ [], reading_more input (g.S.Source.left l.source) (g.S.Source.left n.source) so.0 took.0 so.1 took.1 took.2);
      serving = λ told tells_cell tells_clock source w fits held.
          let so = i.serving told tells_cell tells_clock source w fits held in
          serving_more P g.C.Cell w ms input c.args.plant.now l.plant l.cell l.session (g.K.Clock.moments l.clock) (g.S.Source.left l.source) so n.plant n.cell n.session (g.K.Clock.moments n.clock) (g.S.Source.left n.source)
          (e.passed told tells_cell tells_clock source (script w ms so.ran).world so.so_far.went.fits (serving_held P g.C.Cell w (g.K.Clock.moments c.args.clock.now) (g.S.Source.left c.args.source.now) c.args.plant.now l.plant l.cell l.session (g.K.Clock.moments l.clock) (g.S.Source.left l.source) so held) on);
      watching = λ told tells_cell w fits. e.watched told tells_cell (state_of P c.args.plant.now).told (i.watching told tells_cell w fits);
    }

pub returns-clause-long_short : goal.returns-clause-long_short
returns-clause-long_short g c = λ told tells_cell tells_clock source w fits held is.
    let P = g.P.Plant in
    let l = c.loop-taken in
    let rest = g.S.Source.left l.source in
    let so = l.invariant.serving told tells_cell tells_clock source w fits held in
    serving_short P g.C.Cell w (g.K.Clock.moments c.args.clock.now) (g.S.Source.left c.args.source.now) c.args.plant.now l.plant l.cell l.session (g.K.Clock.moments l.clock) rest so l.plant l.cell l.session (g.K.Clock.moments l.clock) rest
    [] l.taken refl (All-nil (λ b. is_feed b ≡ false)) (l.invariant.count source) l.invariant.within
    (went_nothing P g.C.Cell (script w (g.K.Clock.moments c.args.clock.now) so.ran).world (g.K.Clock.moments l.clock) l.plant l.cell l.session true l.invariant.sound so.so_far.went.fits)

pub returns-clause-left : goal.returns-clause-left
returns-clause-left g c = λ told tells_cell tells_clock source w fits held.
    let P = g.P.Plant in
    let l = c.loop-taken in
    let ms = g.K.Clock.moments c.args.clock.now in
    let so = l.invariant.serving told tells_cell tells_clock source w fits held in
    serving_left P g.C.Cell w ms (g.S.Source.left c.args.source.now) c.args.plant.now l.plant l.cell l.session (g.K.Clock.moments l.clock) (g.S.Source.left l.source) so l.plant l.cell (g.K.Clock.moments l.clock) (g.S.Source.left l.source)
    [] l.taken refl (none_ended [] (All-nil (λ b. is_feed b ≡ false))) (l.invariant.count source) l.invariant.within
    (nothing_begun P g.C.Cell (script w ms so.ran).world (g.K.Clock.moments l.clock) (lines (g.S.Source.left l.source)) l.plant l.cell l.session (λ told survives image was. g.met.P.Plant.left l.plant image told l.invariant.sound survives was) so.so_far.went.fits)

pub returns-clause-takes : goal.returns-clause-takes
returns-clause-takes g c = λ source.
    let l = c.loop-taken in
    let rest = g.S.Source.left l.source in
    let so = l.invariant.reading source in
    took_too_many (g.S.Source.left c.args.source.now) rest so.0 so.1 rest [] refl (All-nil (λ b. is_feed b ≡ false)) (omega (arith, l.invariant.count source, l.invariant.within, c.loop-taken-test.false))
