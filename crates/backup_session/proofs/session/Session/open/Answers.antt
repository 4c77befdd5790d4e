use Rattle.std.proofs.Common.{[], refl}
use Rattle.std.specs.Prelude.{Result, Err}
use Rattle.plant_effects.specs.Runs.{Done, SameNumbers}
use Rattle.backup_session.specs.declared.stops.OpenStop.{OpenStop}
use Rattle.backup_session.specs.Views.{SessionView}
use Rattle.backup_session.proofs.OpenLaws.{archive_opened, held_anyway, cause_handed_on, no_bad_log, for_memory}
use Rattle.backup_session.proofs.session.Session.open.Goals as goal

pub returns-in-Err-first_time-clause-done : goal.returns-in-Err-first_time-clause-done
returns-in-Err-first_time-clause-done g c = held_anyway (let r : Result SessionView OpenStop = Err c.in-Err-first_time.stop in r) (Done g.P.Plant [] c.args.plant.now c.open_database.new.plant) c.in-Ok.ensures.done

pub returns-in-Err-first_time-clause-numbers : goal.returns-in-Err-first_time-clause-numbers
returns-in-Err-first_time-clause-numbers g c = held_anyway (let r : Result SessionView OpenStop = Err c.in-Err-first_time.stop in r) (SameNumbers g.P.Plant c.args.plant.now c.open_database.new.plant) c.in-Ok.ensures.numbers

pub returns-in-Err-first_time-clause-cell_cause : goal.returns-in-Err-first_time-clause-cell_cause
returns-in-Err-first_time-clause-cell_cause g c = cause_handed_on _ _ _ c.in-Err-first_time.ensures.cause

pub returns-in-Err-first_time-clause-untouched : goal.returns-in-Err-first_time-clause-untouched
returns-in-Err-first_time-clause-untouched g c = λ told none. let o = c.in-Ok.ensures.opened told in absurd (none (o.0, o.1.form, o.1.is))

pub returns-in-Ok-first_time-clause-untouched : goal.returns-in-Ok-first_time-clause-untouched
returns-in-Ok-first_time-clause-untouched g c = λ told none. let o = c.in-Ok.ensures.opened told in absurd (none (o.0, o.1.form, o.1.is))

pub returns-in-Err-clause-answers : goal.returns-in-Err-clause-answers
returns-in-Err-clause-answers g c = λ told log plant cell.
    let e = c.in-Err.ensures in
    for_memory {U = SessionView} c.in-Err.stop (Err c.in-Err.stop) refl (λ is. plant (e.cause.failed is)) e.never (no_bad_log _ _ (e.opened told) log)

pub returns-in-Err-first_time-clause-answers : goal.returns-in-Err-first_time-clause-answers
returns-in-Err-first_time-clause-answers g c = λ told log plant cell.
    let e = c.in-Err-first_time.ensures in
    for_memory {U = SessionView} c.in-Err-first_time.stop (Err c.in-Err-first_time.stop) refl e.never (λ is. cell (e.cause.failed is)) e.never_bad

pub returns-in-Ok-first_time-clause-holds : goal.returns-in-Ok-first_time-clause-holds
returns-in-Ok-first_time-clause-holds g c = λ told a records held. let o = c.in-Ok.ensures.opened told in archive_opened o.0 _ _ _ a records o.1 refl held
