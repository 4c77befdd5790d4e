use Rattle.std.proofs.Common.{◌≡◌, ℕ, ◌-◌, Bool, [], length, refl, sym, ◌∙◌, ap, subst, arith}
use Rattle.std.specs.Str.Lines.{lines}
use Rattle.media_core.specs.Media.{Image}
use Rattle.plant_core.specs.Stock.{Stock}
use Rattle.plant_media.specs.Slots.{slots_here}
use Rattle.crash_log.specs.Log.{is_damaged}
use Rattle.plant_media.specs.Stock.{stock_of, journal_of}
use Rattle.plant_media.specs.State.{shown_of}
use Rattle.budb_changes.specs.Bytes.{encoded}
use Rattle.budb_changes.specs.Forms.{IsLog}
use Rattle.backup_session.specs.Worlds.{World}
use Rattle.backup_session.specs.Opening.{opened}
use Rattle.backup_session.proofs.Settling.{settled_alike}
use Rattle.backup_script.specs.Scripts.{between, script, IsStage}
use Rattle.backup_script.specs.Held.{IsHeldThroughout}
use Rattle.backup_script.proofs.StageLaws.{stage_front}
use Rattle.session_archives.specs.Held.{HoldsWorld, HoldsAfter}
use Rattle.session_archives.specs.Ready.{IsReady, RestoresApartThroughout, FitsBackThroughout, at_first, IsReadyFor}
use Rattle.backup_top.specs.declared.status.Status.{Status}
use Rattle.backup_top.specs.declared.status.Status.TheVariants.{MediaFault}
use Rattle.backup_top.specs.Courses.{Course, course, outcome, at_rest, Runs, TellsLines, TakesBy, RefusesJournal, HasCauseAs}
use Rattle.backup_top.proofs.Lowering.{opened_rests, shown_log, journal_damaged, still_left, nothing_since, images_left, reads_past, none_some, same_files, shown_told, told_to, untold_to, least_to, untold_least, nothing_same, images_same}
use Rattle.backup_top.proofs.StillLaws.{IsWhole, not_opened, whole_ends}
use Rattle.backup_top.proofs.TapeCounts.{has_tapes}
use Rattle.backup_top.proofs.CourseLaws.{OpenedForms, has_forms, ready_for, AbsentStay, leaves_media, runs_of, runs_not_opened, journal_of_log, told_lines, opening_lines, takes_run, takes_opening, opening_later, bad_log_answer, cell_answer, plant_answer, refuses_journal, opening_bad, opening_cause, bad_journal, damaged_journal, journaled, images_of, ends_past, ends_front, runs_in, runs_front, left_whole}
use Rattle.backup_top.proofs.running.run_media.Goals as goal

pub returns-in-Ok-clause-runs : goal.returns-in-Ok-clause-runs
returns-in-Ok-clause-runs g c = λ told tells_cell tells_clock source named says journal contents held.
    let M = g.M.Media in
    let media = c.args.media in
    let plant = c.in-Ok.plant in
    let n = c.run_on-answer.new in
    let r = c.run_on-answer.ensures in
    let e = c.in-Ok.ensures in
    let stock = stock_of (M.seen media) in
    let shown = shown_of M.seen plant in
    let log_is : shown.log ≡ encoded journal.log = shown_log (encoded journal.log) stock shown (e.stock told) journal.is in
    let rests : at_rest (encoded journal.log) stock ≡ shown = opened_rests (encoded journal.log) stock shown (e.stock told) journal.is (e.settled told) in
    let k : Course = course M.seen M.count M.present c.args.config journal.log contents media c.into_media.result (g.C.Cell.list c.args.cell.now) (g.C.Cell.list n.cell) (g.K.Clock.moments c.args.clock.now) (g.K.Clock.moments n.clock) (g.S.Source.left c.args.source.now) (g.S.Source.left n.source) in
    let has = has_tapes k.world (M.present media) (M.seen media) (M.count media) refl refl (g.met.M.Media.here_below media) (g.met.M.Media.few_files media) in
    let laws : OpenedForms = record { lines = c.opened_worlds_have_their_forms.ensures.lines; ready = c.opened_worlds_have_their_forms.ensures.ready; fit = c.opened_worlds_have_their_forms.ensures.fit } in
    let forms = has_forms laws k named says has journal.form (g.met.C.Cell.is_cell c.args.cell.now tells_cell) (c.listed_is_allowed.ensures tells_cell) refl tt in
    let same : opened (record { config = c.args.config; slots = M.count plant.media - 1; present = slots_here (M.present plant.media) }) journal.log (g.C.Cell.list c.args.cell.now) contents shown ≡ k.world
    = λ i. opened (record { config = c.args.config; slots = e.count i - 1; present = slots_here (e.present i) }) journal.log (g.C.Cell.list c.args.cell.now) contents (sym rests i) in
    let found = subst (λ (w : World). IsHeldThroughout w k.moments (lines k.input)) (sym same) held in
    let first = opened (record { config = c.args.config; slots = M.count plant.media - 1; present = slots_here (M.present plant.media) }) journal.log (g.C.Cell.list c.args.cell.now) contents shown in
    subst (λ (s : Status). Runs k s) (sym c.of_run.ensures)
    (runs_of _ g.C.Cell k _ plant n.plant n.cell same
    (λ these ends. leaves_media k these (script first k.moments these) shown (shown_of M.seen n.plant) rests refl refl (λ slot. (refl, refl)) (c.into_media.ensures.stock told ends.done.sound) (ends.done.state told) ends.state ends.form ends.log ends.cell ends.moments
    (subst (λ (w : World). AbsentStay w (script first k.moments these).effects) same (c.absent_tapes_stay.ensures first k.moments these)) c.images_hold_the_archive.ensures.behind
    (λ at_entry asked. subst (λ (w : World). HoldsAfter w (script first k.moments these).world.contents (script first k.moments these).effects) same
    (c.scripts_keep_the_archive.ensures.whole first k.moments these (subst HoldsWorld (sym same) at_entry) (subst (λ (w : World). IsReadyFor w k.moments these) (sym same) (ready_for k forms these asked))))
    (λ at_entry asked. c.scripts_keep_the_archive.ensures.behind first k.moments these (subst HoldsWorld (sym same) at_entry) (subst (λ (w : World). IsReadyFor w k.moments these) (sym same) (ready_for k forms these asked)))
    (λ at_entry fit apart back. laws.fit (script first k.moments these).world (c.scripts_leave_a_ready_world_ready.ensures first k.moments these (subst (λ (w : World). RestoresApartThroughout w k.moments these) (sym same) apart) (subst (λ (w : World). FitsBackThroughout w k.moments these) (sym same) back) (subst HoldsWorld (sym same) at_entry) (subst (λ (w : World). IsReady (at_first w k.moments these)) (sym same) (forms.ready these fit)))))
    c.run_on-answer.result (r.ran told tells_cell tells_clock source (e.settled told) journal.log journal.form log_is contents found) (r.read_short told tells_cell tells_clock source (e.settled told) journal.log journal.form log_is contents found) (r.long_short told tells_cell tells_clock source (e.settled told) journal.log journal.form log_is contents found)
    (λ at bad. (r.bad_log told at bad).not_whole (journal.log, journal.form, log_is)))

pub returns-in-Ok-clause-images : goal.returns-in-Ok-clause-images
returns-in-Ok-clause-images g c = λ told tells_cell tells_clock source still named says journal contents held.
    let M = g.M.Media in
    let media = c.args.media in
    let plant = c.in-Ok.plant in
    let n = c.run_on-answer.new in
    let r = c.run_on-answer.ensures in
    let e = c.in-Ok.ensures in
    let bytes = encoded journal.log in
    let stock = stock_of (M.seen media) in
    let shown = shown_of M.seen plant in
    let log_is : shown.log ≡ bytes = shown_log bytes stock shown (e.stock told) journal.is in
    let rests : at_rest bytes stock ≡ shown = opened_rests bytes stock shown (e.stock told) journal.is (e.settled told) in
    let k : Course = course M.seen M.count M.present c.args.config journal.log contents media c.into_media.result (g.C.Cell.list c.args.cell.now) (g.C.Cell.list n.cell) (g.K.Clock.moments c.args.clock.now) (g.K.Clock.moments n.clock) (g.S.Source.left c.args.source.now) (g.S.Source.left n.source) in
    let has = has_tapes k.world (M.present media) (M.seen media) (M.count media) refl refl (g.met.M.Media.here_below media) (g.met.M.Media.few_files media) in
    let laws : OpenedForms = record { lines = c.opened_worlds_have_their_forms.ensures.lines; ready = c.opened_worlds_have_their_forms.ensures.ready; fit = c.opened_worlds_have_their_forms.ensures.fit } in
    let forms = has_forms laws k named says has journal.form (g.met.C.Cell.is_cell c.args.cell.now tells_cell) (c.listed_is_allowed.ensures tells_cell) refl tt in
    let same : opened (record { config = c.args.config; slots = M.count plant.media - 1; present = slots_here (M.present plant.media) }) journal.log (g.C.Cell.list c.args.cell.now) contents shown ≡ k.world
    = λ i. opened (record { config = c.args.config; slots = e.count i - 1; present = slots_here (e.present i) }) journal.log (g.C.Cell.list c.args.cell.now) contents (sym rests i) in
    let found = subst (λ (w : World). IsHeldThroughout w k.moments (lines k.input)) (sym same) held in
    let left = r.left told tells_cell tells_clock source (e.settled told) journal.log journal.form log_is contents found in
    let leaves = left_whole _ g.C.Cell _ k.world k.moments (lines k.input) plant n.plant n.cell (g.K.Clock.moments n.clock) same left.at in
    images_of M.time media c.into_media.result k (outcome k).effects (journaled c.journals_of_scripts.ensures c.scripts_keep_the_archive.ensures.on_the_way c.scripts_keep_the_archive.ensures.listed c.scripts_keep_the_archive.ensures.settled c.images_hold_the_archive.ensures.behind k forms has refl journal.form refl)
    (images_left M.time M.seen media bytes c.into_media.result (outcome k).effects (still_left M.time M.seen media bytes still (λ image was. g.met.M.Media.told_left media image told was) journal.is)
    shown plant n.plant c.into_media.ensures.media rests (e.crash told) (leaves.crash told (e.survives told still)))

pub returns-in-Ok-clause-ends : goal.returns-in-Ok-clause-ends
returns-in-Ok-clause-ends g c = λ told tells_cell tells_clock source still named says journal contents held.
    let M = g.M.Media in
    let media = c.args.media in
    let plant = c.in-Ok.plant in
    let n = c.run_on-answer.new in
    let r = c.run_on-answer.ensures in
    let e = c.in-Ok.ensures in
    let bytes = encoded journal.log in
    let stock = stock_of (M.seen media) in
    let shown = shown_of M.seen plant in
    let back = c.into_media.result in
    let log_is : shown.log ≡ bytes = shown_log bytes stock shown (e.stock told) journal.is in
    let rests : at_rest bytes stock ≡ shown = opened_rests bytes stock shown (e.stock told) journal.is (e.settled told) in
    let k : Course = course M.seen M.count M.present c.args.config journal.log contents media back (g.C.Cell.list c.args.cell.now) (g.C.Cell.list n.cell) (g.K.Clock.moments c.args.clock.now) (g.K.Clock.moments n.clock) (g.S.Source.left c.args.source.now) (g.S.Source.left n.source) in
    let has = has_tapes k.world (M.present media) (M.seen media) (M.count media) refl refl (g.met.M.Media.here_below media) (g.met.M.Media.few_files media) in
    let laws : OpenedForms = record { lines = c.opened_worlds_have_their_forms.ensures.lines; ready = c.opened_worlds_have_their_forms.ensures.ready; fit = c.opened_worlds_have_their_forms.ensures.fit } in
    let forms = has_forms laws k named says has journal.form (g.met.C.Cell.is_cell c.args.cell.now tells_cell) (c.listed_is_allowed.ensures tells_cell) refl tt in
    let same : opened (record { config = c.args.config; slots = M.count plant.media - 1; present = slots_here (M.present plant.media) }) journal.log (g.C.Cell.list c.args.cell.now) contents shown ≡ k.world
    = λ i. opened (record { config = c.args.config; slots = e.count i - 1; present = slots_here (e.present i) }) journal.log (g.C.Cell.list c.args.cell.now) contents (sym rests i) in
    let found = subst (λ (w : World). IsHeldThroughout w k.moments (lines k.input)) (sym same) held in
    let at_end = r.left told tells_cell tells_clock source (e.settled told) journal.log journal.form log_is contents found in
    let left = at_end.at in
    ends_past M.time M.seen media back k left.stage (subst (λ (w : World). IsStage [] w k.moments (lines k.input) left.stage) same left.on_the_way) left.cell left.clock (runs_in k _ left.stage.whole same at_end.took at_end.begun) (journaled c.journals_of_scripts.ensures c.scripts_keep_the_archive.ensures.on_the_way c.scripts_keep_the_archive.ensures.listed c.scripts_keep_the_archive.ensures.settled c.images_hold_the_archive.ensures.behind k forms has refl journal.form refl)
    (reads_past M.time M.seen media bytes back left.stage.effects (length left.stage.whole) shown plant n.plant c.into_media.ensures.media rests (e.crash told) (g.met.M.Media.seen_may_be_left back told) (left.past told (e.survives told still)))

pub returns-in-Ok-clause-bad_log : goal.returns-in-Ok-clause-bad_log
returns-in-Ok-clause-bad_log g c = λ told at is.
    let M = g.M.Media in
    let e = c.in-Ok.ensures in
    let shown = shown_of M.seen c.in-Ok.plant in
    bad_journal (stock_of (M.seen c.args.media)).log shown.log at (ap (λ (x : Stock). x.log) (e.stock told)) (c.run_on-answer.ensures.bad_log told at (bad_log_answer c.run_on-answer.result at (sym c.of_run.ensures ∙ is)))

pub returns-in-Ok-clause-only_bad_log : goal.returns-in-Ok-clause-only_bad_log
returns-in-Ok-clause-only_bad_log g c = λ told none.
    let M = g.M.Media in
    let e = c.in-Ok.ensures in
    subst RefusesJournal (sym c.of_run.ensures) (refuses_journal c.run_on-answer.result (c.run_on-answer.ensures.only_bad_log told
    (λ is_log. none (journal_of_log (stock_of (M.seen c.args.media)) (shown_of M.seen c.in-Ok.plant) (e.stock told) is_log))))

pub returns-in-Ok-clause-refused_log_media : goal.returns-in-Ok-clause-refused_log_media
returns-in-Ok-clause-refused_log_media g c = λ told none.
    let M = g.M.Media in
    let looks = c.run_on-answer.ensures.refused_log_looks told (λ is_log. none (journal_of_log (stock_of (M.seen c.args.media)) (shown_of M.seen c.in-Ok.plant) (c.in-Ok.ensures.stock told) is_log)) in
    ap M.seen c.into_media.ensures.media ∙ looks.beneath told ∙ c.in-Ok.ensures.seen told

pub returns-in-Ok-clause-refused_log_images : goal.returns-in-Ok-clause-refused_log_images
returns-in-Ok-clause-refused_log_images g c = λ told none.
    let M = g.M.Media in
    let looks = c.run_on-answer.ensures.refused_log_looks told (λ is_log. none (journal_of_log (stock_of (M.seen c.args.media)) (shown_of M.seen c.in-Ok.plant) (c.in-Ok.ensures.stock told) is_log)) in
    images_same M.time M.seen c.args.media [] c.into_media.result c.in-Ok.plant c.run_on-answer.new.plant c.into_media.ensures.media (c.in-Ok.ensures.crash told) (looks.crash told)

pub returns-in-Ok-clause-refused_log_same : goal.returns-in-Ok-clause-refused_log_same
returns-in-Ok-clause-refused_log_same g c = λ told none.
    let M = g.M.Media in
    let none_there : IsLog (shown_of M.seen c.in-Ok.plant).log → ⊥ = λ is_log. none (journal_of_log (stock_of (M.seen c.args.media)) (shown_of M.seen c.in-Ok.plant) (c.in-Ok.ensures.stock told) is_log) in
    let same = c.run_on-answer.ensures.refused_log_clock told none_there in
    (c.run_on-answer.ensures.refused_log_cell told none_there, same.0, same.1)

pub returns-in-Err-clause-refused_log_media : goal.returns-in-Err-clause-refused_log_media
returns-in-Err-clause-refused_log_media g c = λ told none. c.in-Err.ensures.seen told

pub returns-in-Err-clause-refused_log_images : goal.returns-in-Err-clause-refused_log_images
returns-in-Err-clause-refused_log_images g c = λ told none. nothing_same g.M.Media.time g.M.Media.seen c.args.media [] c.in-Err.unopened.media (c.in-Err.ensures.crash told)

pub returns-in-Ok-clause-told_lines : goal.returns-in-Ok-clause-told_lines
returns-in-Ok-clause-told_lines g c = λ told tells_cell.
    let M = g.M.Media in
    let e = c.in-Ok.ensures in
    let r = c.run_on-answer.ensures in
    let old = (stock_of (M.seen c.args.media)).told in
    let new = (stock_of (M.seen c.into_media.result)).told in
    subst (λ (s : Status). TellsLines old new s) (sym c.of_run.ensures)
    (told_lines _ c.in-Ok.plant c.run_on-answer.new.plant old new c.run_on-answer.result (ap (λ (x : Stock). x.told) (e.stock told)) (shown_told M.seen c.run_on-answer.new.plant c.into_media.result c.into_media.ensures.media) (r.flag told tells_cell (e.settled told)))

pub returns-in-Err-clause-told_lines : goal.returns-in-Err-clause-told_lines
returns-in-Err-clause-told_lines g c = λ told tells_cell.
    let M = g.M.Media in
    let old = (stock_of (M.seen c.args.media)).told in
    let new = (stock_of (M.seen c.in-Err.unopened.media)).told in
    subst (λ (s : Status). TellsLines old new s) (sym c.of_opening.ensures) (opening_lines old new c.in-Err.unopened.fault)

pub returns-in-Ok-clause-takes : goal.returns-in-Ok-clause-takes
returns-in-Ok-clause-takes g c = λ source.
    let old = g.S.Source.left c.args.source.now in
    let new = g.S.Source.left c.run_on-answer.new.source in
    subst (λ (s : Status). TakesBy old new s) (sym c.of_run.ensures) (takes_run old new c.run_on-answer.result (c.run_on-answer.ensures.takes source))

pub returns-in-Err-clause-takes : goal.returns-in-Err-clause-takes
returns-in-Err-clause-takes g c = λ source.
    let input = g.S.Source.left c.args.source.now in
    subst (λ (s : Status). TakesBy input input s) (sym c.of_opening.ensures) (takes_opening input c.in-Err.unopened.fault)

pub returns-in-Ok-clause-same_files : goal.returns-in-Ok-clause-same_files
returns-in-Ok-clause-same_files g c =
    let M = g.M.Media in
    let e = c.in-Ok.ensures in
    let stays = c.run_on-answer.ensures.stays in
    same_files M.count M.present c.args.media c.in-Ok.plant.media c.run_on-answer.new.plant.media c.into_media.result c.into_media.ensures.media g.met.M.Media.some_files g.met.M.Media.journal_here e.count e.present stays.slots stays.present

pub returns-in-Ok-clause-media_later : goal.returns-in-Ok-clause-media_later
returns-in-Ok-clause-media_later g c = omega (arith, ap g.M.Media.faults c.into_media.ensures.media, c.run_on-answer.ensures.stays.faults, c.in-Ok.ensures.faults)

pub returns-in-Err-clause-media_later : goal.returns-in-Err-clause-media_later
returns-in-Err-clause-media_later g c =
    let M = g.M.Media in
    opening_later M.tells (is_damaged ((M.seen c.args.media).file 0)) (M.faults c.args.media) (M.faults c.in-Err.unopened.media) c.in-Err.unopened.fault c.in-Err.ensures.fault

pub returns-in-Err-clause-same_files : goal.returns-in-Err-clause-same_files
returns-in-Err-clause-same_files g c = record { same_count = c.in-Err.ensures.count; same_present = λ f. ap (λ (p : ℕ → Bool). p f) c.in-Err.ensures.present }

pub returns-in-Ok-clause-bad_log_media : goal.returns-in-Ok-clause-bad_log_media
returns-in-Ok-clause-bad_log_media g c = λ told at is.
    let M = g.M.Media in
    let looks = c.run_on-answer.ensures.bad_log_looks at (bad_log_answer c.run_on-answer.result at (sym c.of_run.ensures ∙ is)) in
    ap M.seen c.into_media.ensures.media ∙ looks.beneath told ∙ c.in-Ok.ensures.seen told

pub returns-in-Ok-clause-order : goal.returns-in-Ok-clause-order
returns-in-Ok-clause-order g c = λ is. c.run_on-answer.ensures.order (cell_answer c.run_on-answer.result (sym c.of_run.ensures ∙ is))

pub returns-in-Ok-clause-media_order : goal.returns-in-Ok-clause-media_order
returns-in-Ok-clause-media_order g c = λ is. c.run_on-answer.ensures.plant_order (plant_answer c.run_on-answer.result (sym c.of_run.ensures ∙ is))

pub returns-in-Err-clause-runs : goal.returns-in-Err-clause-runs
returns-in-Err-clause-runs g c = λ told tells_cell tells_clock source named says journal contents held.
    let M = g.M.Media in
    let media = c.args.media in
    let file = (M.seen media).file 0 in
    let k : Course = course M.seen M.count M.present c.args.config journal.log contents media c.in-Err.unopened.media (g.C.Cell.list c.args.cell.now) (g.C.Cell.list c.args.cell.now) (g.K.Clock.moments c.args.clock.now) (g.K.Clock.moments c.args.clock.now) (g.S.Source.left c.args.source.now) (g.S.Source.left c.args.source.now) in
    subst (λ (s : Status). Runs k s) (sym c.of_opening.ensures)
    (runs_not_opened k M.tells (is_damaged file) (M.faults media) (M.faults c.in-Err.unopened.media) c.in-Err.unopened.fault c.in-Err.ensures.fault (λ damaged. none_some (encoded journal.log) (sym (journal_damaged file damaged) ∙ journal.is)) told)

pub returns-in-Err-clause-images : goal.returns-in-Err-clause-images
returns-in-Err-clause-images g c = λ told tells_cell tells_clock source still named says journal contents held.
    let M = g.M.Media in
    let media = c.args.media in
    let bytes = encoded journal.log in
    let k : Course = course M.seen M.count M.present c.args.config journal.log contents media c.in-Err.unopened.media (g.C.Cell.list c.args.cell.now) (g.C.Cell.list c.args.cell.now) (g.K.Clock.moments c.args.clock.now) (g.K.Clock.moments c.args.clock.now) (g.S.Source.left c.args.source.now) (g.S.Source.left c.args.source.now) in
    let has = has_tapes k.world (M.present media) (M.seen media) (M.count media) refl refl (g.met.M.Media.here_below media) (g.met.M.Media.few_files media) in
    let laws : OpenedForms = record { lines = c.opened_worlds_have_their_forms.ensures.lines; ready = c.opened_worlds_have_their_forms.ensures.ready; fit = c.opened_worlds_have_their_forms.ensures.fit } in
    let forms = has_forms laws k named says has journal.form (g.met.C.Cell.is_cell c.args.cell.now tells_cell) (c.listed_is_allowed.ensures tells_cell) refl tt in
    images_of M.time media c.in-Err.unopened.media k (outcome k).effects (journaled c.journals_of_scripts.ensures c.scripts_keep_the_archive.ensures.on_the_way c.scripts_keep_the_archive.ensures.listed c.scripts_keep_the_archive.ensures.settled c.images_hold_the_archive.ensures.behind k forms has refl journal.form refl)
    (nothing_since M.time M.seen media bytes c.in-Err.unopened.media (outcome k).effects (still_left M.time M.seen media bytes still (λ image was. g.met.M.Media.told_left media image told was) journal.is) (c.in-Err.ensures.crash told))

pub returns-in-Err-clause-ends : goal.returns-in-Err-clause-ends
returns-in-Err-clause-ends g c = λ told tells_cell tells_clock source still named says journal contents held.
    let M = g.M.Media in
    let media = c.args.media in
    let back = c.in-Err.unopened.media in
    let bytes = encoded journal.log in
    let k : Course = course M.seen M.count M.present c.args.config journal.log contents media back (g.C.Cell.list c.args.cell.now) (g.C.Cell.list c.args.cell.now) (g.K.Clock.moments c.args.clock.now) (g.K.Clock.moments c.args.clock.now) (g.S.Source.left c.args.source.now) (g.S.Source.left c.args.source.now) in
    let has = has_tapes k.world (M.present media) (M.seen media) (M.count media) refl refl (g.met.M.Media.here_below media) (g.met.M.Media.few_files media) in
    let laws : OpenedForms = record { lines = c.opened_worlds_have_their_forms.ensures.lines; ready = c.opened_worlds_have_their_forms.ensures.ready; fit = c.opened_worlds_have_their_forms.ensures.fit } in
    let forms = has_forms laws k named says has journal.form (g.met.C.Cell.is_cell c.args.cell.now tells_cell) (c.listed_is_allowed.ensures tells_cell) refl tt in
    ends_front M.time M.seen media back k refl refl refl (journaled c.journals_of_scripts.ensures c.scripts_keep_the_archive.ensures.on_the_way c.scripts_keep_the_archive.ensures.listed c.scripts_keep_the_archive.ensures.settled c.images_hold_the_archive.ensures.behind k forms has refl journal.form refl) (c.in-Err.ensures.crash told).later (g.met.M.Media.seen_may_be_left back told)
    (nothing_since M.time M.seen media bytes back [] (still_left M.time M.seen media bytes still (λ image was. g.met.M.Media.told_left media image told was) journal.is) (c.in-Err.ensures.crash told))

pub returns-in-Err-clause-bad_log : goal.returns-in-Err-clause-bad_log
returns-in-Err-clause-bad_log g c = λ told at is.
    let M = g.M.Media in
    let media = c.args.media in
    let file = (M.seen media).file 0 in
    let bad = opening_bad M.tells (is_damaged file) (M.faults media) (M.faults c.in-Err.unopened.media) c.in-Err.unopened.fault at c.in-Err.ensures.fault told (sym c.of_opening.ensures ∙ is) in
    damaged_journal (journal_of file) at (journal_damaged file bad.1) bad.0

pub returns-in-Err-clause-media_cause : goal.returns-in-Err-clause-media_cause
returns-in-Err-clause-media_cause g c =
    let M = g.M.Media in
    let media = c.args.media in
    subst (λ (s : Status). HasCauseAs MediaFault (M.faults media) (M.faults c.in-Err.unopened.media) s) (sym c.of_opening.ensures)
    (opening_cause M.tells (is_damaged ((M.seen media).file 0)) (M.faults media) (M.faults c.in-Err.unopened.media) c.in-Err.unopened.fault c.in-Err.ensures.fault)

pub returns-in-Ok-clause-cell_at_end : goal.returns-in-Ok-clause-cell_at_end
returns-in-Ok-clause-cell_at_end g c = λ told tells_cell tells_clock source journal contents held.
    let M = g.M.Media in
    let media = c.args.media in
    let plant = c.in-Ok.plant in
    let n = c.run_on-answer.new in
    let r = c.run_on-answer.ensures in
    let e = c.in-Ok.ensures in
    let bytes = encoded journal.log in
    let stock = stock_of (M.seen media) in
    let shown = shown_of M.seen plant in
    let back = c.into_media.result in
    let log_is : shown.log ≡ bytes = shown_log bytes stock shown (e.stock told) journal.is in
    let rests : at_rest bytes stock ≡ shown = opened_rests bytes stock shown (e.stock told) journal.is (e.settled told) in
    let k : Course = course M.seen M.count M.present c.args.config journal.log contents media back (g.C.Cell.list c.args.cell.now) (g.C.Cell.list n.cell) (g.K.Clock.moments c.args.clock.now) (g.K.Clock.moments n.clock) (g.S.Source.left c.args.source.now) (g.S.Source.left n.source) in
    let same : opened (record { config = c.args.config; slots = M.count plant.media - 1; present = slots_here (M.present plant.media) }) journal.log (g.C.Cell.list c.args.cell.now) contents shown ≡ k.world
    = λ i. opened (record { config = c.args.config; slots = e.count i - 1; present = slots_here (e.present i) }) journal.log (g.C.Cell.list c.args.cell.now) contents (sym rests i) in
    let found = subst (λ (w : World). IsHeldThroughout w k.moments (lines k.input)) (sym same) held in
    let at_end = r.left told tells_cell tells_clock source (e.settled told) journal.log journal.form log_is contents found in
    let left = at_end.at in
    record {
      stage = left.stage;
      on_the_way = subst (λ (w : World). IsStage [] w k.moments (lines k.input) left.stage) same left.on_the_way;
      is = left.cell;
      clock = left.clock;
      run = runs_in k _ left.stage.whole same at_end.took at_end.begun;
      told = told_to stock.told (stock_of (M.seen back)).told (shown_of M.seen n.plant).told left.stage.effects shown (ap (λ (x : Stock). x.told) (e.stock told)) (shown_told M.seen n.plant back c.into_media.ensures.media) (left.leaves.told told);
      least = least_to stock.told (stock_of (M.seen back)).told (shown_of M.seen n.plant).told left.stage.whole shown (ap (λ (x : Stock). x.told) (e.stock told)) (shown_told M.seen n.plant back c.into_media.ensures.media) (left.least told);
    }

pub returns-in-Err-clause-cell_at_end : goal.returns-in-Err-clause-cell_at_end
returns-in-Err-clause-cell_at_end g c = λ told tells_cell tells_clock source journal contents held.
    let M = g.M.Media in
    let media = c.args.media in
    let back = c.in-Err.unopened.media in
    let k : Course = course M.seen M.count M.present c.args.config journal.log contents media back (g.C.Cell.list c.args.cell.now) (g.C.Cell.list c.args.cell.now) (g.K.Clock.moments c.args.clock.now) (g.K.Clock.moments c.args.clock.now) (g.S.Source.left c.args.source.now) (g.S.Source.left c.args.source.now) in
    record { stage = between [] k.world k.moments; on_the_way = stage_front [] k.world k.moments (lines k.input); is = refl; clock = refl; run = runs_front k refl; told = untold_to (stock_of (M.seen media)).told (stock_of (M.seen back)).told (ap (λ (image : Image). image.told) (c.in-Err.ensures.seen told)); least = untold_least (stock_of (M.seen media)).told (stock_of (M.seen back)).told (ap (λ (image : Image). image.told) (c.in-Err.ensures.seen told)) }

pub returns-in-Ok-clause-still : goal.returns-in-Ok-clause-still
returns-in-Ok-clause-still g c = λ told tells_cell tells_clock source still named says journal contents held whole.
    let M = g.M.Media in
    let media = c.args.media in
    let plant = c.in-Ok.plant in
    let n = c.run_on-answer.new in
    let r = c.run_on-answer.ensures in
    let e = c.in-Ok.ensures in
    let bytes = encoded journal.log in
    let stock = stock_of (M.seen media) in
    let shown = shown_of M.seen plant in
    let log_is : shown.log ≡ bytes = shown_log bytes stock shown (e.stock told) journal.is in
    let rests : at_rest bytes stock ≡ shown = opened_rests bytes stock shown (e.stock told) journal.is (e.settled told) in
    let k : Course = course M.seen M.count M.present c.args.config journal.log contents media c.into_media.result (g.C.Cell.list c.args.cell.now) (g.C.Cell.list n.cell) (g.K.Clock.moments c.args.clock.now) (g.K.Clock.moments n.clock) (g.S.Source.left c.args.source.now) (g.S.Source.left n.source) in
    let same : opened (record { config = c.args.config; slots = M.count plant.media - 1; present = slots_here (M.present plant.media) }) journal.log (g.C.Cell.list c.args.cell.now) contents shown ≡ k.world
    = λ i. opened (record { config = c.args.config; slots = e.count i - 1; present = slots_here (e.present i) }) journal.log (g.C.Cell.list c.args.cell.now) contents (sym rests i) in
    let found = subst (λ (w : World). IsHeldThroughout w k.moments (lines k.input)) (sym same) held in
    let first = opened (record { config = c.args.config; slots = M.count plant.media - 1; present = slots_here (M.present plant.media) }) journal.log (g.C.Cell.list c.args.cell.now) contents shown in
    let done = script first k.moments (lines k.input) in
    let ends = whole_ends _ g.C.Cell done plant n.plant n.cell k.left c.run_on-answer.result (subst IsWhole c.of_run.ensures whole)
    (r.ran told tells_cell tells_clock source (e.settled told) journal.log journal.form log_is contents found) in
    c.into_media.ensures.still told (ends.done.survives told (e.survives told still)) (settled_alike done.world.state (shown_of M.seen n.plant) ends.state ends.settled)

pub returns-in-Err-clause-still : goal.returns-in-Err-clause-still
returns-in-Err-clause-still g c = λ told tells_cell tells_clock source still named says journal contents held whole.
    absurd (not_opened c.in-Err.unopened.fault (subst IsWhole c.of_opening.ensures whole))
