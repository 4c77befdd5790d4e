use Rattle.std.proofs.Common.{[], refl, sym, subst}
use Rattle.std.specs.Str.Lines.{lines}
use Rattle.crash_moments.proofs.Joining.{stays}
use Rattle.media_core.specs.Still.{AreStill}
use Rattle.plant_media.specs.Stock.{stock_of}
use Rattle.tape_config.specs.Configs.{Settings}
use Rattle.budb_changes.specs.Bytes.{encoded}
use Rattle.backup_script.specs.Scripts.{between}
use Rattle.backup_script.proofs.StageLaws.{stage_front}
use Rattle.backup_top.specs.declared.status.Status.{Status}
use Rattle.backup_top.specs.Courses.{Course, course, course_of, FindsHeld, Runs, TellsLines, TakesBy, CellAtStage, EndsAt, LeavesImages, outcome}
use Rattle.backup_top.proofs.Lowering.{still_left, nothing_since, nothing_same, untold_to, untold_least}
use Rattle.backup_top.proofs.StillLaws.{IsWhole, not_configured}
use Rattle.backup_top.proofs.TapeCounts.{has_tapes}
use Rattle.backup_top.proofs.CourseLaws.{OpenedForms, has_forms, settings_same, config_lines, takes_config, journaled, images_of, ends_front, runs_front}
use Rattle.backup_top.proofs.run_mode.run_mode.Goals as goal

pub returns-in-Ok-clause-runs : goal.returns-in-Ok-clause-runs
returns-in-Ok-clause-runs g c = λ told tells_cell tells_clock source entry contents.
    let M = g.M.Media in
    let n = c.run_media.new in
    subst (λ (s : Settings). let k : Course = course M.seen M.count M.present s entry.journal.log contents c.args.media c.run_media.result.1 (g.C.Cell.list c.args.cell.now) (g.C.Cell.list n.cell) (g.K.Clock.moments c.args.clock.now) (g.K.Clock.moments n.clock) (g.S.Source.left c.args.source.now) (g.S.Source.left n.source) in FindsHeld k → Runs k c.run_media.result.0)
    (settings_same c.args.config.now c.in-Ok.config entry.settings c.in-Ok.ensures entry.says)
    (c.run_media.ensures.runs told tells_cell tells_clock source c.args.config.now c.in-Ok.ensures entry.journal contents)

pub returns-in-Ok-clause-images : goal.returns-in-Ok-clause-images
returns-in-Ok-clause-images g c = λ told tells_cell tells_clock source still entry contents.
    let M = g.M.Media in
    let n = c.run_media.new in
    subst (λ (s : Settings). let k : Course = course M.seen M.count M.present s entry.journal.log contents c.args.media c.run_media.result.1 (g.C.Cell.list c.args.cell.now) (g.C.Cell.list n.cell) (g.K.Clock.moments c.args.clock.now) (g.K.Clock.moments n.clock) (g.S.Source.left c.args.source.now) (g.S.Source.left n.source) in
    FindsHeld k → LeavesImages M.time c.args.media c.run_media.result.1 k (outcome k).effects)
    (settings_same c.args.config.now c.in-Ok.config entry.settings c.in-Ok.ensures entry.says)
    (c.run_media.ensures.images told tells_cell tells_clock source still c.args.config.now c.in-Ok.ensures entry.journal contents)

pub returns-in-Err-clause-images : goal.returns-in-Err-clause-images
returns-in-Err-clause-images g c = λ told tells_cell tells_clock source still entry contents held.
    let M = g.M.Media in
    let media = c.args.media in
    let bytes = encoded entry.journal.log in
    let k : Course = course_of M.seen M.count M.present contents media entry media (g.C.Cell.list c.args.cell.now) (g.C.Cell.list c.args.cell.now) (g.K.Clock.moments c.args.clock.now) (g.K.Clock.moments c.args.clock.now) (g.S.Source.left c.args.source.now) (g.S.Source.left c.args.source.now) in
    let has = has_tapes k.world (M.present media) (M.seen media) (M.count media) refl refl (g.met.M.Media.here_below media) (g.met.M.Media.few_files media) in
    let laws : OpenedForms = record { lines = c.opened_worlds_have_their_forms.ensures.lines; ready = c.opened_worlds_have_their_forms.ensures.ready; fit = c.opened_worlds_have_their_forms.ensures.fit } in
    let forms = has_forms laws k c.args.config.now entry.says has entry.journal.form (g.met.C.Cell.is_cell c.args.cell.now tells_cell) (c.listed_is_allowed.ensures tells_cell) refl tt in
    images_of M.time media media k (outcome k).effects (journaled c.journals_of_scripts.ensures c.scripts_keep_the_archive.ensures.on_the_way c.scripts_keep_the_archive.ensures.listed c.scripts_keep_the_archive.ensures.settled c.images_hold_the_archive.ensures.behind k forms has refl entry.journal.form refl)
    (nothing_since M.time M.seen media bytes media (outcome k).effects (still_left M.time M.seen media bytes still (λ image was. g.met.M.Media.told_left media image told was) entry.journal.is) (stays M.time media))

pub returns-in-Err-clause-ends : goal.returns-in-Err-clause-ends
returns-in-Err-clause-ends g c = λ told tells_cell tells_clock source still entry contents held.
    let M = g.M.Media in
    let media = c.args.media in
    let bytes = encoded entry.journal.log in
    let k : Course = course_of M.seen M.count M.present contents media entry media (g.C.Cell.list c.args.cell.now) (g.C.Cell.list c.args.cell.now) (g.K.Clock.moments c.args.clock.now) (g.K.Clock.moments c.args.clock.now) (g.S.Source.left c.args.source.now) (g.S.Source.left c.args.source.now) in
    let has = has_tapes k.world (M.present media) (M.seen media) (M.count media) refl refl (g.met.M.Media.here_below media) (g.met.M.Media.few_files media) in
    let laws : OpenedForms = record { lines = c.opened_worlds_have_their_forms.ensures.lines; ready = c.opened_worlds_have_their_forms.ensures.ready; fit = c.opened_worlds_have_their_forms.ensures.fit } in
    let forms = has_forms laws k c.args.config.now entry.says has entry.journal.form (g.met.C.Cell.is_cell c.args.cell.now tells_cell) (c.listed_is_allowed.ensures tells_cell) refl tt in
    ends_front M.time M.seen media media k refl refl refl (journaled c.journals_of_scripts.ensures c.scripts_keep_the_archive.ensures.on_the_way c.scripts_keep_the_archive.ensures.listed c.scripts_keep_the_archive.ensures.settled c.images_hold_the_archive.ensures.behind k forms has refl entry.journal.form refl) (stays M.time media).later (g.met.M.Media.seen_may_be_left media told)
    (nothing_since M.time M.seen media bytes media [] (still_left M.time M.seen media bytes still (λ image was. g.met.M.Media.told_left media image told was) entry.journal.is) (stays M.time media))

pub returns-in-Ok-clause-cell_at_end : goal.returns-in-Ok-clause-cell_at_end
returns-in-Ok-clause-cell_at_end g c = λ told tells_cell tells_clock source entry contents.
    let M = g.M.Media in
    let n = c.run_media.new in
    subst (λ (s : Settings). let k : Course = course M.seen M.count M.present s entry.journal.log contents c.args.media c.run_media.result.1 (g.C.Cell.list c.args.cell.now) (g.C.Cell.list n.cell) (g.K.Clock.moments c.args.clock.now) (g.K.Clock.moments n.clock) (g.S.Source.left c.args.source.now) (g.S.Source.left n.source) in FindsHeld k → CellAtStage k)
    (settings_same c.args.config.now c.in-Ok.config entry.settings c.in-Ok.ensures entry.says)
    (c.run_media.ensures.cell_at_end told tells_cell tells_clock source entry.journal contents)

pub returns-in-Err-clause-cell_at_end : goal.returns-in-Err-clause-cell_at_end
returns-in-Err-clause-cell_at_end g c = λ told tells_cell tells_clock source entry contents held.
    let M = g.M.Media in
    let media = c.args.media in
    let k : Course = course_of M.seen M.count M.present contents media entry media (g.C.Cell.list c.args.cell.now) (g.C.Cell.list c.args.cell.now) (g.K.Clock.moments c.args.clock.now) (g.K.Clock.moments c.args.clock.now) (g.S.Source.left c.args.source.now) (g.S.Source.left c.args.source.now) in
    record { stage = between [] k.world k.moments; on_the_way = stage_front [] k.world k.moments (lines k.input); is = refl; clock = refl; run = runs_front k refl; told = untold_to (stock_of (M.seen media)).told (stock_of (M.seen media)).told refl; least = untold_least (stock_of (M.seen media)).told (stock_of (M.seen media)).told refl }

pub returns-in-Ok-clause-ends : goal.returns-in-Ok-clause-ends
returns-in-Ok-clause-ends g c = λ told tells_cell tells_clock source still entry contents.
    let M = g.M.Media in
    let n = c.run_media.new in
    subst (λ (s : Settings). let k : Course = course M.seen M.count M.present s entry.journal.log contents c.args.media c.run_media.result.1 (g.C.Cell.list c.args.cell.now) (g.C.Cell.list n.cell) (g.K.Clock.moments c.args.clock.now) (g.K.Clock.moments n.clock) (g.S.Source.left c.args.source.now) (g.S.Source.left n.source) in
    FindsHeld k → EndsAt M.time M.seen c.args.media c.run_media.result.1 k)
    (settings_same c.args.config.now c.in-Ok.config entry.settings c.in-Ok.ensures entry.says)
    (c.run_media.ensures.ends told tells_cell tells_clock source still c.args.config.now c.in-Ok.ensures entry.journal contents)

pub returns-in-Err-clause-told_lines : goal.returns-in-Err-clause-told_lines
returns-in-Err-clause-told_lines g c = λ told tells_cell.
    let at = (stock_of (g.M.Media.seen c.args.media)).told in
    subst (λ (s : Status). TellsLines at at s) (sym c.of_config.ensures) (config_lines at at c.in-Err.fault)

pub returns-in-Err-clause-takes : goal.returns-in-Err-clause-takes
returns-in-Err-clause-takes g c = λ source.
    let input = g.S.Source.left c.args.source.now in
    subst (λ (s : Status). TakesBy input input s) (sym c.of_config.ensures) (takes_config input c.in-Err.fault)

pub returns-in-Err-clause-same_files : goal.returns-in-Err-clause-same_files
returns-in-Err-clause-same_files g c = record { same_count = refl; same_present = λ f. refl }

pub returns-in-Err-clause-refused_log_images : goal.returns-in-Err-clause-refused_log_images
returns-in-Err-clause-refused_log_images g c = λ told none. nothing_same g.M.Media.time g.M.Media.seen c.args.media [] c.args.media (stays g.M.Media.time c.args.media)

pub returns-in-Ok-clause-still : goal.returns-in-Ok-clause-still
returns-in-Ok-clause-still g c = λ told tells_cell tells_clock source still entry contents.
    let M = g.M.Media in
    let n = c.run_media.new in
    subst (λ (s : Settings). let k : Course = course M.seen M.count M.present s entry.journal.log contents c.args.media c.run_media.result.1 (g.C.Cell.list c.args.cell.now) (g.C.Cell.list n.cell) (g.K.Clock.moments c.args.clock.now) (g.K.Clock.moments n.clock) (g.S.Source.left c.args.source.now) (g.S.Source.left n.source) in
    FindsHeld k → IsWhole c.run_media.result.0 → AreStill M.time M.seen c.run_media.result.1)
    (settings_same c.args.config.now c.in-Ok.config entry.settings c.in-Ok.ensures entry.says)
    (c.run_media.ensures.still told tells_cell tells_clock source still c.args.config.now c.in-Ok.ensures entry.journal contents)

pub returns-in-Err-clause-still : goal.returns-in-Err-clause-still
returns-in-Err-clause-still g c = λ told tells_cell tells_clock source still entry contents held whole.
    absurd (not_configured c.in-Err.fault (subst IsWhole c.of_config.ensures whole))
