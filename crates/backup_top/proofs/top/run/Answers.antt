use Rattle.std.proofs.Common.{ℕ, Bool, [], refl, ap, arith}
use Rattle.std.specs.Str.Lines.{lines}
use Rattle.crash_moments.proofs.Joining.{stays}
use Rattle.plant_media.specs.Stock.{stock_of}
use Rattle.budb_changes.specs.Bytes.{encoded}
use Rattle.backup_script.specs.Scripts.{between}
use Rattle.backup_script.proofs.StageLaws.{stage_front}
use Rattle.backup_top.specs.Courses.{Course, course_of, outcome}
use Rattle.backup_top.proofs.Lowering.{still_left, nothing_since, nothing_same, untold_to, untold_least}
use Rattle.plant_media.specs.Laws.{below}
use Rattle.backup_top.proofs.StillLaws.{not_begun}
use Rattle.backup_top.proofs.TapeCounts.{has_tapes}
use Rattle.backup_top.proofs.ArchiveLaws.{holds_world}
use Rattle.backup_script.proofs.StopLaws.{takes_nothing}
use Rattle.backup_top.proofs.CourseLaws.{OpenedForms, has_forms, ready_for, journaled, images_of, ends_front, runs_front, never_refused, never_bad_log, complete_by}
use Rattle.backup_top.proofs.top.run.Goals as goal

pub returns-in-Err-clause-images : goal.returns-in-Err-clause-images
returns-in-Err-clause-images g c = λ runs told tells_cell tells_clock source still entry contents held.
    let M = g.M.Media in
    let media = c.args.media in
    let bytes = encoded entry.journal.log in
    let k : Course = course_of M.seen M.count M.present contents media entry media (g.C.Cell.list c.args.cell.now) (g.C.Cell.list c.args.cell.now) (g.K.Clock.moments c.args.clock.now) (g.K.Clock.moments c.args.clock.now) (g.S.Source.left c.args.source.now) (g.S.Source.left c.args.source.now) in
    let has = has_tapes k.world (M.present media) (M.seen media) (M.count media) refl refl (g.met.M.Media.here_below media) (g.met.M.Media.few_files media) in
    let laws : OpenedForms = record { lines = c.opened_worlds_have_their_forms.ensures.lines; ready = c.opened_worlds_have_their_forms.ensures.ready; fit = c.opened_worlds_have_their_forms.ensures.fit } in
    let forms = has_forms laws k c.args.config.now entry.says has entry.journal.form (g.met.C.Cell.is_cell c.args.cell.now tells_cell) (c.listed_is_allowed.ensures tells_cell) refl tt in
    images_of M.time media media k (outcome k).effects (journaled c.journals_of_scripts.ensures c.scripts_keep_the_archive.ensures.on_the_way c.scripts_keep_the_archive.ensures.listed c.scripts_keep_the_archive.ensures.settled c.images_hold_the_archive.ensures.behind k forms has refl entry.journal.form refl)
    (nothing_since M.time M.seen media bytes media (outcome k).effects (still_left M.time M.seen media bytes still (λ image was. g.met.M.Media.told_left media image told was) entry.journal.is) (stays M.time media))

pub returns-in-Err-clause-ends : goal.returns-in-Err-clause-ends
returns-in-Err-clause-ends g c = λ runs told tells_cell tells_clock source still entry contents held.
    let M = g.M.Media in
    let media = c.args.media in
    let bytes = encoded entry.journal.log in
    let k : Course = course_of M.seen M.count M.present contents media entry media (g.C.Cell.list c.args.cell.now) (g.C.Cell.list c.args.cell.now) (g.K.Clock.moments c.args.clock.now) (g.K.Clock.moments c.args.clock.now) (g.S.Source.left c.args.source.now) (g.S.Source.left c.args.source.now) in
    let has = has_tapes k.world (M.present media) (M.seen media) (M.count media) refl refl (g.met.M.Media.here_below media) (g.met.M.Media.few_files media) in
    let laws : OpenedForms = record { lines = c.opened_worlds_have_their_forms.ensures.lines; ready = c.opened_worlds_have_their_forms.ensures.ready; fit = c.opened_worlds_have_their_forms.ensures.fit } in
    let forms = has_forms laws k c.args.config.now entry.says has entry.journal.form (g.met.C.Cell.is_cell c.args.cell.now tells_cell) (c.listed_is_allowed.ensures tells_cell) refl tt in
    ends_front M.time M.seen media media k refl refl refl (journaled c.journals_of_scripts.ensures c.scripts_keep_the_archive.ensures.on_the_way c.scripts_keep_the_archive.ensures.listed c.scripts_keep_the_archive.ensures.settled c.images_hold_the_archive.ensures.behind k forms has refl entry.journal.form refl) (stays M.time media).later (g.met.M.Media.seen_may_be_left media told)
    (nothing_since M.time M.seen media bytes media [] (still_left M.time M.seen media bytes still (λ image was. g.met.M.Media.told_left media image told was) entry.journal.is) (stays M.time media))

pub returns-in-Err-clause-finds : goal.returns-in-Err-clause-finds
returns-in-Err-clause-finds g c = λ runs tells_cell entry contents held asked.
    let M = g.M.Media in
    let media = c.args.media in
    let k : Course = course_of M.seen M.count M.present contents media entry media (g.C.Cell.list c.args.cell.now) (g.C.Cell.list c.args.cell.now) (g.K.Clock.moments c.args.clock.now) (g.K.Clock.moments c.args.clock.now) (g.S.Source.left c.args.source.now) (g.S.Source.left c.args.source.now) in
    let has = has_tapes k.world (M.present media) (M.seen media) (M.count media) refl refl (g.met.M.Media.here_below media) (g.met.M.Media.few_files media) in
    let laws : OpenedForms = record { lines = c.opened_worlds_have_their_forms.ensures.lines; ready = c.opened_worlds_have_their_forms.ensures.ready; fit = c.opened_worlds_have_their_forms.ensures.fit } in
    let forms = has_forms laws k c.args.config.now entry.says has entry.journal.form (g.met.C.Cell.is_cell c.args.cell.now tells_cell) (c.listed_is_allowed.ensures tells_cell) refl tt in
    let holds = holds_world k.world has (λ s is. below (M.present media) (M.count media) s (g.met.M.Media.here_below media) is) (record { log = refl; tapes = λ s. refl }) tt held in
    (holds, c.scripts_keep_the_archive.ensures.throughout k.world k.moments (lines k.input) holds (ready_for k forms (lines k.input) asked), λ dumps. (asked.dumps dumps).0.volumes)

pub returns-in-Ok-Run-clause-finds : goal.returns-in-Ok-Run-clause-finds
returns-in-Ok-Run-clause-finds g c = λ runs tells_cell entry contents held asked.
    let M = g.M.Media in
    let media = c.args.media in
    let n = c.run_mode.new in
    let k : Course = course_of M.seen M.count M.present contents media entry c.run_mode.result.1 (g.C.Cell.list c.args.cell.now) (g.C.Cell.list n.cell) (g.K.Clock.moments c.args.clock.now) (g.K.Clock.moments n.clock) (g.S.Source.left c.args.source.now) (g.S.Source.left n.source) in
    let has = has_tapes k.world (M.present media) (M.seen media) (M.count media) refl refl (g.met.M.Media.here_below media) (g.met.M.Media.few_files media) in
    let laws : OpenedForms = record { lines = c.opened_worlds_have_their_forms.ensures.lines; ready = c.opened_worlds_have_their_forms.ensures.ready; fit = c.opened_worlds_have_their_forms.ensures.fit } in
    let forms = has_forms laws k c.args.config.now entry.says has entry.journal.form (g.met.C.Cell.is_cell c.args.cell.now tells_cell) (c.listed_is_allowed.ensures tells_cell) refl tt in
    let holds = holds_world k.world has (λ s is. below (M.present media) (M.count media) s (g.met.M.Media.here_below media) is) (record { log = refl; tapes = λ s. refl }) tt held in
    (holds, c.scripts_keep_the_archive.ensures.throughout k.world k.moments (lines k.input) holds (ready_for k forms (lines k.input) asked), λ dumps. (asked.dumps dumps).0.volumes)

pub returns-in-Ok-Run-clause-complete : goal.returns-in-Ok-Run-clause-complete
returns-in-Ok-Run-clause-complete g c = λ runs told tells_cell tells_clock source entry within media_rose cell_rose output_rose read_rose.
    let M = g.M.Media in
    let e = c.run_mode.ensures in
    complete_by (g.S.Source.left c.args.source.now) (g.S.Source.left c.run_mode.new.source) c.run_mode.result.0 (e.takes source) within
    e.usage (λ line is. never_refused c.args.config.now entry.settings line entry.says (e.bad_config line is)) (λ at is. never_bad_log (stock_of (M.seen c.args.media)) at entry.journal (e.bad_log told at is))
    (λ is. media_rose (e.media_cause.failed is)) (λ is. cell_rose (e.cell_cause.failed is)) (λ is. output_rose (e.output_cause.failed is)) (λ is. read_rose (e.read_cause.failed is))

pub returns-in-Err-clause-cell_at_end : goal.returns-in-Err-clause-cell_at_end
returns-in-Err-clause-cell_at_end g c = λ runs told tells_cell tells_clock source entry contents held.
    let M = g.M.Media in
    let media = c.args.media in
    let k : Course = course_of M.seen M.count M.present contents media entry media (g.C.Cell.list c.args.cell.now) (g.C.Cell.list c.args.cell.now) (g.K.Clock.moments c.args.clock.now) (g.K.Clock.moments c.args.clock.now) (g.S.Source.left c.args.source.now) (g.S.Source.left c.args.source.now) in
    record { stage = between [] k.world k.moments; on_the_way = stage_front [] k.world k.moments (lines k.input); is = refl; clock = refl; run = runs_front k refl; told = untold_to (stock_of (M.seen media)).told (stock_of (M.seen media)).told refl; least = untold_least (stock_of (M.seen media)).told (stock_of (M.seen media)).told refl }

pub returns-in-Err-clause-takes : goal.returns-in-Err-clause-takes
returns-in-Err-clause-takes g c = λ runs source. takes_nothing (g.S.Source.left c.args.source.now)

pub returns-in-Err-clause-same_files : goal.returns-in-Err-clause-same_files
returns-in-Err-clause-same_files g c = record { same_count = refl; same_present = λ f. refl }

pub returns-in-Ok-Examine-clause-same_files : goal.returns-in-Ok-Examine-clause-same_files
returns-in-Ok-Examine-clause-same_files g c = record { same_count = c.run_examine.ensures.only.same_count; same_present = λ k. ap (λ (p : ℕ → Bool). p k) c.run_examine.ensures.only.same_present }

pub returns-in-Ok-Examine-clause-media_later : goal.returns-in-Ok-Examine-clause-media_later
returns-in-Ok-Examine-clause-media_later g c = omega (arith, c.run_examine.ensures.only.faults_stay)

pub returns-in-Ok-Rehearse-clause-same_files : goal.returns-in-Ok-Rehearse-clause-same_files
returns-in-Ok-Rehearse-clause-same_files g c = record { same_count = c.run_rehearse.ensures.only.same_count; same_present = λ k. ap (λ (p : ℕ → Bool). p k) c.run_rehearse.ensures.only.same_present }

pub returns-in-Ok-Rehearse-clause-media_later : goal.returns-in-Ok-Rehearse-clause-media_later
returns-in-Ok-Rehearse-clause-media_later g c = omega (arith, c.run_rehearse.ensures.only.faults_stay)

pub returns-in-Ok-Nothing-clause-same_files : goal.returns-in-Ok-Nothing-clause-same_files
returns-in-Ok-Nothing-clause-same_files g c = record { same_count = c.run_usage.ensures.only.same_count; same_present = λ k. ap (λ (p : ℕ → Bool). p k) c.run_usage.ensures.only.same_present }

pub returns-in-Ok-Nothing-clause-media_later : goal.returns-in-Ok-Nothing-clause-media_later
returns-in-Ok-Nothing-clause-media_later g c = omega (arith, c.run_usage.ensures.only.faults_stay)

pub returns-in-Err-clause-refused_log_images : goal.returns-in-Err-clause-refused_log_images
returns-in-Err-clause-refused_log_images g c = λ runs told none. nothing_same g.M.Media.time g.M.Media.seen c.args.media [] c.args.media (stays g.M.Media.time c.args.media)

pub returns-in-Err-clause-restores : goal.returns-in-Err-clause-restores
returns-in-Err-clause-restores g c = λ runs entry contents. c.restores_look_up.ensures _ _ _

pub returns-in-Err-clause-scans : goal.returns-in-Err-clause-scans
returns-in-Err-clause-scans g c = λ runs entry contents. c.scans_list_what_is_whole.ensures _ _ _

pub returns-in-Ok-Run-clause-restores : goal.returns-in-Ok-Run-clause-restores
returns-in-Ok-Run-clause-restores g c = λ runs entry contents. c.restores_look_up.ensures _ _ _

pub returns-in-Ok-Run-clause-scans : goal.returns-in-Ok-Run-clause-scans
returns-in-Ok-Run-clause-scans g c = λ runs entry contents. c.scans_list_what_is_whole.ensures _ _ _

pub returns-in-Err-clause-still : goal.returns-in-Err-clause-still
returns-in-Err-clause-still g c = λ runs told tells_cell tells_clock source still entry contents held whole. absurd (not_begun whole)
