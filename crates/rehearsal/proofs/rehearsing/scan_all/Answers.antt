use Rattle.std.proofs.Common.{◌≡◌, ℕ, ◌-◌, Bool, List, sym, ◌∙◌, ap, subst, arith}
use Rattle.std.specs.Prelude.{IfOk}
use Rattle.media_core.specs.declared.event.Event.{Event}
use Rattle.media_core.specs.Events.{seen_after}
use Rattle.media_core.specs.Files.{seen_of, events_of, count_of, present_of}
use Rattle.cell_core.specs.Mem.{cell_list}
use Rattle.backup_session.specs.Worlds.{Setting}
use Rattle.rehearsal.specs.declared.batch.Batch.{Batch}
use Rattle.rehearsal.specs.Commands.{second_session}
use Rattle.rehearsal.specs.Playing.{played, AllFindHeld}
use Rattle.rehearsal.specs.Sessions.{start, dumped, lost, scanned, Stands, HasFiles}
use Rattle.rehearsal.proofs.Worlds.{dumped_setting, lost_begins, lost_stands, lost_files}
use Rattle.rehearsal.proofs.rehearsing.scan_all.Goals as goal

pub take_out-requires-clause-below : goal.take_out-requires-clause-below
take_out-requires-clause-below c = (let e : count_of c.args.media - 1 ≡ 4 = c.requires.files.slots ∙ ap (λ (x : Setting). x.slots) (dumped_setting c.args.volumes) in omega (arith, e))

pub returns-clause-told : goal.returns-clause-told
unfolding scanned
returns-clause-told c =
    let n = c.args.volumes in
    let out = c.take_out.new.self in
    let media = c.empty_journal.new.self in
    let same : c.as_slice.result.now ≡ second_session n = c.as_slice.ensures ∙ c.in_ok-batches.ensures in
    let world = lost n in
    let begins = lost_begins n in
    let stands = lost_stands n (events_of out) (events_of media) (cell_list c.args.cell.now) (subst (λ (es : List Event). Stands (dumped n).world (seen_after es) (cell_list c.args.cell.now)) (sym c.take_out.ensures.rest.events) c.requires.stands) c.empty_journal.ensures.emptied in
    let files = lost_files n (count_of c.args.media) (count_of media) (present_of c.args.media) (present_of media) c.requires.files (c.empty_journal.ensures.count ∙ c.take_out.ensures.rest.count)
    (ap (λ (f : ℕ → Bool). f 3) c.empty_journal.ensures.present ∙ c.take_out.ensures.away) (λ k other. ap (λ (f : ℕ → Bool). f k) c.empty_journal.ensures.present ∙ c.take_out.ensures.others k other) in
    let finds = subst (λ (b : List Batch). AllFindHeld (start (lost n)) b) (sym same) (c.rehearsals_find_their_archive.ensures.second n c.requires.few) in
    subst (λ (b : List Batch). IfOk c.run_session.result (λ left. left.0 ≡ (played (start (lost n)) b).told)) same (c.run_session.ensures.told tt tt world begins stands files finds)

pub returns-clause-stands : goal.returns-clause-stands
unfolding scanned
returns-clause-stands c =
    let n = c.args.volumes in
    let out = c.take_out.new.self in
    let media = c.empty_journal.new.self in
    let same : c.as_slice.result.now ≡ second_session n = c.as_slice.ensures ∙ c.in_ok-batches.ensures in
    let world = lost n in
    let begins = lost_begins n in
    let stands = lost_stands n (events_of out) (events_of media) (cell_list c.args.cell.now) (subst (λ (es : List Event). Stands (dumped n).world (seen_after es) (cell_list c.args.cell.now)) (sym c.take_out.ensures.rest.events) c.requires.stands) c.empty_journal.ensures.emptied in
    let files = lost_files n (count_of c.args.media) (count_of media) (present_of c.args.media) (present_of media) c.requires.files (c.empty_journal.ensures.count ∙ c.take_out.ensures.rest.count)
    (ap (λ (f : ℕ → Bool). f 3) c.empty_journal.ensures.present ∙ c.take_out.ensures.away) (λ k other. ap (λ (f : ℕ → Bool). f k) c.empty_journal.ensures.present ∙ c.take_out.ensures.others k other) in
    let finds = subst (λ (b : List Batch). AllFindHeld (start (lost n)) b) (sym same) (c.rehearsals_find_their_archive.ensures.second n c.requires.few) in
    subst (λ (b : List Batch). IfOk c.run_session.result (λ left. Stands (played (start (lost n)) b).world (seen_of left.1) (cell_list c.run_session.new.cell))) same (c.run_session.ensures.stands tt tt world begins stands files finds)

pub returns-clause-files : goal.returns-clause-files
unfolding scanned
returns-clause-files c =
    let n = c.args.volumes in
    let out = c.take_out.new.self in
    let media = c.empty_journal.new.self in
    let same : c.as_slice.result.now ≡ second_session n = c.as_slice.ensures ∙ c.in_ok-batches.ensures in
    let world = lost n in
    let begins = lost_begins n in
    let stands = lost_stands n (events_of out) (events_of media) (cell_list c.args.cell.now) (subst (λ (es : List Event). Stands (dumped n).world (seen_after es) (cell_list c.args.cell.now)) (sym c.take_out.ensures.rest.events) c.requires.stands) c.empty_journal.ensures.emptied in
    let files = lost_files n (count_of c.args.media) (count_of media) (present_of c.args.media) (present_of media) c.requires.files (c.empty_journal.ensures.count ∙ c.take_out.ensures.rest.count)
    (ap (λ (f : ℕ → Bool). f 3) c.empty_journal.ensures.present ∙ c.take_out.ensures.away) (λ k other. ap (λ (f : ℕ → Bool). f k) c.empty_journal.ensures.present ∙ c.take_out.ensures.others k other) in
    let finds = subst (λ (b : List Batch). AllFindHeld (start (lost n)) b) (sym same) (c.rehearsals_find_their_archive.ensures.second n c.requires.few) in
    subst (λ (b : List Batch). IfOk c.run_session.result (λ left. HasFiles (played (start (lost n)) b).world (count_of left.1) (present_of left.1))) same (c.run_session.ensures.files tt tt world begins stands files finds)
