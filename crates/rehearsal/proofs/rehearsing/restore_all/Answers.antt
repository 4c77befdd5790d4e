use Rattle.std.proofs.Common.{◌≡◌, ◌-◌, List, sym, ◌∙◌, ap, subst, arith}
use Rattle.media_core.specs.declared.event.Event.{Event}
use Rattle.media_core.specs.Events.{seen_after}
use Rattle.media_core.specs.Files.{seen_of, count_of, present_of}
use Rattle.cell_core.specs.Mem.{cell_list}
use Rattle.backup_session.specs.Worlds.{Setting}
use Rattle.rehearsal.specs.declared.batch.Batch.{Batch}
use Rattle.rehearsal.specs.Commands.{third_session}
use Rattle.rehearsal.specs.Playing.{played, AllFindHeld}
use Rattle.rehearsal.specs.Sessions.{start, scanned, put_back, restored, Stands}
use Rattle.rehearsal.proofs.Worlds.{scanned_setting, put_back_begins, back_in_stands, put_back_files}
use Rattle.rehearsal.proofs.rehearsing.restore_all.Goals as goal

pub put_back-requires-clause-below : goal.put_back-requires-clause-below
put_back-requires-clause-below c = (let e : count_of c.args.media - 1 ≡ 4 = c.requires.files.slots ∙ ap (λ (x : Setting). x.slots) (scanned_setting c.args.volumes) in omega (arith, e))

pub returns-clause-told : goal.returns-clause-told
unfolding restored
returns-clause-told c =
    let n = c.args.volumes in
    let media = c.put_back.new.self in
    let same : c.as_slice.result.now ≡ third_session n = c.as_slice.ensures ∙ c.in_ok-batches.ensures in
    let stands = back_in_stands n (seen_of media) (cell_list c.args.cell.now) (subst (λ (es : List Event). Stands (scanned n).world (seen_after es) (cell_list c.args.cell.now)) (sym c.put_back.ensures.rest.events) c.requires.stands) in
    let files = put_back_files n (count_of c.args.media) (count_of media) (present_of c.args.media) (present_of media) c.requires.files c.put_back.ensures.rest.count c.put_back.ensures.here c.put_back.ensures.others in
    let finds = subst (λ (b : List Batch). AllFindHeld (start (put_back n)) b) (sym same) (c.rehearsals_find_their_archive.ensures.third n c.requires.few) in
    c.in_ok-told.ensures.told tt tt (put_back n) (put_back_begins n) stands files finds ∙ ap (λ (b : List Batch). (played (start (put_back n)) b).told) same

pub returns-clause-cell : goal.returns-clause-cell
unfolding restored
returns-clause-cell c =
    let n = c.args.volumes in
    let media = c.put_back.new.self in
    let same : c.as_slice.result.now ≡ third_session n = c.as_slice.ensures ∙ c.in_ok-batches.ensures in
    let stands = back_in_stands n (seen_of media) (cell_list c.args.cell.now) (subst (λ (es : List Event). Stands (scanned n).world (seen_after es) (cell_list c.args.cell.now)) (sym c.put_back.ensures.rest.events) c.requires.stands) in
    let files = put_back_files n (count_of c.args.media) (count_of media) (present_of c.args.media) (present_of media) c.requires.files c.put_back.ensures.rest.count c.put_back.ensures.here c.put_back.ensures.others in
    let finds = subst (λ (b : List Batch). AllFindHeld (start (put_back n)) b) (sym same) (c.rehearsals_find_their_archive.ensures.third n c.requires.few) in
    (c.in_ok-told.ensures.stands tt tt (put_back n) (put_back_begins n) stands files finds).cell ∙ ap (λ (b : List Batch). (played (start (put_back n)) b).world.cell) same
