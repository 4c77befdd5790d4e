use Rattle.std.proofs.Common.{◌≡◌, List, sym, ◌∙◌, subst}
use Rattle.std.specs.Prelude.{IfOk}
use Rattle.media_core.specs.Files.{seen_of, count_of, present_of}
use Rattle.media_core.specs.Presence.{here_below}
use Rattle.cell_core.specs.Mem.{cell_list}
use Rattle.rehearsal.specs.declared.batch.Batch.{Batch}
use Rattle.rehearsal.specs.Commands.{first_session}
use Rattle.rehearsal.specs.Playing.{played, AllFindHeld}
use Rattle.rehearsal.specs.Sessions.{blank_world, start, dumped, Stands, HasFiles}
use Rattle.rehearsal.proofs.Worlds.{blank_begins, blank_stands, blank_files}
use Rattle.rehearsal.proofs.rehearsing.dump_all.Goals as goal

pub returns-clause-told : goal.returns-clause-told
unfolding dumped
returns-clause-told c =
    let n = c.args.volumes in
    let media = c.in_ok-media.media in
    let same : c.as_slice.result.now ≡ first_session n = c.as_slice.ensures ∙ c.in_ok-batches.ensures in
    let world = blank_world in
    let begins = blank_begins in
    let stands = blank_stands (seen_of media) (cell_list c.args.cell.now) c.in_ok-media.ensures.seen c.requires.empty in
    let files = blank_files (count_of media) (present_of media) c.in_ok-media.ensures.count c.in_ok-media.ensures.present (λ k is. here_below media.away.items k is) in
    let finds = subst (λ (b : List Batch). AllFindHeld (start blank_world) b) (sym same) (c.rehearsals_find_their_archive.ensures.first n c.requires.few) in
    subst (λ (b : List Batch). IfOk c.run_session.result (λ left. left.0 ≡ (played (start blank_world) b).told)) same (c.run_session.ensures.told tt tt world begins stands files finds)

pub returns-clause-stands : goal.returns-clause-stands
unfolding dumped
returns-clause-stands c =
    let n = c.args.volumes in
    let media = c.in_ok-media.media in
    let same : c.as_slice.result.now ≡ first_session n = c.as_slice.ensures ∙ c.in_ok-batches.ensures in
    let world = blank_world in
    let begins = blank_begins in
    let stands = blank_stands (seen_of media) (cell_list c.args.cell.now) c.in_ok-media.ensures.seen c.requires.empty in
    let files = blank_files (count_of media) (present_of media) c.in_ok-media.ensures.count c.in_ok-media.ensures.present (λ k is. here_below media.away.items k is) in
    let finds = subst (λ (b : List Batch). AllFindHeld (start blank_world) b) (sym same) (c.rehearsals_find_their_archive.ensures.first n c.requires.few) in
    subst (λ (b : List Batch). IfOk c.run_session.result (λ left. Stands (played (start blank_world) b).world (seen_of left.1) (cell_list c.run_session.new.cell))) same (c.run_session.ensures.stands tt tt world begins stands files finds)

pub returns-clause-files : goal.returns-clause-files
unfolding dumped
returns-clause-files c =
    let n = c.args.volumes in
    let media = c.in_ok-media.media in
    let same : c.as_slice.result.now ≡ first_session n = c.as_slice.ensures ∙ c.in_ok-batches.ensures in
    let world = blank_world in
    let begins = blank_begins in
    let stands = blank_stands (seen_of media) (cell_list c.args.cell.now) c.in_ok-media.ensures.seen c.requires.empty in
    let files = blank_files (count_of media) (present_of media) c.in_ok-media.ensures.count c.in_ok-media.ensures.present (λ k is. here_below media.away.items k is) in
    let finds = subst (λ (b : List Batch). AllFindHeld (start blank_world) b) (sym same) (c.rehearsals_find_their_archive.ensures.first n c.requires.few) in
    subst (λ (b : List Batch). IfOk c.run_session.result (λ left. HasFiles (played (start blank_world) b).world (count_of left.1) (present_of left.1))) same (c.run_session.ensures.files tt tt world begins stands files finds)
