use Rattle.std.proofs.Common.{ℕ, Bool, sym, ◌∙◌, subst}
use Rattle.plant_media.specs.State.{shown_of}
use Rattle.rehearsal.specs.Playing.{played}
use Rattle.rehearsal.specs.Sessions.{start, HasFiles}
use Rattle.rehearsal.proofs.Standing.{files_opened, files_left, back_stands}
use Rattle.rehearsal.proofs.playing.run_session.Goals as goal

pub returns-clause-told : goal.returns-clause-told
returns-clause-told g c = λ told tells_cell w begins stands files finds.
    let M = g.M.Media in
    let e = c.in-Ok.ensures in
    let plant = c.in-Ok.plant in
    let cell = g.C.Cell.list c.args.cell.now in
    let here = subst (λ (n : ℕ). HasFiles w n (M.present plant.media)) (sym e.count) (subst (λ (f : ℕ → Bool). HasFiles w (M.count c.args.media) f) (sym e.present) files) in
    let opened = files_opened w (M.seen c.args.media) cell (shown_of M.seen plant) (M.count plant.media) (M.present plant.media) stands here (e.stock told) (e.settled told) in
    c.in_ok-told.ensures.told told tells_cell w
    (record { form = stands.form; journal = stands.journal; state = opened.alike; settled = stands.settled; slots = opened.slots_are; present = opened.here_are; cell = stands.cell })
    (c.in_ok-config.ensures ∙ sym begins.config) begins.time begins.groups finds

pub returns-clause-stands : goal.returns-clause-stands
returns-clause-stands g c = λ told tells_cell w begins stands files finds.
    let M = g.M.Media in
    let e = c.in-Ok.ensures in
    let plant = c.in-Ok.plant in
    let cell = g.C.Cell.list c.args.cell.now in
    let here = subst (λ (n : ℕ). HasFiles w n (M.present plant.media)) (sym e.count) (subst (λ (f : ℕ → Bool). HasFiles w (M.count c.args.media) f) (sym e.present) files) in
    let opened = files_opened w (M.seen c.args.media) cell (shown_of M.seen plant) (M.count plant.media) (M.present plant.media) stands here (e.stock told) (e.settled told) in
    let left = c.in_ok-told.ensures.stands told tells_cell w
    (record { form = stands.form; journal = stands.journal; state = opened.alike; settled = stands.settled; slots = opened.slots_are; present = opened.here_are; cell = stands.cell })
    (c.in_ok-config.ensures ∙ sym begins.config) begins.time begins.groups finds in
    back_stands (played (start w) c.args.batches.now).world (M.seen c.into_media.result) (g.C.Cell.list c.play_on.new.cell) (shown_of M.seen c.play_on.new.plant) left.form left.journal left.settled left.state left.cell
    (c.into_media.ensures.stock told c.in_ok-told.ensures.sound)

pub returns-clause-files : goal.returns-clause-files
returns-clause-files g c = λ told tells_cell w begins stands files finds.
    let M = g.M.Media in
    let e = c.in-Ok.ensures in
    let plant = c.in-Ok.plant in
    let cell = g.C.Cell.list c.args.cell.now in
    let here = subst (λ (n : ℕ). HasFiles w n (M.present plant.media)) (sym e.count) (subst (λ (f : ℕ → Bool). HasFiles w (M.count c.args.media) f) (sym e.present) files) in
    let opened = files_opened w (M.seen c.args.media) cell (shown_of M.seen plant) (M.count plant.media) (M.present plant.media) stands here (e.stock told) (e.settled told) in
    let left = c.in_ok-told.ensures.stands told tells_cell w
    (record { form = stands.form; journal = stands.journal; state = opened.alike; settled = stands.settled; slots = opened.slots_are; present = opened.here_are; cell = stands.cell })
    (c.in_ok-config.ensures ∙ sym begins.config) begins.time begins.groups finds in
    let media = c.play_on.new.plant.media in
    subst (λ m. HasFiles (played (start w) c.args.batches.now).world (M.count m) (M.present m)) (sym c.into_media.ensures.media) (files_left (played (start w) c.args.batches.now).world (M.count media) (M.present media) left.slots left.present)
