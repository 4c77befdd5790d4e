use Rattle.std.proofs.Common.{ℕ, List, [], ◌∷◌, ◌++◌, ◌∙◌, ap, subst}
use Rattle.plant_core.specs.Effects.{tells}
use Rattle.plant_effects.specs.Runs.{Done}
use Rattle.backup_session.specs.Machine.{turn}
use Rattle.backup_session.proofs.Settling.{fits_stands, turn_fits}
use Rattle.rehearsal.proofs.PlayLaws.{reached_next}
use Rattle.rehearsal.proofs.playing.give.Goals as goal

pub returns-in-Ok-tell_whole-clause-given : goal.returns-in-Ok-tell_whole-clause-given
returns-in-Ok-tell_whole-clause-given g c = λ told tells_cell s reached held.
    let P = g.P.Plant in
    let C = g.C.Cell in
    let old = c.args.plant.now in
    let mid = c.exec.new.plant in
    let new = c.tell_whole.new.plant in
    let t = turn s.world c.args.now c.args.command.now in
    let stands = fits_stands P C s.world old c.args.cell.now c.args.session.now reached.fits in
    let turned = turn_fits P C s.world old mid c.args.cell.now c.exec.new.cell c.args.session.now c.exec.new.self c.in-Ok.reply reached.fits t (c.in-Ok.ensures.turned told tells_cell s.world stands held) in
    reached_next P C s t old mid new c.exec.new.cell c.exec.new.self c.in-Ok.reply c.args.told.now c.piece.new.self told
    turned (subst (λ (l : List ℕ). Done P (tells l ∷ []) mid new) c.text.ensures c.in-Ok-tell_whole.ensures.done) c.tell_whole.ensures.stays.stays
    reached.told (c.in_ok-piece-in-Ok-tell_whole.ensures.ok ∙ ap (λ (l : List ℕ). c.args.told.now ++ l) c.text-in-Ok-tell_whole.ensures)
