use Rattle.std.proofs.Common.{ℕ, List, [], ◌∷◌, ◌∙◌, ap, subst}
use Rattle.backup_script.specs.Watching.{with_text}
use Rattle.plant_core.specs.Effects.{tells}
use Rattle.plant_effects.specs.Runs.{Done, Leaves}
use Rattle.backup_session.specs.Machine.{turn}
use Rattle.backup_session.proofs.Settling.{fits_stands, turn_fits, some_turn_fits}
use Rattle.backup_script.proofs.TellingLaws.{command_ran, command_watched, reply_left, command_left}
use Rattle.backup_script.proofs.serving.run_command.Goals as goal

pub returns-in-Ok-tell_whole-clause-went : goal.returns-in-Ok-tell_whole-clause-went
returns-in-Ok-tell_whole-clause-went g c = λ told tells_cell w fits held ms.
    let P = g.P.Plant in
    let C = g.C.Cell in
    let old = c.args.plant.now in
    let mid = c.exec.new.plant in
    let new = c.tell_whole.new.plant in
    let reply = c.in-Ok.reply in
    let t = turn w c.args.now c.args.command.now in
    let stands = fits_stands P C w old c.args.cell.now c.args.session.now fits in
    let turned = turn_fits P C w old mid c.args.cell.now c.exec.new.cell c.args.session.now c.exec.new.self reply fits t (c.in-Ok.ensures.turned told tells_cell w stands held) in
    command_ran P C w t old mid new c.exec.new.cell c.exec.new.self reply turned ms told
    (c.exec.ensures.leaves told tells_cell w stands) (subst (λ (l : List ℕ). Done P (tells l ∷ []) mid new) c.text-text.ensures c.in-Ok-tell_whole.ensures.done) (subst (λ (l : List ℕ). Leaves P (tells l ∷ []) mid new) c.text-text.ensures c.tell_whole.ensures.leaves)
    c.in-Ok-tell_whole.ensures.numbers c.tell_whole.ensures.stays.stays

pub returns-in-Ok-tell_whole-clause-watched : goal.returns-in-Ok-tell_whole-clause-watched
returns-in-Ok-tell_whole-clause-watched g c = λ told tells_cell before so.
    let P = g.P.Plant in
    let C = g.C.Cell in
    let old = c.args.plant.now in
    let mid = c.exec.new.plant in
    let new = c.tell_whole.new.plant in
    let reply = c.in-Ok.reply in
    let stands = fits_stands P C so.world old c.args.cell.now c.args.session.now so.fits in
    command_watched P C before old mid new c.args.cell.now c.exec.new.cell c.args.session.now c.exec.new.self reply c.args.watch.now c.watch.new.self so told
    (some_turn_fits P C so.world old mid c.args.cell.now c.exec.new.cell c.args.session.now c.exec.new.self reply so.fits (c.in-Ok.ensures.some_turn told tells_cell so.world stands))
    (subst (λ (l : List ℕ). Done P (tells l ∷ []) mid new) c.text-text.ensures c.in-Ok-tell_whole.ensures.done) c.in-Ok-tell_whole.ensures.numbers c.tell_whole.ensures.stays.stays
    (c.watch.ensures ∙ ap (λ (l : List ℕ). with_text c.args.watch.now l) c.text-text.ensures)

pub returns-in-Ok-clause-left : goal.returns-in-Ok-clause-left
returns-in-Ok-clause-left g c = λ told tells_cell w fits held ms.
    let P = g.P.Plant in
    let C = g.C.Cell in
    let old = c.args.plant.now in
    let mid = c.exec.new.plant in
    let new = c.tell_whole.new.plant in
    let t = turn w c.args.now c.args.command.now in
    let stands = fits_stands P C w old c.args.cell.now c.args.session.now fits in
    let turned = turn_fits P C w old mid c.args.cell.now c.exec.new.cell c.args.session.now c.exec.new.self c.in-Ok.reply fits t (c.in-Ok.ensures.turned told tells_cell w stands held) in
    reply_left P C w t old mid new c.exec.new.cell c.exec.new.self c.in-Ok.reply turned ms
    (c.exec.ensures.leaves told tells_cell w stands) (subst (λ (l : List ℕ). Leaves P (tells l ∷ []) mid new) c.text-text.ensures c.tell_whole.ensures.leaves)

pub returns-clause-left : goal.returns-clause-left
returns-clause-left g c = λ told tells_cell w fits held ms.
    let stands = fits_stands g.P.Plant g.C.Cell w c.args.plant.now c.args.cell.now c.args.session.now fits in
    command_left g.P.Plant g.C.Cell w ms (turn w c.args.now c.args.command.now) c.args.plant.now c.exec.new.plant c.exec.new.cell (c.exec.ensures.cells told tells_cell w stands held) (c.exec.ensures.leaves told tells_cell w stands)
