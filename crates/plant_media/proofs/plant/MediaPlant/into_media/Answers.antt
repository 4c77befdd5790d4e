use Rattle.std.proofs.Common.{refl, sym, ◌∙◌, ap}
use Rattle.crash_log.specs.Fit.{as_read}
use Rattle.plant_media.specs.Stock.{stock_of}
use Rattle.plant_media.specs.Laws.{settled_is_left, files_still}
use Rattle.plant_media.proofs.plant.MediaPlant.into_media.Goals as goal

pub returns-clause-stock : goal.returns-clause-stock
returns-clause-stock g c = λ told sound.
    let m = g.M.Media in
    let left = settled_is_left m.tells (as_read m.seen) m.seen m.present c.args.self sound told refl in
    ap stock_of (sym left.was) ∙ sym left.is

pub returns-clause-still : goal.returns-clause-still
returns-clause-still g c = λ told survives settled.
    let m = g.M.Media in
    files_still m.tells m.time m.seen m.present c.args.self survives told settled
