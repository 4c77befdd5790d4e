use Rattle.std.proofs.Common.{◌∙◌}
use Rattle.rehearsal.specs.Playing.{played}
use Rattle.rehearsal.specs.Sessions.{start}
use Rattle.rehearsal.proofs.Standing.{opened_stands, left_stands}
use Rattle.rehearsal.proofs.playing.play_on.Goals as goal

pub returns-clause-told : goal.returns-clause-told
returns-clause-told g c = λ told tells_cell w stands config time groups finds.
    let P = g.P.Plant in
    let C = g.C.Cell in
    let f = c.in-Ok.ensures.stands told in
    let fits = opened_stands P C w c.args.config c.args.plant.now c.open.new.plant c.args.cell.now c.open.new.cell c.in-Ok.session stands config time groups f.0 f.1 f.2 (f.3 tells_cell) in
    c.into_bytes.ensures ∙ (c.in_ok-played.ensures.played told tells_cell (start w) (record { fits = fits; told = c.new-told.ensures }) finds).told

pub returns-clause-stands : goal.returns-clause-stands
returns-clause-stands g c = λ told tells_cell w stands config time groups finds.
    let P = g.P.Plant in
    let C = g.C.Cell in
    let f = c.in-Ok.ensures.stands told in
    let fits = opened_stands P C w c.args.config c.args.plant.now c.open.new.plant c.args.cell.now c.open.new.cell c.in-Ok.session stands config time groups f.0 f.1 f.2 (f.3 tells_cell) in
    left_stands P C (played (start w) c.args.batches.now).world c.play-played.new.plant c.play-played.new.cell c.play-played.new.session (c.in_ok-played.ensures.played told tells_cell (start w) (record { fits = fits; told = c.new-told.ensures }) finds).fits
