use Rattle.std.proofs.Common.{◌≡◌, [], ◌∷◌, ap, subst}
use Rattle.std.specs.Prelude.{Err}
use Rattle.std.proofs.lemmas.Result.{err_from_is_err_and}
use Rattle.plant_effects.specs.Runs.{Done, Leaves}
use Rattle.tape_frames.specs.declared.frame.Frame.TheVariants as frames
use Rattle.tape_frames.specs.declared.data.DataFields.{DataFields}
use Rattle.tape_text.specs.Items.{Says}
use Rattle.tape_writer.specs.Puts.{puts_on}
use Rattle.tape_writer.specs.declared.fault.WriteFault.TheVariants as write
use Rattle.dump_job.specs.Volumes.{piece_items}
use Rattle.dump_job.proofs.Joins.{lacks_none, only_failed, failed_first, failed_then, put_then}
use Rattle.dump_job.proofs.puts.put_piece.Goals as goal

pub returns-in_err-take_up-clause-plant : goal.returns-in_err-take_up-clause-plant
returns-in_err-take_up-clause-plant g c =
    let p = err_from_is_err_and c.from_residual.result c.from_residual.ensures.1 in
    let e = c.in_err-take_up.ensures in
    rw p.1 (failed_first g.P.Plant c.args.reel.now.slot (puts_on c.args.reel.now.slot (piece_items c.args.hand.now)) c.args.plant.now c.take_up.new.plant p.0 e.leaves e.stays e.cause.failed)

pub returns-in-Err-clause-plant : goal.returns-in-Err-clause-plant
returns-in-Err-clause-plant g c =
    let P = g.P.Plant in
    let first = c.in_ok-take_up.ensures in
    let slot = c.args.reel.now.slot in
    let mid = c.take_up.new.plant in
    let new = c.data.new.plant in
    let never : c.in-Err.field-0 ≡ write.TapeFull → ⊥ = λ is. lacks_none 3 2 c.new-writer.result _ c.new-writer.ensures c.requires.room (c.in-Err.ensures.full.0 (ap Err is)) in
    failed_then P slot (puts_on slot (piece_items c.args.hand.now)) c.args.plant.now mid new _ first.done first.leaves first.stays first.cause.stays
    (subst (λ (d : DataFields). Leaves P (puts_on slot (Says (frames.Data d) ∷ [])) mid new) c.take_piece-piece.ensures.piece (c.data.ensures.leaves slot first.loaded))
    c.data.ensures.stays (c.in-Err.ensures.cause.failed (ap Err (only_failed c.in-Err.field-0 never)))

pub returns-clause-plant : goal.returns-clause-plant
returns-clause-plant g c =
    let P = g.P.Plant in
    let first = c.in_ok-take_up.ensures in
    let slot = c.args.reel.now.slot in
    let mid = c.take_up.new.plant in
    let new = c.data.new.plant in
    let e = c.in-Ok.ensures in
    put_then P slot (puts_on slot (piece_items c.args.hand.now)) c.args.plant.now mid new first.done first.leaves first.loaded first.log_size first.stays first.cause.stays
    (subst (λ (d : DataFields). Done P (puts_on slot (Says (frames.Data d) ∷ [])) mid new) c.take_piece-piece.ensures.piece (e.done slot first.loaded))
    (subst (λ (d : DataFields). Leaves P (puts_on slot (Says (frames.Data d) ∷ [])) mid new) c.take_piece-piece.ensures.piece (c.data.ensures.leaves slot first.loaded))
    e.loaded e.log_size e.stays (e.cause.stays (λ is. absurd (cc)))
