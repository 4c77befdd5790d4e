use Rattle.std.proofs.Common.{◌≡◌, [], ◌∷◌, ap}
use Rattle.std.specs.Prelude.{Err}
use Rattle.std.proofs.lemmas.Result.{err_from_is_err_and}
use Rattle.tape_frames.specs.declared.frame.Frame.TheVariants as frames
use Rattle.tape_text.specs.Items.{Says, Filemark}
use Rattle.tape_writer.specs.Puts.{puts_on}
use Rattle.tape_writer.specs.declared.fault.WriteFault.TheVariants as write
use Rattle.dump_job.proofs.Joins.{only_failed, failed_first, failed_then, put_then}
use Rattle.dump_job.proofs.puts.put_end.Goals as goal

pub returns-in_err-take_up-clause-plant : goal.returns-in_err-take_up-clause-plant
returns-in_err-take_up-clause-plant g c =
    let p = err_from_is_err_and c.from_residual.result c.from_residual.ensures.1 in
    let e = c.in_err-take_up.ensures in
    rw p.1 (failed_first g.P.Plant c.args.reel.now.slot (puts_on c.args.reel.now.slot (Says (frames.VolEnd c.args.end.now) ∷ Filemark ∷ [])) c.args.plant.now c.take_up.new.plant p.0 e.leaves e.stays e.cause.failed)

pub returns-in-Err-clause-plant : goal.returns-in-Err-clause-plant
returns-in-Err-clause-plant g c =
    let first = c.in_ok-take_up.ensures in
    let slot = c.args.reel.now.slot in
    let never : c.in-Err.field-0 ≡ write.TapeFull → ⊥ = λ is. c.in-Err.ensures.never_full (ap Err is) in
    failed_then g.P.Plant slot (puts_on slot (Says (frames.VolEnd c.args.end.now) ∷ Filemark ∷ [])) c.args.plant.now c.take_up.new.plant c.end_volume.new.plant _ first.done first.leaves first.stays first.cause.stays
    (c.end_volume.ensures.leaves slot first.loaded) c.end_volume.ensures.stays (c.in-Err.ensures.cause.failed (ap Err (only_failed c.in-Err.field-0 never)))

pub returns-clause-plant : goal.returns-clause-plant
returns-clause-plant g c =
    let first = c.in_ok-take_up.ensures in
    let slot = c.args.reel.now.slot in
    let e = c.in-Ok.ensures in
    put_then g.P.Plant slot (puts_on slot (Says (frames.VolEnd c.args.end.now) ∷ Filemark ∷ [])) c.args.plant.now c.take_up.new.plant c.end_volume.new.plant first.done first.leaves first.loaded first.log_size first.stays first.cause.stays
    (e.done slot first.loaded) (c.end_volume.ensures.leaves slot first.loaded) e.loaded e.log_size e.stays (e.cause.stays (λ is. absurd (cc)))
