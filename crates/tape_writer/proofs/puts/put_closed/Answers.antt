use Rattle.std.proofs.Common.{◌∙◌, [], ◌∷◌}
use Rattle.plant_effects.proofs.Joining.{leaves_both, leaves_more, done_both}
use Rattle.tape_text.specs.Items.{Says, Filemark}
use Rattle.tape_writer.specs.Puts.{puts_on}
use Rattle.tape_writer.proofs.Joined.{closed_is}
use Rattle.tape_writer.proofs.puts.put_closed.Goals as goal

pub returns-in_err-put_frame-clause-leaves : goal.returns-in_err-put_frame-clause-leaves
returns-in_err-put_frame-clause-leaves g c = λ k f at same. rw closed_is (leaves_more g.P.Plant (puts_on k (Says f ∷ [])) (puts_on k (Filemark ∷ [])) c.args.plant.now c.put_frame.new.plant (c.put_frame.ensures.leaves k f at same))

pub returns-in_err-put_filemark-clause-leaves : goal.returns-in_err-put_filemark-clause-leaves
returns-in_err-put_filemark-clause-leaves g c = λ k f at same.
    let e = c.in_ok-put_frame.ensures in
    rw closed_is (leaves_both g.P.Plant (puts_on k (Says f ∷ [])) (puts_on k (Filemark ∷ [])) c.args.plant.now c.put_frame.new.plant c.put_filemark.new.plant (e.done k f at same) (c.put_frame.ensures.leaves k f at same) (c.put_filemark.ensures.leaves k (e.loaded ∙ at)))

pub returns-clause-leaves : goal.returns-clause-leaves
returns-clause-leaves g c = λ k f at same.
    let e = c.in_ok-put_frame.ensures in
    rw closed_is (leaves_both g.P.Plant (puts_on k (Says f ∷ [])) (puts_on k (Filemark ∷ [])) c.args.plant.now c.put_frame.new.plant c.put_filemark.new.plant (e.done k f at same) (c.put_frame.ensures.leaves k f at same) (c.put_filemark.ensures.leaves k (e.loaded ∙ at)))

pub returns-clause-done : goal.returns-clause-done
returns-clause-done g c = λ k f at same.
    let e = c.in_ok-put_frame.ensures in
    rw closed_is (done_both g.P.Plant (puts_on k (Says f ∷ [])) (puts_on k (Filemark ∷ [])) c.args.plant.now c.put_frame.new.plant c.put_filemark.new.plant (e.done k f at same) (c.in_ok-put_filemark.ensures.done k (e.loaded ∙ at)))
