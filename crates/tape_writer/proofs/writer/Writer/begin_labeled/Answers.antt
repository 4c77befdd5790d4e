use Rattle.std.proofs.Common.{◌∙◌, [], ◌∷◌}
use Rattle.plant_effects.proofs.Joining.{nothing_left, leaves_both, leaves_more, done_both}
use Rattle.tape_frames.specs.declared.frame.Frame.TheVariants as frames
use Rattle.tape_text.specs.Items.{Says, Filemark}
use Rattle.tape_writer.specs.Puts.{puts_on}
use Rattle.tape_writer.proofs.Joined.{labeled_is}
use Rattle.tape_writer.proofs.writer.Writer.begin_labeled.Goals as goal

pub returns-then-not-has_room-clause-leaves : goal.returns-then-not-has_room-clause-leaves
returns-then-not-has_room-clause-leaves g c = λ k at.
    let label = frames.Label c.args.label.now in
    let head = frames.DumpHead c.args.head.now in
    nothing_left g.P.Plant (puts_on k (Says label ∷ Filemark ∷ Says head ∷ [])) c.args.plant.now (λ told survives image left. g.met.P.Plant.left c.args.plant.now image told c.requires.sound survives left)

pub returns-in_err-put_closed-clause-leaves : goal.returns-in_err-put_closed-clause-leaves
returns-in_err-put_closed-clause-leaves g c = λ k at.
    let label = frames.Label c.args.label.now in
    let head = frames.DumpHead c.args.head.now in
    rw labeled_is (leaves_more g.P.Plant (puts_on k (Says label ∷ Filemark ∷ [])) (puts_on k (Says head ∷ [])) c.args.plant.now c.put_closed.new.plant (c.put_closed.ensures.leaves k label at c.encode.ensures.block))

pub returns-in_err-put_frame-clause-leaves : goal.returns-in_err-put_frame-clause-leaves
returns-in_err-put_frame-clause-leaves g c = λ k at.
    let label = frames.Label c.args.label.now in
    let head = frames.DumpHead c.args.head.now in
    let e = c.in_ok-put_closed.ensures in
    rw labeled_is (leaves_both g.P.Plant (puts_on k (Says label ∷ Filemark ∷ [])) (puts_on k (Says head ∷ [])) c.args.plant.now c.put_closed.new.plant c.put_frame.new.plant (e.done k label at c.encode.ensures.block) (c.put_closed.ensures.leaves k label at c.encode.ensures.block) (c.put_frame.ensures.leaves k head (e.loaded ∙ at) c.encode-2.ensures.block))

pub returns-clause-leaves : goal.returns-clause-leaves
returns-clause-leaves g c = λ k at.
    let label = frames.Label c.args.label.now in
    let head = frames.DumpHead c.args.head.now in
    let e = c.in_ok-put_closed.ensures in
    rw labeled_is (leaves_both g.P.Plant (puts_on k (Says label ∷ Filemark ∷ [])) (puts_on k (Says head ∷ [])) c.args.plant.now c.put_closed.new.plant c.put_frame.new.plant (e.done k label at c.encode.ensures.block) (c.put_closed.ensures.leaves k label at c.encode.ensures.block) (c.put_frame.ensures.leaves k head (e.loaded ∙ at) c.encode-2.ensures.block))

pub returns-clause-done : goal.returns-clause-done
returns-clause-done g c = λ k at.
    let label = frames.Label c.args.label.now in
    let head = frames.DumpHead c.args.head.now in
    let e = c.in_ok-put_closed.ensures in
    rw labeled_is (done_both g.P.Plant (puts_on k (Says label ∷ Filemark ∷ [])) (puts_on k (Says head ∷ [])) c.args.plant.now c.put_closed.new.plant c.put_frame.new.plant (e.done k label at c.encode.ensures.block) (c.in_ok-put_frame.ensures.done k head (e.loaded ∙ at) c.encode-2.ensures.block))
