use Rattle.std.proofs.Common.{◌≡◌, [], Some, true, rules, ◌∙◌, ap, subst}
use Rattle.plant_effects.proofs.Joining.{done_both, leaves_both, numbers_both}
use Rattle.tape_frames.specs.declared.frame.Frame.{Frame}
use Rattle.tape_frames.specs.declared.frame.Frame.TheVariants as frames
use Rattle.tape_text.specs.Items.{Says}
use Rattle.restore_chain.specs.Playing.{lying_of, IsSaidAt}
use Rattle.restore_chain.proofs.PieceLaws.{bad_head, said_of, same_said}
use Rattle.restore_chain.proofs.FragmentLaws.{reads_stay}
use Rattle.restore_chain.proofs.play_fragment.play_fragment.Goals as goal

pub returns-in-None-clause-ends : goal.returns-in-None-clause-ends
returns-in-None-clause-ends g c = λ told items reads.
    let call = lying_of c.args.called.now in
    bad_head call items c.is_fit_call.ensures (λ is. subst (IsSaidAt items call.at) c.in-None.is (c.in-Ok.ensures.said told items reads) (frames.VolHead call.head) is)

pub returns-then-not-is_head-clause-ends : goal.returns-then-not-is_head-clause-ends
returns-then-not-is_head-clause-ends g c = λ told items reads.
    let call = lying_of c.args.called.now in
    let there = said_of items call.at c.in-Ok.found c.in-Some.frame (c.in-Ok.ensures.said told items reads) c.in-Some.is in
    bad_head call items c.is_fit_call.ensures (λ is.
    let yes_head = c.is_head.ensures.1 (same_said items call.at c.in-Some.frame (frames.VolHead call.head) there is) in
    absurd (search rules))

pub returns-else-not-is_head-clause-ends : goal.returns-else-not-is_head-clause-ends
returns-else-not-is_head-clause-ends g c = λ told items reads.
    let P = g.P.Plant in
    let call = lying_of c.args.called.now in
    let is_head : c.is_head.result ≡ true = search rules in
    let head : c.in-Some.frame ≡ frames.VolHead call.head = c.is_head.ensures.0 is_head in
    let there = said_of items call.at c.in-Ok.found c.in-Some.frame (c.in-Ok.ensures.said told items reads) c.in-Some.is in
    c.play_frames.ensures.ends told items (reads_stay P items c.args.plant.now c.read_frame.new.plant told (c.in-Ok.ensures.done (λ is. absurd (cc))) (c.in-Ok.ensures.numbers (λ is. absurd (cc))) reads)
    (there ∙ ap (λ (f : Frame). Some (Says f)) head)

pub returns-else-not-is_head-clause-done : goal.returns-else-not-is_head-clause-done
returns-else-not-is_head-clause-done g c = λ fine.
    done_both g.P.Plant [] [] c.args.plant.now c.read_frame.new.plant c.play_frames.new.plant (c.in-Ok.ensures.done (λ is. absurd (cc))) (c.play_frames.ensures.done fine)

pub returns-else-not-is_head-clause-leaves : goal.returns-else-not-is_head-clause-leaves
returns-else-not-is_head-clause-leaves g c =
    leaves_both g.P.Plant [] [] c.args.plant.now c.read_frame.new.plant c.play_frames.new.plant (c.in-Ok.ensures.done (λ is. absurd (cc))) c.read_frame.ensures.leaves c.play_frames.ensures.leaves

pub returns-else-not-is_head-clause-numbers : goal.returns-else-not-is_head-clause-numbers
returns-else-not-is_head-clause-numbers g c = λ fine.
    numbers_both g.P.Plant c.args.plant.now c.read_frame.new.plant c.play_frames.new.plant (c.in-Ok.ensures.numbers (λ is. absurd (cc))) (c.play_frames.ensures.numbers fine)
