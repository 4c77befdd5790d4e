use Rattle.std.proofs.Common.{◌≡◌, Some, Ok, true, rules, refl, ◌∙◌, ap, subst}
use Rattle.tape_frames.specs.declared.frame.Frame.{Frame}
use Rattle.tape_frames.specs.declared.frame.Frame.TheVariants as frames
use Rattle.tape_text.specs.Items.{Says}
use Rattle.restore_chain.specs.declared.fault.LookFault.TheVariants.{Failed}
use Rattle.restore_chain.specs.Playing.{lying_of, IsSaidAt}
use Rattle.restore_chain.proofs.PieceLaws.{bad_head, said_of, same_said}
use Rattle.restore_chain.proofs.FragmentLaws.{reads_stay}
use Rattle.restore_chain.proofs.ReadLaws.{read_then}
use Rattle.restore_chain.proofs.keep_fragment.keep_fragment.Goals as goal

pub returns-in-None-clause-read : goal.returns-in-None-clause-read
returns-in-None-clause-read g c = λ told items reads.
    let call = lying_of c.args.called.now in
    (refl, bad_head call items c.is_fit_call.ensures (λ is. subst (IsSaidAt items call.at) c.in-None.is (c.in-Ok.ensures.said told items reads) (frames.VolHead call.head) is))

pub returns-then-not-is_head-clause-read : goal.returns-then-not-is_head-clause-read
returns-then-not-is_head-clause-read g c = λ told items reads.
    let call = lying_of c.args.called.now in
    let there = said_of items call.at c.in-Ok.found c.in-Some.frame (c.in-Ok.ensures.said told items reads) c.in-Some.is in (
      refl,
      bad_head call items c.is_fit_call.ensures (λ is.
          let yes_head = c.is_head.ensures.1 (same_said items call.at c.in-Some.frame (frames.VolHead call.head) there is) in
          absurd (search rules)),
    )

pub returns-else-not-is_head-clause-read : goal.returns-else-not-is_head-clause-read
returns-else-not-is_head-clause-read g c = λ told items reads.
    let P = g.P.Plant in
    let call = lying_of c.args.called.now in
    let is_head : c.is_head.result ≡ true = search rules in
    let head : c.in-Some.frame ≡ frames.VolHead call.head = c.is_head.ensures.0 is_head in
    let there = said_of items call.at c.in-Ok.found c.in-Some.frame (c.in-Ok.ensures.said told items reads) c.in-Some.is in
    c.keep_frames.ensures.read told items (reads_stay P items c.args.plant.now c.read_frame.new.plant told (c.in-Ok.ensures.done (λ is. absurd (cc))) (c.in-Ok.ensures.numbers (λ is. absurd (cc))) reads)
    (there ∙ ap (λ (f : Frame). Some (Says f)) head)

pub returns-else-not-is_head-clause-reads : goal.returns-else-not-is_head-clause-reads
returns-else-not-is_head-clause-reads g c =
    read_then g.P.Plant Failed c.args.plant.now c.read_frame.new.plant c.keep_frames.new.plant c.keep_frames.result
    (record {
      done = c.in-Ok.ensures.done (λ is. absurd (cc));
      leaves = c.read_frame.ensures.leaves;
      numbers = c.in-Ok.ensures.numbers (λ is. absurd (cc));
      stays = c.read_frame.ensures.stays;
      faults = c.in-Ok.ensures.cause.stays (λ is. absurd (cc));
    })
    c.keep_frames.ensures.reads
