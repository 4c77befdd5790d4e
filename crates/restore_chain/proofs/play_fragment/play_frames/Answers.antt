use Rattle.std.proofs.Common.{◌≡◌, ◌+◌, ◌≤◌, [], length, refl, sym, ◌∙◌, subst, arith}
use Rattle.plant_effects.specs.Runs.{state_of}
use Rattle.plant_effects.proofs.Joining.{nothing_done, nothing_left, same_numbers, nothing_quiet, done_both, leaves_both, numbers_both, quiet_both}
use Rattle.archive_model.specs.Plays.{pieces_from, IsFirstBad}
use Rattle.restore_chain.specs.declared.play_joined.Joined.{Joined}
use Rattle.restore_chain.specs.declared.play_fragment.Step.{Step}
use Rattle.restore_chain.specs.Playing.{lying_of, end_of, HasSeen, Steps, Joins}
use Rattle.tape_text.specs.Texts.{used_of}
use Rattle.restore_chain.proofs.RecordLaws.{read_length}
use Rattle.restore_chain.proofs.PieceLaws.{stands_first, seen_none, stands_long, bad_past}
use Rattle.restore_chain.proofs.JoinLaws.{joins_none}
use Rattle.restore_chain.proofs.FragmentLaws.{reads_stay, goes_more}
use Rattle.restore_chain.proofs.play_fragment.play_frames.Goals as goal

pub loop-place-init : goal.loop-place-init
loop-place-init g c =
    let P = g.P.Plant in
    let old = c.args.plant.now in
    let call = lying_of c.args.called.now in
    record {
      goes = λ told items reads there. record {
        pieces = [];
        stands = stands_first call items there;
        seen = subst (HasSeen call []) (sym c.new-seen.ensures) (seen_none call);
        joins = joins_none c.args.joined.now;
      };
      is_open = c.requires.is_open;
      done = nothing_done P old c.requires.sound;
      leaves = nothing_left P [] old (λ told survives image left. g.met.P.Plant.left old image told c.requires.sound survives left);
      numbers = same_numbers P old;
      stays = nothing_quiet P old;
      faults = refl;
    }

pub returns-in-Err-clause-leaves : goal.returns-in-Err-clause-leaves
returns-in-Err-clause-leaves g c =
    let so_far = c.loop-place.invariant in
    leaves_both g.P.Plant [] [] c.args.plant.now c.loop-place.plant c.play_record.new.plant so_far.done so_far.leaves c.play_record.ensures.leaves

pub returns-in-Whole-clause-leaves : goal.returns-in-Whole-clause-leaves
returns-in-Whole-clause-leaves g c =
    let so_far = c.loop-place.invariant in
    leaves_both g.P.Plant [] [] c.args.plant.now c.loop-place.plant c.play_record.new.plant so_far.done so_far.leaves c.play_record.ensures.leaves

pub returns-in-Bad-clause-leaves : goal.returns-in-Bad-clause-leaves
returns-in-Bad-clause-leaves g c =
    let so_far = c.loop-place.invariant in
    leaves_both g.P.Plant [] [] c.args.plant.now c.loop-place.plant c.play_record.new.plant so_far.done so_far.leaves c.play_record.ensures.leaves

pub returns-in-Whole-clause-ends : goal.returns-in-Whole-clause-ends
returns-in-Whole-clause-ends g c = λ told items reads there.
    let P = g.P.Plant in
    let call = lying_of c.args.called.now in
    let so_far = c.loop-place.invariant in
    let at = so_far.goes told items reads there in
    let now = reads_stay P items c.args.plant.now c.loop-place.plant told so_far.done so_far.numbers reads in
    let e = subst (λ (x : Step). Steps call items c.loop-place.place at.pieces c.play_record.new.seen c.loop-place.joined c.play_record.new.joined x) c.in-Whole.is (c.in-Ok.ensures.steps told items at.pieces now at.stands at.seen) in (
      record { head = call.head; pieces = at.pieces; end = end_of call (used_of at.pieces) },
      e.0,
      omega (arith, at.stands.place_is),
      subst (λ (j : Joined). Joins (pieces_from call.tape (call.at + 1) at.pieces) c.args.joined.now j) (sym e.1) at.joins,
    )

pub returns-in-Bad-clause-ends : goal.returns-in-Bad-clause-ends
returns-in-Bad-clause-ends g c = λ told items reads there.
    let P = g.P.Plant in
    let call = lying_of c.args.called.now in
    let so_far = c.loop-place.invariant in
    let at = so_far.goes told items reads there in
    let now = reads_stay P items c.args.plant.now c.loop-place.plant told so_far.done so_far.numbers reads in
    subst (λ (x : Step). Steps call items c.loop-place.place at.pieces c.play_record.new.seen c.loop-place.joined c.play_record.new.joined x) c.in-Bad.is (c.in-Ok.ensures.steps told items at.pieces now at.stands at.seen)

pub loop-place-preserved : goal.loop-place-preserved
loop-place-preserved g c =
    let P = g.P.Plant in
    let call = lying_of c.args.called.now in
    let so_far = c.loop-place.invariant in
    let old = c.args.plant.now in
    let mid = c.loop-place.plant in
    let new = c.play_record.new.plant in
    record {
      goes = λ told items reads there.
          let at = so_far.goes told items reads there in
          let now = reads_stay P items old mid told so_far.done so_far.numbers reads in
          let e = subst (λ (x : Step). Steps call items c.loop-place.place at.pieces c.play_record.new.seen c.loop-place.joined c.play_record.new.joined x) c.in-More.is (c.in-Ok.ensures.steps told items at.pieces now at.stands at.seen) in
          goes_more call items c.loop-place.place at.pieces e.0 c.play_record.new.seen c.args.joined.now c.loop-place.joined c.play_record.new.joined at.stands e.1 e.2 at.joins e.3;
      is_open = c.in-Ok.ensures.is_open;
      done = done_both P [] [] old mid new so_far.done (c.in-Ok.ensures.done (λ is. absurd (cc)));
      leaves = leaves_both P [] [] old mid new so_far.done so_far.leaves c.play_record.ensures.leaves;
      numbers = numbers_both P old mid new so_far.numbers (c.in-Ok.ensures.numbers (λ is. absurd (cc)));
      stays = quiet_both P old mid new so_far.stays c.play_record.ensures.stays;
      faults = c.in-Ok.ensures.cause.stays (λ is. absurd (cc)) ∙ so_far.faults;
    }

pub returns-clause-ends : goal.returns-clause-ends
returns-clause-ends g c = λ told items reads there.
    let P = g.P.Plant in
    let old = c.args.plant.now in
    let call = lying_of c.args.called.now in
    let at = c.loop-place.invariant.goes told items reads there in
    let end : c.tape_len-end.result ≡ length items = c.tape_len-end.ensures ∙ g.met.P.Plant.records_told old reads.slot told c.requires.sound reads.loaded ∙ sym (read_length ((state_of P old).tape reads.slot) items reads.read) in
    let long = stands_long call items c.loop-place.place at.pieces at.stands in
    let past : length items ≤ c.loop-place.place = omega (arith, end, c.loop-place-test.false) in
    let same : c.loop-place.place ≡ c.tape_len-end.result = omega (arith, end, long, past) in
    subst (IsFirstBad call items) same (bad_past call items c.loop-place.place at.pieces c.loop-place.seen c.is_fit_call.ensures at.stands at.seen at.seen.small past)
