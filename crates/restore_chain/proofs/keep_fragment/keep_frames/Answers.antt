use Rattle.std.proofs.Common.{◌≡◌, ◌+◌, ◌≤◌, [], Ok, Err, length, refl, sym, ◌∙◌, subst, arith}
use Rattle.plant_effects.specs.Runs.{state_of}
use Rattle.restore_chain.specs.declared.play_fragment.Step.{Step}
use Rattle.restore_chain.specs.declared.fault.LookFault.TheVariants.{Failed}
use Rattle.archive_model.specs.Plays.{IsFirstBad}
use Rattle.restore_chain.specs.Playing.{lying_of, HasSeen}
use Rattle.restore_chain.specs.Keeping.{KeepsOn}
use Rattle.restore_chain.proofs.RecordLaws.{read_length}
use Rattle.restore_chain.proofs.PieceLaws.{stands_first, seen_none, stands_long, bad_past}
use Rattle.restore_chain.proofs.FragmentLaws.{reads_stay}
use Rattle.restore_chain.proofs.ReadLaws.{read_none, read_both, read_then, read_well, reads_err}
use Rattle.restore_chain.proofs.KeepLaws.{keeps_more, keeps_whole}
use Rattle.restore_chain.proofs.keep_fragment.keep_frames.Goals as goal

pub loop-place-init : goal.loop-place-init
loop-place-init g c =
    let P = g.P.Plant in
    let old = c.args.plant.now in
    let call = lying_of c.args.called.now in
    record {
      goes = λ told items reads there. record {
        ds = [];
        stands = stands_first call items there;
        seen = subst (HasSeen call []) (sym c.new-seen.ensures) (seen_none call);
        are = c.new-pieces.ensures;
      };
      read = read_none P old c.requires.sound (λ told survives image left. g.met.P.Plant.left old image told c.requires.sound survives left);
    }

pub returns-in-Err-clause-reads : goal.returns-in-Err-clause-reads
returns-in-Err-clause-reads g c =
    reads_err g.P.Plant Failed c.in-Err.fault c.args.plant.now c.keep_record.new.plant (read_then g.P.Plant Failed c.args.plant.now c.loop-place.plant c.keep_record.new.plant _ c.loop-place.invariant.read c.in-Err.ensures.reads)

pub returns-in-Whole-clause-reads : goal.returns-in-Whole-clause-reads
returns-in-Whole-clause-reads g c =
    read_well g.P.Plant Failed c.args.plant.now c.keep_record.new.plant _ (read_both g.P.Plant Failed c.args.plant.now c.loop-place.plant c.keep_record.new.plant _ c.loop-place.invariant.read c.in-Ok.ensures.reads (λ is. absurd (cc))) (λ is. absurd (cc))

pub returns-in-Bad-clause-reads : goal.returns-in-Bad-clause-reads
returns-in-Bad-clause-reads g c =
    read_well g.P.Plant Failed c.args.plant.now c.keep_record.new.plant _ (read_both g.P.Plant Failed c.args.plant.now c.loop-place.plant c.keep_record.new.plant _ c.loop-place.invariant.read c.in-Ok.ensures.reads (λ is. absurd (cc))) (λ is. absurd (cc))

pub returns-in-Whole-clause-read : goal.returns-in-Whole-clause-read
returns-in-Whole-clause-read g c = λ told items reads there.
    let P = g.P.Plant in
    let call = lying_of c.args.called.now in
    let so_far = c.loop-place.invariant in
    let at = so_far.goes told items reads there in
    let now = reads_stay P items c.args.plant.now c.loop-place.plant told so_far.read.done so_far.read.numbers reads in
    let e = subst (λ (x : Step). KeepsOn call items c.loop-place.place at.ds c.keep_record.new.seen c.loop-place.pieces c.keep_record.new.pieces x) c.in-Whole.is (c.in-Ok.ensures.keeps told items at.ds now at.stands at.seen) in
    keeps_whole call items c.loop-place.place _ c.loop-place.seen c.keep_record.new.seen c.loop-place.pieces c.keep_record.new.pieces refl at e

pub returns-in-Bad-clause-read : goal.returns-in-Bad-clause-read
returns-in-Bad-clause-read g c = λ told items reads there.
    let P = g.P.Plant in
    let call = lying_of c.args.called.now in
    let so_far = c.loop-place.invariant in
    let at = so_far.goes told items reads there in
    let now = reads_stay P items c.args.plant.now c.loop-place.plant told so_far.read.done so_far.read.numbers reads in
    (refl, subst (λ (x : Step). KeepsOn call items c.loop-place.place at.ds c.keep_record.new.seen c.loop-place.pieces c.keep_record.new.pieces x) c.in-Bad.is (c.in-Ok.ensures.keeps told items at.ds now at.stands at.seen))

pub loop-place-preserved : goal.loop-place-preserved
loop-place-preserved g c =
    let P = g.P.Plant in
    let call = lying_of c.args.called.now in
    let so_far = c.loop-place.invariant in
    let old = c.args.plant.now in
    let mid = c.loop-place.plant in
    let new = c.keep_record.new.plant in
    record {
      goes = λ told items reads there.
          let at = so_far.goes told items reads there in
          let now = reads_stay P items old mid told so_far.read.done so_far.read.numbers reads in
          let e = subst (λ (x : Step). KeepsOn call items c.loop-place.place at.ds c.keep_record.new.seen c.loop-place.pieces c.keep_record.new.pieces x) c.in-More.is (c.in-Ok.ensures.keeps told items at.ds now at.stands at.seen) in
          keeps_more call items c.loop-place.place c.loop-place.seen c.keep_record.new.seen c.loop-place.pieces c.keep_record.new.pieces at e;
      read = read_both P Failed old mid new _ so_far.read c.in-Ok.ensures.reads (λ is. absurd (cc));
    }

pub returns-clause-reads : goal.returns-clause-reads
returns-clause-reads g c = read_well g.P.Plant Failed c.args.plant.now c.loop-place.plant _ c.loop-place.invariant.read (λ is. absurd (cc))

pub returns-clause-read : goal.returns-clause-read
returns-clause-read g c = λ told items reads there.
    let P = g.P.Plant in
    let old = c.args.plant.now in
    let call = lying_of c.args.called.now in
    let at = c.loop-place.invariant.goes told items reads there in
    let end : c.tape_len-end.result ≡ length items = c.tape_len-end.ensures ∙ g.met.P.Plant.records_told old reads.slot told c.requires.sound reads.loaded ∙ sym (read_length ((state_of P old).tape reads.slot) items reads.read) in
    let long = stands_long call items c.loop-place.place at.ds at.stands in
    let past : length items ≤ c.loop-place.place = omega (arith, end, c.loop-place-test.false) in
    let same : c.loop-place.place ≡ c.tape_len-end.result = omega (arith, end, long, past) in
    (refl, subst (IsFirstBad call items) same (bad_past call items c.loop-place.place at.ds c.loop-place.seen c.is_fit_call.ensures at.stands at.seen at.seen.small past))
