use Rattle.std.proofs.Common.{inl, inr, sym, ◌∙◌, arith}
use Rattle.crash_log.proofs.Formatting.{empties_twice}
use Rattle.crash_log.proofs.format.close_gates.Goals as goal

pub returns-in_err-close_gate-2-clause-crash : goal.returns-in_err-close_gate-2-clause-crash
returns-in_err-close_gate-2-clause-crash g c = λ told has.
    let m = g.M.Media in
    empties_twice m.time c.args.f c.args.media.now c.close_gate.new.media c.close_gate-2.new.media (c.close_gate.ensures.crash told has) (c.close_gate-2.ensures.crash told (c.in_ok-close_gate.ensures.survives told has))

pub returns-clause-crash : goal.returns-clause-crash
returns-clause-crash g c = λ told has.
    let m = g.M.Media in
    empties_twice m.time c.args.f c.args.media.now c.close_gate.new.media c.close_gate-2.new.media (c.close_gate.ensures.crash told has) (c.close_gate-2.ensures.crash told (c.in_ok-close_gate.ensures.survives told has))

pub close_gate-requires-2-clause-gate : goal.close_gate-requires-2-clause-gate
close_gate-requires-2-clause-gate g c = λ told.
    let same = c.in_ok-close_gate.ensures.others told 4096 (inr (omega arith)) in
    (λ is. same ∙ (c.requires.second told).0 is, λ is_one. (c.requires.second told).1 (sym same ∙ is_one))

pub returns-clause-shut : goal.returns-clause-shut
returns-clause-shut g c = λ told.
    let bad = c.in_ok-close_gate-2.ensures.bad told in
    let same = c.in_ok-close_gate-2.ensures.others told 0 (inl (omega arith)) in
    record {
      still = bad.still;
      is = record { long = bad.is.long; first = λ is_one. c.in_ok-close_gate.ensures.shut told (sym same ∙ is_one); second = c.in_ok-close_gate-2.ensures.shut told };
    }

pub returns-clause-survives : goal.returns-clause-survives
returns-clause-survives g c = λ told has.
    let bad = c.in_ok-close_gate-2.ensures.survives told (c.in_ok-close_gate.ensures.survives told has) in
    let same = c.in_ok-close_gate-2.ensures.others told 0 (inl (omega arith)) in
    record {
      still = bad.still;
      is = record { long = bad.is.long; first = λ is_one. c.in_ok-close_gate.ensures.shut told (sym same ∙ is_one); second = c.in_ok-close_gate-2.ensures.shut told };
    }
