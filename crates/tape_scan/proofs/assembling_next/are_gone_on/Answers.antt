use Rattle.tape_scan.proofs.AssemblingSteps.{gone_on, not_gone_on}
use Rattle.tape_scan.proofs.assembling_next.are_gone_on.Goals as goal

pub returns-in_default-first : goal.returns-in_default-first
returns-in_default-first c = ((λ yes. absurd (cc)), (λ goes. absurd (not_gone_on c.args.fs.now c.args.gs.now c.in-Some.f.now c.in-Some.ensures.value c.in_default-first.ensures.value goes)))

pub returns : goal.returns
returns c =
    let both = gone_on c.args.fs.now c.args.gs.now c.in-Some.f.now c.in-Some-first.g.now c.in-Some.ensures.value c.in-Some-first.ensures.value in
    ((λ yes. both.0 (c.is_gone_on.ensures.0 yes)), (λ goes. c.is_gone_on.ensures.1 (both.1 goes)))
