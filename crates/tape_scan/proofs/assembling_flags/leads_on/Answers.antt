use Rattle.std.proofs.Common.{refl}
use Rattle.tape_scan.specs.AssembledSteps.{seen}
use Rattle.tape_scan.proofs.AssemblingSteps.{leads_by_next, leads_nowhere}
use Rattle.tape_scan.proofs.assembling_flags.leads_on.Goals as goal

pub returns-in-None : goal.returns-in-None
returns-in-None c = (
  (λ yes. absurd (cc)),
  (λ leads. absurd (leads_nowhere (seen c.args.parts.now) c.args.good.now c.args.part.now c.requires.known (λ ending. absurd (let yes = c.ends.ensures.1 ending in cc (yes, c.if-ends.false))) c.in-None.ensures.next leads)),
)

pub returns-in-Some : goal.returns-in-Some
returns-in-Some c = (
  (λ yes. let next = c.in-Some.ensures.next in leads_by_next (seen c.args.parts.now) c.args.good.now c.args.part.now c.in-Some.field-0 next.0 c.requires.known next.1.stands next.1.flagged next.1.next),
  (λ leads. refl),
)
