use Rattle.std.proofs.Common.{inl, refl, subst}
use Rattle.mount_plan.specs.Tellings.{IsTold}
use Rattle.mount_plan.specs.Outcomes.{IsPlayed}
use Rattle.restore_commands.specs.Answers.{volume_answer}
use Rattle.restore_commands.specs.Steps.{IsFound}
use Rattle.restore_commands.proofs.PutLaws.{stayed_on}
use Rattle.restore_commands.proofs.FoundLaws.{refused_answer}
use Rattle.restore_commands.proofs.Idle.{cell_idle}
use Rattle.restore_commands.proofs.played.put_as.Goals as goal

pub returns-in-Volume-clause-answer : goal.returns-in-Volume-clause-answer
returns-in-Volume-clause-answer g c = λ seen a lists found. c.place_played.ensures.answer seen a lists (subst (IsFound a c.args.wanted.now) c.in-Volume.is found)

pub returns-in-Volume-clause-left : goal.returns-in-Volume-clause-left
returns-in-Volume-clause-left g c = λ seen a lists found. c.place_played.ensures.left seen a lists (subst (IsFound a c.args.wanted.now) c.in-Volume.is found)

pub returns-in-Refused-clause-answer : goal.returns-in-Refused-clause-answer
returns-in-Refused-clause-answer g c = λ seen a lists found.
    let old = g.C.Cell.list c.args.cell.now in
    let wanted = c.args.wanted.now in
    let target = c.args.target.now in
    let so = subst (IsFound a wanted) c.in-Refused.is found in
    refused_answer a old old c.args.manner.now wanted target c.requires.target c.refuse.result c.in-Refused.fault wanted.name refl c.refuse.ensures.failed c.refuse.ensures.memory c.refuse.ensures.text
    (λ went kept. record { refusal = so.0; is = so.1; line = so.2 target }) refl

pub returns-in-Refused-clause-left : goal.returns-in-Refused-clause-left
returns-in-Refused-clause-left g c = λ seen a lists found. stayed_on (g.C.Cell.list c.args.cell.now) (volume_answer a (g.C.Cell.list c.args.cell.now) c.args.manner.now c.args.wanted.now).cells (g.C.Cell.list c.args.cell.now) refl

pub returns-in-Refused-clause-may : goal.returns-in-Refused-clause-may
returns-in-Refused-clause-may g c = λ seen. inl refl

pub returns-in-Refused-clause-cause : goal.returns-in-Refused-clause-cause
returns-in-Refused-clause-cause g c = cell_idle (g.C.Cell.faults c.args.cell.now) c.refuse.result c.refuse.ensures.never

pub returns-in-Refused-clause-never : goal.returns-in-Refused-clause-never
returns-in-Refused-clause-never g c = λ is. subst IsTold (c.refuse.ensures.only_failed is) (subst IsPlayed c.in-Refused.is c.requires.told)
