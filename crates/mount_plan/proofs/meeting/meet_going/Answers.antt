use Rattle.std.proofs.Common.{◌≡◌, Ok, Err, true, sym, subst, ◌∙◌, rules}
use Rattle.restore_chain.specs.declared.fault.LookFault.TheVariants.{Failed}
use Rattle.restore_chain.proofs.ReadLaws.{read_none, read_well, has_read, reads_as}
use Rattle.mount_plan.proofs.meeting.meet_going.Goals as goal

pub returns-then-not-awaits-clause-reads : goal.returns-then-not-awaits-clause-reads
returns-then-not-awaits-clause-reads g c =
    read_well g.P.Plant Failed c.args.plant.now c.args.plant.now _ (read_none g.P.Plant c.args.plant.now c.requires.sound (λ told survives image left. g.met.P.Plant.left c.args.plant.now image told c.requires.sound survives left)) (λ is. absurd (cc))

pub returns-in-Ok-clause-goes : goal.returns-in-Ok-clause-goes
returns-in-Ok-clause-goes g c = λ told slots listed one has held is going.
    let waits : c.awaits.result ≡ true = search rules in
    c.end_dump.ensures.goes slots listed one c.args.id
    (c.in-Ok.ensures.keeps told slots listed one c.args.id has held is (c.awaits.ensures.missing waits) (c.awaits.ensures.within waits) (c.awaits.ensures.next waits) going)

pub returns-in-Ok-clause-reads : goal.returns-in-Ok-clause-reads
returns-in-Ok-clause-reads g c =
    read_well g.P.Plant Failed c.args.plant.now c.keep_next.new.plant c.end_dump.result (has_read g.P.Plant Failed c.args.plant.now c.keep_next.new.plant _ c.in-Ok.ensures.reads (λ is. absurd (cc))) c.end_dump.ensures.never
