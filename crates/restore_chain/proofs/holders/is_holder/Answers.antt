use Rattle.std.proofs.Common.{Ok, false}
use Rattle.restore_chain.specs.declared.fault.LookFault.TheVariants.{Failed}
use Rattle.tape_scan.proofs.Looking.{looks_none}
use Rattle.restore_chain.proofs.holders.is_holder.Goals as goal

pub returns-then-not-here-clause-looks : goal.returns-then-not-here-clause-looks
returns-then-not-here-clause-looks g c =
    looks_none g.P.Plant Failed c.args.plant.now (Ok false) c.requires.sound (λ told survives x left. g.met.P.Plant.left c.args.plant.now x told c.requires.sound survives left) (λ is. absurd (cc))
