use Rattle.tape_config.proofs.PortLaws.{none_of_both, ports_apart}
use Rattle.tape_config.proofs.laws.ports_of_a_configuration_are_apart.Goals as goal

pub returns-clause-apart : goal.returns-clause-apart
returns-clause-apart c = ports_apart

pub returns-clause-none : goal.returns-clause-none
returns-clause-none c = none_of_both
