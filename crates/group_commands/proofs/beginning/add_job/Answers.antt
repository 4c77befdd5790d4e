use Rattle.std.proofs.Common.{◌≡◌, subst, ◌∙◌}
use Rattle.tape_config.specs.declared.port.PortFields.{PortFields}
use Rattle.tape_config.specs.Ports.{AreApart}
use Rattle.group_commands.proofs.Adding.{apart_swap, some_port}
use Rattle.group_commands.proofs.beginning.add_job.Goals as goal

pub add-requires-clause-apart : goal.add-requires-clause-apart
add-requires-clause-apart c = λ n q at runs.
    let one = c.requires.others n q at in
    apart_swap c.in-Some.port q.job.port (c.in-Some.ensures.apart one.other q.job.port one.unlike one.at)

pub returns-in-Some-clause-apart : goal.returns-in-Some-clause-apart
returns-in-Some-clause-apart c = λ n q at.
    let one = c.requires.others n q at in
    let same : c.in-Some.port ≡ c.args.job.port = some_port c.in-Some.port c.args.job.port (c.in-Some.ensures.is ∙ c.requires.port) in
    subst (λ (p : PortFields). AreApart q.job.port p) same (apart_swap c.in-Some.port q.job.port (c.in-Some.ensures.apart one.other q.job.port one.unlike one.at))
