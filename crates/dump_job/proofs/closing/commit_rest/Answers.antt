use Rattle.std.proofs.Common.{◌≡◌, ◌∙◌, ap}
use Rattle.std.specs.Prelude.{Err}
use Rattle.budb.specs.declared.fault.PreparedFault.{PreparedFault}
use Rattle.budb.specs.declared.fault.PreparedFault.TheVariants as prepared
use Rattle.budb.specs.Views.{prepared_of}
use Rattle.dump_job.proofs.Closings.{commits_full}
use Rattle.dump_job.proofs.closing.commit_rest.Goals as goal

pub returns-in-Err-LogFull-clause-plant : goal.returns-in-Err-LogFull-clause-plant
returns-in-Err-LogFull-clause-plant g c =
    let P = g.P.Plant in
    let e = c.commit_prepared.ensures in
    let n = c.in-Err-LogFull.length in
    let is : c.commit_prepared.result ≡ Err (prepared.LogFull n) = c.in-Err-LogFull.is ∙ ap (λ (f : PreparedFault). Err f) c.in-Err-LogFull.field-0-is in
    let long = e.full n is in
    commits_full P (prepared_of c.args.budb.now) n c.args.plant.now c.commit_prepared.new.plant c.requires.some
    (λ told survives image left. g.met.P.Plant.left c.args.plant.now image told c.requires.sound survives left) long.0 long.1 e.over_same e.stays
    (e.cause.stays (λ failed. cc))
