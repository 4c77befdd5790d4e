use Rattle.std.proofs.Common.{◌≡◌, rules}
use Rattle.plant_core.proofs.event.keep_log_replace.Goals as goal

pub returns-clause-past : goal.returns-clause-past
returns-clause-past c =
    let same : c.in_ok-kept.kept.items ≡ c.args.bytes.now = search rules in
    record { kept = c.in_ok-kept.kept; is = same; more = c.in_ok-keep.ensures.ok }
