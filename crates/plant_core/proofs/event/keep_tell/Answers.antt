use Rattle.std.proofs.Common.{◌≡◌, rules}
use Rattle.plant_core.proofs.event.keep_tell.Goals as goal

pub returns-clause-past : goal.returns-clause-past
returns-clause-past c =
    let same : c.in_ok-bytes.bytes.items ≡ c.args.piece.now = search rules in
    record { kept = c.in_ok-bytes.bytes; is = same; more = c.in_ok-keep.ensures.ok }
