use Rattle.std.proofs.Common.{◌+◌, drop, ◌∙◌, arith}
use Rattle.std.proofs.lemmas.List.{take-take}
use Rattle.crash_log.proofs.log.CrashLog.commit.Goals as goal

pub returns-clause-durable : goal.returns-clause-durable
returns-clause-durable g c = λ told image left.
    let log = c.args.self.now.state in
    c.in_ok-cut.ensures.durable told image left ∙ take-take (log.size + log.more) (log.size + log.more) (drop log.start ((g.M.Media.seen c.args.media.now).file log.file)) (omega arith)
