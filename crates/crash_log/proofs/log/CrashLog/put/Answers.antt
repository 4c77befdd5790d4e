use Rattle.crash_log.proofs.Changing.{fits_idle}
use Rattle.crash_log.proofs.log.CrashLog.put.Goals as goal

pub returns-then-used-self-clause-crash : goal.returns-then-used-self-clause-crash
returns-then-used-self-clause-crash g c = λ told survives.
    let m = g.M.Media in
    let log = c.args.self.now.state in
    let file = (m.seen c.args.media.now).file log.file in
    fits_idle m.time m.seen log c.args.media.now survives
