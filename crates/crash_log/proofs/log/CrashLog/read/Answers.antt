use Rattle.std.proofs.Common.{◌+◌, length, ◌∙◌, ap}
use Rattle.media_core.specs.Media.{Image, Same}
use Rattle.crash_log.proofs.Changing.{span_in, fits_kept}
use Rattle.crash_log.proofs.log.CrashLog.read.Goals as goal

pub returns-clause-bytes : goal.returns-clause-bytes
returns-clause-bytes g c = λ told.
    let m = g.M.Media in
    let log = c.args.self.now.state in
    let file = (m.seen c.args.media.now).file log.file in
    (c.in_ok-read.ensures.bytes told) ∙ span_in log.start (log.size + log.more) c.args.at (length c.args.into.now) file c.requires.within

pub returns-clause-survives : goal.returns-clause-survives
returns-clause-survives g c = λ told survives.
    let m = g.M.Media in
    let log = c.args.self.now.state in
    fits_kept m.time m.seen log c.args.media.now c.read.new.self Same survives (c.read.ensures.crash told).now (λ a b same. ap (λ (i : Image). i.file log.file) same) (ap (λ (i : Image). i.file log.file) (c.read.ensures.seen told))

pub returns-in_err-read-clause-survives : goal.returns-in_err-read-clause-survives
returns-in_err-read-clause-survives g c = λ told survives.
    let m = g.M.Media in
    let log = c.args.self.now.state in
    fits_kept m.time m.seen log c.args.media.now c.read.new.self Same survives (c.read.ensures.crash told).now (λ a b same. ap (λ (i : Image). i.file log.file) same) (ap (λ (i : Image). i.file log.file) (c.read.ensures.seen told))
