use Rattle.std.proofs.Common.{length, refl}
use Rattle.crash_log.specs.Fit.{as_read}
use Rattle.crash_log.proofs.WritingApart.{writing, torn, wrote_ready, wrote_none, wrote_reads, wrote_bytes, wrote_long, wrote_before, wrote_settled}
use Rattle.crash_log.proofs.apart.write_apart.Goals as goal

pub returns-in_err-write-clause-crash : goal.returns-in_err-write-clause-crash
returns-in_err-write-clause-crash g c = λ told ready.
    let m = g.M.Media in
    writing m.time m.seen c.args.log.now c.args.media.now c.write.new.self c.args.at (length c.args.bytes.now) c.requires.low c.requires.apart ready (c.write.ensures.crash told)

pub returns-clause-crash : goal.returns-clause-crash
returns-clause-crash g c = λ told ready.
    let m = g.M.Media in
    writing m.time m.seen c.args.log.now c.args.media.now c.write.new.self c.args.at (length c.args.bytes.now) c.requires.low c.requires.apart ready (c.write.ensures.crash told)

pub returns-clause-ready : goal.returns-clause-ready
returns-clause-ready g c = λ told.
    let m = g.M.Media in
    wrote_reads m.seen c.args.log.now c.args.media.now c.write.new.self c.args.at (length c.args.bytes.now) c.requires.low c.requires.apart (c.requires.ready told) c.args.bytes.now refl (c.requires.within told) (c.in_ok-write.ensures.written told)

pub returns-clause-survives : goal.returns-clause-survives
returns-clause-survives g c = λ told ready.
    let m = g.M.Media in
    wrote_ready m.time m.seen c.args.log.now c.args.media.now c.write.new.self c.args.at (length c.args.bytes.now) c.requires.low c.requires.apart ready c.args.bytes.now refl (c.requires.within told) (c.in_ok-write.ensures.written told).here (c.write.ensures.crash told).now

pub returns-clause-quiet : goal.returns-clause-quiet
returns-clause-quiet g c = λ told still none.
    let m = g.M.Media in
    wrote_none m.time m.seen c.args.log.now.file c.args.media.now c.write.new.self c.args.at (length c.args.bytes.now) none
    (torn (as_read m.seen) m.seen c.args.log.now c.args.media.now c.write.new.self c.args.at (length c.args.bytes.now) c.requires.low c.requires.apart (c.requires.ready told) c.args.bytes.now refl (c.requires.within told) (c.in_ok-write.ensures.written told).here)
    (c.write.ensures.crash told).now still

pub returns-clause-bytes : goal.returns-clause-bytes
returns-clause-bytes g c = λ told.
    let m = g.M.Media in
    wrote_bytes (as_read m.seen) m.seen c.args.log.now c.args.media.now c.write.new.self c.args.at (length c.args.bytes.now) c.requires.low c.requires.apart (c.requires.ready told) c.args.bytes.now refl (c.requires.within told) (c.in_ok-write.ensures.written told).here

pub returns-clause-long : goal.returns-clause-long
returns-clause-long g c = λ told.
    let m = g.M.Media in
    wrote_long (as_read m.seen) m.seen c.args.log.now c.args.media.now c.write.new.self c.args.at (length c.args.bytes.now) c.requires.low c.requires.apart (c.requires.ready told) c.args.bytes.now refl (c.requires.within told) (c.in_ok-write.ensures.written told).here

pub returns-clause-before : goal.returns-clause-before
returns-clause-before g c = λ told.
    let m = g.M.Media in
    wrote_before (as_read m.seen) m.seen c.args.log.now c.args.media.now c.write.new.self c.args.at (length c.args.bytes.now) c.requires.low c.requires.apart (c.requires.ready told) c.args.bytes.now refl (c.requires.within told) (c.in_ok-write.ensures.written told).here

pub returns-clause-settled : goal.returns-clause-settled
returns-clause-settled g c = λ told.
    let m = g.M.Media in
    wrote_settled (as_read m.seen) m.seen c.args.log.now c.args.media.now c.write.new.self c.args.at (length c.args.bytes.now) c.requires.low c.requires.apart (c.requires.ready told) c.args.bytes.now refl (c.requires.within told) (c.in_ok-write.ensures.written told).here
