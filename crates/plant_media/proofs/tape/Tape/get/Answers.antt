use Rattle.std.proofs.Common.{◌≡◌, ◌+◌, ◌*◌, ◌<◌, ◌≤◌, length, take, drop, sym, ◌∙◌, ap, arith}
use Rattle.media_core.specs.Media.{Image}
use Rattle.crash_log.specs.CrashLog.{file_of, length_of, log_bytes}
use Rattle.crash_log.specs.Fit.{as_read}
use Rattle.plant_media.proofs.Showing.{shows_damaged, shows_short, shows_block, shows_mark, shows_other}
use Rattle.plant_media.proofs.tape.Tape.get.Goals as goal
use Rattle.plant_media.proofs.tape.Tape.get.Goals.{then-damaged-via-then-damaged, then-damaged-via-else-damaged+then-len-at}

pub returns-then-damaged-clause-found : goal.returns-then-damaged-clause-found
returns-then-damaged-clause-found g c = λ told.
    let m = g.M.Media in
    let tape = c.args.self.now in
    elim c.then-damaged.branch [
      | then-damaged-via-then-damaged w ↦ shows_damaged m.tells (as_read m.seen) m.seen m.present tape c.args.media.now c.requires.fits told c.args.i c.requires.within c.args.into.now (sym c.damaged.ensures.damaged ∙ w.if-damaged.true)
      | then-damaged-via-else-damaged+then-len-at w ↦
          let short : length_of tape.log < 16385 * c.args.i + 16385 = omega (arith, w.if-len-at.true, w.len.ensures.length, c.from-at.ensures) in
          shows_short m.tells (as_read m.seen) m.seen m.present tape c.args.media.now c.requires.fits told c.args.i c.requires.within c.args.into.now (sym c.damaged.ensures.damaged ∙ w.if-damaged.false) short
    ]

pub returns-in_ok-read-in-0-clause-found : goal.returns-in_ok-read-in-0-clause-found
returns-in_ok-read-in-0-clause-found g c = λ told.
    let m = g.M.Media in
    let tape = c.args.self.now in
    let long : 16385 * c.args.i + 16385 ≤ length_of tape.log = omega (arith, c.if-len-at.false, c.len.ensures.length, c.from-at.ensures) in
    let all : length c.args.into.now ≡ 16384 = omega arith in
    shows_block m.tells (as_read m.seen) m.seen m.present tape c.args.media.now c.requires.fits told c.args.i c.requires.within c.read-in-0.new.into (sym c.damaged.ensures.damaged ∙ c.if-damaged.false)
    long _ (omega (arith, c.from-at.ensures)) c.read.new.into (c.in_ok-read.ensures.bytes told) c.in-0.is (length c.args.into.now) all
    (c.in_ok-read-in-0.ensures.bytes told ∙ ap (λ (s : Image). take (length c.args.into.now) (drop (16385 * c.from-at.result + 1) (log_bytes tape.log (s.file (file_of tape.log))))) (c.in_ok-read.ensures.seen told))

pub returns-in-1-clause-found : goal.returns-in-1-clause-found
returns-in-1-clause-found g c = λ told.
    let m = g.M.Media in
    let tape = c.args.self.now in
    let long : 16385 * c.args.i + 16385 ≤ length_of tape.log = omega (arith, c.if-len-at.false, c.len.ensures.length, c.from-at.ensures) in
    shows_mark m.tells (as_read m.seen) m.seen m.present tape c.args.media.now c.requires.fits told c.args.i c.requires.within c.args.into.now (sym c.damaged.ensures.damaged ∙ c.if-damaged.false)
    long (16385 * c.from-at.result) (omega (arith, c.from-at.ensures)) c.read.new.into (c.in_ok-read.ensures.bytes told) c.in-1.is

pub returns-in_default-clause-found : goal.returns-in_default-clause-found
returns-in_default-clause-found g c = λ told.
    let m = g.M.Media in
    let tape = c.args.self.now in
    let long : 16385 * c.args.i + 16385 ≤ length_of tape.log = omega (arith, c.if-len-at.false, c.len.ensures.length, c.from-at.ensures) in
    shows_other m.tells (as_read m.seen) m.seen m.present tape c.args.media.now c.requires.fits told c.args.i c.requires.within c.args.into.now (sym c.damaged.ensures.damaged ∙ c.if-damaged.false)
    long (16385 * c.from-at.result) (omega (arith, c.from-at.ensures)) c.read.new.into (c.in_ok-read.ensures.bytes told) (λ is. absurd (omega (arith, is))) (λ is. absurd (omega (arith, is)))
