use Rattle.std.proofs.Common.{◌≡◌, ℕ, ◌+◌, Bool, true, false, IsTrue, length, sym, ◌∙◌, ap, subst, arith}
use Rattle.crash_log.specs.CrashLog.{file_of, log_bytes}
use Rattle.crash_log.specs.Fit.{IsStill, as_read}
use Rattle.crash_log.proofs.Reading.{still_read}
use Rattle.plant_media.specs.Loaded.{tape_in}
use Rattle.plant_media.specs.declared.tape.Tape.{Tape}
use Rattle.plant_media.specs.Shown.{loaded_whole}
use Rattle.plant_media.specs.Taping.{at_file, or_turn, read_whole, tape_survives}
use Rattle.plant_media.specs.Stock.{TapeOr}
use Rattle.plant_media.proofs.tape.Tape.commit.Goals as goal

pub returns-in_err-commit-clause-crash : goal.returns-in_err-commit-clause-crash
returns-in_err-commit-clause-crash g c = λ told survives.
    let m = g.M.Media in
    let tape = c.args.self.now in
    let r = survives in
    let bytes = log_bytes tape.log ((m.seen c.args.media.now).file (file_of tape.log)) in
    let whole = c.requires.whole told in
    at_file m.time (file_of tape.log) (tape.slot + 1) (TapeOr (tape_in tape (m.seen c.args.media.now))) c.args.media.now c.commit.new.media r.file
    (or_turn m.time m.seen tape.log c.args.media.now (r.fits told) bytes (tape_in tape (m.seen c.args.media.now)) (sym (read_whole m.tells m.time m.seen m.present tape c.args.media.now r told whole))
    (λ damaged. let never : true ≡ false = sym damaged ∙ whole in absurd (cc)) c.commit.new.media (c.commit.ensures.crash told (r.fits told)))

pub returns-clause-crash : goal.returns-clause-crash
returns-clause-crash g c = λ told survives.
    let m = g.M.Media in
    let tape = c.args.self.now in
    let r = survives in
    let bytes = log_bytes tape.log ((m.seen c.args.media.now).file (file_of tape.log)) in
    let whole = c.requires.whole told in
    at_file m.time (file_of tape.log) (tape.slot + 1) (TapeOr (tape_in tape (m.seen c.args.media.now))) c.args.media.now c.commit.new.media r.file
    (or_turn m.time m.seen tape.log c.args.media.now (r.fits told) bytes (tape_in tape (m.seen c.args.media.now)) (sym (read_whole m.tells m.time m.seen m.present tape c.args.media.now r told whole))
    (λ damaged. let never : true ≡ false = sym damaged ∙ whole in absurd (cc)) c.commit.new.media (c.commit.ensures.crash told (r.fits told)))

pub returns-clause-tape : goal.returns-clause-tape
returns-clause-tape g c = λ told.
    let m = g.M.Media in
    let tape = c.args.self.now in
    let r = c.requires.fits in
    let e = c.in_ok-commit.ensures in
    loaded_whole _ (m.seen c.commit.new.media) (file_of tape.log) (log_bytes tape.log ((m.seen c.args.media.now).file (file_of tape.log))) r.file e.log.sound (e.bytes told)
    ∙ sym (read_whole m.tells (as_read m.seen) m.seen m.present tape c.args.media.now r told (c.requires.whole told))

pub returns-clause-fits : goal.returns-clause-fits
returns-clause-fits g c =
    let m = g.M.Media in
    let tape = c.args.self.now in
    let r = c.requires.fits in
    let e = c.in_ok-commit.ensures in
    let new : Tape = record { slot = tape.slot; log = c.commit.new.self; records = tape.records; settled = tape.records } in
    record {
      file = e.log.file ∙ r.file;
      limit = e.log.limit ∙ r.limit;
      here = subst (λ (h : ℕ → Bool). IsTrue (h (tape.slot + 1))) (sym e.present) r.here;
      within = omega arith;
      room = omega (arith, e.log.size, r.room);
      fits = e.fits;
      counted = λ told.
          let same : tape_in new (m.seen c.commit.new.media) ≡ tape_in tape (m.seen c.args.media.now) =
          loaded_whole new (m.seen c.commit.new.media) (file_of tape.log) (log_bytes tape.log ((m.seen c.args.media.now).file (file_of tape.log))) r.file e.log.sound (e.bytes told)
          ∙ sym (read_whole m.tells (as_read m.seen) m.seen m.present tape c.args.media.now r told (c.requires.whole told)) in
          r.counted told ∙ sym (ap length same);
      settled = λ told. omega (arith, e.log.settled, e.log.size, r.room);
      damaged = λ told is. let never : true ≡ false = sym is ∙ e.log.sound in absurd (cc);
      still = λ told is. still_read m.seen (tape.slot + 1) c.commit.new.media;
    }

pub returns-clause-survives : goal.returns-clause-survives
returns-clause-survives g c = λ told.
    let m = g.M.Media in
    let e = c.in_ok-commit.ensures in
    tape_survives m.tells m.time m.seen m.present _ c.commit.new.media (returns-clause-fits g c) e.survives
    (λ told is. subst (λ (f : ℕ). IsStill m.time m.seen f c.commit.new.media) c.requires.fits.file (e.still told))
