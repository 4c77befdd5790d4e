use Rattle.std.proofs.Common.{◌≡◌, ℕ, ◌+◌, ◌*◌, min, Bool, true, false, IsTrue, length, take, sym, ◌∙◌, ap, subst, arith}
use Rattle.std.proofs.lemmas.List.{length-take}
use Rattle.crash_log.specs.CrashLog.{file_of, length_of, log_bytes}
use Rattle.crash_log.specs.Fit.{IsStill, as_read}
use Rattle.crash_log.proofs.Reading.{still_read}
use Rattle.plant_media.specs.Stock.{TapeOr}
use Rattle.plant_media.specs.Loaded.{tape_in}
use Rattle.plant_media.specs.declared.tape.Tape.{Tape}
use Rattle.plant_media.specs.Shown.{loaded_whole}
use Rattle.plant_media.specs.Taping.{at_file, or_turn, cut_tape, cut_none, tape_survives}
use Rattle.plant_media.proofs.tape.Tape.cut.Goals as goal

pub returns-in_err-cut-clause-crash : goal.returns-in_err-cut-clause-crash
returns-in_err-cut-clause-crash g c = λ told survives.
    let m = g.M.Media in
    let tape = c.args.self.now in
    let r = survives in
    let bytes = log_bytes tape.log ((m.seen c.args.media.now).file (file_of tape.log)) in
    let size : c.min-size.result ≡ min (16385 * c.args.n) (length_of tape.log) = omega (arith, c.min-size.ensures, c.from.ensures, c.len.ensures.length) in
    at_file m.time (file_of tape.log) (tape.slot + 1) (TapeOr (take c.args.n (tape_in tape (m.seen c.args.media.now)))) c.args.media.now c.cut.new.media r.file
    (or_turn m.time m.seen tape.log c.args.media.now (r.fits told) (take c.min-size.result bytes) (take c.args.n (tape_in tape (m.seen c.args.media.now)))
    (cut_tape m.tells m.time m.seen m.present tape c.args.media.now r told c.args.n c.min-size.result size (c.requires.whole told))
    (cut_none m.tells m.time m.seen m.present tape c.args.media.now r told c.args.n (c.requires.whole told)) c.cut.new.media (c.cut.ensures.crash told (r.fits told)))

pub returns-clause-crash : goal.returns-clause-crash
returns-clause-crash g c = λ told survives.
    let m = g.M.Media in
    let tape = c.args.self.now in
    let r = survives in
    let bytes = log_bytes tape.log ((m.seen c.args.media.now).file (file_of tape.log)) in
    let size : c.min-size.result ≡ min (16385 * c.args.n) (length_of tape.log) = omega (arith, c.min-size.ensures, c.from.ensures, c.len.ensures.length) in
    at_file m.time (file_of tape.log) (tape.slot + 1) (TapeOr (take c.args.n (tape_in tape (m.seen c.args.media.now)))) c.args.media.now c.cut.new.media r.file
    (or_turn m.time m.seen tape.log c.args.media.now (r.fits told) (take c.min-size.result bytes) (take c.args.n (tape_in tape (m.seen c.args.media.now)))
    (cut_tape m.tells m.time m.seen m.present tape c.args.media.now r told c.args.n c.min-size.result size (c.requires.whole told))
    (cut_none m.tells m.time m.seen m.present tape c.args.media.now r told c.args.n (c.requires.whole told)) c.cut.new.media (c.cut.ensures.crash told (r.fits told)))

pub returns-clause-tape : goal.returns-clause-tape
returns-clause-tape g c = λ told.
    let m = g.M.Media in
    let tape = c.args.self.now in
    let r = c.requires.fits in
    let e = c.in_ok-cut.ensures in
    let size : c.min-size.result ≡ min (16385 * c.args.n) (length_of tape.log) = omega (arith, c.min-size.ensures, c.from.ensures, c.len.ensures.length) in
    loaded_whole _ (m.seen c.cut.new.media) (file_of tape.log) (take c.min-size.result (log_bytes tape.log ((m.seen c.args.media.now).file (file_of tape.log)))) r.file e.log.sound (e.bytes told)
    ∙ cut_tape m.tells (as_read m.seen) m.seen m.present tape c.args.media.now r told c.args.n c.min-size.result size (c.requires.whole told)

pub returns-clause-fits : goal.returns-clause-fits
returns-clause-fits g c =
    let m = g.M.Media in
    let tape = c.args.self.now in
    let r = c.requires.fits in
    let e = c.in_ok-cut.ensures in
    let size : c.min-size.result ≡ min (16385 * c.args.n) (length_of tape.log) = omega (arith, c.min-size.ensures, c.from.ensures, c.len.ensures.length) in
    let new : Tape = record { slot = tape.slot; log = c.cut.new.self; records = c.args.n; settled = c.args.n } in
    record {
      file = e.log.file ∙ r.file;
      limit = e.log.limit ∙ r.limit;
      here = subst (λ (h : ℕ → Bool). IsTrue (h (tape.slot + 1))) (sym e.present) r.here;
      within = omega arith;
      room = omega (arith, e.log.size, size);
      fits = e.fits;
      counted = λ told.
          let same : tape_in new (m.seen c.cut.new.media) ≡ take c.args.n (tape_in tape (m.seen c.args.media.now)) =
          loaded_whole new (m.seen c.cut.new.media) (file_of tape.log) (take c.min-size.result (log_bytes tape.log ((m.seen c.args.media.now).file (file_of tape.log)))) r.file e.log.sound (e.bytes told)
          ∙ cut_tape m.tells (as_read m.seen) m.seen m.present tape c.args.media.now r told c.args.n c.min-size.result size (c.requires.whole told) in
          omega (arith, ap length same, length-take c.args.n (tape_in tape (m.seen c.args.media.now)), r.counted told, c.requires.within);
      settled = λ told. omega (arith, e.log.settled, e.log.size, size);
      damaged = λ told is. let never : true ≡ false = sym is ∙ e.log.sound in absurd (cc);
      still = λ told is. still_read m.seen (tape.slot + 1) c.cut.new.media;
    }

pub returns-clause-survives : goal.returns-clause-survives
returns-clause-survives g c = λ told.
    let m = g.M.Media in
    let e = c.in_ok-cut.ensures in
    tape_survives m.tells m.time m.seen m.present _ c.cut.new.media (returns-clause-fits g c) e.survives
    (λ told is. subst (λ (f : ℕ). IsStill m.time m.seen f c.cut.new.media) c.requires.fits.file (e.still told))
