use Rattle.std.proofs.Common.{◌≡◌, ℕ, ◌+◌, Bool, true, false, IsTrue, [], ◌∷◌, ◌++◌, length, sym, ◌∙◌, ap, subst, arith, length-append}
use Rattle.crash_log.specs.CrashLog.{file_of, log_bytes}
use Rattle.crash_log.specs.Fit.{as_read}
use Rattle.plant_media.specs.Records.{record_of}
use Rattle.plant_media.specs.Stock.{SameTape}
use Rattle.plant_media.specs.Loaded.{tape_in}
use Rattle.plant_media.specs.declared.tape.Tape.{Tape}
use Rattle.plant_media.specs.Taping.{at_file, same_put, tape_twice, not_damaged, whole_bytes, put_tape, tape_survives}
use Rattle.plant_media.proofs.tape.Tape.put_record.Goals as goal

pub returns-in_err-append-clause-crash : goal.returns-in_err-append-clause-crash
returns-in_err-append-clause-crash g c = λ told survives.
    let m = g.M.Media in
    let tape = c.args.self.now in
    let r = survives in
    let whole = not_damaged m.tells m.time m.seen m.present tape c.args.media.now r told (c.requires.whole told) in
    at_file m.time (file_of tape.log) (tape.slot + 1) SameTape c.args.media.now c.append.new.media r.file (same_put m.time m.seen tape.log c.args.media.now (r.fits told) whole c.append.new.media (c.append.ensures.crash told (r.fits told)))

pub returns-in_err-append-2-clause-crash : goal.returns-in_err-append-2-clause-crash
returns-in_err-append-2-clause-crash g c = λ told survives.
    let m = g.M.Media in
    let tape = c.args.self.now in
    let r = survives in
    let e = c.in_ok-append.ensures in
    let whole = not_damaged m.tells m.time m.seen m.present tape c.args.media.now r told (c.requires.whole told) in
    tape_twice m.time (tape.slot + 1) c.args.media.now c.append.new.media c.append-2.new.media
    (at_file m.time (file_of tape.log) (tape.slot + 1) SameTape c.args.media.now c.append.new.media r.file (same_put m.time m.seen tape.log c.args.media.now (r.fits told) whole c.append.new.media (c.append.ensures.crash told (r.fits told))))
    (at_file m.time (file_of c.append.new.log) (tape.slot + 1) SameTape c.append.new.media c.append-2.new.media (e.log.file ∙ r.file)
    (same_put m.time m.seen c.append.new.log c.append.new.media (e.survives told (r.fits told)) e.log.sound c.append-2.new.media (c.append-2.ensures.crash told (e.survives told (r.fits told)))))

pub returns-clause-crash : goal.returns-clause-crash
returns-clause-crash g c = λ told survives.
    let m = g.M.Media in
    let tape = c.args.self.now in
    let r = survives in
    let e = c.in_ok-append.ensures in
    let whole = not_damaged m.tells m.time m.seen m.present tape c.args.media.now r told (c.requires.whole told) in
    tape_twice m.time (tape.slot + 1) c.args.media.now c.append.new.media c.append-2.new.media
    (at_file m.time (file_of tape.log) (tape.slot + 1) SameTape c.args.media.now c.append.new.media r.file (same_put m.time m.seen tape.log c.args.media.now (r.fits told) whole c.append.new.media (c.append.ensures.crash told (r.fits told))))
    (at_file m.time (file_of c.append.new.log) (tape.slot + 1) SameTape c.append.new.media c.append-2.new.media (e.log.file ∙ r.file)
    (same_put m.time m.seen c.append.new.log c.append.new.media (e.survives told (r.fits told)) e.log.sound c.append-2.new.media (c.append-2.ensures.crash told (e.survives told (r.fits told)))))

pub returns-clause-tape : goal.returns-clause-tape
returns-clause-tape g c = λ told.
    let m = g.M.Media in
    let tape = c.args.self.now in
    let r = c.requires.fits in
    let e = c.in_ok-append.ensures in
    let f = c.in_ok-append-2.ensures in
    put_tape m.tells (as_read m.seen) m.seen m.present tape c.args.media.now r told (c.requires.whole told) _ (m.seen c.append-2.new.media) c.append.new.log ((m.seen c.append.new.media).file (file_of c.append.new.log)) c.args.first c.args.rest.now (omega arith)
    (e.log.file ∙ r.file) f.log.sound (f.bytes told) (ap (λ (n : ℕ). log_bytes c.append.new.log ((m.seen c.append.new.media).file n)) e.log.file ∙ e.bytes told)

pub returns-clause-fits : goal.returns-clause-fits
returns-clause-fits g c =
    let m = g.M.Media in
    let tape = c.args.self.now in
    let r = c.requires.fits in
    let e = c.in_ok-append.ensures in
    let f = c.in_ok-append-2.ensures in
    let new : Tape = record { slot = tape.slot; log = c.append-2.new.log; records = tape.records + 1; settled = tape.settled } in
    let all : length c.args.rest.now ≡ 16384 = omega arith in
    record {
      file = f.log.file ∙ e.log.file ∙ r.file;
      limit = f.log.limit ∙ e.log.limit ∙ r.limit;
      here = subst (λ (h : ℕ → Bool). IsTrue (h (tape.slot + 1))) (sym (f.present ∙ e.present)) r.here;
      within = omega (arith, r.within);
      room = omega (arith, f.log.size, e.log.size, r.room, all);
      fits = f.fits;
      counted = λ told.
          let same : tape_in new (m.seen c.append-2.new.media) ≡ tape_in tape (m.seen c.args.media.now) ++ record_of (c.args.first ∷ c.args.rest.now) ∷ [] =
          put_tape m.tells (as_read m.seen) m.seen m.present tape c.args.media.now r told (c.requires.whole told) new (m.seen c.append-2.new.media) c.append.new.log ((m.seen c.append.new.media).file (file_of c.append.new.log)) c.args.first c.args.rest.now all
          (e.log.file ∙ r.file) f.log.sound (f.bytes told) (ap (λ (n : ℕ). log_bytes c.append.new.log ((m.seen c.append.new.media).file n)) e.log.file ∙ e.bytes told) in
          omega (arith, r.counted told, ap length same, length-append (tape_in tape (m.seen c.args.media.now)) (record_of (c.args.first ∷ c.args.rest.now) ∷ []));
      settled = λ told. omega (arith, f.log.settled, f.log.size, e.log.settled, e.log.size, r.settled told, r.within, whole_bytes m.tells (as_read m.seen) m.seen m.present tape c.args.media.now r told (c.requires.whole told));
      damaged = λ told is. let never : true ≡ false = sym is ∙ f.log.sound in absurd (cc);
      still = λ told is. absurd (omega (arith, is, r.within));
    }

pub returns-clause-survives : goal.returns-clause-survives
returns-clause-survives g c = λ told survives.
    let m = g.M.Media in
    tape_survives m.tells m.time m.seen m.present _ c.append-2.new.media (returns-clause-fits g c)
    (λ told. c.in_ok-append-2.ensures.survives told (c.in_ok-append.ensures.survives told (survives.fits told)))
    (λ told is. absurd (omega (arith, is, c.requires.fits.within)))
