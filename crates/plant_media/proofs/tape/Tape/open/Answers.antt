use Rattle.std.proofs.Common.{◌≡◌, ℕ, ◌+◌, Bool, true, false, IsTrue, length, sym, ◌∙◌, ap, subst, arith, refl}
use Rattle.crash_log.proofs.Fitting.{bytes_long, damaged_empty}
use Rattle.crash_log.proofs.Reading.{still_read}
use Rattle.crash_log.specs.CrashLog.{damaged_of, log_bytes}
use Rattle.crash_log.specs.Fit.{as_read}
use Rattle.plant_media.specs.Records.{count_of}
use Rattle.plant_media.specs.Cutting.{records_count, count_low}
use Rattle.plant_media.specs.Shown.{loaded_damaged, loaded_whole, loaded_is}
use Rattle.plant_media.specs.Taping.{still_same, tape_survives}
use Rattle.plant_media.specs.declared.tape.Tape.{Tape}
use Rattle.plant_media.proofs.tape.Tape.open.Goals as goal

pub returns-then-damaged-clause-fits : goal.returns-then-damaged-clause-fits
returns-then-damaged-clause-fits g c =
    let m = g.M.Media in
    let e = c.in_ok-log.ensures in
    let log = c.in_ok-log.log in
    let damaged : damaged_of log ≡ true = sym c.damaged.ensures.damaged ∙ c.if-damaged.true in
    let tape : Tape = record { slot = c.args.slot; log = log; records = 1; settled = 1 } in
    record {
      file = e.file;
      limit = e.limit;
      here = subst (λ (h : ℕ → Bool). IsTrue (h (c.args.slot + 1))) (sym e.present) c.requires.here;
      within = omega arith;
      room = omega (arith, damaged_empty log damaged);
      fits = e.fits;
      counted = λ told. sym (ap length (loaded_damaged tape (m.seen c.open.new.media) damaged));
      settled = λ told. omega (arith, e.whole, damaged_empty log damaged);
      damaged = λ told is. refl;
      still = λ told is. still_read m.seen (c.args.slot + 1) c.open.new.media;
    }

pub returns-then-damaged-clause-survives : goal.returns-then-damaged-clause-survives
returns-then-damaged-clause-survives g c = λ told still.
    let m = g.M.Media in
    let e = c.in_ok-log.ensures in
    tape_survives m.tells m.time m.seen m.present _ c.open.new.media (returns-then-damaged-clause-fits g c) (λ told. e.survives told still)
    (λ told is. still_same m.time m.seen (c.args.slot + 1) c.args.media.now c.open.new.media (e.crash told).now (e.seen told) still)

pub returns-then-damaged-clause-tape : goal.returns-then-damaged-clause-tape
returns-then-damaged-clause-tape g c = λ told. loaded_is _ (g.M.Media.seen c.args.media.now) (c.args.slot + 1) refl (c.in_ok-log.ensures.damaged told) (c.in_ok-log.ensures.bytes told)

pub returns-else-damaged-clause-fits : goal.returns-else-damaged-clause-fits
returns-else-damaged-clause-fits g c =
    let m = g.M.Media in
    let e = c.in_ok-log.ensures in
    let log = c.in_ok-log.log in
    let whole : damaged_of log ≡ false = sym c.damaged.ensures.damaged ∙ c.if-damaged.false in
    let tape : Tape = record { slot = c.args.slot; log = log; records = c.record_count-records.result; settled = c.record_count-records.result } in
    record {
      file = e.file;
      limit = e.limit;
      here = subst (λ (h : ℕ → Bool). IsTrue (h (c.args.slot + 1))) (sym e.present) c.requires.here;
      within = omega arith;
      room = omega (arith, c.record_count-records.ensures, c.len.ensures.length, count_low c.len.result);
      fits = e.fits;
      counted = λ told.
          let bytes = log_bytes log ((m.seen c.open.new.media).file (c.args.slot + 1)) in
          let long = bytes_long (as_read m.seen) m.seen log c.open.new.media (e.fits told) in
          c.record_count-records.ensures ∙ sym (ap length (loaded_whole tape (m.seen c.open.new.media) (c.args.slot + 1) bytes refl whole refl) ∙ records_count bytes
          ∙ ap count_of (ap (λ (n : ℕ). length (log_bytes log ((m.seen c.open.new.media).file n))) (sym e.file) ∙ long ∙ sym c.len.ensures.length));
      settled = λ told. omega (arith, e.whole, c.record_count-records.ensures, c.len.ensures.length, count_low c.len.result);
      damaged = λ told is. let never : true ≡ false = sym is ∙ whole in absurd (cc);
      still = λ told is. still_read m.seen (c.args.slot + 1) c.open.new.media;
    }

pub returns-else-damaged-clause-survives : goal.returns-else-damaged-clause-survives
returns-else-damaged-clause-survives g c = λ told still.
    let m = g.M.Media in
    let e = c.in_ok-log.ensures in
    tape_survives m.tells m.time m.seen m.present _ c.open.new.media (returns-else-damaged-clause-fits g c) (λ told. e.survives told still)
    (λ told is. still_same m.time m.seen (c.args.slot + 1) c.args.media.now c.open.new.media (e.crash told).now (e.seen told) still)

pub returns-else-damaged-clause-tape : goal.returns-else-damaged-clause-tape
returns-else-damaged-clause-tape g c = λ told. loaded_is _ (g.M.Media.seen c.args.media.now) (c.args.slot + 1) refl (c.in_ok-log.ensures.damaged told) (c.in_ok-log.ensures.bytes told)
