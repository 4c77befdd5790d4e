use Rattle.std.proofs.Common.{length, refl, ◌∙◌}
use Rattle.crash_log.specs.CrashLog.{file_of, log_bytes}
use Rattle.crash_log.specs.Fit.{as_read}
use Rattle.plant_media.specs.Laws.{log_counted}
use Rattle.plant_media.specs.State.{shown_of}
use Rattle.plant_media.proofs.Calling.{turn_crash, journal_sound, journal_suits, journal_alike, log_shown_is, only_faults}
use Rattle.plant_media.proofs.plant.MediaPlantPlant.log_commit.Goals as goal

pub returns-in-Ok-clause-only : goal.returns-in-Ok-clause-only
returns-in-Ok-clause-only g c =
    let m = g.M.Media in
    let p = c.args.self.now in
    let e = c.in-Ok.ensures in
    record {
      state = λ told. journal_alike m.tells (as_read m.seen) m.seen m.present p c.requires.sound c.commit.new.media c.commit.new.self e.frame told
          (shown_of m.seen p).log (length (shown_of m.seen p).log)
          (e.bytes told ∙ log_shown_is m.tells (as_read m.seen) m.seen m.present p c.requires.sound)
          (e.log.settled ∙ log_counted m.tells (as_read m.seen) m.seen m.present p c.requires.sound told);
      loaded = refl;
      records = refl;
      log_size = e.log.size;
    }

pub returns-in-Ok-clause-sound : goal.returns-in-Ok-clause-sound
returns-in-Ok-clause-sound g c =
    let m = g.M.Media in
    let e = c.in-Ok.ensures in
    journal_sound m.tells m.seen m.present c.args.self.now c.requires.sound c.commit.new.media e.present c.commit.new.self e.frame _ _ e.log e.fits

pub returns-in-Ok-clause-survives : goal.returns-in-Ok-clause-survives
returns-in-Ok-clause-survives g c = λ told survives.
    let m = g.M.Media in
    let e = c.in-Ok.ensures in
    journal_suits m.tells m.time m.seen m.present c.args.self.now survives c.commit.new.media c.commit.new.self e.frame e.present _ (λ told. (c.commit.ensures.crash told (survives.journal.fits told)).now) _ _ e.log
    c.in-Ok.ensures.survives

pub returns-in-Ok-clause-crash : goal.returns-in-Ok-clause-crash
returns-in-Ok-clause-crash g c = λ told survives.
    let m = g.M.Media in
    let p = c.args.self.now in
    turn_crash m.tells m.time m.seen m.present p survives c.commit.new.media c.commit.new.self told (log_bytes p.journal ((m.seen p.media).file (file_of p.journal))) (shown_of m.seen p).log
    (log_shown_is m.tells m.time m.seen m.present p survives) (c.commit.ensures.crash told (survives.journal.fits told))

pub returns-in-Err-clause-crash : goal.returns-in-Err-clause-crash
returns-in-Err-clause-crash g c = λ told survives.
    let m = g.M.Media in
    let p = c.args.self.now in
    turn_crash m.tells m.time m.seen m.present p survives c.commit.new.media c.commit.new.self told (log_bytes p.journal ((m.seen p.media).file (file_of p.journal))) (shown_of m.seen p).log
    (log_shown_is m.tells m.time m.seen m.present p survives) (c.commit.ensures.crash told (survives.journal.fits told))

pub returns-in-Ok-clause-stays : goal.returns-in-Ok-clause-stays
returns-in-Ok-clause-stays g c =
    let m = g.M.Media in
    let e = c.commit.ensures in
    only_faults m.tells m.seen m.count m.present m.faults m.tell_faults c.args.self.now c.commit.new.media c.commit.new.self c.args.self.now.tape e.count e.present e.tell_faults (λ told. e.told told)

pub returns-in-Err-clause-stays : goal.returns-in-Err-clause-stays
returns-in-Err-clause-stays g c =
    let m = g.M.Media in
    let e = c.commit.ensures in
    only_faults m.tells m.seen m.count m.present m.faults m.tell_faults c.args.self.now c.commit.new.media c.commit.new.self c.args.self.now.tape e.count e.present e.tell_faults (λ told. e.told told)
