use Rattle.std.proofs.Common.{length, refl}
use Rattle.crash_log.specs.Fit.{as_read}
use Rattle.plant_media.proofs.Calling.{turn_crash, journal_sound, journal_suits, journal_alike, only_faults}
use Rattle.plant_media.proofs.plant.MediaPlantPlant.log_replace.Goals as goal

pub returns-in-Ok-clause-only : goal.returns-in-Ok-clause-only
returns-in-Ok-clause-only g c =
    let m = g.M.Media in
    let p = c.args.self.now in
    let e = c.in-Ok.ensures in
    record {
      state = λ told. journal_alike m.tells (as_read m.seen) m.seen m.present p c.requires.sound c.replace.new.media c.replace.new.self e.frame told c.args.bytes.now (length c.args.bytes.now) (e.bytes told) e.log.settled;
      loaded = refl;
      records = refl;
      log_size = e.log.size;
    }

pub returns-in-Ok-clause-sound : goal.returns-in-Ok-clause-sound
returns-in-Ok-clause-sound g c =
    let m = g.M.Media in
    let e = c.in-Ok.ensures in
    journal_sound m.tells m.seen m.present c.args.self.now c.requires.sound c.replace.new.media e.present c.replace.new.self e.frame _ _ e.log e.fits

pub returns-in-Ok-clause-survives : goal.returns-in-Ok-clause-survives
returns-in-Ok-clause-survives g c = λ told survives.
    let m = g.M.Media in
    let e = c.in-Ok.ensures in
    journal_suits m.tells m.time m.seen m.present c.args.self.now survives c.replace.new.media c.replace.new.self e.frame e.present _ (λ told. (c.replace.ensures.crash told (survives.journal.fits told)).now) _ _ e.log
    c.in-Ok.ensures.survives

pub returns-in-Ok-clause-crash : goal.returns-in-Ok-clause-crash
returns-in-Ok-clause-crash g c = λ told survives. let m = g.M.Media in turn_crash m.tells m.time m.seen m.present c.args.self.now survives c.replace.new.media c.replace.new.self told c.args.bytes.now c.args.bytes.now refl (c.replace.ensures.crash told (survives.journal.fits told))

pub returns-in-Err-LogFull-clause-crash : goal.returns-in-Err-LogFull-clause-crash
returns-in-Err-LogFull-clause-crash g c = λ told survives. let m = g.M.Media in turn_crash m.tells m.time m.seen m.present c.args.self.now survives c.replace.new.media c.replace.new.self told c.args.bytes.now c.args.bytes.now refl (c.replace.ensures.crash told (survives.journal.fits told))

pub returns-in-Err-Failed-clause-crash : goal.returns-in-Err-Failed-clause-crash
returns-in-Err-Failed-clause-crash g c = λ told survives. let m = g.M.Media in turn_crash m.tells m.time m.seen m.present c.args.self.now survives c.replace.new.media c.replace.new.self told c.args.bytes.now c.args.bytes.now refl (c.replace.ensures.crash told (survives.journal.fits told))

pub returns-in-Ok-clause-stays : goal.returns-in-Ok-clause-stays
returns-in-Ok-clause-stays g c =
    let m = g.M.Media in
    let e = c.replace.ensures in
    only_faults m.tells m.seen m.count m.present m.faults m.tell_faults c.args.self.now c.replace.new.media c.replace.new.self c.args.self.now.tape e.count e.present e.tell_faults (λ told. e.told told)

pub returns-in-Err-Failed-clause-stays : goal.returns-in-Err-Failed-clause-stays
returns-in-Err-Failed-clause-stays g c =
    let m = g.M.Media in
    let e = c.replace.ensures in
    only_faults m.tells m.seen m.count m.present m.faults m.tell_faults c.args.self.now c.replace.new.media c.replace.new.self c.args.self.now.tape e.count e.present e.tell_faults (λ told. e.told told)
