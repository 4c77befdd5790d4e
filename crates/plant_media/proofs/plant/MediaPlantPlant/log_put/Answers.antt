use Rattle.std.proofs.Common.{ℕ, List, ◌++◌, refl, sym, ◌∙◌, ap}
use Rattle.crash_log.specs.Fit.{as_read}
use Rattle.plant_media.specs.State.{shown_of}
use Rattle.plant_media.specs.Slotting.{shown_kept}
use Rattle.plant_media.proofs.Calling.{put_crash, journal_sound, journal_suits, journal_alike, log_shown_is, only_faults}
use Rattle.plant_media.proofs.plant.MediaPlantPlant.log_put.Goals as goal

pub returns-in-Ok-clause-only : goal.returns-in-Ok-clause-only
returns-in-Ok-clause-only g c =
    let m = g.M.Media in
    let p = c.args.self.now in
    let e = c.in-Ok.ensures in
    record {
      state = λ told. journal_alike m.tells (as_read m.seen) m.seen m.present p c.requires.sound c.put.new.media c.put.new.self e.frame told
          ((shown_of m.seen p).log ++ c.args.piece.now) (shown_of m.seen p).log_settled
          (e.bytes told ∙ ap (λ (l : List ℕ). l ++ c.args.piece.now) (log_shown_is m.tells (as_read m.seen) m.seen m.present p c.requires.sound))
          (e.log.settled ∙ sym (shown_kept p.journal p.tape (m.seen p.media)));
      loaded = refl;
      records = refl;
      log_size = e.log.size;
    }

pub returns-in-Ok-clause-sound : goal.returns-in-Ok-clause-sound
returns-in-Ok-clause-sound g c =
    let m = g.M.Media in
    let e = c.in-Ok.ensures in
    journal_sound m.tells m.seen m.present c.args.self.now c.requires.sound c.put.new.media e.present c.put.new.self e.frame _ _ e.log e.fits

pub returns-in-Ok-clause-survives : goal.returns-in-Ok-clause-survives
returns-in-Ok-clause-survives g c = λ told survives.
    let m = g.M.Media in
    let e = c.in-Ok.ensures in
    journal_suits m.tells m.time m.seen m.present c.args.self.now survives c.put.new.media c.put.new.self e.frame e.present _ (λ told. (c.put.ensures.crash told (survives.journal.fits told)).now) _ _ e.log
    (λ told. c.in-Ok.ensures.survives told (survives.journal.fits told))

pub returns-in-Ok-clause-crash : goal.returns-in-Ok-clause-crash
returns-in-Ok-clause-crash g c = λ told survives. let m = g.M.Media in put_crash m.tells m.time m.seen m.present c.args.self.now survives c.put.new.media c.put.new.self told (c.put.ensures.crash told (survives.journal.fits told))

pub returns-in-Err-LogFull-clause-crash : goal.returns-in-Err-LogFull-clause-crash
returns-in-Err-LogFull-clause-crash g c = λ told survives. let m = g.M.Media in put_crash m.tells m.time m.seen m.present c.args.self.now survives c.put.new.media c.put.new.self told (c.put.ensures.crash told (survives.journal.fits told))

pub returns-in-Err-Failed-clause-crash : goal.returns-in-Err-Failed-clause-crash
returns-in-Err-Failed-clause-crash g c = λ told survives. let m = g.M.Media in put_crash m.tells m.time m.seen m.present c.args.self.now survives c.put.new.media c.put.new.self told (c.put.ensures.crash told (survives.journal.fits told))

pub returns-in-Ok-clause-stays : goal.returns-in-Ok-clause-stays
returns-in-Ok-clause-stays g c =
    let m = g.M.Media in
    let e = c.put.ensures in
    only_faults m.tells m.seen m.count m.present m.faults m.tell_faults c.args.self.now c.put.new.media c.put.new.self c.args.self.now.tape e.count e.present e.tell_faults (λ told. e.told told)

pub returns-in-Err-Failed-clause-stays : goal.returns-in-Err-Failed-clause-stays
returns-in-Err-Failed-clause-stays g c =
    let m = g.M.Media in
    let e = c.put.ensures in
    only_faults m.tells m.seen m.count m.present m.faults m.tell_faults c.args.self.now c.put.new.media c.put.new.self c.args.self.now.tape e.count e.present e.tell_faults (λ told. e.told told)
