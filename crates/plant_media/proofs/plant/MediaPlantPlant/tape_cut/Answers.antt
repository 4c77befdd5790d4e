use Rattle.std.proofs.Common.{ℕ, Some, refl, sym, ◌∙◌, ap, subst}
use Rattle.plant_core.specs.Records.{NoBad}
use Rattle.crash_log.specs.Fit.{as_read}
use Rattle.plant_media.specs.Slots.{slot_in}
use Rattle.plant_media.proofs.Lifting.{slot_is, lift_cut}
use Rattle.plant_media.proofs.Keeping.{cut_alike}
use Rattle.plant_media.proofs.Calling.{held_tape, loaded_tape, tape_sound, tape_suits, only_faults}
use Rattle.plant_media.proofs.plant.MediaPlantPlant.tape_cut.Goals as goal

pub cut-requires-clause-whole : goal.cut-requires-clause-whole
cut-requires-clause-whole g c = λ told some. subst NoBad (loaded_tape g.M.Media.tells (as_read g.M.Media.seen) g.M.Media.seen g.M.Media.present c.args.self.now c.requires.sound c.in-Some.tape c.in-Some.is c.in-Some.tape.slot (ap slot_in c.in-Some.is)) (c.requires.whole told some c.in-Some.tape.slot (ap slot_in c.in-Some.is))

pub returns-in-Ok-clause-only : goal.returns-in-Ok-clause-only
returns-in-Ok-clause-only g c = λ k at.
    let m = g.M.Media in
    let p = c.args.self.now in
    let e = c.in-Ok.ensures in
    record {
      state = λ told. cut_alike p.journal p.tape c.in-Some.tape c.cut.new.self c.in-Some.is e.slot (m.seen p.media) (m.seen c.cut.new.media) (e.frame told) k (slot_is m.seen p c.in-Some.tape c.in-Some.is k at) c.args.n (e.tape told) (e.settled ∙ sym e.records ∙ e.fits.counted told);
      loaded = ap (λ (n : ℕ). Some n) e.slot ∙ sym (ap slot_in c.in-Some.is);
      log_size = refl;
    }

pub returns-in-Ok-clause-sound : goal.returns-in-Ok-clause-sound
returns-in-Ok-clause-sound g c =
    let m = g.M.Media in
    let e = c.in-Ok.ensures in
    tape_sound m.tells m.seen m.present c.args.self.now c.requires.sound c.cut.new.media e.present c.in-Some.tape c.cut.new.self c.in-Some.is e.slot e.frame e.fits

pub returns-in-Ok-clause-survives : goal.returns-in-Ok-clause-survives
returns-in-Ok-clause-survives g c = λ told survives.
    let m = g.M.Media in
    let p = c.args.self.now in
    let e = c.in-Ok.ensures in
    let held = held_tape m.tells m.time m.seen m.present p survives c.in-Some.tape c.in-Some.is in
    tape_suits m.tells m.time m.seen m.present p survives c.cut.new.media c.in-Some.tape c.cut.new.self c.in-Some.is e.slot e.present _ (λ told. (c.cut.ensures.crash told held).now) e.frame (e.survives told)

pub returns-in-Ok-clause-crash : goal.returns-in-Ok-clause-crash
returns-in-Ok-clause-crash g c = λ told survives k at.
    let m = g.M.Media in
    let p = c.args.self.now in
    let held = held_tape m.tells m.time m.seen m.present p survives c.in-Some.tape c.in-Some.is in
    lift_cut m.tells m.time m.seen m.present p _ c.in-Some.tape c.in-Some.is held told k (slot_is m.seen p c.in-Some.tape c.in-Some.is k at) c.args.n (c.cut.ensures.crash told held)

pub returns-in-Err-clause-crash : goal.returns-in-Err-clause-crash
returns-in-Err-clause-crash g c = λ told survives k at.
    let m = g.M.Media in
    let p = c.args.self.now in
    let held = held_tape m.tells m.time m.seen m.present p survives c.in-Some.tape c.in-Some.is in
    lift_cut m.tells m.time m.seen m.present p _ c.in-Some.tape c.in-Some.is held told k (slot_is m.seen p c.in-Some.tape c.in-Some.is k at) c.args.n (c.cut.ensures.crash told held)

pub returns-in-Ok-clause-stays : goal.returns-in-Ok-clause-stays
returns-in-Ok-clause-stays g c =
    let m = g.M.Media in
    let e = c.cut.ensures in
    only_faults m.tells m.seen m.count m.present m.faults m.tell_faults c.args.self.now c.cut.new.media c.args.self.now.journal (Some c.cut.new.self) e.count e.present e.tell_faults (λ told. e.told told)

pub returns-in-Err-clause-stays : goal.returns-in-Err-clause-stays
returns-in-Err-clause-stays g c =
    let m = g.M.Media in
    let e = c.cut.ensures in
    only_faults m.tells m.seen m.count m.present m.faults m.tell_faults c.args.self.now c.cut.new.media c.args.self.now.journal (Some c.cut.new.self) e.count e.present e.tell_faults (λ told. e.told told)
