use Rattle.std.proofs.Common.{ℕ, ◌++◌, [], ◌∷◌, Some, refl, sym, ◌∙◌, ap, subst, arith}
use Rattle.plant_core.specs.Records.{NoBad, mark}
use Rattle.crash_log.specs.Fit.{as_read}
use Rattle.plant_media.specs.Slots.{slot_in}
use Rattle.plant_media.specs.Loaded.{tape_in}
use Rattle.plant_media.specs.Laws.{counted}
use Rattle.plant_media.proofs.Lifting.{slot_is, lift_mark}
use Rattle.plant_media.proofs.Keeping.{mark_alike}
use Rattle.plant_media.proofs.Calling.{held_tape, loaded_tape, tape_sound, tape_suits, only_faults}
use Rattle.plant_media.proofs.plant.MediaPlantPlant.tape_mark.Goals as goal

pub mark-requires-clause-whole : goal.mark-requires-clause-whole
mark-requires-clause-whole g c = λ told. subst NoBad (loaded_tape g.M.Media.tells (as_read g.M.Media.seen) g.M.Media.seen g.M.Media.present c.args.self.now c.requires.sound c.in-Some.tape c.in-Some.is c.in-Some.tape.slot (ap slot_in c.in-Some.is)) (c.requires.whole told c.in-Some.tape.slot (ap slot_in c.in-Some.is))

pub returns-in-Ok-clause-only : goal.returns-in-Ok-clause-only
returns-in-Ok-clause-only g c = λ k at.
    let m = g.M.Media in
    let p = c.args.self.now in
    let e = c.in-Ok.ensures in
    record {
      state = λ told. mark_alike p.journal p.tape c.in-Some.tape c.mark.new.self c.in-Some.is e.slot (m.seen p.media) (m.seen c.mark.new.media) (e.frame told) k (slot_is m.seen p c.in-Some.tape c.in-Some.is k at) mark (e.tape told) (e.settled ∙ e.fits.counted told);
      loaded = ap (λ (n : ℕ). Some n) e.slot ∙ sym (ap slot_in c.in-Some.is);
      log_size = refl;
    }

pub returns-in-Ok-clause-sound : goal.returns-in-Ok-clause-sound
returns-in-Ok-clause-sound g c =
    let m = g.M.Media in
    let e = c.in-Ok.ensures in
    tape_sound m.tells m.seen m.present c.args.self.now c.requires.sound c.mark.new.media e.present c.in-Some.tape c.mark.new.self c.in-Some.is e.slot e.frame e.fits

pub returns-in-Ok-clause-survives : goal.returns-in-Ok-clause-survives
returns-in-Ok-clause-survives g c = λ told survives.
    let m = g.M.Media in
    let p = c.args.self.now in
    let e = c.in-Ok.ensures in
    let held = held_tape m.tells m.time m.seen m.present p survives c.in-Some.tape c.in-Some.is in
    tape_suits m.tells m.time m.seen m.present p survives c.mark.new.media c.in-Some.tape c.mark.new.self c.in-Some.is e.slot e.present _ (λ told. (c.mark.ensures.crash told held).now) e.frame (e.survives told)

pub returns-in-Ok-clause-crash : goal.returns-in-Ok-clause-crash
returns-in-Ok-clause-crash g c = λ told survives k at.
    let m = g.M.Media in
    let p = c.args.self.now in
    let held = held_tape m.tells m.time m.seen m.present p survives c.in-Some.tape c.in-Some.is in
    lift_mark m.tells m.time m.seen m.present p _ c.in-Some.tape c.in-Some.is held told k (slot_is m.seen p c.in-Some.tape c.in-Some.is k at) mark (tape_in c.in-Some.tape (m.seen p.media) ++ mark ∷ []) refl (c.mark.ensures.crash told held)

pub returns-in-Err-clause-crash : goal.returns-in-Err-clause-crash
returns-in-Err-clause-crash g c = λ told survives k at.
    let m = g.M.Media in
    let p = c.args.self.now in
    let held = held_tape m.tells m.time m.seen m.present p survives c.in-Some.tape c.in-Some.is in
    lift_mark m.tells m.time m.seen m.present p _ c.in-Some.tape c.in-Some.is held told k (slot_is m.seen p c.in-Some.tape c.in-Some.is k at) mark (tape_in c.in-Some.tape (m.seen p.media) ++ mark ∷ []) refl (c.mark.ensures.crash told held)

-- nothing is put on a full tape, which is none where contents are told
pub returns-then-is_full-clause-only : goal.returns-then-is_full-clause-only
returns-then-is_full-clause-only g c = λ k at.
    let m = g.M.Media in
    let p = c.args.self.now in
    record {
      state = λ told. absurd (omega (arith, c.requires.room told k at, counted m.tells (as_read m.seen) m.seen m.present p c.requires.sound told k at, c.is_full.ensures.0 c.if-is_full.true));
      loaded = refl;
      log_size = refl;
    }

pub returns-then-is_full-clause-crash : goal.returns-then-is_full-clause-crash
returns-then-is_full-clause-crash g c = λ told survives k at.
    let m = g.M.Media in
    let p = c.args.self.now in
    absurd (omega (arith, c.requires.room told k at, counted m.tells (as_read m.seen) m.seen m.present p c.requires.sound told k at, c.is_full.ensures.0 c.if-is_full.true))

pub returns-in-Ok-clause-stays : goal.returns-in-Ok-clause-stays
returns-in-Ok-clause-stays g c =
    let m = g.M.Media in
    let e = c.mark.ensures in
    only_faults m.tells m.seen m.count m.present m.faults m.tell_faults c.args.self.now c.mark.new.media c.args.self.now.journal (Some c.mark.new.self) e.count e.present e.tell_faults (λ told. e.told told)

pub returns-in-Err-clause-stays : goal.returns-in-Err-clause-stays
returns-in-Err-clause-stays g c =
    let m = g.M.Media in
    let e = c.mark.ensures in
    only_faults m.tells m.seen m.count m.present m.faults m.tell_faults c.args.self.now c.mark.new.media c.args.self.now.journal (Some c.mark.new.self) e.count e.present e.tell_faults (λ told. e.told told)
