use Rattle.std.proofs.Common.{ℕ, Option, Some, sym, ◌∙◌, ap}
use Rattle.plant_media.specs.Slots.{slot_in}
use Rattle.plant_media.specs.declared.tape.Tape.{Tape}
use Rattle.plant_media.proofs.Lifting.{lift_settle, not_zero}
use Rattle.plant_media.proofs.Keeping.{tape_stays}
use Rattle.plant_media.proofs.Calling.{put_away_same, held_tape, tape_sound, tape_suits, same_told}
use Rattle.plant_media.proofs.plant.MediaPlant.put_away.Goals as goal

pub returns-in-Ok-clause-seen : goal.returns-in-Ok-clause-seen
returns-in-Ok-clause-seen g c = λ told.
    let m = g.M.Media in
    let p = c.args.self.now in
    let e = c.in-Ok.ensures in
    let now : Option Tape = Some c.settle.new.self in
    put_away_same p.journal now p.tape (m.seen p.media) (m.seen c.settle.new.media) ((e.frame told).others 0 (λ same. not_zero c.in-Some.tape.slot (sym same))) (e.frame told).told
    (tape_stays p.journal p.tape c.in-Some.tape c.settle.new.self c.in-Some.is e.slot (m.seen p.media) (m.seen c.settle.new.media) (e.frame told) (e.tape told))

pub returns-in-Ok-clause-sound : goal.returns-in-Ok-clause-sound
returns-in-Ok-clause-sound g c =
    let m = g.M.Media in
    let e = c.in-Ok.ensures in
    tape_sound m.tells m.seen m.present c.args.self.now c.requires.sound c.settle.new.media e.present c.in-Some.tape c.settle.new.self c.in-Some.is e.slot e.frame e.fits

pub returns-in-Ok-clause-survives : goal.returns-in-Ok-clause-survives
returns-in-Ok-clause-survives g c = λ told survives.
    let m = g.M.Media in
    let p = c.args.self.now in
    let e = c.in-Ok.ensures in
    let held = held_tape m.tells m.time m.seen m.present p survives c.in-Some.tape c.in-Some.is in
    tape_suits m.tells m.time m.seen m.present p survives c.settle.new.media c.in-Some.tape c.settle.new.self c.in-Some.is e.slot e.present _ (λ told. (c.settle.ensures.crash told held).now) e.frame (e.survives told held)

pub returns-in-Ok-clause-crash : goal.returns-in-Ok-clause-crash
returns-in-Ok-clause-crash g c = λ told survives.
    let m = g.M.Media in
    let p = c.args.self.now in
    let held = held_tape m.tells m.time m.seen m.present p survives c.in-Some.tape c.in-Some.is in
    lift_settle m.tells m.time m.seen m.present p _ c.in-Some.tape c.in-Some.is held told c.args.slot (λ same. c.requires.other (ap slot_in c.in-Some.is ∙ ap (λ (n : ℕ). Some n) same)) (c.settle.ensures.crash told held)

pub returns-in-Err-clause-crash : goal.returns-in-Err-clause-crash
returns-in-Err-clause-crash g c = λ told survives.
    let m = g.M.Media in
    let p = c.args.self.now in
    let held = held_tape m.tells m.time m.seen m.present p survives c.in-Some.tape c.in-Some.is in
    lift_settle m.tells m.time m.seen m.present p _ c.in-Some.tape c.in-Some.is held told c.args.slot (λ same. c.requires.other (ap slot_in c.in-Some.is ∙ ap (λ (n : ℕ). Some n) same)) (c.settle.ensures.crash told held)

pub returns-in-Ok-clause-told : goal.returns-in-Ok-clause-told
returns-in-Ok-clause-told g c = λ told. same_told g.M.Media.seen c.args.self.now (record { media = c.settle.new.media; journal = c.args.self.now.journal; tape = Some c.settle.new.self; loads = c.args.self.now.loads }) (c.settle.ensures.told told)

pub returns-in-Err-clause-told : goal.returns-in-Err-clause-told
returns-in-Err-clause-told g c = λ told. same_told g.M.Media.seen c.args.self.now (record { media = c.settle.new.media; journal = c.args.self.now.journal; tape = Some c.settle.new.self; loads = c.args.self.now.loads }) (c.settle.ensures.told told)
