use Rattle.crash_log.specs.Fit.{as_read}
use Rattle.std.proofs.Common.{Some, refl, ◌∙◌}
use Rattle.plant_media.specs.Slotting.{shown_settled}
use Rattle.plant_media.proofs.Calling.{taken_state, taken_settled, taken_sound, taken_suits}
use Rattle.plant_media.proofs.plant.MediaPlant.take_up.Goals as goal

pub returns-in-Ok-clause-seen : goal.returns-in-Ok-clause-seen
returns-in-Ok-clause-seen g c = λ told.
    let m = g.M.Media in
    let p = c.args.self.now in
    let e = c.in-Ok.ensures in
    taken_state m.tells (as_read m.seen) m.seen m.present p c.requires.sound (λ told. refl) c.in-Ok.tape c.open.new.media c.args.slot c.requires.other e.slot c.requires.all told (e.tape told) (e.seen told)

pub returns-in-Ok-clause-all : goal.returns-in-Ok-clause-all
returns-in-Ok-clause-all g c = λ told.
    let m = g.M.Media in
    let p = c.args.self.now in
    let e = c.in-Ok.ensures in
    λ k. shown_settled p.journal (Some c.in-Ok.tape) (m.seen c.open.new.media) k ∙ taken_settled m.tells (as_read m.seen) m.seen m.present p c.requires.sound c.in-Ok.tape c.open.new.media told e.fits e.settled k

pub returns-in-Ok-clause-sound : goal.returns-in-Ok-clause-sound
returns-in-Ok-clause-sound g c =
    let m = g.M.Media in
    let e = c.in-Ok.ensures in
    taken_sound m.tells m.seen m.present c.args.self.now c.requires.sound c.open.new.media e.present e.seen c.in-Ok.tape _ c.requires.all e.fits

pub returns-in-Ok-clause-survives : goal.returns-in-Ok-clause-survives
returns-in-Ok-clause-survives g c = λ told survives.
    let m = g.M.Media in
    let e = c.in-Ok.ensures in
    taken_suits m.tells m.time m.seen m.present c.args.self.now survives c.open.new.media e.present (λ told. (e.crash told).now) e.seen c.in-Ok.tape _ c.requires.all
    (e.survives told (survives.others told c.args.slot c.requires.other))

pub returns-in-Ok-clause-told : goal.returns-in-Ok-clause-told
returns-in-Ok-clause-told g c = λ told. (returns-in-Ok-clause-seen g c told).told
