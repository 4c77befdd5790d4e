use Rattle.std.proofs.Common.{refl, List, sym, subst}
use Rattle.plant_core.specs.Records.{Record, ShowsAt}
use Rattle.crash_log.specs.Fit.{as_read}
use Rattle.plant_media.proofs.Calling.{read_alike, read_sound, read_suits, loaded_tape}
use Rattle.plant_media.proofs.plant.MediaPlantPlant.tape_get.Goals as goal

pub returns-in-Ok-clause-found : goal.returns-in-Ok-clause-found
returns-in-Ok-clause-found g c = λ told k at.
    let m = g.M.Media in
    subst (λ (l : List Record). ShowsAt l c.args.i c.in-Ok.kind c.get.new.into) (sym (loaded_tape m.tells (as_read m.seen) m.seen m.present c.args.self.now c.requires.sound c.in-Some.tape c.in-Some.is k at)) (c.in-Ok.ensures.found told)

pub returns-in-Ok-clause-only : goal.returns-in-Ok-clause-only
returns-in-Ok-clause-only g c =
    let m = g.M.Media in
    let p = c.args.self.now in
    record { state = λ told. read_alike p.journal p.tape (m.seen p.media) (m.seen c.get.new.media) (c.get.ensures.seen told); loaded = refl; records = refl; log_size = refl }

pub returns-in-Ok-clause-sound : goal.returns-in-Ok-clause-sound
returns-in-Ok-clause-sound g c = let m = g.M.Media in read_sound m.tells m.seen m.present c.args.self.now c.requires.sound c.get.new.media c.in-Ok.ensures.present c.get.ensures.seen

pub returns-in-Ok-clause-survives : goal.returns-in-Ok-clause-survives
returns-in-Ok-clause-survives g c = λ told survives.
    let m = g.M.Media in
    read_suits m.tells m.time m.seen m.present c.args.self.now survives c.get.new.media c.in-Ok.ensures.present (λ told. (c.get.ensures.crash told).now) c.get.ensures.seen
