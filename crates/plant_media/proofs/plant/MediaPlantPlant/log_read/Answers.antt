use Rattle.std.proofs.Common.{refl, List, ℕ, length, take, drop, ◌∙◌, ap}
use Rattle.crash_log.specs.Fit.{as_read}
use Rattle.plant_media.proofs.Calling.{read_alike, read_sound, read_suits, log_shown_is}
use Rattle.plant_media.proofs.plant.MediaPlantPlant.log_read.Goals as goal

pub returns-in-Ok-clause-bytes : goal.returns-in-Ok-clause-bytes
returns-in-Ok-clause-bytes g c = λ told.
    let m = g.M.Media in
    c.in-Ok.ensures.bytes told ∙ ap (λ (l : List ℕ). take (length c.args.into.now) (drop c.args.at l)) (log_shown_is m.tells (as_read m.seen) m.seen m.present c.args.self.now c.requires.sound)

pub returns-in-Ok-clause-only : goal.returns-in-Ok-clause-only
returns-in-Ok-clause-only g c =
    let m = g.M.Media in
    let p = c.args.self.now in
    record { state = λ told. read_alike p.journal p.tape (m.seen p.media) (m.seen c.read.new.media) (c.read.ensures.seen told); loaded = refl; records = refl; log_size = refl }

pub returns-in-Ok-clause-sound : goal.returns-in-Ok-clause-sound
returns-in-Ok-clause-sound g c = let m = g.M.Media in read_sound m.tells m.seen m.present c.args.self.now c.requires.sound c.read.new.media c.in-Ok.ensures.present c.read.ensures.seen

pub returns-in-Ok-clause-survives : goal.returns-in-Ok-clause-survives
returns-in-Ok-clause-survives g c = λ told survives.
    let m = g.M.Media in
    read_suits m.tells m.time m.seen m.present c.args.self.now survives c.read.new.media c.in-Ok.ensures.present (λ told. (c.read.ensures.crash told).now) c.read.ensures.seen
