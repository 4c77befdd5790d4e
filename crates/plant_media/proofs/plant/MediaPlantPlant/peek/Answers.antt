use Rattle.std.proofs.Common.{refl, ◌+◌, ◌<◌, arith}
use Rattle.plant_media.specs.Slotting.{shown_tape}
use Rattle.plant_media.proofs.Calling.{read_alike, read_sound, read_suits, file_here}
use Rattle.plant_media.proofs.plant.MediaPlantPlant.peek.Goals as goal

pub look-requires-clause-slot : goal.look-requires-clause-slot
look-requires-clause-slot g c =
    let media = c.args.self.now.media in
    let below : c.args.slot < 65535 = omega (arith, g.met.M.Media.here_below media (c.args.slot + 1) (file_here (g.M.Media.present media) c.args.slot c.requires.here), g.met.M.Media.few_files media) in
    below

pub look-requires-clause-here : goal.look-requires-clause-here
look-requires-clause-here g c = file_here (g.M.Media.present c.args.self.now.media) c.args.slot c.requires.here

pub returns-clause-first : goal.returns-clause-first
returns-clause-first g c = λ told.
    let p = c.args.self.now in
    rw (shown_tape p.journal p.tape (g.M.Media.seen p.media) c.args.slot) (c.in_ok-shown.ensures.first told)

pub returns-clause-only : goal.returns-clause-only
returns-clause-only g c =
    let m = g.M.Media in
    let p = c.args.self.now in
    record { state = λ told. read_alike p.journal p.tape (m.seen p.media) (m.seen c.look.new.media) (c.look.ensures.seen told); loaded = refl; records = refl; log_size = refl }

pub returns-clause-sound : goal.returns-clause-sound
returns-clause-sound g c = let m = g.M.Media in read_sound m.tells m.seen m.present c.args.self.now c.requires.sound c.look.new.media c.in_ok-shown.ensures.present c.look.ensures.seen

pub returns-clause-survives : goal.returns-clause-survives
returns-clause-survives g c = λ told survives.
    let m = g.M.Media in
    read_suits m.tells m.time m.seen m.present c.args.self.now survives c.look.new.media c.in_ok-shown.ensures.present (λ told. (c.look.ensures.crash told).now) c.look.ensures.seen
