use Rattle.crash_log.specs.Fit.{as_read}
use Rattle.plant_media.specs.Taping.{put_whole}
use Rattle.plant_media.proofs.tape.Tape.settle.Goals as goal

pub commit-requires-clause-whole : goal.commit-requires-clause-whole
commit-requires-clause-whole g c = λ told. let m = g.M.Media in put_whole m.tells (as_read m.seen) m.seen m.present c.args.self.now c.args.media.now c.requires.fits told c.if-self.true
