use Rattle.std.proofs.Common.{◌<◌, length, arith}
use Rattle.media_core.specs.Presence.{here_below}
use Rattle.media_core.proofs.mem.MemMediaMedia.read.Goals as goal

pub copy_part-requires-clause-here : goal.copy_part-requires-clause-here
copy_part-requires-clause-here c =
    let away : c.args.f < length c.args.self.now.away.items = here_below c.args.self.now.away.items c.args.f c.requires.here in
    omega (arith, c.args.self.now.same_count)
