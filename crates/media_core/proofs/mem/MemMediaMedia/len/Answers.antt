use Rattle.std.proofs.Common.{◌≡◌, ◌<◌, length, vec_len, sym, ◌∙◌, ap, arith, rules}
use Rattle.media_core.proofs.Files.{file_bytes_at}
use Rattle.media_core.specs.Presence.{here_below}
use Rattle.media_core.proofs.mem.MemMediaMedia.len.Goals as goal

pub index-requires : goal.index-requires
index-requires c =
    let away : c.args.f < length c.args.self.now.away.items = here_below c.args.self.now.away.items c.args.f c.requires in
    omega (arith, c.args.self.now.same_count)

pub returns-clause-length : goal.returns-clause-length
returns-clause-length c =
    let away : c.args.f < length c.args.self.now.away.items = here_below c.args.self.now.away.items c.args.f c.requires in
    let below : c.args.f < length c.args.self.now.files.items = omega (arith, c.args.self.now.same_count) in
    let is = file_bytes_at c.args.self.now.files.items c.args.f c.index.result.now below c.index.ensures in
    let long : vec_len c.index.result.now ≡ length c.index.result.now.items = search rules in
    c.len.ensures ∙ long ∙ ap length (sym is ∙ c.args.self.now.files_kept c.args.f)
