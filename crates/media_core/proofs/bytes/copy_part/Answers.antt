use Rattle.std.proofs.Common.{◌≡◌, ◌<◌, ℕ, List, length, take, drop, vec_len, sym, ◌∙◌, ap, arith, rules}
use Rattle.media_core.proofs.Files.{file_bytes_at}
use Rattle.media_core.proofs.bytes.copy_part.Goals as goal

pub copy_front-requires : goal.copy_front-requires
copy_front-requires c =
    let below : c.args.f < length c.args.files.now.items = search rules in
    let is = file_bytes_at c.args.files.now.items c.args.f c.index.result.now below c.index.ensures in
    let long : vec_len c.index.result.now ≡ length c.index.result.now.items = search rules in
    omega (arith, ap length is, c.requires.within, long)

pub returns : goal.returns
returns c =
    let below : c.args.f < length c.args.files.now.items = search rules in
    let is = file_bytes_at c.args.files.now.items c.args.f c.index.result.now below c.index.ensures in
    c.copy_front.ensures ∙ ap (λ (l : List ℕ). take (length c.args.into.now) (drop c.args.at l)) (sym is)
