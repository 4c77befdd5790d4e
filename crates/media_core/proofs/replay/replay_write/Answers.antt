use Rattle.std.proofs.Common.{◌≡◌, ◌<◌, ℕ, min, length, sym, ◌∙◌, ap, arith, rules}
use Rattle.media_core.specs.Events.{file_bytes}
use Rattle.media_core.proofs.Files.{file_bytes_at, replayed}
use Rattle.media_core.proofs.replay.replay_write.Goals as goal

pub overwrite_in-requires-clause-within : goal.overwrite_in-requires-clause-within
overwrite_in-requires-clause-within c =
    let below : c.args.f < length c.make_room.new.files.items = search rules in
    let is = file_bytes_at c.make_room.new.files.items c.args.f c.index.result.now below c.index.ensures in
    let long : c.len.result ≡ length c.index.result.now.items = search rules in
    let place : c.min-place.result ≡ min c.args.at c.len.result = search rules in
    omega (arith, ap length is, long, place)

pub returns : goal.returns
returns c =
    let below : c.args.f < length c.make_room.new.files.items = search rules in
    let is = file_bytes_at c.make_room.new.files.items c.args.f c.index.result.now below c.index.ensures in
    let long : c.len.result ≡ length c.index.result.now.items = search rules in
    let place : c.min-place.result ≡ min c.args.at c.len.result = search rules in
    let same = c.in_ok-make_room.ensures.same in
    let at : c.min-place.result ≡ min c.args.at (length (file_bytes c.args.files.now.items c.args.f)) = place ∙ ap (λ (n : ℕ). min c.args.at n) (long ∙ ap length (sym is ∙ same c.args.f)) in
    replayed c.args.files.now.items c.make_room.new.files.items c.overwrite_in.new.files.items c.args.f c.args.at c.min-place.result c.args.bytes.now same at c.in_ok-overwrite_in.ensures.ok
