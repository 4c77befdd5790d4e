use Rattle.std.proofs.Common.{◌<◌, length, ◌∙◌, rules}
use Rattle.media_core.proofs.Files.{file_bytes-set_same, file_bytes-set_other}
use Rattle.media_core.proofs.replay.replay_sync.Goals as goal

pub returns-clause-same : goal.returns-clause-same
returns-clause-same c =
    let below : c.args.f < length c.make_room.new.files.items = search rules in
    file_bytes-set_same c.make_room.new.files.items c.args.f c.in_ok-copy.copy below ∙ c.in_ok-copy.ensures

pub returns-clause-others : goal.returns-clause-others
returns-clause-others c = λ k other. file_bytes-set_other c.make_room.new.files.items c.args.f c.in_ok-copy.copy k other ∙ c.in_ok-make_room.ensures.same k
