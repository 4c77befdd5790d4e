use Rattle.std.proofs.Common.{◌≡◌, ◌+◌, length, refl, ◌∙◌, ap, arith}
use Rattle.archive_model.specs.Holding.{called_head}
use Rattle.restore_chain.proofs.VolumeLaws.{called_at, last_is, last_not}
use Rattle.restore_chain.proofs.play_volume.called_frag.Goals as goal

pub returns-in-Ok : goal.returns-in-Ok
returns-in-Ok c =
    let v = c.args.volume.now in
    let number : c.args.place + 1 ≡ 1 + c.args.place = omega arith in
    called_at c.args.id c.args.index 1 v v.frags c.args.place c.frag_at-frag.result _ c.frag_at-frag.ensures refl refl (c.in-Ok.ensures ∙ ap (λ n. called_head c.args.id c.args.index n v) number)
    (last_is (c.args.place + 1) (length v.frags) _ c.frag_count-count.ensures.count) (last_not (c.args.place + 1) (length v.frags) _ c.frag_count-count.ensures.count)
