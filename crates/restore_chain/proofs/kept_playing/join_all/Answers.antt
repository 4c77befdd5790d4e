use Rattle.std.proofs.Common.{◌<◌, ◌≤◌, inl, length, subst, arith}
use Rattle.archive_model.specs.Holding.{called_frags}
use Rattle.archive_model.specs.Plays.{pieces_of}
use Rattle.restore_chain.specs.declared.play_volume.Turn.{Turn}
use Rattle.restore_chain.specs.Playing.{TurnsAll}
use Rattle.restore_chain.proofs.VolumeLaws.{length_called, joined_all, gives_stream, gives_bad}
use Rattle.restore_chain.proofs.kept_playing.join_all.Goals as goal

pub returns-in-Bad : goal.returns-in-Bad
returns-in-Bad c = λ slots d read.
    let cs = called_frags c.args.id c.args.index 1 c.args.volume.now c.args.volume.now.frags in
    inl (subst (λ (t : Turn). TurnsAll slots d cs c.new-joined.result c.join_each.new.joined t) c.in-Bad.is (c.in-Ok.ensures.turns slots d cs read))

pub returns-in-Ok-finish : goal.returns-in-Ok-finish
returns-in-Ok-finish c = λ slots d read.
    let cs = called_frags c.args.id c.args.index 1 c.args.volume.now c.args.volume.now.frags in
    let stood = subst (λ (t : Turn). TurnsAll slots d cs c.new-joined.result c.join_each.new.joined t) c.in-Whole.is (c.in-Ok.ensures.turns slots d cs read) in
    let few : length cs ≤ 65535 = omega (arith, length_called c.args.id c.args.index 1 c.args.volume.now c.args.volume.now.frags, c.frag_count-count.ensures.few) in
    let joined = joined_all slots d cs c.in-Whole.end c.new-joined.result c.join_each.new.joined few c.new-joined.ensures.joined stood in
    gives_stream slots d cs c.in-Whole.end c.new-joined.result c.join_each.new.joined c.in-Ok-finish.increment stood (c.in-Ok-finish.ensures (pieces_of cs stood.fragments) joined)

pub returns-in-Err-finish : goal.returns-in-Err-finish
returns-in-Err-finish c = λ slots d read.
    let cs = called_frags c.args.id c.args.index 1 c.args.volume.now c.args.volume.now.frags in
    let stood = subst (λ (t : Turn). TurnsAll slots d cs c.new-joined.result c.join_each.new.joined t) c.in-Whole.is (c.in-Ok.ensures.turns slots d cs read) in
    let long = length_called c.args.id c.args.index 1 c.args.volume.now c.args.volume.now.frags in
    let few : length cs ≤ 65535 = omega (arith, long, c.frag_count-count.ensures.few) in
    let some : 0 < length cs = omega (arith, long, c.frag_count-count.ensures.some) in
    let joined = joined_all slots d cs c.in-Whole.end c.new-joined.result c.join_each.new.joined few c.new-joined.ensures.joined stood in
    gives_bad slots d cs c.in-Whole.end c.in-Err-finish.site c.new-joined.result c.join_each.new.joined stood some (c.in-Err-finish.ensures (pieces_of cs stood.fragments) joined)
