use Rattle.std.proofs.Common.{◌<◌, ◌≤◌, inl, length, subst, arith}
use Rattle.archive_model.specs.Holding.{called_frags}
use Rattle.archive_model.specs.Plays.{pieces_of}
use Rattle.restore_chain.specs.declared.fault.LookFault.TheVariants.{Failed}
use Rattle.restore_chain.specs.declared.play_volume.Turn.{Turn}
use Rattle.restore_chain.specs.Playing.{TurnsAll}
use Rattle.restore_chain.proofs.LoadLaws.{looks_err, looks_ok}
use Rattle.restore_chain.proofs.VolumeLaws.{length_called, joined_all, gives_stream, gives_bad}
use Rattle.restore_chain.proofs.play_volume.play_volume.Goals as goal

pub returns-in-Err-clause-looks : goal.returns-in-Err-clause-looks
returns-in-Err-clause-looks g c = looks_err g.P.Plant Failed c.in-Err.fault c.args.plant.now c.play_frags.new.plant c.in-Err.ensures.looks

pub returns-in-Bad-clause-looks : goal.returns-in-Bad-clause-looks
returns-in-Bad-clause-looks g c = looks_ok g.P.Plant Failed c.in-Ok.turn _ c.args.plant.now c.play_frags.new.plant c.in-Ok.ensures.looks

pub returns-in-Ok-finish-clause-looks : goal.returns-in-Ok-finish-clause-looks
returns-in-Ok-finish-clause-looks g c = looks_ok g.P.Plant Failed c.in-Ok.turn _ c.args.plant.now c.play_frags.new.plant c.in-Ok.ensures.looks

pub returns-in-Err-finish-clause-looks : goal.returns-in-Err-finish-clause-looks
returns-in-Err-finish-clause-looks g c = looks_ok g.P.Plant Failed c.in-Ok.turn _ c.args.plant.now c.play_frags.new.plant c.in-Ok.ensures.looks

pub returns-in-Bad-clause-gives : goal.returns-in-Bad-clause-gives
returns-in-Bad-clause-gives g c = λ told slots d has held.
    let cs = called_frags c.args.id c.args.index 1 c.args.volume.now c.args.volume.now.frags in
    inl (subst (λ (t : Turn). TurnsAll slots d cs c.new-joined.result c.play_frags.new.joined t) c.in-Bad.is (c.in-Ok.ensures.turns told slots d has held))

pub returns-in-Ok-finish-clause-gives : goal.returns-in-Ok-finish-clause-gives
returns-in-Ok-finish-clause-gives g c = λ told slots d has held.
    let cs = called_frags c.args.id c.args.index 1 c.args.volume.now c.args.volume.now.frags in
    let stood = subst (λ (t : Turn). TurnsAll slots d cs c.new-joined.result c.play_frags.new.joined t) c.in-Whole.is (c.in-Ok.ensures.turns told slots d has held) in
    let few : length cs ≤ 65535 = omega (arith, length_called c.args.id c.args.index 1 c.args.volume.now c.args.volume.now.frags, c.frag_count-count.ensures.few) in
    let joined = joined_all slots d cs c.in-Whole.end c.new-joined.result c.play_frags.new.joined few c.new-joined.ensures.joined stood in
    gives_stream slots d cs c.in-Whole.end c.new-joined.result c.play_frags.new.joined c.in-Ok-finish.increment stood (c.in-Ok-finish.ensures (pieces_of cs stood.fragments) joined)

pub returns-in-Err-finish-clause-gives : goal.returns-in-Err-finish-clause-gives
returns-in-Err-finish-clause-gives g c = λ told slots d has held.
    let cs = called_frags c.args.id c.args.index 1 c.args.volume.now c.args.volume.now.frags in
    let stood = subst (λ (t : Turn). TurnsAll slots d cs c.new-joined.result c.play_frags.new.joined t) c.in-Whole.is (c.in-Ok.ensures.turns told slots d has held) in
    let long = length_called c.args.id c.args.index 1 c.args.volume.now c.args.volume.now.frags in
    let few : length cs ≤ 65535 = omega (arith, long, c.frag_count-count.ensures.few) in
    let some : 0 < length cs = omega (arith, long, c.frag_count-count.ensures.some) in
    let joined = joined_all slots d cs c.in-Whole.end c.new-joined.result c.play_frags.new.joined few c.new-joined.ensures.joined stood in
    gives_bad slots d cs c.in-Whole.end c.in-Err-finish.site c.new-joined.result c.play_frags.new.joined stood some (c.in-Err-finish.ensures (pieces_of cs stood.fragments) joined)
