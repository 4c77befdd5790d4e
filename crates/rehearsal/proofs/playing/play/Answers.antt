use Rattle.std.proofs.Common.{List, take, sym, ◌∙◌, ap, subst, arith}
use Rattle.std.proofs.lemmas.List.{take_all}
use Rattle.backup_words.specs.declared.command.Command.{Command}
use Rattle.rehearsal.specs.Playing.{Stage, given, played, FindsHeld, Reached}
use Rattle.rehearsal.proofs.PlayLaws.{played_more, all_find_at}
use Rattle.rehearsal.proofs.playing.play.Goals as goal

pub loop-batch-init : goal.loop-batch-init
unfolding played
loop-batch-init g c = record { sound = c.requires; played = λ told tells_cell s reached finds. reached }

pub loop-batch-preserved : goal.loop-batch-preserved
loop-batch-preserved g c =
    let P = g.P.Plant in
    let C = g.C.Cell in
    let so_far = c.loop-batch.invariant in
    let batches = c.args.batches.now in
    let i = c.loop-batch.batch-index in
    let batch = c.batch-item.result in
    record {
      sound = c.in_ok-give_all.ensures.sound;
      played = λ told tells_cell s reached finds.
          let here = all_find_at s batches i batch (omega (arith, c.loop-batch-test.true)) c.batch-item.is finds in
          let stage = played s (take i batches) in
          let same = c.as_slice.ensures in
          let next = c.in_ok-give_all.ensures.given told tells_cell stage (so_far.played told tells_cell s reached finds) (subst (λ (l : List Command). FindsHeld stage batch.now l) (sym same) here) in
          subst (λ (x : Stage). Reached P C x c.give_all.new.plant c.give_all.new.cell c.give_all.new.session c.give_all.new.told) (ap (given stage batch.now) same ∙ sym (played_more s batches i batch (omega (arith, c.loop-batch-test.true)) c.batch-item.is)) next;
    }

pub returns-clause-played : goal.returns-clause-played
returns-clause-played g c = λ told tells_cell s reached finds.
    let so_far = c.loop-batch.invariant in
    subst (λ (x : Stage). Reached g.P.Plant g.C.Cell x c.loop-batch.plant c.loop-batch.cell c.loop-batch.session c.loop-batch.told) (ap (played s) (take_all c.loop-batch.batch-index c.args.batches.now (omega (arith, c.loop-batch-test.false)))) (so_far.played told tells_cell s reached finds)
