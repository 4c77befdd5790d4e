use Rattle.std.proofs.Common.{take, sym, ap, subst, arith}
use Rattle.std.proofs.lemmas.List.{take_all}
use Rattle.rehearsal.specs.Playing.{Stage, given, Reached}
use Rattle.rehearsal.proofs.PlayLaws.{given_more, finds_at}
use Rattle.rehearsal.proofs.playing.give_all.Goals as goal

pub loop-command-init : goal.loop-command-init
unfolding given
loop-command-init g c = record { sound = c.requires; given = λ told tells_cell s reached finds. reached }

pub loop-command-preserved : goal.loop-command-preserved
loop-command-preserved g c =
    let P = g.P.Plant in
    let C = g.C.Cell in
    let so_far = c.loop-command.invariant in
    let commands = c.args.commands.now in
    let i = c.loop-command.command-index in
    let command = c.command-item.result in
    record {
      sound = c.in_ok-give.ensures.sound;
      given = λ told tells_cell s reached finds.
          let here = finds_at s c.args.now commands i command (omega (arith, c.loop-command-test.true)) c.command-item.is finds in
          let next = c.in_ok-give.ensures.given told tells_cell (given s c.args.now (take i commands)) (so_far.given told tells_cell s reached finds) here in
          subst (λ (x : Stage). Reached P C x c.give.new.plant c.give.new.cell c.give.new.session c.give.new.told) (sym (given_more s c.args.now commands i command (omega (arith, c.loop-command-test.true)) c.command-item.is)) next;
    }

pub returns-clause-given : goal.returns-clause-given
returns-clause-given g c = λ told tells_cell s reached finds.
    let so_far = c.loop-command.invariant in
    subst (λ (x : Stage). Reached g.P.Plant g.C.Cell x c.loop-command.plant c.loop-command.cell c.loop-command.session c.loop-command.told) (ap (given s c.args.now) (take_all c.loop-command.command-index c.args.commands.now (omega (arith, c.loop-command-test.false)))) (so_far.given told tells_cell s reached finds)
