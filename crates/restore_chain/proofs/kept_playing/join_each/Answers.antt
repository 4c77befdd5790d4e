use Rattle.std.proofs.Common.{◌≡◌, ◌<◌, ◌≤◌, Some, length, sym, ◌∙◌, subst, arith}
use Rattle.std.specs.Prelude.{slice_get}
use Rattle.restore_chain.specs.declared.keeping.Kept.{Kept}
use Rattle.restore_chain.specs.declared.play_volume.Turn.{Turn}
use Rattle.restore_chain.specs.declared.play_volume.Turn.TheVariants as turns
use Rattle.restore_chain.specs.Playing.{Turns}
use Rattle.restore_chain.proofs.VolumeLaws.{stood_none, stood_more, bad_turn, all_taken}
use Rattle.restore_chain.proofs.KeepLaws.{read_at, read_length, item_at}
use Rattle.restore_chain.proofs.kept_playing.join_each.Goals as goal

pub loop-kept-init : goal.loop-kept-init
loop-kept-init c = record { stood = λ slots d cs read. stood_none slots d _ c.args.joined.now; is_open = c.requires.is_open }

pub loop-kept-preserved : goal.loop-kept-preserved
loop-kept-preserved c = record {
  stood = λ slots d cs read.
      let i = c.loop-kept.kept-index in
      let k = c.kept-item.result in
      let at = read_at slots d cs c.args.all.now i k read (item_at c.args.all.now i k (omega (arith, c.loop-kept-test.true)) c.kept-item.is) in
      let turn = c.in-Ok.ensures.turns slots d at.0 at.2 in
      stood_more slots d cs i at.0 c.loop-kept.last c.in-Whole.site c.args.joined.now c.loop-kept.joined c.join_one.new.joined at.1 (c.loop-kept.invariant.stood slots d cs read)
      (subst (λ (t : Turn). Turns slots d at.0 c.loop-kept.joined c.join_one.new.joined t) c.in-Whole.is turn);
  is_open = c.in-Ok.ensures.is_open;
}

pub returns-in-Bad-clause-turns : goal.returns-in-Bad-clause-turns
returns-in-Bad-clause-turns c = λ slots d cs read.
    let i = c.loop-kept.kept-index in
    let k = c.kept-item.result in
    let at = read_at slots d cs c.args.all.now i k read (item_at c.args.all.now i k (omega (arith, c.loop-kept-test.true)) c.kept-item.is) in
    let turn = c.in-Ok.ensures.turns slots d at.0 at.2 in
    bad_turn slots d cs i at.0 c.loop-kept.last c.in-Bad.site c.args.joined.now c.loop-kept.joined c.join_one.new.joined at.1 (c.loop-kept.invariant.stood slots d cs read)
    (subst (λ (t : Turn). Turns slots d at.0 c.loop-kept.joined c.join_one.new.joined t) c.in-Bad.is turn)

pub returns-clause-turns : goal.returns-clause-turns
returns-clause-turns c = λ slots d cs read.
    let past : length cs ≤ c.loop-kept.kept-index = omega (arith, c.loop-kept-test.false, read_length slots d cs c.args.all.now read) in
    all_taken slots d cs c.loop-kept.kept-index c.loop-kept.last c.args.joined.now c.loop-kept.joined past (c.loop-kept.invariant.stood slots d cs read)
