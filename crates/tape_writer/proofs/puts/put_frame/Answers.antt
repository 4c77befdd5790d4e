use Rattle.std.proofs.Common.{ℕ, Option, List, sym, ◌∙◌, subst}
use Rattle.std.specs.Prelude.{IsSome}
use Rattle.plant_core.specs.Effects.{Effect}
use Rattle.plant_core.specs.Records.{NoBad, block_with}
use Rattle.plant_effects.specs.Runs.{state_of, Done, Leaves}
use Rattle.plant_effects.proofs.TapeLaws.{put_tape, no_bad_put, block_is_fine}
use Rattle.tape_writer.proofs.Joined.{frame_is}
use Rattle.tape_writer.proofs.puts.put_frame.Goals as goal

pub returns-in_err-put_block-clause-leaves : goal.returns-in_err-put_block-clause-leaves
returns-in_err-put_block-clause-leaves g c = λ k f at same. subst (λ (es : List Effect). Leaves g.P.Plant es c.args.plant.now c.put_block.new.plant) (frame_is k f c.args.block.now same) (c.put_block.ensures.leaves k at)

pub returns-clause-leaves : goal.returns-clause-leaves
returns-clause-leaves g c = λ k f at same. subst (λ (es : List Effect). Leaves g.P.Plant es c.args.plant.now c.put_block.new.plant) (frame_is k f c.args.block.now same) (c.put_block.ensures.leaves k at)

pub returns-clause-done : goal.returns-clause-done
returns-clause-done g c = λ k f at same. subst (λ (es : List Effect). Done g.P.Plant es c.args.plant.now c.put_block.new.plant) (frame_is k f c.args.block.now same) (c.in_ok-put_block.ensures.done k at)

pub returns-clause-counted : goal.returns-clause-counted
returns-clause-counted g c =
    let P = g.P.Plant in
    let e = c.in_ok-put_block.ensures in
    let old = c.args.plant.now in
    record {
      sound = e.sound;
      loaded = subst (λ (o : Option ℕ). IsSome o) (sym e.loaded) c.requires.counted.loaded;
      records = e.records c.requires.few;
      whole = λ told k at.
          let was = sym e.loaded ∙ at in
          subst NoBad (sym (put_tape k (block_with c.args.block.now) (state_of P old) (state_of P c.put_block.new.plant) ((e.done k was).state told)))
          (no_bad_put ((state_of P old).tape k) (block_with c.args.block.now) (block_is_fine c.args.block.now) (c.requires.counted.whole told k was));
    }
