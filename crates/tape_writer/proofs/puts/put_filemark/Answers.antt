use Rattle.std.proofs.Common.{ℕ, Option, List, sym, ◌∙◌, subst}
use Rattle.std.specs.Prelude.{IsSome}
use Rattle.plant_core.specs.Effects.{Effect}
use Rattle.plant_core.specs.Records.{NoBad, mark}
use Rattle.plant_effects.specs.Runs.{state_of, Done, Leaves}
use Rattle.plant_effects.proofs.TapeLaws.{mark_tape, no_bad_put, mark_is_fine}
use Rattle.tape_writer.proofs.Joined.{filemark_is}
use Rattle.tape_writer.proofs.puts.put_filemark.Goals as goal

pub returns-in_err-put_mark-clause-leaves : goal.returns-in_err-put_mark-clause-leaves
returns-in_err-put_mark-clause-leaves g c = λ k at. subst (λ (es : List Effect). Leaves g.P.Plant es c.args.plant.now c.put_mark.new.plant) (filemark_is k) (c.put_mark.ensures.leaves k at)

pub returns-clause-leaves : goal.returns-clause-leaves
returns-clause-leaves g c = λ k at. subst (λ (es : List Effect). Leaves g.P.Plant es c.args.plant.now c.put_mark.new.plant) (filemark_is k) (c.put_mark.ensures.leaves k at)

pub returns-clause-done : goal.returns-clause-done
returns-clause-done g c = λ k at. subst (λ (es : List Effect). Done g.P.Plant es c.args.plant.now c.put_mark.new.plant) (filemark_is k) (c.in_ok-put_mark.ensures.done k at)

pub returns-clause-counted : goal.returns-clause-counted
returns-clause-counted g c =
    let P = g.P.Plant in
    let e = c.in_ok-put_mark.ensures in
    let old = c.args.plant.now in
    record {
      sound = e.sound;
      loaded = subst (λ (o : Option ℕ). IsSome o) (sym e.loaded) c.requires.counted.loaded;
      records = e.records c.requires.few;
      whole = λ told k at.
          let was = sym e.loaded ∙ at in
          subst NoBad (sym (mark_tape k mark (state_of P old) (state_of P c.put_mark.new.plant) ((e.done k was).state told)))
          (no_bad_put ((state_of P old).tape k) mark mark_is_fine (c.requires.counted.whole told k was));
    }
