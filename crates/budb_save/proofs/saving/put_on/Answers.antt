use Rattle.std.proofs.Common.{◌++◌, subst}
use Rattle.tape_frames.specs.declared.label.LabelFields.{LabelFields}
use Rattle.plant_core.specs.Effects.{putting_away}
use Rattle.plant_effects.specs.Runs.{loaded_of, Done, Leaves}
use Rattle.plant_effects.proofs.Joining.{nothing_left}
use Rattle.tape_choice.specs.Choice.{permanent_in}
use Rattle.budb_save.specs.Writing.{putting_save}
use Rattle.budb_save.specs.Saving.{putting_on}
use Rattle.budb_save.proofs.SavingLaws.{saved_has}
use Rattle.budb_save.proofs.saving.put_on.Goals as goal

pub returns-in-Err-clause-leaves : goal.returns-in-Err-clause-leaves
returns-in-Err-clause-leaves g c =
    let P = g.P.Plant in
    let old = c.args.plant.now in
    nothing_left P (putting_on c.args.picked (loaded_of P old) c.args.bytes.now) old (λ told survives x left. g.met.P.Plant.left old x told c.requires.sound survives left)

pub returns-clause-leaves : goal.returns-clause-leaves
returns-clause-leaves g c =
    let P = g.P.Plant in
    let old = c.args.plant.now in
    let k = c.args.picked.slot in
    subst (λ (a : LabelFields). Leaves P (putting_away (loaded_of P old) k ++ putting_save k a c.args.bytes.now) old c.write_save.new.plant) c.in-Ok.ensures.label c.write_save.ensures.leaves

pub returns-in-Ok-write_save-clause-leaves : goal.returns-in-Ok-write_save-clause-leaves
returns-in-Ok-write_save-clause-leaves g c =
    let P = g.P.Plant in
    let old = c.args.plant.now in
    let k = c.args.picked.slot in
    subst (λ (a : LabelFields). Leaves P (putting_away (loaded_of P old) k ++ putting_save k a c.args.bytes.now) old c.write_save.new.plant) c.in-Ok.ensures.label c.write_save.ensures.leaves

pub returns-in-Ok-write_save-clause-done : goal.returns-in-Ok-write_save-clause-done
returns-in-Ok-write_save-clause-done g c =
    let P = g.P.Plant in
    let old = c.args.plant.now in
    let k = c.args.picked.slot in
    subst (λ (a : LabelFields). Done P (putting_away (loaded_of P old) k ++ putting_save k a c.args.bytes.now) old c.write_save.new.plant) c.in-Ok.ensures.label c.in-Ok-write_save.ensures.done

pub returns-in-Ok-write_save-clause-has : goal.returns-in-Ok-write_save-clause-has
returns-in-Ok-write_save-clause-has g c = λ told.
    let P = g.P.Plant in
    let old = c.args.plant.now in
    let new = c.write_save.new.plant in
    let k = c.args.picked.slot in
    let away = putting_away (loaded_of P old) k in
    let done : Done P (putting_on c.args.picked (loaded_of P old) c.args.bytes.now) old new
    = subst (λ (a : LabelFields). Done P (away ++ putting_save k a c.args.bytes.now) old new) c.in-Ok.ensures.label c.in-Ok-write_save.ensures.done in
    saved_has P away k (permanent_in c.args.picked.label) c.args.bytes.now old new told c.in-Ok.ensures.form c.requires.few done
