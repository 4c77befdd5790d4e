use Rattle.std.proofs.Common.{Bool, true, false, inl, [], refl, ◌≡◌, sym, ◌∙◌, ap, subst, arith, IfOk}
use Rattle.plant_effects.proofs.Joining.{nothing_left}
use Rattle.backup_script.specs.Scripts.{between}
use Rattle.backup_script.specs.Running.{goes_behind}
use Rattle.backup_script.specs.Lines.{is_quit}
use Rattle.backup_script.proofs.ItemLaws.{item_goes, in_err}
use Rattle.backup_script.proofs.AnswerLaws.{not_true}
use Rattle.backup_script.proofs.serving.run_line.Goals as goal

pub returns-in-Ok-clause-goes : goal.returns-in-Ok-clause-goes
returns-in-Ok-clause-goes g c = subst (λ (b : Bool). IfOk c.run_item.result (λ passed. passed.goes ≡ b)) (ap goes_behind c.in-Ok.ensures.item ∙ item_goes c.args.line.now) c.run_item.ensures.goes

pub returns-in-Ok-clause-not_quit : goal.returns-in-Ok-clause-not_quit
returns-in-Ok-clause-not_quit g c =
    let line = c.args.line.now in
    in_err c.run_item.result (goes_behind c.in-Ok.item ≡ true) (is_quit line ≡ false)
    (λ on. not_true (is_quit line) (sym (ap goes_behind c.in-Ok.ensures.item ∙ item_goes line) ∙ on)) c.run_item.ensures.not_quit

pub returns-in-Err-clause-left : goal.returns-in-Err-clause-left
returns-in-Err-clause-left g c = λ told tells_cell tells_clock w fits held.
    let P = g.P.Plant in
    let old = c.args.plant.now in
    record {
      stage = between [] w (g.K.Clock.moments c.args.clock.now);
      on_line = inl refl;
      cell = fits.cell;
      clock = refl;
      leaves = nothing_left P [] old (λ told survives image left. g.met.P.Plant.left old image told c.requires survives left);
    }

pub returns-in-Err-clause-fewer : goal.returns-in-Err-clause-fewer
returns-in-Err-clause-fewer g c = λ tells_clock. omega arith
