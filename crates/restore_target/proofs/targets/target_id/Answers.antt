use Rattle.std.proofs.Common.{rules, ◌≡◌, ℕ, sym, ◌∙◌, subst}
use Rattle.std.specs.Prelude.{Result}
use Rattle.cell_core.specs.declared.fault.CellFault.{CellFault}
use Rattle.restore_target.specs.Targets.{target_id}
use Rattle.restore_target.specs.Answers.{Tells}
use Rattle.restore_target.proofs.TargetLaws.{target_is, told_is}
use Rattle.restore_target.proofs.targets.target_id.Goals as goal

pub returns-clause-id : goal.returns-clause-id
returns-clause-id g c = λ told.
    let C = g.C.Cell in
    let cell = C.list c.args.cell.now in
    let new = C.list c.look.new.cell in
    let e = c.in_ok-all.ensures in
    let due : c.id_over.result ≡ target_id cell c.args.name.now
    = search rules ∙ target_is cell c.args.name.now c.in_ok-all.all (e.seen told) (sym c.is_name.ensures.test ∙ c.if-not-is_name.false) in
    subst (λ (r : Result ℕ CellFault). Tells (target_id cell c.args.name.now) cell r new) (sym due) (told_is (target_id cell c.args.name.now) cell new (e.list told))
