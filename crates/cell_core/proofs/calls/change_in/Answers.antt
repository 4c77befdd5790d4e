use Rattle.std.proofs.Common.{List, refl, subst}
use Rattle.cell_core.specs.declared.stored.Stored.{Stored}
use Rattle.cell_core.specs.Places.{FoundAt}
use Rattle.cell_core.specs.Listings.{name_order}
use Rattle.cell_core.specs.Cells.{name_of}
use Rattle.cell_core.specs.Changing.{outcome_of}
use Rattle.cell_core.proofs.CallLaws.{settled_in_place, is_cell_changed}
use Rattle.cell_core.proofs.calls.change_in.Goals as goal

pub returns-in-Ok-clause-answer : goal.returns-in-Ok-clause-answer
returns-in-Ok-clause-answer c =
    let s : Stored = c.index_mut.result.now in
    let found : FoundAt name_order name_of c.args.name.now c.args.cell.now.items c.in-Ok.at = subst (λ (l : List Stored). FoundAt name_order name_of c.args.name.now l c.in-Ok.at) c.deref.ensures.value c.in-Ok.ensures in
    settled_in_place c.args.cell.now.items c.args.name.now c.in-Ok.at s (record s { image = c.change_image.new.image }) (outcome_of c.args.change c.args.now) c.change_image.result found c.index_mut.ensures.value refl
    (c.change_image.ensures.answer s refl)

pub returns-in-Ok-clause-cell : goal.returns-in-Ok-clause-cell
returns-in-Ok-clause-cell c =
    let s : Stored = c.index_mut.result.now in
    let found : FoundAt name_order name_of c.args.name.now c.args.cell.now.items c.in-Ok.at = subst (λ (l : List Stored). FoundAt name_order name_of c.args.name.now l c.in-Ok.at) c.deref.ensures.value c.in-Ok.ensures in
    is_cell_changed c.args.cell.now.items c.args.name.now c.in-Ok.at s (record s { image = c.change_image.new.image }) c.requires found c.index_mut.ensures.value refl (c.change_image.ensures.form s.name)
