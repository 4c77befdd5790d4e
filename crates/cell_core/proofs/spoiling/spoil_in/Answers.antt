use Rattle.std.proofs.Common.{◌≡◌, List, set, refl, sym, ◌∙◌, ap, subst, rules}
use Rattle.std.specs.Prelude.{Option, Some}
use Rattle.cell_core.specs.declared.stored.Stored.{Stored}
use Rattle.cell_core.specs.declared.stored.Image.{Image}
use Rattle.cell_core.specs.declared.stored.Image.TheVariants.{Bad}
use Rattle.cell_core.specs.Places.{FoundAt}
use Rattle.cell_core.specs.Listings.{name_order}
use Rattle.cell_core.specs.Cells.{name_of, stored_as}
use Rattle.cell_core.specs.Spoiling.{spoilt_where}
use Rattle.cell_core.proofs.CellLaws.{with_found, found_name, found_stored}
use Rattle.cell_core.proofs.CallLaws.{is_cell_changed}
use Rattle.cell_core.proofs.spoiling.spoil_in.Goals as goal

pub returns-in-Ok-clause-list : goal.returns-in-Ok-clause-list
returns-in-Ok-clause-list c =
    let cell : List Stored = c.args.cell.now.items in
    let t : Stored = c.index_mut.result.now in
    let found : FoundAt name_order name_of c.args.name.now cell c.in-Ok.i = subst (λ (l : List Stored). FoundAt name_order name_of c.args.name.now l c.in-Ok.i) c.deref.ensures.value c.in-Ok.ensures in
    let there : stored_as c.args.name.now cell ≡ Some t = found_stored c.args.name.now cell c.in-Ok.i t found c.index_mut.ensures.value in
    ap (λ (x : Image). set cell c.in-Ok.i (record t { image = x })) c.spoil_image.ensures
    ∙ (sym (with_found c.args.name.now cell c.in-Ok.i (record t { image = Bad c.args.at }) (found_name c.args.name.now cell c.in-Ok.i t found c.index_mut.ensures.value) found)
    ∙ sym (ap (λ (o : Option Stored). spoilt_where o c.args.at cell) there))

pub returns-in-Ok-clause-cell : goal.returns-in-Ok-clause-cell
returns-in-Ok-clause-cell c =
    let s : Stored = c.index_mut.result.now in
    let found : FoundAt name_order name_of c.args.name.now c.args.cell.now.items c.in-Ok.i = subst (λ (l : List Stored). FoundAt name_order name_of c.args.name.now l c.in-Ok.i) c.deref.ensures.value c.in-Ok.ensures in
    is_cell_changed c.args.cell.now.items c.args.name.now c.in-Ok.i s (record s { image = c.spoil_image.new.image }) c.requires found c.index_mut.ensures.value refl (search rules)
