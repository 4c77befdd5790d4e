use Rattle.std.proofs.Common.{◌≡◌, List, set, refl, sym, ◌∙◌, ap, subst}
use Rattle.std.proofs.lemmas.Option.{same_Some}
use Rattle.cell_core.specs.declared.stored.Stored.{Stored}
use Rattle.cell_core.specs.Places.{FoundAt}
use Rattle.cell_core.specs.Listings.{name_order}
use Rattle.cell_core.specs.Cells.{name_of, with_stored}
use Rattle.cell_core.specs.Backups.{stored_with_date}
use Rattle.cell_core.proofs.CellLaws.{with_found, found_name, found_stored}
use Rattle.cell_core.proofs.CallLaws.{is_cell_changed}
use Rattle.cell_core.proofs.backups.stamp_in.Goals as goal

pub returns-in-Ok-clause-dated : goal.returns-in-Ok-clause-dated
returns-in-Ok-clause-dated c = λ s there.
    let cell : List Stored = c.args.cell.now.items in
    let t : Stored = c.index_mut.result.now in
    let found : FoundAt name_order name_of c.args.name.now cell c.in-Ok.at = subst (λ (l : List Stored). FoundAt name_order name_of c.args.name.now l c.in-Ok.at) c.deref.ensures.value c.in-Ok.ensures in
    let one : t ≡ s = same_Some t s (sym (found_stored c.args.name.now cell c.in-Ok.at t found c.index_mut.ensures.value) ∙ there) in
    let value : stored_with_date t c.args.now ≡ record t { image = c.stamp_image.new.image } = c.stamp_image.ensures.value t refl in
    ap (λ (x : Stored). set cell c.in-Ok.at x) (sym value)
    ∙ (sym (with_found c.args.name.now cell c.in-Ok.at (stored_with_date t c.args.now) (ap (λ (x : Stored). x.name) value ∙ found_name c.args.name.now cell c.in-Ok.at t found c.index_mut.ensures.value) found)
    ∙ ap (λ (x : Stored). with_stored (stored_with_date x c.args.now) cell) one)

pub returns-in-Ok-clause-cell : goal.returns-in-Ok-clause-cell
returns-in-Ok-clause-cell c =
    let s : Stored = c.index_mut.result.now in
    let found : FoundAt name_order name_of c.args.name.now c.args.cell.now.items c.in-Ok.at = subst (λ (l : List Stored). FoundAt name_order name_of c.args.name.now l c.in-Ok.at) c.deref.ensures.value c.in-Ok.ensures in
    is_cell_changed c.args.cell.now.items c.args.name.now c.in-Ok.at s (record s { image = c.stamp_image.new.image }) c.requires found c.index_mut.ensures.value refl (c.stamp_image.ensures.form s.name)
