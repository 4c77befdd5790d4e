use Rattle.std.proofs.Common.{ℕ, List, sym, ◌∙◌, subst}
use Rattle.cell_core.specs.Places.{FoundAt, FreeAt}
use Rattle.cell_core.specs.Listings.{name_order}
use Rattle.dir_cell.specs.declared.known.Known.{Known}
use Rattle.dir_cell.specs.Catalogs.{name_of, IsCatalog}
use Rattle.dir_cell.proofs.CatalogLaws.{with_found, catalog_set, catalog_insert}
use Rattle.dir_cell.proofs.catalog.keep.Goals as goal

found : (c : goal.After-replace_at) → FoundAt name_order name_of c.args.known.name c.args.catalog.now.items c.in-Ok.at
found c =
    subst (λ (n : List ℕ). FoundAt name_order name_of n c.args.catalog.now.items c.in-Ok.at) c.bytes.ensures.value
    (subst (λ (l : List Known). FoundAt name_order name_of c.bytes.result.now l c.in-Ok.at) c.deref.ensures.value c.in-Ok.ensures)

free : (c : goal.After-insert_at) → FreeAt name_order name_of c.args.known.name c.args.catalog.now.items c.in-Err.at
free c =
    subst (λ (n : List ℕ). FreeAt name_order name_of n c.args.catalog.now.items c.in-Err.at) c.bytes.ensures.value
    (subst (λ (l : List Known). FreeAt name_order name_of c.bytes.result.now l c.in-Err.at) c.deref.ensures.value c.in-Err.ensures)

pub returns-in-Ok-clause-kept : goal.returns-in-Ok-clause-kept
returns-in-Ok-clause-kept c = c.replace_at.ensures ∙ sym (with_found c.args.catalog.now.items c.in-Ok.at c.args.known (found c))

pub returns-in-Ok-clause-catalog : goal.returns-in-Ok-clause-catalog
returns-in-Ok-clause-catalog c =
    subst IsCatalog (sym c.replace_at.ensures) (catalog_set c.args.catalog.now.items c.in-Ok.at c.args.known c.requires.catalog (found c))

pub returns-in-Err-clause-catalog : goal.returns-in-Err-clause-catalog
returns-in-Err-clause-catalog c =
    subst IsCatalog (sym c.insert_at.ensures) (catalog_insert c.args.catalog.now.items c.in-Err.at c.args.known c.requires.catalog (free c) c.requires.place)
