use Rattle.std.proofs.Common.{rules}
use Rattle.std.specs.Cmp.Lexicographic.{nat_list_cmp_total}
use Rattle.cell_core.specs.Listings.{name_order}
use Rattle.cell_core.proofs.SearchLaws.{place_from_clause}
use Rattle.cell_core.proofs.listed.place_of.Goals as goal

pub returns : goal.returns
returns g c =
    place_from_clause name_order g.T.Listed.name_of nat_list_cmp_total c.args.name.now c.args.all.now c.binary_search_by.result c.requires c.binary_search_by.ensures.bound
    c.binary_search_by.ensures.position (λ a o f k. search rules)
