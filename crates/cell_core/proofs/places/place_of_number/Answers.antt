use Rattle.std.proofs.Common.{rules}
use Rattle.cell_core.specs.Vnodes.{number_order, number_of_vnode}
use Rattle.cell_core.proofs.SearchLaws.{place_from_clause}
use Rattle.cell_core.proofs.VnodeLaws.{number_order_total, are_ascending}
use Rattle.cell_core.proofs.places.place_of_number.Goals as goal

pub returns : goal.returns
returns c =
    place_from_clause number_order number_of_vnode number_order_total c.args.number c.args.vnodes.now c.binary_search_by.result (are_ascending c.args.vnodes.now c.requires.ordered)
    c.binary_search_by.ensures.bound c.binary_search_by.ensures.position (λ a o f k. search rules)
