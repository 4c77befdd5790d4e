use Rattle.std.proofs.Common.{◌≡◌, max, take, map}
use Rattle.std.specs.Prelude.{fold}
use Rattle.cell_core.specs.Listings.{id_of}
use Rattle.cell_core.proofs.listed.greatest_id.Given as goal

abbrev pub invariant-loop-item : goal.invariant-loop-item
invariant-loop-item g l = l.greatest ≡ fold max 0 (map (λ s. id_of (g.T.Listed.standing_of s)) (take l.item-index l.all))
