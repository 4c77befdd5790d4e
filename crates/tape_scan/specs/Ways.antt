-- The way of a dump as a value.
use Rattle.std.specs.Prelude.{ℕ, List}
use Rattle.tape_scan.specs.declared.assembling_chains.Chain.{Chain}

-- the way of a dump of this id through the parts at these places
abbrev pub chain_of : ℕ → List ℕ → Chain
chain_of id places = record { id = id; places = places }

-- the id of the dump that goes this way
abbrev pub chain_id : Chain → ℕ
chain_id c = c.id

-- the places of the dump's parts in the list of all told parts, from 0 on, in the order of the parts
abbrev pub chain_places : Chain → List ℕ
chain_places c = c.places
