-- A table of links that spells chains: each link has the places before and behind its own.
use Rattle.std.specs.Prelude.{◌≡◌, ℕ, zero, suc, ◌<◌, ◌≤◌, List, [], ◌∷◌, length, map, Option, Some, None, slice_index_or, slice_set}
use Rattle.std.specs.List.{AllByRecursion}
use Rattle.budb_links.specs.declared.arena.Link.{Link}
use Rattle.budb_links.specs.declared.arena.Ends.{Ends}
use Rattle.budb_links.specs.Stands.{Stand, first_place, last_place, Distinct}

-- what stands where nothing was linked yet
abbrev pub no_link : Link
no_link = record { head = 0; id = 0; before = None; after = None }

-- the ends of a chain without a member: it has no first place and no last one
abbrev pub no_ends : Ends
no_ends = record { first = None; last = None }

-- the link of a place, counted from 0; `no_link` where the table isn't so long
abbrev pub link_at : List Link → ℕ → Link
link_at links place = slice_index_or links place no_link

-- the ends of the chain of a number, counted from 0; `no_ends` where the table isn't so long
abbrev pub ends_at : List Ends → ℕ → Ends
ends_at ends head = slice_index_or ends head no_ends

-- the link of a member of a chain between two places
abbrev pub link_of : ℕ → Stand → Option ℕ → Option ℕ → Link
link_of head s before after = record { head = head; id = s.id; before = before; after = after }

-- the member of a chain that is a place, with the id of the dump whose record or fragment stands there
abbrev pub stand_at : ℕ → ℕ → Stand
stand_at place id = record { place = place; id = id }

-- the table has these members of a chain as neighbours, behind one place and before another
abbrev pub Linked : List Link → ℕ → Option ℕ → List Stand → Option ℕ → Type 0
Linked links head before [] after = Unit {0}
Linked links head before (s ∷ ss) after =
    (s.place < length links) × (link_at links s.place ≡ link_of head s before (first_place ss after))
    × Linked links head (Some s.place) ss after

-- the table spells this chain between these ends
pub record IsChain (links : List Link) (head : ℕ) (ends : Ends) (ss : List Stand) : Type 0 where
  pub linked : Linked links head None ss None
  pub first : ends.first ≡ first_place ss None
  pub last : ends.last ≡ last_place None ss
  pub distinct : Distinct ss
  pub few : length ss ≤ length links

-- the members from a place on, at most so many
abbrev pub follow : Option ℕ → ℕ → List Link → List Stand
follow None most links = []
follow (Some place) zero links = []
follow (Some place) (suc most) links =
    record { place = place; id = (link_at links place).id } ∷ follow (link_at links place).after most links

-- the members of a chain from its first place on, each with its id, at most as many as the table has links
abbrev pub chain_from : List Link → Ends → List Stand
chain_from links ends = follow ends.first (length links) links

-- each chain is spelled
abbrev pub KeepsChains : List Link → List Ends → Type 0
KeepsChains links ends = (head : ℕ) → IsChain links head (ends_at ends head) (chain_from links (ends_at ends head))

-- ---- what a change of one link leaves

-- the table with another link at a place, and every other link as before
abbrev pub with_link : List Link → ℕ → Link → List Link
with_link links place link = slice_set links place link

-- the link at a place has another place behind it
abbrev pub with_after : List Link → Option ℕ → Option ℕ → List Link
with_after links None after = links
with_after links (Some place) after = slice_set links place (record (link_at links place) { after = after })

-- the link at a place has another place before it
abbrev pub with_before : List Link → Option ℕ → Option ℕ → List Link
with_before links None before = links
with_before links (Some place) before = slice_set links place (record (link_at links place) { before = before })

-- a chain whose first or last member is another one, where no place is before or behind
abbrev pub with_first : Ends → Option ℕ → Option ℕ → Ends
with_first ends None first = record ends { first = first }
with_first ends (Some place) first = ends

-- the ends with another last place, where no place is behind it; where one is, they stay
abbrev pub with_last : Ends → Option ℕ → Option ℕ → Ends
with_last ends None last = record ends { last = last }
with_last ends (Some place) last = ends

-- ---- several families of chains over one arena

-- a row has a link for each family, and so have the ends of a number
pub record Woven : Type 0 where
  pub rows : List (List Link)
  pub ends : List (List Ends)

-- the links of a family, and the ends of its chains
abbrev pub links_of : ℕ → List (List Link) → List Link
links_of family = map (λ row. slice_index_or row family no_link)

-- for one family, the ends of its chains in the order of their numbers; `no_ends` where a row lacks the family
abbrev pub ends_of : ℕ → List (List Ends) → List Ends
ends_of family = map (λ row. slice_index_or row family no_ends)

-- the chain of a number in a family; empty where there is none
abbrev pub chain_of : Woven → ℕ → ℕ → List Stand
chain_of arena family head = chain_from (links_of family arena.rows) (ends_at (ends_of family arena.ends) head)

-- each row has a link for each family, and each chain of each family is spelled
pub record KeepsFamilies (families : ℕ) (rows : List (List Link)) (ends : List (List Ends)) : Type 0 where
  pub wide_rows : AllByRecursion (λ row. length row ≡ families) rows
  pub wide_ends : AllByRecursion (λ row. length row ≡ families) ends
  pub spelled : (family : ℕ) → KeepsChains (links_of family rows) (ends_of family ends)
