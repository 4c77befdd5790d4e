-- What is found over several tapes, as a function of what scans tell of them.
use Rattle.std.specs.Prelude.{ℕ, zero, suc, Bool, not, ◌&&◌, ◌||◌, ◌==◌, nat_lt, if◌then◌else◌, Option, Some, None, List, [], ◌∷◌, map, filter}
use Rattle.std.specs.List.{flat_map, find, list_any}
use Rattle.budb_changes.specs.declared.records.DumpRecordFields.{DumpRecordFields}
use Rattle.tape_scan.specs.declared.sections.PartFound.{PartFound}
use Rattle.tape_scan.specs.declared.sections.Sections.{Sections}
use Rattle.tape_scan.specs.declared.assembling.Found.{Found}
use Rattle.tape_scan.specs.AssembledRecords.{told_record_with, told_id}
use Rattle.tape_answers.specs.GoingOn.{goes_on, is_ending}

-- a told part with its place among all of them
pub record Placed : Type 0 where
  pub at : ℕ
  pub part : PartFound

-- told parts with their places, counted from this number on
abbrev pub placed_from : ℕ → List PartFound → List Placed
placed_from at [] = []
placed_from at (p ∷ ps) = record { at = at; part = p } ∷ placed_from (suc at) ps

-- the greatest number of a part; 0 where there is none
abbrev pub greatest : List PartFound → ℕ
greatest [] = 0
greatest (p ∷ ps) = if nat_lt (greatest ps) p.head.part then p.head.part else greatest ps

-- From a part at most so many further ones lead to the end of its dump. Each has the next number, so there are no more than the
-- greatest one.
abbrev pub leads_within : List PartFound → ℕ → PartFound → Bool
leads_within all zero p = is_ending p
leads_within all (suc n) p = is_ending p || list_any (leads_within all n) (filter (goes_on p) all)

unfoldable pub completes : List PartFound → PartFound → Bool
completes all p = leads_within all (greatest all) p

-- the first part that goes a part on and leads to the end of the dump
abbrev pub next_of : List PartFound → Placed → Option Placed
next_of all z = find (λ y. completes all y.part && goes_on z.part y.part) (placed_from 0 all)

-- a part with the rest of its way behind it; none where there is no part
abbrev pub with_rest : (Placed → List Placed) → Option Placed → List Placed
with_rest rest None = []
with_rest rest (Some z) = z ∷ rest z

-- the first way from a part on, of at most so many parts
abbrev pub walk_within : List PartFound → ℕ → Placed → List Placed
walk_within all zero z = []
walk_within all (suc n) z = with_rest (walk_within all n) (next_of all z)

-- the first way through a dump: its first part, and those behind it
pub record Way : Type 0 where
  pub begin : Placed
  pub rest : List Placed

-- the first way from this part to its dump's end, with at most as many parts behind it as the greatest part number
abbrev pub way_from : List PartFound → Placed → Way
way_from all z = record { begin = z; rest = walk_within all (greatest all) z }

-- a part that begins a dump that is found whole
abbrev pub begins_dump : List PartFound → Placed → Bool
begins_dump all z = completes all z.part && (z.part.head.part == 1)

-- the id of the dump that goes this way, by the head of its first part
abbrev pub way_id : Way → ℕ
way_id w = w.begin.part.head.id

-- by ascending ids; a way takes the place of one of its id
abbrev pub with_way : Way → List Way → List Way
with_way w [] = w ∷ []
with_way w (v ∷ vs) = if nat_lt (way_id w) (way_id v) then w ∷ (v ∷ vs) else (if way_id w == way_id v then w ∷ vs else v ∷ with_way w vs)

-- the ways of the dumps that begin with one of these parts, of each dump that of the first one
abbrev pub ways_in : List PartFound → List Placed → List Way
ways_in all [] = []
ways_in all (z ∷ zs) = if begins_dump all z then with_way (way_from all z) (ways_in all zs) else ways_in all zs

unfoldable pub ways : List PartFound → List Way
ways all = ways_in all (placed_from 0 all)

-- a place is on a way
abbrev pub is_place : ℕ → Placed → Bool
is_place at z = z.at == at

-- the told part at this place, counted from 0, is one of the way's parts
abbrev pub is_on : ℕ → Way → Bool
is_on at w = list_any (is_place at) (w.begin ∷ w.rest)

-- a told part is on none of these ways
abbrev pub is_left : List Way → Placed → Bool
is_left chosen z = not (list_any (is_on z.at) chosen)

-- the record of the dump that goes this way: fields by the head of its first part, tapes and volumes by all parts
abbrev pub record_of : Way → DumpRecordFields
record_of w = told_record_with w.begin.part (map (λ z. z.part) (w.begin ∷ w.rest))

-- The records of the whole dumps by ascending id, and the ids of the parts that are on no way, in order.
abbrev pub found_of : List PartFound → Found
found_of all = record {
  whole = map record_of (ways all);
  parts = map (λ z. told_id z.part) (filter (is_left (ways all)) (placed_from 0 all));
}

unfoldable pub found_in : List Sections → Found
found_in tapes = found_of (flat_map (λ t. t.parts) tapes)
