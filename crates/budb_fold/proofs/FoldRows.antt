-- Worked rows of the fold and of the look-ups.
use Rattle.std.proofs.Common.{◌≡◌, ℕ, List, [], ◌∷◌, Some, None, Ok, Err, refl, arith}
use Rattle.bk_text.specs.declared.expiry.Expiry.TheVariants.{Unset, Never}
use Rattle.volume_sets.specs.Testing.{is_pattern}
use Rattle.budb_changes.specs.declared.records.VolRecordFields.{VolRecordFields}
use Rattle.budb_changes.specs.declared.records.DumpRecordFields.{DumpRecordFields}
use Rattle.budb_changes.specs.declared.change.Change.TheVariants.{AddSet, DelSet, AddEntry, DelEntry, AddLevel, DelLevel, AddHost, DelHost, Begin, Take, Done, Forget, Found}
use Rattle.budb_fold.specs.declared.database.Database.{Database}
use Rattle.budb_fold.specs.Database.{blank, after}
use Rattle.budb_fold.specs.Lookups.{greatest_at, parent_of, from_of, latest}
use Rattle.budb_fold.specs.Chains.{IsChain}
use Rattle.budb_fold.specs.Checkpoints.{checkpoint}

-- a volume, and a dump of one volume set; `a` is its set, and the base of its tapes
abbrev volume : List ℕ → ℕ → ℕ → VolRecordFields
volume name clone from = record { name = name; id = 3; server = 115 ∷ []; partition = 112 ∷ []; clone = clone; from = from; frags = [] }

abbrev dump : ℕ → ℕ → ℕ → List ℕ → List VolRecordFields → DumpRecordFields
dump id initial parent level volumes = record { id = id; initial = initial; parent = parent; expires = 0; set = 97 ∷ []; level = level; base = 97 ∷ []; tapes = []; volumes = volumes; cell = [] }

abbrev only : ℕ → List DumpRecordFields → Database
only greatest listed = record { sets = []; levels = []; hosts = []; greatest = greatest; listed = listed }

-- "/f", "/f/m", "/f/m/t" and "/fu"
abbrev f : List ℕ
f = 47 ∷ 102 ∷ []

abbrev m : List ℕ
m = 47 ∷ 102 ∷ 47 ∷ 109 ∷ []

abbrev t : List ℕ
t = 47 ∷ 102 ∷ 47 ∷ 109 ∷ 47 ∷ 116 ∷ []

abbrev fu : List ℕ
fu = 47 ∷ 102 ∷ 117 ∷ []

-- a set that is there, an entry with a pattern and one without, and an entry that isn't there
sets_row : after (AddSet (97 ∷ []) ∷ AddSet (97 ∷ []) ∷ AddEntry (98 ∷ []) None None (46 ∷ []) ∷ AddEntry (97 ∷ []) None None (46 ∷ []) ∷ DelEntry (97 ∷ []) 2 ∷ DelEntry (97 ∷ []) 0 ∷ [])
    ≡ record { sets = record { name = 97 ∷ []; entries = record { server = None; partition = None; pattern = 46 ∷ [] } ∷ [] } ∷ []; levels = []; hosts = []; greatest = 0; listed = [] }
unfolding is_pattern
sets_row = refl

-- an entry whose bytes are no pattern: "*a"
no_pattern_row : after (AddSet (97 ∷ []) ∷ AddEntry (97 ∷ []) None None (42 ∷ 97 ∷ []) ∷ []) ≡ after (AddSet (97 ∷ []) ∷ [])
unfolding is_pattern
no_pattern_row = refl

gone_row : after (AddSet (97 ∷ []) ∷ DelSet (97 ∷ []) ∷ []) ≡ blank
gone_row = refl

-- a level without the one above, and a level that goes with all below it, by elements
levels_row : after (AddLevel m Unset ∷ AddLevel f Unset ∷ AddLevel m Never ∷ AddLevel fu Never ∷ DelLevel f ∷ [])
    ≡ record { sets = []; levels = record { path = fu; expiry = Never } ∷ []; hosts = []; greatest = 0; listed = [] }
levels_row = refl

hosts_row : after (AddHost (104 ∷ []) 1 ∷ AddHost (105 ∷ []) 1 ∷ DelHost 2 ∷ [])
    ≡ record { sets = []; levels = []; hosts = record { host = 104 ∷ []; port = 1 } ∷ []; greatest = 0; listed = [] }
hosts_row = refl

-- records that don't fit leave the greatest id as well
unfit_row : after (Done (dump 0 0 0 f []) ∷ Done (dump 5 5 5 f []) ∷ Found (dump 5 5 0 f (volume (97 ∷ []) 4 3 ∷ [])) ∷ []) ≡ blank
unfit_row = refl

-- a taken tape forgets all dumps of its initial dump; a forgotten id may be found again, and is then the last
take_row : after (Begin 2 ∷ Done (dump 2 2 0 f []) ∷ Done (dump 3 2 2 m []) ∷ Done (dump 4 4 0 f []) ∷ Take 2 ∷ Found (dump 3 2 2 m []) ∷ []) ≡ only 4 (dump 4 4 0 f [] ∷ dump 3 2 2 m [] ∷ [])
take_row = refl

-- a checkpoint keeps the greatest id though its dump was forgotten
checkpoint_row : checkpoint (after (AddHost (104 ∷ []) 1 ∷ Found (dump 2 2 0 f []) ∷ Done (dump 4 4 0 f []) ∷ Forget 4 ∷ [])) ≡ AddHost (104 ∷ []) 1 ∷ Begin 4 ∷ Found (dump 2 2 0 f []) ∷ []
checkpoint_row = refl

-- the closest level above that has a dump, and there the greatest id
parent_row : parent_of (dump 9 9 0 f [] ∷ dump 3 3 0 m [] ∷ dump 7 7 0 m [] ∷ dump 5 5 0 m [] ∷ []) (97 ∷ []) t ≡ 7
parent_row = refl

parent_far_row : parent_of (dump 2 2 0 f [] ∷ dump 3 3 2 t [] ∷ []) (97 ∷ []) m ≡ 2
parent_far_row = refl

greatest_none_row : greatest_at (dump 2 2 0 f [] ∷ []) (97 ∷ []) m ≡ None
greatest_none_row = refl

parent_none_row : parent_of (dump 2 2 0 f [] ∷ []) (98 ∷ []) m ≡ 0
parent_none_row = refl

-- born at the clone time counts as born after it; of one name the first volume alone counts
from_row : from_of (Some (dump 2 2 0 f (volume (97 ∷ []) 8 0 ∷ volume (97 ∷ []) 9 0 ∷ []))) (97 ∷ []) 8 ≡ 0
from_row = refl

from_before_row : from_of (Some (dump 2 2 0 f (volume (97 ∷ []) 8 0 ∷ []))) (97 ∷ []) 7 ≡ 8
from_before_row = refl

-- the greatest clone time below the bound, not the greatest id; then the greater id
latest_row : latest (dump 2 2 0 f (volume (97 ∷ []) 8 0 ∷ []) ∷ dump 3 3 0 f (volume (97 ∷ []) 7 0 ∷ []) ∷ dump 4 4 0 f (volume (97 ∷ []) 9 0 ∷ []) ∷ []) (97 ∷ []) (Some 9)
    ≡ Some (record { dump = dump 2 2 0 f (volume (97 ∷ []) 8 0 ∷ []); volume = volume (97 ∷ []) 8 0 })
latest_row = refl

tie_row : latest (dump 2 2 0 f (volume (97 ∷ []) 8 0 ∷ []) ∷ dump 3 3 0 f (volume (97 ∷ []) 8 0 ∷ []) ∷ []) (97 ∷ []) None
    ≡ Some (record { dump = dump 3 3 0 f (volume (97 ∷ []) 8 0 ∷ []); volume = volume (97 ∷ []) 8 0 })
tie_row = refl

-- "a" and "a.backup" in one dump
name_row : latest (dump 2 2 0 f (volume (97 ∷ 46 ∷ 98 ∷ 97 ∷ 99 ∷ 107 ∷ 117 ∷ 112 ∷ []) 8 0 ∷ volume (97 ∷ []) 8 0 ∷ []) ∷ []) (97 ∷ []) None
    ≡ Some (record { dump = dump 2 2 0 f (volume (97 ∷ 46 ∷ 98 ∷ 97 ∷ 99 ∷ 107 ∷ 117 ∷ 112 ∷ []) 8 0 ∷ volume (97 ∷ []) 8 0 ∷ []); volume = volume (97 ∷ []) 8 0 })
name_row = refl

-- a whole chain, one with an id that isn't listed, and one whose middle record lacks the name
chain_row : IsChain (dump 2 2 0 f (volume (97 ∷ []) 2 0 ∷ []) ∷ dump 3 3 2 m (volume (97 ∷ []) 3 2 ∷ []) ∷ []) 3 (97 ∷ []) (Ok (2 ∷ 3 ∷ []))
chain_row = (
  3 ∷ [],
  (
    2,
    (refl, (record { dump = dump 3 3 2 m (volume (97 ∷ []) 3 2 ∷ []); volume = volume (97 ∷ []) 3 2 }, refl, (λ same. absurd (omega (arith, same))), refl)),
    (record { dump = dump 2 2 0 f (volume (97 ∷ []) 2 0 ∷ []); volume = volume (97 ∷ []) 2 0 }, refl, refl),
    refl,
  ),
)

chain_missing_row : IsChain (dump 4 4 3 t (volume (97 ∷ []) 4 3 ∷ []) ∷ dump 2 2 0 f (volume (97 ∷ []) 2 0 ∷ []) ∷ []) 4 (97 ∷ []) (Err 3)
chain_missing_row = (4 ∷ [], (refl, (record { dump = dump 4 4 3 t (volume (97 ∷ []) 4 3 ∷ []); volume = volume (97 ∷ []) 4 3 }, refl, (λ same. absurd (omega (arith, same))), refl)), refl)

chain_lacking_row : IsChain (dump 3 3 2 m (volume (97 ∷ []) 3 2 ∷ []) ∷ dump 2 2 0 f (volume (98 ∷ []) 2 0 ∷ []) ∷ []) 3 (97 ∷ []) (Err 2)
chain_lacking_row = (3 ∷ [], (refl, (record { dump = dump 3 3 2 m (volume (97 ∷ []) 3 2 ∷ []); volume = volume (97 ∷ []) 3 2 }, refl, (λ same. absurd (omega (arith, same))), refl)), refl)
