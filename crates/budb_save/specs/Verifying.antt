-- WHAT A DATABASE IS VERIFIED FOR: which groups of dumps are listed, and where chains of dumps stop.
use Rattle.std.specs.Prelude.{◌≡◌, ℕ, zero, suc, ◌+◌, ◌<◌, ◌≤◌, ◌==◌, if◌then◌else◌, Option, Some, None, Result, Ok, Err, List, [], ◌∷◌, ◌++◌, length, map, reverse, Contains}
use Rattle.std.specs.List.{filter, flat_map, list_any, AllByRecursion}
use Rattle.std.specs.List.Sorted.{IsPermutation, IsNonDecreasing}
use Rattle.budb_changes.specs.declared.records.VolRecordFields.{VolRecordFields}
use Rattle.budb_changes.specs.declared.records.DumpRecordFields.{DumpRecordFields}
use Rattle.budb_fold.specs.Database.{is_initial, has_dump}
use Rattle.budb_fold.specs.Lookups.{record_of}
use Rattle.budb_fold.specs.Chains.{IsChain, dump_of}
use Rattle.budb.specs.Histories.{descending}
use Rattle.budb_save.specs.declared.verifying.Group.{Group}
use Rattle.budb_save.specs.declared.verifying.Broken.{Broken}

-- ---- groups

-- the listed dumps of an initial id, and whether the initial dump itself is listed
abbrev pub group_of : List DumpRecordFields → ℕ → Group
group_of listed initial = record { initial = initial; dumps = length (filter (is_initial initial) listed); listed = has_dump listed initial }

-- each group's initial id is below those behind it
abbrev pub AreAscending : List Group → Type 0
AreAscending [] = Unit {0}
AreAscending (g ∷ gs) = AllByRecursion (λ h. g.initial < h.initial) gs × AreAscending gs

-- THE GROUPS: one for each initial id among the listed dumps, ascending.
pub record AreGroups (listed : List DumpRecordFields) (groups : List Group) : Type 0 where
  pub ascending : AreAscending groups
  pub each : AllByRecursion (λ g. (g ≡ group_of listed g.initial) × (1 ≤ g.dumps)) groups
  pub all : (d : DumpRecordFields) → Contains listed d → Contains (map (λ g. g.initial) groups) d.initial

-- ---- broken chains

-- a chain that stops is told by the id at which it does
abbrev pub broken_by : ℕ → List ℕ → Result (List ℕ) ℕ → List Broken
broken_by id name (Ok ids) = []
broken_by id name (Err at) = record { id = id; volume = name; at = at } ∷ []

-- of the volumes of a dump, in the record's order, each volume of the record by itself
abbrev pub BreakIn : List DumpRecordFields → ℕ → List VolRecordFields → List Broken → Type 0
BreakIn listed id [] broken = broken ≡ []
BreakIn listed id (v ∷ vs) broken =
    (outcome : Result (List ℕ) ℕ) × (rest : List Broken) × IsChain listed id v.name outcome × BreakIn listed id vs rest × (broken ≡ broken_by id v.name outcome ++ rest)

-- the volumes of a dump's record, in its order; none where there is no record
abbrev pub volumes_in : Option DumpRecordFields → List VolRecordFields
volumes_in None = []
volumes_in (Some d) = d.volumes

-- of the listed dumps of these ids, one after the other
abbrev pub BreakAmong : List DumpRecordFields → List ℕ → List Broken → Type 0
BreakAmong listed [] broken = broken ≡ []
BreakAmong listed (id ∷ ids) broken =
    (first : List Broken) × (rest : List Broken) × BreakIn listed id (volumes_in (record_of listed id)) first × BreakAmong listed ids rest × (broken ≡ first ++ rest)

-- THE BROKEN CHAINS: per listed dump in ascending ids, and per volume in its record's order.
pub record AreBroken (listed : List DumpRecordFields) (broken : List Broken) : Type 0 where
  pub ids : List ℕ
  pub same : IsPermutation (map (λ d. d.id) listed) ids
  pub ascending : IsNonDecreasing ids
  pub among : BreakAmong listed ids broken

-- ---- the same as functions of the listed dumps

-- ids in ascending order
abbrev pub ascending : List ℕ → List ℕ
ascending ids = reverse (descending ids)

-- each number that stands among those behind it is left out
abbrev pub once : List ℕ → List ℕ
once [] = []
once (n ∷ ns) = if list_any (λ m. m == n) ns then once ns else n ∷ once ns

-- the groups of the listed dumps: one for each initial id among them, ascending
abbrev pub groups_in : List DumpRecordFields → List Group
groups_in listed = map (group_of listed) (once (ascending (map (λ d. d.initial) listed)))

-- The id at which the chain of a dump stops, going upwards for so many dumps at most; none where a dump that has the volume whole is
-- reached.
abbrev pub stop_within : ℕ → List DumpRecordFields → List ℕ → ℕ → Option ℕ
stop_within zero listed name id = None
stop_within (suc n) listed name id = elim (dump_of listed name id) [ None ↦ Some id | Some d ↦ if d.volume.from == 0 then None else stop_within n listed name d.dump.parent ]

-- as many dumps as there can be, since parents lie below their dumps
abbrev pub stop_in : List DumpRecordFields → List ℕ → ℕ → Option ℕ
stop_in listed name id = stop_within (suc id) listed name id

-- a volume of a dump, where its chain stops
abbrev pub break_of : List DumpRecordFields → ℕ → VolRecordFields → List Broken
break_of listed id v = elim (stop_in listed v.name id) [ None ↦ [] | Some at ↦ record { id = id; volume = v.name; at = at } ∷ [] ]

-- those of a listed dump, in its record's order
abbrev pub breaks_of : List DumpRecordFields → ℕ → List Broken
breaks_of listed id = flat_map (break_of listed id) (volumes_in (record_of listed id))

-- the broken chains of the listed dumps, in ascending ids
abbrev pub broken_in : List DumpRecordFields → List Broken
broken_in listed = flat_map (breaks_of listed) (ascending (map (λ d. d.id) listed))

-- ---- inside the crate

-- a group of the first dump of an initial id
abbrev pub group_at : List DumpRecordFields → ℕ → Group
group_at listed initial = record { initial = initial; dumps = 1; listed = has_dump listed initial }

-- a group with one listed dump more
abbrev pub one_more : Group → Group
one_more g = record { initial = g.initial; dumps = g.dumps + 1; listed = g.listed }

-- the groups of a group so far and of initial ids that ascend
abbrev pub runs_from : List DumpRecordFields → Group → List ℕ → List Group
runs_from listed g [] = g ∷ []
runs_from listed g (n ∷ ns) = if n == g.initial then runs_from listed (one_more g) ns else g ∷ runs_from listed (group_at listed n) ns

-- the groups of initial ids that ascend, one for each id, with how often it stands there
abbrev pub runs : List DumpRecordFields → List ℕ → List Group
runs listed [] = []
runs listed (n ∷ ns) = runs_from listed (group_at listed n) ns
