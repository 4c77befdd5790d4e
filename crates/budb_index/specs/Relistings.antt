-- What changes do to the listed dumps.
use Rattle.std.specs.Prelude.{ℕ, ◌+◌, ◌≤◌, Bool, false, List, [], ◌∷◌, ◌++◌, length, if◌then◌else◌, Option, Some, None}
use Rattle.std.specs.List.{filter_map}
use Rattle.budb_changes.specs.declared.records.DumpRecordFields.{DumpRecordFields}
use Rattle.budb_changes.specs.declared.change.Change.{Change}
use Rattle.budb_changes.specs.declared.change.Change.TheVariants.{AddSet, DelSet, AddEntry, DelEntry, AddLevel, SetExpiry, DelLevel, AddHost, DelHost, Begin, Take, Done1, Forget, Found1, Done, Found}
use Rattle.budb_links.specs.Frags.{dump_frags}
use Rattle.budb_fold.specs.Database.{is_dump, is_initial, without, fits_record}
use Rattle.budb_index.specs.declared.relistings.Relisting.{Relisting}
use Rattle.budb_index.specs.declared.relistings.Relisting.TheVariants.{Put, DropSet, DropDump}
use Rattle.budb_index.specs.Indexed.{Indexed}

-- what a change does to them; none where it does nothing to them
abbrev pub relisting_of : Change → Option Relisting
relisting_of (AddSet set) = None
relisting_of (DelSet set) = None
relisting_of (AddEntry set server partition pattern) = None
relisting_of (DelEntry set number) = None
relisting_of (AddLevel level expiry) = None
relisting_of (SetExpiry level expiry) = None
relisting_of (DelLevel level) = None
relisting_of (AddHost host port) = None
relisting_of (DelHost port) = None
relisting_of (Begin id) = None
relisting_of (Take initial) = Some (DropSet initial)
relisting_of (Done1 dump) = Some (Put dump)
relisting_of (Forget id) = Some (DropDump id)
relisting_of (Found1 dump) = Some (Put dump)
relisting_of (Done dump) = Some (Put dump)
relisting_of (Found dump) = Some (Put dump)

-- what changes do to the listed dumps, in order, without the changes that do nothing to them
abbrev pub relistings_of : List Change → List Relisting
relistings_of = filter_map relisting_of

-- the listed dumps after one; a record that doesn't fit isn't listed
abbrev pub relisted : Relisting → List DumpRecordFields → List DumpRecordFields
relisted (Put dump) listed = if fits_record dump listed then listed ++ dump ∷ [] else listed
relisted (DropSet initial) listed = without (is_initial initial) listed
relisted (DropDump id) listed = without (is_dump id) listed

-- and after one after the other
abbrev pub relisted_from : List Relisting → List DumpRecordFields → List DumpRecordFields
relisted_from [] listed = listed
relisted_from (one ∷ coming) listed = relisted_from coming (relisted one listed)

-- whether a change lists a record: it has one that fits
abbrev pub lists_by : Option Relisting → List DumpRecordFields → Bool
lists_by None listed = false
lists_by (Some (Put dump)) listed = fits_record dump listed
lists_by (Some (DropSet initial)) listed = false
lists_by (Some (DropDump id)) listed = false

-- whether a change lists a record behind these: it has one, and it fits
abbrev pub lists : Change → List DumpRecordFields → Bool
lists change listed = lists_by (relisting_of change) listed

-- ---- room

-- how many records they may list at most, and how many fragments these have
abbrev pub records_of : Relisting → ℕ
records_of (Put dump) = 1
records_of (DropSet initial) = 0
records_of (DropDump id) = 0

-- how many records a list of relistings may list at most: each `Put` counts as one
abbrev pub records_in : List Relisting → ℕ
records_in [] = 0
records_in (one ∷ coming) = records_of one + records_in coming

-- how many fragments the volumes of the record that one may list have; 0 where dumps go
abbrev pub fragments_of : Relisting → ℕ
fragments_of (Put dump) = length (dump_frags dump)
fragments_of (DropSet initial) = 0
fragments_of (DropDump id) = 0

-- how many fragments the records have together that a list of relistings may list
abbrev pub fragments_in : List Relisting → ℕ
fragments_in [] = 0
fragments_in (one ∷ coming) = fragments_of one + fragments_in coming

-- the index has room for all that they may list
pub record HasRoom (index : Indexed) (coming : List Relisting) : Type 0 where
  pub records : records_in coming ≤ index.spare_records
  pub frags : fragments_in coming ≤ index.spare_frags
