-- How many dumps a list of changes may list.
use Rattle.std.proofs.Common.{◌≡◌, ◌+◌, ◌≤◌, Bool, List, [], ◌∷◌, length, inl, inr, ap, arith, length-append}
use Rattle.std.specs.Prelude.{Option, Some, None, not}
use Rattle.std.specs.List.{cons_option, filter, flat_map}
use Rattle.std.proofs.lemmas.Bool.{cases_Bool}
use Rattle.budb_changes.specs.declared.records.DumpRecordFields.{DumpRecordFields}
use Rattle.budb_changes.specs.declared.change.Change.{Change}
use Rattle.budb_changes.specs.Bytes.{encoded_change, encoded}
use Rattle.budb_fold.specs.declared.database.Database.{Database}
use Rattle.budb_fold.specs.Database.{is_dump, is_initial, without, fits_record, after_from}
use Rattle.budb_index.specs.declared.relistings.Relisting.{Relisting}
use Rattle.budb_index.specs.declared.relistings.Relisting.TheVariants.{Put, DropSet, DropDump}
use Rattle.budb_index.specs.Relistings.{relisting_of, relistings_of, relisted, relisted_from}
use Rattle.budb_index.proofs.Listing.{listed_same}

kept_few : {X : Type 0} (p : X → Bool) (xs : List X) → length (filter p xs) ≤ length xs
kept_few p [] = omega arith
kept_few p (x ∷ xs) = elim (cases_Bool (p x)) [
  | inl hit ↦ rw hit (omega (arith, kept_few p xs))
  | inr miss ↦ rw miss (omega (arith, kept_few p xs))
]

one_few : (one : Relisting) (listed : List DumpRecordFields) → length (relisted one listed) ≤ length listed + 1
one_few (Put dump) listed = elim (cases_Bool (fits_record dump listed)) [
  | inl hit ↦ rw hit (omega (arith, length-append listed (dump ∷ [])))
  | inr miss ↦ rw miss (omega arith)
]
one_few (DropSet initial) listed = omega (arith, kept_few (λ dump. not (is_initial initial dump)) listed)
one_few (DropDump id) listed = omega (arith, kept_few (λ dump. not (is_dump id dump)) listed)

all_few : (coming : List Relisting) (listed : List DumpRecordFields) → length (relisted_from coming listed) ≤ length listed + length coming
all_few [] listed = omega arith
all_few (one ∷ coming) listed = omega (arith, all_few coming (relisted one listed), one_few one listed)

option_few : (o : Option Relisting) (rest : List Relisting) → length (cons_option o rest) ≤ length rest + 1
option_few None rest = omega arith
option_few (Some one) rest = omega arith

relistings_few : (changes : List Change) → length (relistings_of changes) ≤ length changes
relistings_few [] = omega arith
relistings_few (change ∷ changes) = omega (arith, option_few (relisting_of change) (relistings_of changes), relistings_few changes)

change_long : (change : Change) → 1 ≤ length (encoded_change change)
unfolding encoded_change
change_long change = omega arith

bytes_many : (changes : List Change) → length changes ≤ length (flat_map encoded_change changes)
bytes_many [] = omega arith
bytes_many (change ∷ changes) = omega (arith, change_long change, bytes_many changes, length-append (encoded_change change) (flat_map encoded_change changes))

changes_few : (changes : List Change) → length changes ≤ length (encoded changes)
unfolding encoded
changes_few changes = bytes_many changes

-- a database without listed dumps lists no more than its changes have bytes
pub listed_few : (changes : List Change) (db : Database) → db.listed ≡ [] → length (after_from changes db).listed ≤ length (encoded changes)
listed_few changes db none =
    omega (arith, ap length (listed_same changes db), all_few (relistings_of changes) db.listed, ap length none, relistings_few changes, changes_few changes)
