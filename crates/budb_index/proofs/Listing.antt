-- What changes list, and what their relistings list.
use Rattle.std.proofs.Common.{◌≡◌, List, [], ◌∷◌, ◌++◌, Bool, true, false, refl, ◌∙◌, ap}
use Rattle.std.specs.Prelude.{max, if◌then◌else◌, Option, Some, None, Result, Ok, Err}
use Rattle.std.specs.Option.{unwrap_or}
use Rattle.std.specs.List.{cons_option}
use Rattle.volume_sets.specs.Testing.{is_pattern}
use Rattle.volume_sets.specs.declared.sets.VolumeSet.{VolumeSet}
use Rattle.volume_sets.specs.declared.sets.SetsFault.{SetsFault}
use Rattle.volume_sets.specs.Sets.{after_add as after_add_set, after_remove as after_remove_set, after_add_entry, after_remove_entry}
use Rattle.dump_levels.specs.declared.levels.Level.{Level}
use Rattle.dump_levels.specs.declared.levels.LevelFault.{LevelFault}
use Rattle.dump_levels.specs.Trees.{after_add as after_add_level, after_set as after_set_level, after_remove as after_remove_level}
use Rattle.budb_changes.specs.declared.records.DumpRecordFields.{DumpRecordFields}
use Rattle.budb_changes.specs.declared.change.Change.{Change}
use Rattle.budb_changes.specs.declared.change.Change.TheVariants.{AddSet, DelSet, AddEntry, DelEntry, AddLevel, SetExpiry, DelLevel, AddHost, DelHost, Begin, Take, Done1, Forget, Found1, Done, Found}
use Rattle.budb_fold.specs.declared.database.HostPort.{HostPort}
use Rattle.budb_fold.specs.declared.database.Database.{Database}
use Rattle.budb_fold.specs.Database.{has_port, fits_record, entry_of, with_sets, with_levels, after_change, after_from}
use Rattle.budb_index.specs.declared.relistings.Relisting.{Relisting}
use Rattle.budb_index.specs.Relistings.{relisting_of, relistings_of, relisted_from}

module _ (db : Database) where
  sets_same : (r : Result (List VolumeSet) SetsFault) → (unwrap_or (with_sets db r) db).listed ≡ db.listed
  sets_same (Ok sets) = refl
  sets_same (Err fault) = refl

  levels_same : (r : Result (List Level) LevelFault) → (unwrap_or (with_levels db r) db).listed ≡ db.listed
  levels_same (Ok levels) = refl
  levels_same (Err fault) = refl

  entry_same : (r : Result (List VolumeSet) SetsFault) (b : Bool) → (unwrap_or (if b then with_sets db r else None) db).listed ≡ db.listed
  entry_same r true = sets_same r
  entry_same r false = refl

  host_same : (host : HostPort) (b : Bool) → (unwrap_or (if b then None else Some (record db { hosts = db.hosts ++ host ∷ [] })) db).listed ≡ db.listed
  host_same host true = refl
  host_same host false = refl

  record_put : (dump : DumpRecordFields) (b : Bool) → (unwrap_or (if b then Some (record db { greatest = max db.greatest dump.id; listed = db.listed ++ dump ∷ [] }) else None) db).listed ≡ (if b then db.listed ++ dump ∷ [] else db.listed)
  record_put dump true = refl
  record_put dump false = refl

  one : (change : Change) → (after_change change db).listed ≡ relisted_from (cons_option (relisting_of change) []) db.listed
  one (AddSet set) = sets_same (after_add_set set db.sets)
  one (DelSet set) = sets_same (after_remove_set set db.sets)
  one (AddEntry set server partition pattern) = entry_same (after_add_entry set (entry_of server partition pattern) db.sets) (is_pattern pattern)
  one (DelEntry set number) = sets_same (after_remove_entry set number db.sets)
  one (AddLevel level expiry) = levels_same (after_add_level db.levels level expiry)
  one (SetExpiry level expiry) = levels_same (after_set_level db.levels level expiry)
  one (DelLevel level) = levels_same (after_remove_level db.levels level)
  one (AddHost host port) = host_same (record { host = host; port = port }) (has_port db.hosts port)
  one (DelHost port) = refl
  one (Begin id) = refl
  one (Take initial) = refl
  one (Done1 dump) = record_put dump (fits_record dump db.listed)
  one (Forget id) = refl
  one (Found1 dump) = record_put dump (fits_record dump db.listed)
  one (Done dump) = record_put dump (fits_record dump db.listed)
  one (Found dump) = record_put dump (fits_record dump db.listed)

behind : (o : Option Relisting) (rest : List Relisting) (listed : List DumpRecordFields) → relisted_from rest (relisted_from (cons_option o []) listed) ≡ relisted_from (cons_option o rest) listed
behind None rest listed = refl
behind (Some r) rest listed = refl

pub listed_same : (changes : List Change) (db : Database) → (after_from changes db).listed ≡ relisted_from (relistings_of changes) db.listed
listed_same [] db = refl
listed_same (change ∷ changes) db =
    listed_same changes (after_change change db)
    ∙ ap (relisted_from (relistings_of changes)) (one db change)
    ∙ behind (relisting_of change) (relistings_of changes) db.listed
