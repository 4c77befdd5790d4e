-- What changes of a log make of the listed dumps, and what a log with the same dumps keeps.
use Rattle.std.proofs.Common.{◌≡◌, ℕ, Bool, true, false, Some, None, Ok, Err, List, [], ◌∷◌, ◌++◌, refl, sym, subst, ◌∙◌}
use Rattle.std.specs.Prelude.{Result, max, if◌then◌else◌}
use Rattle.std.specs.Option.{unwrap_or}
use Rattle.volume_sets.specs.Testing.{is_pattern}
use Rattle.volume_sets.specs.declared.sets.VolumeSet.{VolumeSet}
use Rattle.volume_sets.specs.declared.sets.SetsFault.{SetsFault}
use Rattle.volume_sets.specs.Sets.{after_add as after_add_set, after_remove as after_remove_set, after_add_entry, after_remove_entry}
use Rattle.dump_levels.specs.declared.levels.Level.{Level}
use Rattle.dump_levels.specs.declared.levels.LevelFault.{LevelFault}
use Rattle.dump_levels.specs.Trees.{after_add as after_add_level, after_set as after_set_level, after_remove as after_remove_level}
use Rattle.budb_changes.specs.declared.records.DumpRecordFields.{DumpRecordFields}
use Rattle.budb_changes.specs.declared.change.Change.{Change}
use Rattle.budb_changes.specs.declared.change.Change.TheVariants.{AddSet, DelSet, AddEntry, DelEntry, AddLevel, SetExpiry, DelLevel, AddHost, DelHost, Begin, Take, Done1, Forget, Found1, Done, Found}
use Rattle.budb_fold.specs.declared.database.Database.{Database}
use Rattle.budb_changes.specs.Bytes.{encoded}
use Rattle.budb_changes.specs.Forms.{AreChanges}
use Rattle.budb_fold.specs.declared.database.HostPort.{HostPort}
use Rattle.budb_fold.specs.Database.{is_dump, is_initial, has_port, without, fits_record, entry_of, with_sets, with_levels, after_change, after_from, after}
use Rattle.plant_core.specs.Stock.{Stock}
use Rattle.tape_text.specs.Items.{Read}
use Rattle.archive_model.specs.Archives.{Archive, listed_of, IsKept, Holds}
use Rattle.archive_model.specs.Turns.{TouchesNoDump, AllUntouched}

pub fold_more : (first more : List Change) (db : Database) → after_from (first ++ more) db ≡ after_from more (after_from first db)
fold_more [] more db = refl
fold_more (change ∷ first) more db = fold_more first more (after_change change db)

-- ---- changes that touch no dump

sets_same : (db : Database) (sets : Result (List VolumeSet) SetsFault) → (unwrap_or (with_sets db sets) db).listed ≡ db.listed
sets_same db (Ok sets) = refl
sets_same db (Err fault) = refl

levels_same : (db : Database) (levels : Result (List Level) LevelFault) → (unwrap_or (with_levels db levels) db).listed ≡ db.listed
levels_same db (Ok levels) = refl
levels_same db (Err fault) = refl

entry_same : (t : Bool) (db : Database) (sets : Result (List VolumeSet) SetsFault) → (unwrap_or (if t then with_sets db sets else None) db).listed ≡ db.listed
entry_same true db sets = sets_same db sets
entry_same false db sets = refl

host_same : (t : Bool) (db : Database) (hosts : List HostPort) → (unwrap_or (if t then None else Some (record db { hosts = hosts })) db).listed ≡ db.listed
host_same true db hosts = refl
host_same false db hosts = refl

pub untouched : (c : Change) (db : Database) → TouchesNoDump c → (after_change c db).listed ≡ db.listed
untouched (AddSet set) db none = sets_same db (after_add_set set db.sets)
untouched (DelSet set) db none = sets_same db (after_remove_set set db.sets)
untouched (AddEntry set server partition pattern) db none = entry_same (is_pattern pattern) db (after_add_entry set (entry_of server partition pattern) db.sets)
untouched (DelEntry set number) db none = sets_same db (after_remove_entry set number db.sets)
untouched (AddLevel level expiry) db none = levels_same db (after_add_level db.levels level expiry)
untouched (SetExpiry level expiry) db none = levels_same db (after_set_level db.levels level expiry)
untouched (DelLevel level) db none = levels_same db (after_remove_level db.levels level)
untouched (AddHost host port) db none = host_same (has_port db.hosts port) db (db.hosts ++ record { host = host; port = port } ∷ [])
untouched (DelHost port) db none = refl
untouched (Begin id) db none = refl
untouched (Take initial) db none = absurd none
untouched (Done1 dump) db none = absurd none
untouched (Forget id) db none = absurd none
untouched (Found1 dump) db none = absurd none
untouched (Done dump) db none = absurd none
untouched (Found dump) db none = absurd none

-- ---- changes that forget

pub taken : (initial : ℕ) (db : Database) → (after_change (Take initial) db).listed ≡ without (is_initial initial) db.listed
taken initial db = refl

pub forgotten : (id : ℕ) (db : Database) → (after_change (Forget id) db).listed ≡ without (is_dump id) db.listed
forgotten id db = refl

-- ---- changes that list a dump

listed_more : (t : Bool) (new old : Database) → t ≡ true → (unwrap_or (if t then Some new else None) old).listed ≡ new.listed
listed_more true new old fit = refl
listed_more false new old fit = absurd (cc)

pub done : (d : DumpRecordFields) (db : Database) → fits_record d db.listed ≡ true → (after_change (Done d) db).listed ≡ db.listed ++ d ∷ []
done d db fit = listed_more (fits_record d db.listed) (record db { greatest = max db.greatest d.id; listed = db.listed ++ d ∷ [] }) db fit

pub found : (d : DumpRecordFields) (db : Database) → fits_record d db.listed ≡ true → (after_change (Found d) db).listed ≡ db.listed ++ d ∷ []
found d db fit = listed_more (fits_record d db.listed) (record db { greatest = max db.greatest d.id; listed = db.listed ++ d ∷ [] }) db fit

-- ---- logs with the same dumps

-- A plant with the same tapes and another log, whose changes list the same dumps, holds the archive with that log.
pub same_dumps_hold : (stock new : Stock) (a : Archive) (log : List Change) (records : List DumpRecordFields) → Holds stock a records → AreChanges log → new.log ≡ Some (encoded log) → ((k : ℕ) → new.tape k ≡ stock.tape k) → (after log).listed ≡ listed_of a → Holds new (record a { log = log }) records
same_dumps_hold stock new a log records held form bytes tapes same = record {
  changes = form;
  log = bytes;
  tapes = λ k s at. subst (λ (rs : _). Read rs s.items) (sym (tapes k)) (held.tapes k s at);
  others = λ k none. tapes k ∙ held.others k none;
  kept = subst (λ (ds : List DumpRecordFields). IsKept ds a.slots a.contents records) (sym same) held.kept;
}

pub untouched_all : (cs : List Change) (db : Database) → AllUntouched cs → (after_from cs db).listed ≡ db.listed
untouched_all [] db none = refl
untouched_all (c ∷ cs) db none = untouched_all cs (after_change c db) none.1 ∙ untouched c db none.0
