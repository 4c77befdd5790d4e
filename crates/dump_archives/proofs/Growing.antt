-- The greatest id that was begun or recorded doesn't fall.
use Rattle.std.proofs.Common.{ℕ, ◌≤◌, Bool, true, false, Option, Some, None, Ok, Err, List, [], ◌∷◌, ◌++◌, sym, subst, arith}
use Rattle.std.specs.Prelude.{Result, max, if◌then◌else◌}
use Rattle.std.specs.Option.{unwrap_or}
use Rattle.volume_sets.specs.Testing.{is_pattern}
use Rattle.volume_sets.specs.Sets.{after_add as after_add_set, after_remove as after_remove_set, after_add_entry, after_remove_entry}
use Rattle.volume_sets.specs.declared.sets.SetEntry.{SetEntry}
use Rattle.volume_sets.specs.declared.sets.VolumeSet.{VolumeSet}
use Rattle.volume_sets.specs.declared.sets.SetsFault.{SetsFault}
use Rattle.dump_levels.specs.declared.levels.Level.{Level}
use Rattle.dump_levels.specs.declared.levels.LevelFault.{LevelFault}
use Rattle.dump_levels.specs.Trees.{after_add as after_add_level, after_set as after_set_level, after_remove as after_remove_level}
use Rattle.budb_changes.specs.declared.records.DumpRecordFields.{DumpRecordFields}
use Rattle.budb_changes.specs.declared.change.Change.{Change}
use Rattle.budb_changes.specs.declared.change.Change.TheVariants.{AddSet, DelSet, AddEntry, DelEntry, AddLevel, SetExpiry, DelLevel, AddHost, DelHost, Begin, Take, Done1, Forget, Found1, Done, Found}
use Rattle.budb_fold.specs.declared.database.HostPort.{HostPort}
use Rattle.budb_fold.specs.declared.database.Database.{Database}
use Rattle.budb_fold.specs.Database.{has_port, fits_record, entry_of, with_sets, with_levels, with_record, after_change, after_from, after, blank}
use Rattle.archive_model.proofs.LogLaws.{fold_more}

module _ (db : Database) where
  -- what is made has no lesser one
  abbrev IsNoLess : Option Database → Type 0
  IsNoLess o = db.greatest ≤ (unwrap_or o db).greatest

  sets_no_less : (r : Result (List VolumeSet) SetsFault) → IsNoLess (with_sets db r)
  sets_no_less (Ok sets) = omega arith
  sets_no_less (Err fault) = omega arith

  levels_no_less : (r : Result (List Level) LevelFault) → IsNoLess (with_levels db r)
  levels_no_less (Ok levels) = omega arith
  levels_no_less (Err fault) = omega arith

  if_no_less : (b : Bool) (o : Option Database) → IsNoLess o → IsNoLess (if b then o else None)
  if_no_less true o less = less
  if_no_less false o less = omega arith

  host_no_less : (b : Bool) (host : HostPort) → IsNoLess (if b then None else Some (record db { hosts = db.hosts ++ host ∷ [] }))
  host_no_less true host = omega arith
  host_no_less false host = omega arith

  record_no_less : (d : DumpRecordFields) → IsNoLess (with_record db d)
  record_no_less d = if_no_less (fits_record d db.listed) (Some (record db { greatest = max db.greatest d.id; listed = db.listed ++ d ∷ [] })) (omega arith)

  change_no_less : (change : Change) → db.greatest ≤ (after_change change db).greatest
  change_no_less (AddSet set) = sets_no_less (after_add_set set db.sets)
  change_no_less (DelSet set) = sets_no_less (after_remove_set set db.sets)
  change_no_less (AddEntry set server partition pattern) =
      (let entry : SetEntry = entry_of server partition pattern in
      if_no_less (is_pattern entry.pattern) (with_sets db (after_add_entry set entry db.sets)) (sets_no_less (after_add_entry set entry db.sets)))
  change_no_less (DelEntry set number) = sets_no_less (after_remove_entry set number db.sets)
  change_no_less (AddLevel level expiry) = levels_no_less (after_add_level db.levels level expiry)
  change_no_less (SetExpiry level expiry) = levels_no_less (after_set_level db.levels level expiry)
  change_no_less (DelLevel level) = levels_no_less (after_remove_level db.levels level)
  change_no_less (AddHost host port) = host_no_less (has_port db.hosts port) (record { host = host; port = port })
  change_no_less (DelHost port) = omega arith
  change_no_less (Begin id) = omega arith
  change_no_less (Take initial) = omega arith
  change_no_less (Done1 dump) = record_no_less dump
  change_no_less (Forget id) = omega arith
  change_no_less (Found1 dump) = record_no_less dump
  change_no_less (Done dump) = record_no_less dump
  change_no_less (Found dump) = record_no_less dump

from_no_less : (changes : List Change) (db : Database) → db.greatest ≤ (after_from changes db).greatest
from_no_less [] db = omega arith
from_no_less (c ∷ changes) db = (let one = change_no_less db c in let rest = from_no_less changes (after_change c db) in omega (arith, one, rest))

pub greatest_more : (log changes : List Change) → (after log).greatest ≤ (after (log ++ changes)).greatest
greatest_more log changes = subst (λ (db : Database). (after log).greatest ≤ db.greatest) (sym (fold_more log changes blank)) (from_no_less changes (after log))

-- a begin is one of its id
pub greatest_begun : (log changes : List Change) (id : ℕ) → id ≤ (after (log ++ Begin id ∷ changes)).greatest
greatest_begun log changes id =
    let rest = from_no_less changes (after_change (Begin id) (after log)) in
    let more : id ≤ (after_from (Begin id ∷ changes) (after log)).greatest = omega (arith, rest) in
    subst (λ (db : Database). id ≤ db.greatest) (sym (fold_more log (Begin id ∷ changes) blank)) more
