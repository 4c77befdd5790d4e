-- What the database of every log keeps, change by change.
use Rattle.std.proofs.Common.{◌≡◌, ℕ, ◌≤◌, List, [], ◌∷◌, ◌++◌, Bool, true, false, not, refl, ap, arith}
use Rattle.std.specs.Prelude.{All, filter, max, ◌==◌, ◌&&◌, nat_lt, if◌then◌else◌, Some, None, Result, Ok, Err}
use Rattle.std.specs.Option.{unwrap_or}
use Rattle.std.specs.List.{list_all}
use Rattle.std.proofs.lemmas.Bool.{and_parts, and_from}
use Rattle.std.proofs.lemmas.List.Elements.{All-nil, All-push, All-filter, All-weaker}
use Rattle.volume_sets.specs.Testing.{is_pattern}
use Rattle.volume_sets.specs.declared.sets.SetEntry.{SetEntry}
use Rattle.volume_sets.specs.declared.sets.VolumeSet.{VolumeSet}
use Rattle.volume_sets.specs.declared.sets.SetsFault.{SetsFault}
use Rattle.volume_sets.specs.Sets.{after_add as after_add_set, after_remove as after_remove_set, after_add_entry, after_remove_entry}
use Rattle.dump_levels.specs.declared.levels.Level.{Level}
use Rattle.dump_levels.specs.declared.levels.LevelFault.{LevelFault}
use Rattle.dump_levels.specs.Trees.{after_add as after_add_level, after_set as after_set_level, after_remove as after_remove_level}
use Rattle.budb_changes.specs.declared.records.DumpRecordFields.{DumpRecordFields}
use Rattle.budb_changes.specs.declared.change.Change.{Change}
use Rattle.budb_changes.specs.declared.change.Change.TheVariants.{AddSet, DelSet, AddEntry, DelEntry, AddLevel, SetExpiry, DelLevel, AddHost, DelHost, Begin, Take, Done1, Forget, Found1, Done, Found}
use Rattle.budb_fold.specs.declared.database.HostPort.{HostPort}
use Rattle.budb_fold.specs.declared.database.Database.{Database}
use Rattle.budb_fold.specs.Database.{is_port, has_port, is_dump, has_dump, is_initial, is_whole, without, fits_record, entry_of, with_sets, with_levels, after_change, after_from, after, blank}
use Rattle.budb_fold.proofs.Behind.{Behind, behind_push, behind_filter, none_filtered}
use Rattle.budb_fold.proofs.SetKeeps.{KeptSets, kept_add, kept_remove, kept_add_entry, kept_remove_entry}
use Rattle.budb_fold.proofs.LevelKeeps.{IsNextLevel, kept_add_level, kept_set_level, kept_remove_level}

abbrev pub IsNextHost : List HostPort → HostPort → Type 0
IsNextHost before host = has_port before host.port ≡ false

abbrev pub IsNextDump : List DumpRecordFields → DumpRecordFields → Type 0
IsNextDump before dump = fits_record dump before ≡ true

pub record Kept (db : Database) : Type 0 where
  pub sets : KeptSets db.sets
  pub levels : Behind IsNextLevel [] db.levels
  pub hosts : Behind IsNextHost [] db.hosts
  pub listed : Behind IsNextDump [] db.listed
  pub most : All (λ dump. dump.id ≤ db.greatest) db.listed

-- ---- records

pub record Fits (dump : DumpRecordFields) (before : List DumpRecordFields) : Type 0 where
  pub some : not (dump.id == 0) ≡ true
  pub new : not (has_dump before dump.id) ≡ true
  pub above : nat_lt dump.parent dump.id ≡ true
  pub whole : (if dump.parent == 0 then list_all is_whole dump.volumes else true) ≡ true

pub fit_parts : (dump : DumpRecordFields) (before : List DumpRecordFields) → fits_record dump before ≡ true → Fits dump before
fit_parts dump before fit =
    let p = and_parts (not (dump.id == 0) && not (has_dump before dump.id) && nat_lt dump.parent dump.id) (if dump.parent == 0 then list_all is_whole dump.volumes else true) fit in
    let q = and_parts (not (dump.id == 0) && not (has_dump before dump.id)) (nat_lt dump.parent dump.id) p.0 in
    let r = and_parts (not (dump.id == 0)) (not (has_dump before dump.id)) q.0 in
    record { some = r.0; new = r.1; above = q.1; whole = p.1 }

pub fit_from : (dump : DumpRecordFields) (before : List DumpRecordFields) → Fits dump before → fits_record dump before ≡ true
fit_from dump before f =
    and_from (not (dump.id == 0) && not (has_dump before dump.id) && nat_lt dump.parent dump.id) (if dump.parent == 0 then list_all is_whole dump.volumes else true)
    (and_from (not (dump.id == 0) && not (has_dump before dump.id)) (nat_lt dump.parent dump.id) (and_from (not (dump.id == 0)) (not (has_dump before dump.id)) f.some f.new) f.above) f.whole

pub not_true : (t : Bool) → not t ≡ true → t ≡ false
not_true true is = absurd (cc)
not_true false is = refl

-- a record that fits fits behind fewer
fits_fewer : (p : DumpRecordFields → Bool) (before : List DumpRecordFields) (dump : DumpRecordFields) → fits_record dump before ≡ true → fits_record dump (filter p before) ≡ true
fits_fewer p before dump fit =
    let f = fit_parts dump before fit in
    fit_from dump (filter p before) (record { some = f.some; new = ap not (none_filtered (is_dump dump.id) p before (not_true (has_dump before dump.id) f.new)); above = f.above; whole = f.whole })

-- ---- changes

module _ (db : Database) (kept : Kept db) where
  with_these_sets : (r : Result (List VolumeSet) SetsFault) → ((new : List VolumeSet) → r ≡ Ok new → KeptSets new) → Kept (unwrap_or (with_sets db r) db)
  with_these_sets (Ok new) keep = record { sets = keep new refl; levels = kept.levels; hosts = kept.hosts; listed = kept.listed; most = kept.most }
  with_these_sets (Err fault) keep = kept

  with_these_levels : (r : Result (List Level) LevelFault) → ((new : List Level) → r ≡ Ok new → Behind IsNextLevel [] new) → Kept (unwrap_or (with_levels db r) db)
  with_these_levels (Ok new) keep = record { sets = kept.sets; levels = keep new refl; hosts = kept.hosts; listed = kept.listed; most = kept.most }
  with_these_levels (Err fault) keep = kept

  add_entry : (set : List ℕ) (entry : SetEntry) (t : Bool) → is_pattern entry.pattern ≡ t → Kept (unwrap_or (if t then with_sets db (after_add_entry set entry db.sets) else None) db)
  add_entry set entry true is = with_these_sets (after_add_entry set entry db.sets) (λ new left. kept_add_entry db.sets new kept.sets set entry is left)
  add_entry set entry false is = kept

  add_host : (host : HostPort) (t : Bool) → has_port db.hosts host.port ≡ t → Kept (unwrap_or (if t then None else Some (record db { hosts = db.hosts ++ host ∷ [] })) db)
  add_host host true there = kept
  add_host host false free = record { sets = kept.sets; levels = kept.levels; hosts = behind_push IsNextHost [] db.hosts host kept.hosts free; listed = kept.listed; most = kept.most }

  add_record : (dump : DumpRecordFields) (t : Bool) → fits_record dump db.listed ≡ t → Kept (unwrap_or (if t then Some (record db { greatest = max db.greatest dump.id; listed = db.listed ++ dump ∷ [] }) else None) db)
  add_record dump true fit = record {
    sets = kept.sets;
    levels = kept.levels;
    hosts = kept.hosts;
    listed = behind_push IsNextDump [] db.listed dump kept.listed fit;
    most = All-push (λ (d : DumpRecordFields). d.id ≤ max db.greatest dump.id) db.listed dump (All-weaker (λ (d : DumpRecordFields). d.id ≤ db.greatest) (λ (d : DumpRecordFields). d.id ≤ max db.greatest dump.id) (λ d le. omega (arith, le)) db.listed kept.most) (omega arith);
  }
  add_record dump false unfit = kept

  drop_hosts : (is_so : HostPort → Bool) → Kept (record db { hosts = without is_so db.hosts })
  drop_hosts is_so = record {
    sets = kept.sets;
    levels = kept.levels;
    hosts = behind_filter IsNextHost (λ h. not (is_so h)) (λ b h none stays. none_filtered (is_port h.port) (λ x. not (is_so x)) b none) [] db.hosts kept.hosts;
    listed = kept.listed;
    most = kept.most;
  }

  drop_dumps : (is_so : DumpRecordFields → Bool) → Kept (record db { listed = without is_so db.listed })
  drop_dumps is_so = record {
    sets = kept.sets;
    levels = kept.levels;
    hosts = kept.hosts;
    listed = behind_filter IsNextDump (λ d. not (is_so d)) (λ b d fit stays. fits_fewer (λ x. not (is_so x)) b d fit) [] db.listed kept.listed;
    most = All-filter (λ d. not (is_so d)) (λ (d : DumpRecordFields). d.id ≤ db.greatest) db.listed kept.most;
  }

  begun : (id : ℕ) → Kept (record db { greatest = max db.greatest id })
  begun id = record {
    sets = kept.sets;
    levels = kept.levels;
    hosts = kept.hosts;
    listed = kept.listed;
    most = All-weaker (λ (d : DumpRecordFields). d.id ≤ db.greatest) (λ (d : DumpRecordFields). d.id ≤ max db.greatest id) (λ d le. omega (arith, le)) db.listed kept.most;
  }

  pub still_kept : (change : Change) → Kept (after_change change db)
  still_kept (AddSet set) = with_these_sets (after_add_set set db.sets) (λ new left. kept_add db.sets new kept.sets set left)
  still_kept (DelSet set) = with_these_sets (after_remove_set set db.sets) (λ new left. kept_remove db.sets new kept.sets set left)
  still_kept (AddEntry set server partition pattern) = add_entry set (entry_of server partition pattern) (is_pattern pattern) refl
  still_kept (DelEntry set number) = with_these_sets (after_remove_entry set number db.sets) (λ new left. kept_remove_entry db.sets new kept.sets set number left)
  still_kept (AddLevel level expiry) = with_these_levels (after_add_level db.levels level expiry) (λ new left. kept_add_level db.levels new kept.levels level expiry left)
  still_kept (SetExpiry level expiry) = with_these_levels (after_set_level db.levels level expiry) (λ new left. kept_set_level db.levels new kept.levels level expiry left)
  still_kept (DelLevel level) = with_these_levels (after_remove_level db.levels level) (λ new left. kept_remove_level db.levels new kept.levels level left)
  still_kept (AddHost host port) = add_host (record { host = host; port = port }) (has_port db.hosts port) refl
  still_kept (DelHost port) = drop_hosts (is_port port)
  still_kept (Begin id) = begun id
  still_kept (Take initial) = drop_dumps (is_initial initial)
  still_kept (Done1 dump) = add_record dump (fits_record dump db.listed) refl
  still_kept (Found1 dump) = add_record dump (fits_record dump db.listed) refl
  still_kept (Done dump) = add_record dump (fits_record dump db.listed) refl
  still_kept (Forget id) = drop_dumps (is_dump id)
  still_kept (Found dump) = add_record dump (fits_record dump db.listed) refl

kept_from : (log : List Change) (db : Database) → Kept db → Kept (after_from log db)
kept_from [] db kept = kept
kept_from (change ∷ log) db kept = kept_from log (after_change change db) (still_kept db kept change)

pub kept_blank : Kept blank
kept_blank = record { sets = record { once = tt; patterns = All-nil _ }; levels = tt; hosts = tt; listed = tt; most = All-nil _ }

pub kept_after : (log : List Change) → Kept (after log)
kept_after log = kept_from log blank kept_blank
