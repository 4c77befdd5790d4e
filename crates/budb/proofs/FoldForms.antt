-- The database of a log that has bytes: what it holds has the forms of changes, so that the list of a checkpoint has bytes too.
use Rattle.std.proofs.Common.{suc, ℕ, ◌+◌, ◌-◌, List, [], ◌∷◌, ◌++◌, length, take, drop, Bool, true, false, not, arith}
use Rattle.std.specs.Prelude.{All, map, max, nat_lt, nat_le, ◌==◌, ◌&&◌, if◌then◌else◌, Some, None, Result, Ok, Err, IfOk}
use Rattle.std.specs.Option.{unwrap_or}
use Rattle.std.specs.List.{filter, flat_map, remove}
use Rattle.std.proofs.lemmas.List.Elements.{All-nil, All-cons, All-head, All-tail, All-append, All-push, All-take, All-drop, All-map, All-filter, All-weaker}
use Rattle.bk_text.specs.Alphabets.{IsName, IsHost, IsSetName}
use Rattle.bk_text.specs.LevelPaths.{IsLevelPath}
use Rattle.bk_text.specs.declared.expiry.Expiry.{Expiry}
use Rattle.byte_formats.specs.Forms.{IsTwo, IsFour, IsAnyOr}
use Rattle.volume_sets.specs.Testing.{is_pattern}
use Rattle.volume_sets.specs.declared.sets.SetEntry.{SetEntry}
use Rattle.volume_sets.specs.declared.sets.VolumeSet.{VolumeSet}
use Rattle.volume_sets.specs.declared.sets.SetsFault.{SetsFault}
use Rattle.volume_sets.specs.declared.sets.SetsFault.TheVariants.{SetExists, NoSuchSet, NoSuchEntry}
use Rattle.volume_sets.specs.Sets.{has_set, entries_under, with_entries, without_set, after_add as after_add_set, after_remove as after_remove_set, after_add_entry, after_remove_entry}
use Rattle.volume_sets.proofs.EachSet.{all_with, all_without, all_under}
use Rattle.dump_levels.specs.declared.levels.Level.{Level}
use Rattle.dump_levels.specs.declared.levels.LevelFault.{LevelFault}
use Rattle.dump_levels.specs.declared.levels.LevelFault.TheVariants.{LevelExists, NoParentLevel, NoSuchLevel}
use Rattle.dump_levels.specs.Elements.{is_within, path_above}
use Rattle.dump_levels.specs.Trees.{is_level, has_level, has_upper, expiring, after_add as after_add_level, after_set as after_set_level, after_remove as after_remove_level}
use Rattle.budb_changes.specs.declared.records.DumpRecordFields.{DumpRecordFields}
use Rattle.budb_changes.specs.declared.change.Change.{Change}
use Rattle.budb_changes.specs.declared.change.Change.TheVariants.{AddSet, DelSet, AddEntry, DelEntry, AddLevel, SetExpiry, DelLevel, AddHost, DelHost, Begin, Take, Done1, Forget, Found1, Done, Found}
use Rattle.budb_changes.specs.Printable.{IsPatternBytes}
use Rattle.budb_changes.specs.Forms.{IsExpiry, IsDumpRecord, IsChange, AreChanges}
use Rattle.budb_fold.specs.declared.database.HostPort.{HostPort}
use Rattle.budb_fold.specs.declared.database.Database.{Database}
use Rattle.budb_fold.specs.Database.{is_port, has_port, is_dump, is_initial, without, fits_record, entry_of, with_sets, with_levels, after_change, after_from, after, blank}
use Rattle.budb_fold.specs.Checkpoints.{entry_change, set_changes, level_change, host_change, begin_changes, checkpoint}

abbrev pub IsEntryForm : SetEntry → Type 0
IsEntryForm e = IsAnyOr IsHost e.server × IsAnyOr IsName e.partition × IsPatternBytes e.pattern

abbrev pub IsSetForm : VolumeSet → Type 0
IsSetForm s = IsSetName s.name × All IsEntryForm s.entries

abbrev pub IsLevelForm : Level → Type 0
IsLevelForm l = IsLevelPath l.path × IsExpiry l.expiry

abbrev pub IsHostForm : HostPort → Type 0
IsHostForm h = IsHost h.host × IsTwo h.port

pub record HasForms (db : Database) : Type 0 where
  pub sets : All IsSetForm db.sets
  pub levels : All IsLevelForm db.levels
  pub hosts : All IsHostForm db.hosts
  pub greatest : IsFour db.greatest
  pub listed : All IsDumpRecord db.listed

-- ---- sets

all_removed : {X : Type 0} (P : X → Type 0) (xs : List X) (k : ℕ) → All P xs → All P (remove xs k)
all_removed P xs k all = All-append P (take k xs) (drop (suc k) xs) (All-take P k xs all) (All-drop P (suc k) xs all)

entries_form : (name : List ℕ) (sets : List VolumeSet) → All IsSetForm sets → All IsEntryForm (entries_under name sets)
entries_form name sets all = all_under IsSetForm IsEntryForm (λ set form. form.1) name sets all

with_form : (name : List ℕ) (entries : List SetEntry) (sets : List VolumeSet) → All IsSetForm sets → All IsEntryForm entries → All IsSetForm (with_entries name entries sets)
with_form name entries sets all each = all_with IsSetForm name entries sets (λ set form. (form.0, each)) all

module _ (sets : List VolumeSet) (all : All IsSetForm sets) where
  set_added : (name : List ℕ) → IsSetName name → IfOk (after_add_set name sets) (All IsSetForm)
  set_added name form = go (has_set name sets)
    where
      go : (b : Bool) → IfOk (if b then Err SetExists else Ok (sets ++ record { name = name; entries = [] } ∷ [])) (All IsSetForm)
      go true = tt
      go false = All-push IsSetForm sets (record { name = name; entries = [] }) all (form, All-nil IsEntryForm)

  set_removed : (name : List ℕ) → IfOk (after_remove_set name sets) (All IsSetForm)
  set_removed name = go (has_set name sets)
    where
      go : (b : Bool) → IfOk (if b then Ok (without_set name sets) else Err NoSuchSet) (All IsSetForm)
      go true = all_without IsSetForm name sets all
      go false = tt

  entry_added : (name : List ℕ) (entry : SetEntry) → IsEntryForm entry → IfOk (after_add_entry name entry sets) (All IsSetForm)
  entry_added name entry form = go (has_set name sets)
    where
      go : (b : Bool) → IfOk (if b then Ok (with_entries name (entries_under name sets ++ entry ∷ []) sets) else Err NoSuchSet) (All IsSetForm)
      go true = with_form name (entries_under name sets ++ entry ∷ []) sets all (All-push IsEntryForm (entries_under name sets) entry (entries_form name sets all) form)
      go false = tt

  entry_removed : (name : List ℕ) (number : ℕ) → IfOk (after_remove_entry name number sets) (All IsSetForm)
  entry_removed name number = go (has_set name sets) (nat_lt 0 number && nat_le number (length (entries_under name sets)))
    where
      go : (b t : Bool) → IfOk (if b then (if t then Ok (with_entries name (remove (entries_under name sets) (number - 1)) sets) else Err NoSuchEntry) else Err NoSuchSet) (All IsSetForm)
      go true true = with_form name (remove (entries_under name sets) (number - 1)) sets all (all_removed IsEntryForm (entries_under name sets) (number - 1) (entries_form name sets all))
      go true false = tt
      go false t = tt

-- ---- levels

module _ (levels : List Level) (all : All IsLevelForm levels) where
  level_added : (path : List ℕ) (expiry : Expiry) → IsLevelPath path → IsExpiry expiry → IfOk (after_add_level levels path expiry) (All IsLevelForm)
  level_added path expiry form expires = go (has_level levels path) (has_upper levels (path_above path))
    where
      go : (b t : Bool) → IfOk (if b then Err LevelExists else (if t then Ok (levels ++ record { path = path; expiry = expiry } ∷ []) else Err NoParentLevel)) (All IsLevelForm)
      go true t = tt
      go false true = All-push IsLevelForm levels (record { path = path; expiry = expiry }) all (form, expires)
      go false false = tt

  expiring_form : (path : List ℕ) (expiry : Expiry) → IsExpiry expiry → (level : Level) → IsLevelForm level → IsLevelForm (expiring path expiry level)
  expiring_form path expiry expires level form = go (is_level path level)
    where
      go : (b : Bool) → IsLevelForm (if b then record { path = level.path; expiry = expiry } else level)
      go true = (form.0, expires)
      go false = form

  level_set : (path : List ℕ) (expiry : Expiry) → IsExpiry expiry → IfOk (after_set_level levels path expiry) (All IsLevelForm)
  level_set path expiry expires = go (has_level levels path)
    where
      go : (b : Bool) → IfOk (if b then Ok (map (expiring path expiry) levels) else Err NoSuchLevel) (All IsLevelForm)
      go true = All-map IsLevelForm (expiring path expiry) levels (All-weaker IsLevelForm (λ (l : Level). IsLevelForm (expiring path expiry l)) (expiring_form path expiry expires) levels all)
      go false = tt

  level_removed : (path : List ℕ) → IfOk (after_remove_level levels path) (All IsLevelForm)
  level_removed path = go (has_level levels path)
    where
      go : (b : Bool) → IfOk (if b then Ok (filter (λ level. not (is_within path level.path)) levels) else Err NoSuchLevel) (All IsLevelForm)
      go true = All-filter (λ level. not (is_within path level.path)) IsLevelForm levels all
      go false = tt

-- ---- changes

module _ (db : Database) (forms : HasForms db) where
  with_these_sets : (r : Result (List VolumeSet) SetsFault) → IfOk r (All IsSetForm) → HasForms (unwrap_or (with_sets db r) db)
  with_these_sets (Ok new) all = record { sets = all; levels = forms.levels; hosts = forms.hosts; greatest = forms.greatest; listed = forms.listed }
  with_these_sets (Err fault) all = forms

  with_these_levels : (r : Result (List Level) LevelFault) → IfOk r (All IsLevelForm) → HasForms (unwrap_or (with_levels db r) db)
  with_these_levels (Ok new) all = record { sets = forms.sets; levels = all; hosts = forms.hosts; greatest = forms.greatest; listed = forms.listed }
  with_these_levels (Err fault) all = forms

  add_entry : (set : List ℕ) (entry : SetEntry) → IsEntryForm entry → (t : Bool) → HasForms (unwrap_or (if t then with_sets db (after_add_entry set entry db.sets) else None) db)
  add_entry set entry form true = with_these_sets (after_add_entry set entry db.sets) (entry_added db.sets forms.sets set entry form)
  add_entry set entry form false = forms

  add_host : (host : HostPort) → IsHostForm host → (t : Bool) → HasForms (unwrap_or (if t then None else Some (record db { hosts = db.hosts ++ host ∷ [] })) db)
  add_host host form true = forms
  add_host host form false = record { sets = forms.sets; levels = forms.levels; hosts = All-push IsHostForm db.hosts host forms.hosts form; greatest = forms.greatest; listed = forms.listed }

  add_record : (dump : DumpRecordFields) → IsDumpRecord dump → (t : Bool) → HasForms (unwrap_or (if t then Some (record db { greatest = max db.greatest dump.id; listed = db.listed ++ dump ∷ [] }) else None) db)
  add_record dump form true = record { sets = forms.sets; levels = forms.levels; hosts = forms.hosts; greatest = omega (arith, forms.greatest, form.id); listed = All-push IsDumpRecord db.listed dump forms.listed form }
  add_record dump form false = forms

  drop_dumps : (is_so : DumpRecordFields → Bool) → HasForms (record db { listed = without is_so db.listed })
  drop_dumps is_so = record { sets = forms.sets; levels = forms.levels; hosts = forms.hosts; greatest = forms.greatest; listed = All-filter (λ d. not (is_so d)) IsDumpRecord db.listed forms.listed }

  pub still_forms : (change : Change) → IsChange change → HasForms (after_change change db)
  still_forms (AddSet set) form = with_these_sets (after_add_set set db.sets) (set_added db.sets forms.sets set form)
  still_forms (DelSet set) form = with_these_sets (after_remove_set set db.sets) (set_removed db.sets forms.sets set)
  still_forms (AddEntry set server partition pattern) form = add_entry set (entry_of server partition pattern) (form.1, form.2, form.3) (is_pattern pattern)
  still_forms (DelEntry set number) form = with_these_sets (after_remove_entry set number db.sets) (entry_removed db.sets forms.sets set number)
  still_forms (AddLevel level expiry) form = with_these_levels (after_add_level db.levels level expiry) (level_added db.levels forms.levels level expiry form.0 form.1)
  still_forms (SetExpiry level expiry) form = with_these_levels (after_set_level db.levels level expiry) (level_set db.levels forms.levels level expiry form.1)
  still_forms (DelLevel level) form = with_these_levels (after_remove_level db.levels level) (level_removed db.levels forms.levels level)
  still_forms (AddHost host port) form = add_host (record { host = host; port = port }) (form.0, form.1) (has_port db.hosts port)
  still_forms (DelHost port) form = record { sets = forms.sets; levels = forms.levels; hosts = All-filter (λ h. not (is_port port h)) IsHostForm db.hosts forms.hosts; greatest = forms.greatest; listed = forms.listed }
  still_forms (Begin id) form = record { sets = forms.sets; levels = forms.levels; hosts = forms.hosts; greatest = omega (arith, forms.greatest, form); listed = forms.listed }
  still_forms (Take initial) form = drop_dumps (is_initial initial)
  still_forms (Done1 dump) form = add_record dump form.0 (fits_record dump db.listed)
  still_forms (Found1 dump) form = add_record dump form.0 (fits_record dump db.listed)
  still_forms (Done dump) form = add_record dump form (fits_record dump db.listed)
  still_forms (Forget id) form = drop_dumps (is_dump id)
  still_forms (Found dump) form = add_record dump form (fits_record dump db.listed)

forms_from : (log : List Change) (db : Database) → HasForms db → AreChanges log → HasForms (after_from log db)
forms_from [] db forms all = forms
forms_from (change ∷ log) db forms all = forms_from log (after_change change db) (still_forms db forms change (All-head IsChange change log all)) (All-tail IsChange change log all)

pub forms_after : (log : List Change) → AreChanges log → HasForms (after log)
forms_after log all = forms_from log blank (record { sets = All-nil IsSetForm; levels = All-nil IsLevelForm; hosts = All-nil IsHostForm; greatest = omega arith; listed = All-nil IsDumpRecord }) all

-- ---- the list of a checkpoint

sets_changes : (sets : List VolumeSet) → All IsSetForm sets → AreChanges (flat_map set_changes sets)
sets_changes [] all = All-nil IsChange
sets_changes (s ∷ sets) all =
    let form = All-head IsSetForm s sets all in
    All-append IsChange (set_changes s) (flat_map set_changes sets)
    (All-cons IsChange (AddSet s.name) (map (entry_change s.name) s.entries) form.0
    (All-map IsChange (entry_change s.name) s.entries (All-weaker IsEntryForm (λ (e : SetEntry). IsChange (entry_change s.name e)) (λ e is. (form.0, is.0, is.1, is.2)) s.entries form.1)))
    (sets_changes sets (All-tail IsSetForm s sets all))

begin_form : (greatest : ℕ) → IsFour greatest → AreChanges (begin_changes greatest)
begin_form greatest form = go (greatest == 0)
  where
    go : (b : Bool) → AreChanges (if b then [] else Begin greatest ∷ [])
    go true = All-nil IsChange
    go false = All-cons IsChange (Begin greatest) [] form (All-nil IsChange)

pub checkpoint_form : (db : Database) → HasForms db → AreChanges (checkpoint db)
checkpoint_form db forms =
    All-append IsChange (flat_map set_changes db.sets) (map level_change db.levels ++ (map host_change db.hosts ++ (begin_changes db.greatest ++ map Found db.listed))) (sets_changes db.sets forms.sets)
    (All-append IsChange (map level_change db.levels) (map host_change db.hosts ++ (begin_changes db.greatest ++ map Found db.listed)) (All-map IsChange level_change db.levels forms.levels)
    (All-append IsChange (map host_change db.hosts) (begin_changes db.greatest ++ map Found db.listed) (All-map IsChange host_change db.hosts forms.hosts)
    (All-append IsChange (begin_changes db.greatest) (map Found db.listed) (begin_form db.greatest forms.greatest) (All-map IsChange Found db.listed forms.listed))))
