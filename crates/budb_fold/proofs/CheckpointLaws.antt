-- The changes of a checkpoint make the same database.
use Rattle.std.proofs.Common.{suc, ◌≡◌, ℕ, ◌+◌, ◌≤◌, List, [], ◌∷◌, ◌++◌, length, Bool, true, false, not, refl, sym, ◌∙◌, ap, arith, append_assoc, Option, is_some}
use Rattle.std.specs.Prelude.{All, map, max, ◌==◌, ◌||◌, if◌then◌else◌, Some, None, Result, Ok, Err}
use Rattle.std.specs.List.{list_any, flat_map}
use Rattle.std.specs.Option.{unwrap_or}
use Rattle.std.proofs.lemmas.Bool.{or_parts, eqb-true}
use Rattle.std.proofs.lemmas.List.{append-nil}
use Rattle.std.proofs.lemmas.List.Elements.{All-head, All-tail}
use Rattle.std.proofs.lemmas.Cmp.{nat_list_eq_equiv}
use Rattle.bk_text.specs.Blanks.{is_same_text}
use Rattle.volume_sets.specs.Testing.{is_pattern}
use Rattle.volume_sets.specs.declared.sets.SetEntry.{SetEntry}
use Rattle.volume_sets.specs.declared.sets.VolumeSet.{VolumeSet}
use Rattle.volume_sets.specs.declared.sets.SetsFault.{SetsFault}
use Rattle.volume_sets.specs.declared.sets.SetsFault.TheVariants.{SetExists, NoSuchSet}
use Rattle.volume_sets.specs.Sets.{entries_of, with_entries, after_add_entry}
use Rattle.volume_sets.proofs.EachSet.{with_first, with_behind}
use Rattle.dump_levels.specs.declared.levels.Level.{Level}
use Rattle.dump_levels.specs.declared.levels.LevelFault.TheVariants.{LevelExists, NoParentLevel}
use Rattle.dump_levels.specs.Elements.{path_above}
use Rattle.dump_levels.specs.Trees.{has_upper}
use Rattle.budb_changes.specs.declared.records.DumpRecordFields.{DumpRecordFields}
use Rattle.budb_changes.specs.declared.change.Change.{Change}
use Rattle.budb_changes.specs.declared.change.Change.TheVariants.{AddSet, Begin, Found}
use Rattle.budb_fold.specs.declared.database.HostPort.{HostPort}
use Rattle.budb_fold.specs.declared.database.Database.{Database}
use Rattle.budb_fold.specs.Database.{has_port, fits_record, with_sets, with_levels, after_change, after_from, after, blank}
use Rattle.budb_fold.specs.Checkpoints.{entry_change, set_changes, level_change, host_change, begin_changes, checkpoint}
use Rattle.budb_fold.proofs.Folds.{fold_more}
use Rattle.budb_fold.proofs.Behind.{Behind}
use Rattle.budb_fold.proofs.SetKeeps.{is_named, IsNextSet, HasPatternEntry, HasPatternEntries, has_set_any}
use Rattle.budb_fold.proofs.LevelKeeps.{IsNextLevel}
use Rattle.budb_fold.proofs.FoldKeeps.{Kept, IsNextHost, IsNextDump}

-- what a call leaves
abbrev left : List VolumeSet → Result (List VolumeSet) SetsFault
left sets = Ok sets

-- ---- entries of the set that stands last

module _ (s : VolumeSet) where
  own_name : is_same_text s.name s.name ≡ true
  own_name = nat_list_eq_equiv.refl s.name

  -- a set before it has another name
  apart : (b : VolumeSet) → is_named s.name b ≡ false → is_same_text s.name b.name ≡ false
  apart b other = nat_list_eq_equiv.symm s.name b.name ∙ other

  last_entries : (before : List VolumeSet) → list_any (is_named s.name) before ≡ false → entries_of s.name (before ++ s ∷ []) ≡ Some s.entries
  last_entries [] none = ap (λ (t : Bool). if t then Some s.entries else None) own_name
  last_entries (b ∷ before) none =
      let parts = or_parts (is_named s.name b) (list_any (is_named s.name) before) none in
      ap (λ (t : Bool). if t then Some b.entries else entries_of s.name (before ++ s ∷ [])) (apart b parts.0) ∙ last_entries before parts.1

  last_with : (before : List VolumeSet) (entries : List SetEntry) → list_any (is_named s.name) before ≡ false → with_entries s.name entries (before ++ s ∷ []) ≡ before ++ record { name = s.name; entries = entries } ∷ []
  last_with [] entries none = with_first s.name entries s [] own_name
  last_with (b ∷ before) entries none =
      let parts = or_parts (is_named s.name b) (list_any (is_named s.name) before) none in
      with_behind s.name entries b (before ++ s ∷ []) (apart b parts.0) ∙ ap (λ (l : List VolumeSet). b ∷ l) (last_with before entries parts.1)

  one_entry : (before : List VolumeSet) (entry : SetEntry) → list_any (is_named s.name) before ≡ false → after_add_entry s.name entry (before ++ s ∷ []) ≡ Ok (before ++ record { name = s.name; entries = s.entries ++ entry ∷ [] } ∷ [])
  one_entry before entry none =
      ap (λ (o : Option (List SetEntry)). if is_some o then left (with_entries s.name (unwrap_or o [] ++ entry ∷ []) (before ++ s ∷ [])) else Err NoSuchSet) (last_entries before none)
      ∙ ap left (last_with before (s.entries ++ entry ∷ []) none)

abbrev with_set : Database → List VolumeSet → List ℕ → List SetEntry → Database
with_set db before name entries = record db { sets = before ++ record { name = name; entries = entries } ∷ [] }

entry_added : (db : Database) (before : List VolumeSet) (name : List ℕ) (entries : List SetEntry) (entry : SetEntry) → list_any (is_named name) before ≡ false → is_pattern entry.pattern ≡ true → after_change (entry_change name entry) (with_set db before name entries) ≡ with_set db before name (entries ++ entry ∷ [])
entry_added db before name entries entry none pattern =
    let s : VolumeSet = record { name = name; entries = entries } in
    let old : Database = with_set db before name entries in
    ap (λ (t : Bool). unwrap_or (if t then with_sets (with_set db before name entries) (after_add_entry name entry (before ++ record { name = name; entries = entries } ∷ [])) else None) (with_set db before name entries)) pattern
    ∙ ap (λ (r : Result (List VolumeSet) SetsFault). unwrap_or (with_sets (with_set db before name entries) r) (with_set db before name entries)) (one_entry s before entry none)

entries_added : (db : Database) (before : List VolumeSet) (name : List ℕ) (entries more : List SetEntry) → list_any (is_named name) before ≡ false → All HasPatternEntry more → after_from (map (entry_change name) more) (with_set db before name entries) ≡ with_set db before name (entries ++ more)
entries_added db before name entries [] none all = ap (with_set db before name) (sym (append-nil entries))
entries_added db before name entries (e ∷ more) none all =
    ap (after_from (map (entry_change name) more)) (entry_added db before name entries e none (All-head HasPatternEntry e more all))
    ∙ entries_added db before name (entries ++ e ∷ []) more none (All-tail HasPatternEntry e more all) ∙ ap (with_set db before name) (append_assoc entries (e ∷ []) more)

-- ---- each kind of change

set_added : (db : Database) (before : List VolumeSet) (name : List ℕ) → list_any (is_named name) before ≡ false → after_change (AddSet name) (record db { sets = before }) ≡ with_set db before name []
set_added db before name none =
    ap (λ (t : Bool). unwrap_or (with_sets (record db { sets = before }) (if t then Err SetExists else Ok (before ++ record { name = name; entries = [] } ∷ []))) (record db { sets = before })) (has_set_any name before ∙ none)

sets_added : (db : Database) (before sets : List VolumeSet) → Behind IsNextSet before sets → All HasPatternEntries sets → after_from (flat_map set_changes sets) (record db { sets = before }) ≡ record db { sets = before ++ sets }
sets_added db before [] once all = ap (λ (l : List VolumeSet). record db { sets = l }) (sym (append-nil before))
sets_added db before (s ∷ sets) once all =
    ap (after_from (map (entry_change s.name) s.entries ++ flat_map set_changes sets)) (set_added db before s.name once.0)
    ∙ fold_more (map (entry_change s.name) s.entries) (flat_map set_changes sets) (with_set db before s.name [])
    ∙ ap (after_from (flat_map set_changes sets)) (entries_added db before s.name [] s.entries once.0 (All-head HasPatternEntries s sets all))
    ∙ sets_added db (before ++ s ∷ []) sets once.1 (All-tail HasPatternEntries s sets all) ∙ ap (λ (l : List VolumeSet). record db { sets = l }) (append_assoc before (s ∷ []) sets)

level_added : (db : Database) (before : List Level) (level : Level) → IsNextLevel before level → after_change (level_change level) (record db { levels = before }) ≡ record db { levels = before ++ level ∷ [] }
level_added db before level next =
    ap (λ (t : Bool). unwrap_or (with_levels (record db { levels = before }) (if t then Err LevelExists else if has_upper before (path_above level.path) then Ok (before ++ level ∷ []) else Err NoParentLevel)) (record db { levels = before })) next.new
    ∙ ap (λ (t : Bool). unwrap_or (with_levels (record db { levels = before }) (if t then Ok (before ++ level ∷ []) else Err NoParentLevel)) (record db { levels = before })) next.upper

levels_added : (db : Database) (before levels : List Level) → Behind IsNextLevel before levels → after_from (map level_change levels) (record db { levels = before }) ≡ record db { levels = before ++ levels }
levels_added db before [] all = ap (λ (l : List Level). record db { levels = l }) (sym (append-nil before))
levels_added db before (l ∷ levels) all =
    ap (after_from (map level_change levels)) (level_added db before l all.0) ∙ levels_added db (before ++ l ∷ []) levels all.1 ∙ ap (λ (ls : List Level). record db { levels = ls }) (append_assoc before (l ∷ []) levels)

host_added : (db : Database) (before : List HostPort) (host : HostPort) → has_port before host.port ≡ false → after_change (host_change host) (record db { hosts = before }) ≡ record db { hosts = before ++ host ∷ [] }
host_added db before host free =
    ap (λ (t : Bool). unwrap_or (if t then None else Some (record db { hosts = before ++ host ∷ [] })) (record db { hosts = before })) free

hosts_added : (db : Database) (before hosts : List HostPort) → Behind IsNextHost before hosts → after_from (map host_change hosts) (record db { hosts = before }) ≡ record db { hosts = before ++ hosts }
hosts_added db before [] all = ap (λ (l : List HostPort). record db { hosts = l }) (sym (append-nil before))
hosts_added db before (h ∷ hosts) all =
    ap (after_from (map host_change hosts)) (host_added db before h all.0) ∙ hosts_added db (before ++ h ∷ []) hosts all.1 ∙ ap (λ (l : List HostPort). record db { hosts = l }) (append_assoc before (h ∷ []) hosts)

greatest_begun : (db : Database) (greatest : ℕ) → after_from (begin_changes greatest) (record db { greatest = 0 }) ≡ record db { greatest = greatest }
greatest_begun db greatest = go (greatest == 0) refl
  where
    go : (t : Bool) → (greatest == 0) ≡ t → after_from (if t then [] else Begin greatest ∷ []) (record db { greatest = 0 }) ≡ record db { greatest = greatest }
    go true is = ap (λ (n : ℕ). record db { greatest = n }) (sym (eqb-true greatest 0 is))
    go false is = ap (λ (n : ℕ). record db { greatest = n }) (let same : max 0 greatest ≡ greatest = omega arith in same)

dump_found : (db : Database) (before : List DumpRecordFields) (dump : DumpRecordFields) → fits_record dump before ≡ true → dump.id ≤ db.greatest → after_change (Found dump) (record db { listed = before }) ≡ record db { listed = before ++ dump ∷ [] }
dump_found db before dump fit most =
    let same : max db.greatest dump.id ≡ db.greatest = omega (arith, most) in
    ap (λ (t : Bool). unwrap_or (if t then Some (record db { greatest = max db.greatest dump.id; listed = before ++ dump ∷ [] }) else None) (record db { listed = before })) fit
    ∙ ap (λ (n : ℕ). record db { greatest = n; listed = before ++ dump ∷ [] }) same

dumps_found : (db : Database) (before dumps : List DumpRecordFields) → Behind IsNextDump before dumps → All (λ dump. dump.id ≤ db.greatest) dumps → after_from (map Found dumps) (record db { listed = before }) ≡ record db { listed = before ++ dumps }
dumps_found db before [] all most = ap (λ (l : List DumpRecordFields). record db { listed = l }) (sym (append-nil before))
dumps_found db before (d ∷ dumps) all most =
    ap (after_from (map Found dumps)) (dump_found db before d all.0 (All-head (λ (x : DumpRecordFields). x.id ≤ db.greatest) d dumps most))
    ∙ dumps_found db (before ++ d ∷ []) dumps all.1 (All-tail (λ (x : DumpRecordFields). x.id ≤ db.greatest) d dumps most) ∙ ap (λ (l : List DumpRecordFields). record db { listed = l }) (append_assoc before (d ∷ []) dumps)

-- ---- all of them

pub checkpoint_folds : (db : Database) → Kept db → after (checkpoint db) ≡ db
checkpoint_folds db kept =
    let dumps : List Change = map Found db.listed in
    let begins : List Change = begin_changes db.greatest ++ map Found db.listed in
    let hosts : List Change = map host_change db.hosts ++ (begin_changes db.greatest ++ map Found db.listed) in
    let levels : List Change = map level_change db.levels ++ (map host_change db.hosts ++ (begin_changes db.greatest ++ map Found db.listed)) in
    fold_more (flat_map set_changes db.sets) levels blank
    ∙ ap (after_from levels) (sets_added blank [] db.sets kept.sets.once kept.sets.patterns)
    ∙ fold_more (map level_change db.levels) hosts (record blank { sets = db.sets })
    ∙ ap (after_from hosts) (levels_added (record blank { sets = db.sets }) [] db.levels kept.levels)
    ∙ fold_more (map host_change db.hosts) begins (record blank { sets = db.sets; levels = db.levels })
    ∙ ap (after_from begins) (hosts_added (record blank { sets = db.sets; levels = db.levels }) [] db.hosts kept.hosts)
    ∙ fold_more (begin_changes db.greatest) dumps (record blank { sets = db.sets; levels = db.levels; hosts = db.hosts })
    ∙ ap (after_from dumps) (greatest_begun (record blank { sets = db.sets; levels = db.levels; hosts = db.hosts }) db.greatest)
    ∙ dumps_found (record blank { sets = db.sets; levels = db.levels; hosts = db.hosts; greatest = db.greatest }) [] db.listed kept.listed kept.most
