-- What a command on the database or a label commits is changes.
use Rattle.std.proofs.Common.{◌≡◌, ℕ, Bool, true, false, List, [], ◌∷◌, length, take, drop, refl, reverse, arith}
use Rattle.std.specs.Prelude.{All, map, nat_lt, nat_le, ◌==◌, ◌&&◌, if◌then◌else◌, Option, Some, None, IfSome}
use Rattle.std.specs.List.{filter, fold, insert, list_any, position_or_len}
use mathlib.Core.List.{reverse_aux}
use Rattle.std.proofs.lemmas.Bool.{and_parts}
use Rattle.std.proofs.lemmas.Bool.Decides.{nat_tests}
use Rattle.std.proofs.lemmas.List.Elements.{All-nil, All-cons, All-head, All-tail, All-append, All-take, All-drop, All-map, All-filter, All-weaker}
use Rattle.bk_text.specs.Blanks.{is_same_text}
use Rattle.bk_text.specs.LevelPaths.{IsLevelPath}
use Rattle.bk_text.specs.declared.expiry.Expiry.{Expiry}
use Rattle.byte_formats.specs.Forms.{IsFour}
use Rattle.volume_sets.specs.declared.sets.SetEntry.{SetEntry}
use Rattle.volume_sets.specs.Sets.{has_set, entries_of}
use Rattle.dump_levels.specs.Trees.{has_level}
use Rattle.plant_core.specs.Records.{Record, block_with, mark, bad}
use Rattle.tape_frames.specs.declared.label.LabelFields.{LabelFields}
use Rattle.tape_frames.specs.declared.frame.Frame.TheVariants.{Label}
use Rattle.tape_frames.specs.Frames.{spelling}
use Rattle.budb_changes.specs.declared.records.DumpRecordFields.{DumpRecordFields}
use Rattle.budb_changes.specs.declared.change.Change.{Change}
use Rattle.budb_changes.specs.declared.change.Change.TheVariants.{AddSet, DelSet, AddEntry, DelEntry, AddLevel, SetExpiry, DelLevel, AddHost, DelHost, Take, Forget}
use Rattle.budb_changes.specs.Forms.{IsExpiry, IsDumpRecord, IsChange, AreChanges}
use Rattle.budb_fold.specs.declared.database.Database.{Database}
use Rattle.budb_fold.specs.Database.{has_port, has_dump, is_initial}
use Rattle.budb_fold.specs.Lookups.{record_of}
use Rattle.budb.specs.Histories.{among_ids, descending, ids_of}
use Rattle.backup_words.specs.declared.command.DatabaseCommand.{DatabaseCommand}
use Rattle.backup_words.specs.declared.command.DatabaseCommand.TheVariants.{Addvolset, Delvolset, Addvolentry, Delvolentry, Listvolsets, Adddump, Setexp, Deldump, Listdumps, Addhost, Delhost, Listhosts, Checkpoint, Deletedump, Dumpinfo, Volinfo, Dbverify}
use Rattle.backup_session.specs.declared.verdict.Verdict.{Verdict}
use Rattle.backup_session.specs.declared.verdict.Verdict.TheVariants.{Refuses, Makes, Shortens, Shows}
use Rattle.backup_session.specs.Levels.{first_known, first_unfounded, first_missing}
use Rattle.backup_session.specs.Verdicts.{has_host_port, entry_goes, one_set, told_sets, levels_come, levels_expire, set_ids, set_goes, dump_goes, one_dump, told_dumps, verdict}
use Rattle.backup_session.specs.Labels.{fields_in, is_label, label_of}
use Rattle.backup_session.specs.Tapes.{taken}
use Rattle.command_forms.specs.Forms.{DatabaseForms}

-- ---- numbers in order

all_inserted : (P : ℕ → Type 0) (xs : List ℕ) (k x : ℕ) → All P xs → P x → All P (insert xs k x)
all_inserted P xs k x all is = All-append P (take k xs) (x ∷ drop k xs) (All-take P k xs all) (All-cons P x (drop k xs) is (All-drop P k xs all))

all_among : (P : ℕ → Type 0) (acc xs : List ℕ) → All P acc → All P xs → All P (fold among_ids acc xs)
all_among P acc [] had all = had
all_among P acc (x ∷ xs) had all =
    all_among P (among_ids acc x) xs (all_inserted P acc (position_or_len (λ there. nat_lt there x) acc) x had (All-head P x xs all)) (All-tail P x xs all)

all_turned : (P : ℕ → Type 0) (xs behind : List ℕ) → All P xs → All P behind → All P (reverse_aux xs behind)
all_turned P [] behind all had = had
all_turned P (x ∷ xs) behind all had = all_turned P xs (x ∷ behind) (All-tail P x xs all) (All-cons P x behind (All-head P x xs all) had)

all_reversed : (P : ℕ → Type 0) (xs : List ℕ) → All P xs → All P (reverse xs)
all_reversed P xs all = all_turned P xs [] all (All-nil P)

all_forgotten : (ids : List ℕ) → All IsFour ids → AreChanges (map Forget ids)
all_forgotten ids all = All-map IsChange Forget ids all

-- ---- verdicts

abbrev pub HasBytes : Verdict → Type 0
HasBytes (Refuses text) = Unit {0}
HasBytes (Makes changes text) = AreChanges changes
HasBytes Shortens = Unit {0}
HasBytes (Shows text) = Unit {0}

chosen : (b : Bool) (u v : Verdict) → HasBytes u → HasBytes v → HasBytes (if b then u else v)
chosen true u v is_u is_v = is_u
chosen false u v is_u is_v = is_v

one : (change : Change) → IsChange change → AreChanges (change ∷ [])
one change is = All-cons IsChange change [] is (All-nil IsChange)

levels_form : (expiry : Expiry) (paths : List (List ℕ)) → All IsLevelPath paths → IsExpiry expiry → (known unfounded : Option (List ℕ)) → HasBytes (levels_come expiry paths known unfounded)
levels_form expiry paths all expires (Some known) unfounded = tt
levels_form expiry paths all expires None (Some unfounded) = tt
levels_form expiry paths all expires None None = All-map IsChange (λ path. AddLevel path expiry) paths (All-weaker IsLevelPath (λ (path : List ℕ). IsChange (AddLevel path expiry)) (λ path is. (is, expires)) paths all)

expires_form : (expiry : Expiry) (paths : List (List ℕ)) → All IsLevelPath paths → IsExpiry expiry → (lacks : Option (List ℕ)) → HasBytes (levels_expire expiry paths lacks)
expires_form expiry paths all expires (Some path) = tt
expires_form expiry paths all expires None = All-map IsChange (λ path. SetExpiry path expiry) paths (All-weaker IsLevelPath (λ (path : List ℕ). IsChange (SetExpiry path expiry)) (λ path is. (is, expires)) paths all)

entry_form : (name : List ℕ) (number : ℕ) (entries : Option (List SetEntry)) → IsChange (DelEntry name number) → HasBytes (entry_goes name number entries)
entry_form name number None form = tt
entry_form name number (Some entries) form = chosen (nat_lt 0 number && nat_le number (length entries)) _ _ (one (DelEntry name number) form) tt

sets_form : (name : Option (List ℕ)) (db : Database) → HasBytes (told_sets db.sets name)
sets_form None db = tt
sets_form (Some name) db = go (entries_of name db.sets)
  where
    go : (entries : Option (List SetEntry)) → HasBytes (one_set name entries)
    go None = tt
    go (Some entries) = tt

module _ (listed : List DumpRecordFields) (all : All IsDumpRecord listed) where
  ids_form : (p : DumpRecordFields → Bool) → All IsFour (descending (ids_of (filter p listed)))
  ids_form p = all_among IsFour [] (ids_of (filter p listed)) (All-nil IsFour)
      (All-map IsFour (λ (dump : DumpRecordFields). dump.id) (filter p listed) (All-weaker IsDumpRecord (λ (dump : DumpRecordFields). IsFour dump.id) (λ dump is. is.id) (filter p listed) (All-filter p IsDumpRecord listed all)))

  goes_form : (id initial : ℕ) → IsFour id → HasBytes (set_goes listed id initial)
  goes_form id initial form = chosen (initial == id) _ _
      (all_forgotten (set_ids listed id) (all_reversed IsFour (descending (ids_of (filter (is_initial id) listed))) (ids_form (is_initial id))))
      (chosen (has_dump listed initial) _ _ tt (all_forgotten (id ∷ []) (All-cons IsFour id [] form (All-nil IsFour))))

  dump_form : (id : ℕ) → IsFour id → (dump : Option DumpRecordFields) → HasBytes (dump_goes listed id dump)
  dump_form id form None = tt
  dump_form id form (Some dump) = goes_form id dump.initial form

  dumps_form : (count id : Option ℕ) → HasBytes (told_dumps listed count id)
  dumps_form count None = tt
  dumps_form count (Some id) = go (record_of listed id)
    where
      go : (dump : Option DumpRecordFields) → HasBytes (one_dump id dump)
      go None = tt
      go (Some dump) = tt

pub verdict_form : (db : Database) → All IsDumpRecord db.listed → (command : DatabaseCommand) → DatabaseForms command → HasBytes (verdict db command)
verdict_form db all (Addhost host port) form = chosen (has_port db.hosts port) _ _ tt (one (AddHost host port) form)
verdict_form db all (Delhost host port) form = chosen (has_host_port db.hosts host port) _ _ (one (DelHost port) form) tt
verdict_form db all Listhosts form = tt
verdict_form db all (Addvolset name) form = chosen (has_set name db.sets) _ _ tt (one (AddSet name) form)
verdict_form db all (Delvolset name) form = chosen (has_set name db.sets) _ _ (one (DelSet name) form) tt
verdict_form db all (Addvolentry name server partition pattern) form = chosen (has_set name db.sets) _ _ (one (AddEntry name server partition pattern) form) tt
verdict_form db all (Delvolentry name number) form = entry_form name number (entries_of name db.sets) form
verdict_form db all (Listvolsets name) form = sets_form name db
verdict_form db all (Adddump paths expiry) form = levels_form expiry paths form.0 form.1 (first_known db.levels [] paths) (first_unfounded db.levels [] paths)
verdict_form db all (Setexp paths expiry) form = expires_form expiry paths form.0 form.1 (first_missing db.levels paths)
verdict_form db all (Deldump path) form = chosen (has_level db.levels path) _ _ (one (DelLevel path) form) tt
verdict_form db all Listdumps form = tt
verdict_form db all (Deletedump id) form = dump_form db.listed all id form (record_of db.listed id)
verdict_form db all (Dumpinfo count id) form = dumps_form db.listed all count id
verdict_form db all (Volinfo name) form = tt
verdict_form db all Dbverify form = tt
verdict_form db all Checkpoint form = tt

-- ---- labels

four_of : (n : ℕ) → nat_le n 4294967295 ≡ true → IsFour n
four_of n is = grind (arith, nat_tests)

pub initial_form : (tape : List Record) → IfSome (label_of tape) (λ a. IsFour a.initial)
initial_form [] = tt
initial_form (mark ∷ records) = tt
initial_form (bad ∷ records) = tt
initial_form (block_with bytes ∷ records) = go (is_label (fields_in bytes)) (is_same_text bytes (spelling (Label (fields_in bytes)))) refl
  where
    go : (b t : Bool) → is_label (fields_in bytes) ≡ b → IfSome (if b && t then Some (fields_in bytes) else None) (λ a. IsFour a.initial)
    go true true is = four_of (fields_in bytes).initial (and_parts (nat_le (fields_in bytes).initial 4294967295) _ is).0
    go true false is = tt
    go false t is = tt

pub taken_form : (listed : List DumpRecordFields) (label : Option LabelFields) → IfSome label (λ a. IsFour a.initial) → AreChanges (taken listed label)
taken_form listed None form = All-nil IsChange
taken_form listed (Some a) form = go (list_any (is_initial a.initial) listed)
  where
    go : (b : Bool) → AreChanges (if b then Take a.initial ∷ [] else [])
    go true = one (Take a.initial) form
    go false = All-nil IsChange
