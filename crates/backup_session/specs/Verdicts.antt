-- WHAT A COMMAND ON THE DATABASE DECIDES. A further command of this kind is one more row.
use Rattle.std.specs.Prelude.{ℕ, List, [], ◌∷◌, ◌++◌, length, map, take, reverse, Bool, ◌&&◌, nat_lt, nat_le, ◌==◌, if◌then◌else◌, Option, Some, None}
use Rattle.std.specs.List.{filter, list_any}
use Rattle.std.specs.Option.{unwrap_or}
use Rattle.bk_text.specs.Blanks.{is_same_text}
use Rattle.bk_text.specs.declared.expiry.Expiry.{Expiry}
use Rattle.volume_sets.specs.declared.sets.SetEntry.{SetEntry}
use Rattle.volume_sets.specs.declared.sets.VolumeSet.{VolumeSet}
use Rattle.volume_sets.specs.Sets.{has_set, entries_of}
use Rattle.dump_levels.specs.Trees.{has_level}
use Rattle.budb_changes.specs.declared.records.DumpRecordFields.{DumpRecordFields}
use Rattle.budb_changes.specs.declared.change.Change.TheVariants.{AddSet, DelSet, AddEntry, DelEntry, AddLevel, SetExpiry, DelLevel, AddHost, DelHost, Forget}
use Rattle.budb_fold.specs.declared.database.HostPort.{HostPort}
use Rattle.budb_fold.specs.declared.database.Database.{Database}
use Rattle.budb_fold.specs.Database.{has_port, has_dump, is_initial}
use Rattle.budb_fold.specs.Lookups.{record_of}
use Rattle.budb.specs.Histories.{descending, ids_of, volume_history}
use Rattle.backup_words.specs.declared.command.DatabaseCommand.{DatabaseCommand}
use Rattle.backup_words.specs.declared.command.DatabaseCommand.TheVariants.{Addvolset, Delvolset, Addvolentry, Delvolentry, Listvolsets, Adddump, Setexp, Deldump, Listdumps, Addhost, Delhost, Listhosts, Checkpoint, Deletedump, Dumpinfo, Volinfo, Dbverify}
use Rattle.backup_replies.specs.declared.refusals.Refusal.TheVariants.{SetExists, NoSuchSet, NoSuchEntry, LevelExists, NoSuchLevel, NoParentLevel, PortTaken, NoSuchPort, NoSuchDump, AppendedDump}
use Rattle.backup_replies.specs.Texts.{refused_word, refused_number, refused_numbers, ok_line}
use Rattle.backup_replies.specs.Hosts.{hosts_lines}
use Rattle.backup_replies.specs.Sets.{set_lines, sets_lines}
use Rattle.backup_replies.specs.Levels.{levels_lines}
use Rattle.backup_replies.specs.Dumps.{whole_dump_lines, dumps_lines, history_lines, deleted_lines}
use Rattle.backup_session.specs.declared.verdict.Verdict.{Verdict}
use Rattle.backup_session.specs.declared.verdict.Verdict.TheVariants.{Refuses, Makes, Shortens, Shows}
use Rattle.backup_session.specs.Verified.{verified_lines}
use Rattle.backup_session.specs.Levels.{first_known, first_unfounded, first_missing}

-- a tape host at this port
abbrev pub is_host_port : List ℕ → ℕ → HostPort → Bool
is_host_port host port there = (there.port == port) && is_same_text there.host host

-- some tape host has this name and this port
abbrev pub has_host_port : List HostPort → List ℕ → ℕ → Bool
has_host_port hosts host port = list_any (is_host_port host port) hosts

-- an entry of the set of a name goes, where the set is there and has one of this number
abbrev pub entry_goes : List ℕ → ℕ → Option (List SetEntry) → Verdict
entry_goes name number None = Refuses (refused_word NoSuchSet name)
entry_goes name number (Some entries) =
    if nat_lt 0 number && nat_le number (length entries) then Makes (DelEntry name number ∷ []) ok_line else Refuses (refused_number NoSuchEntry number)

-- one volume set is told
abbrev pub one_set : List ℕ → Option (List SetEntry) → Verdict
one_set name None = Refuses (refused_word NoSuchSet name)
one_set name (Some entries) = Shows (set_lines (record { name = name; entries = entries }) ++ ok_line)

-- all of them are told, or the one that is asked for
abbrev pub told_sets : List VolumeSet → Option (List ℕ) → Verdict
told_sets sets None = Shows (sets_lines sets)
told_sets sets (Some name) = one_set name (entries_of name sets)

-- Levels are added: 20 over all of the line before 22, and all in one commit.
abbrev pub levels_come : Expiry → List (List ℕ) → Option (List ℕ) → Option (List ℕ) → Verdict
levels_come expiry paths (Some known) unfounded = Refuses (refused_word LevelExists known)
levels_come expiry paths None (Some unfounded) = Refuses (refused_word NoParentLevel unfounded)
levels_come expiry paths None None = Makes (map (λ path. AddLevel path expiry) paths) ok_line

-- levels get another expiration, all in one commit
abbrev pub levels_expire : Expiry → List (List ℕ) → Option (List ℕ) → Verdict
levels_expire expiry paths (Some missing) = Refuses (refused_word NoSuchLevel missing)
levels_expire expiry paths None = Makes (map (λ path. SetExpiry path expiry) paths) ok_line

-- ---- dumps

-- the listed dumps of an initial id, in ascending order
abbrev pub set_ids : List DumpRecordFields → ℕ → List ℕ
set_ids listed initial = reverse (descending (ids_of (filter (is_initial initial) listed)))

-- dumps are forgotten, all in one commit
abbrev pub forgets : List ℕ → Verdict
forgets ids = Makes (map Forget ids) (deleted_lines ids)

-- An initial dump goes with all listed dumps of its dump set. One that was appended to another goes only with it; where that one isn't
-- listed, it goes alone.
abbrev pub set_goes : List DumpRecordFields → ℕ → ℕ → Verdict
set_goes listed id initial =
    if initial == id then forgets (set_ids listed id) else (if has_dump listed initial then Refuses (refused_numbers AppendedDump id initial) else forgets (id ∷ []))

-- what a deletion of this dump forgets; of no such dump, the refusal
abbrev pub dump_goes : List DumpRecordFields → ℕ → Option DumpRecordFields → Verdict
dump_goes listed id None = Refuses (refused_number NoSuchDump id)
dump_goes listed id (Some dump) = set_goes listed id dump.initial

-- one dump is told whole
abbrev pub one_dump : ℕ → Option DumpRecordFields → Verdict
one_dump id None = Refuses (refused_number NoSuchDump id)
one_dump id (Some dump) = Shows (whole_dump_lines dump)

-- the dumps with the greatest ids are told, 10 of them where no number is given, or the one that is asked for
abbrev pub told_dumps : List DumpRecordFields → Option ℕ → Option ℕ → Verdict
told_dumps listed count None = Shows (dumps_lines listed (take (unwrap_or count 10) (descending (ids_of listed))))
told_dumps listed count (Some id) = one_dump id (record_of listed id)

-- ---- the commands

-- WHAT A COMMAND ON THE DATABASE DECIDES, by what it finds: a refusal, a reply, changes with a reply, or a checkpoint.
abbrev pub verdict : Database → DatabaseCommand → Verdict
verdict db (Addhost host port) = if has_port db.hosts port then Refuses (refused_number PortTaken port) else Makes (AddHost host port ∷ []) ok_line
verdict db (Delhost host port) = if has_host_port db.hosts host port then Makes (DelHost port ∷ []) ok_line else Refuses (refused_number NoSuchPort port)
verdict db Listhosts = Shows (hosts_lines db.hosts)
verdict db (Addvolset name) = if has_set name db.sets then Refuses (refused_word SetExists name) else Makes (AddSet name ∷ []) ok_line
verdict db (Delvolset name) = if has_set name db.sets then Makes (DelSet name ∷ []) ok_line else Refuses (refused_word NoSuchSet name)
verdict db (Addvolentry name server partition pattern) =
    if has_set name db.sets then Makes (AddEntry name server partition pattern ∷ []) ok_line else Refuses (refused_word NoSuchSet name)
verdict db (Delvolentry name number) = entry_goes name number (entries_of name db.sets)
verdict db (Listvolsets name) = told_sets db.sets name
verdict db (Adddump paths expiry) = levels_come expiry paths (first_known db.levels [] paths) (first_unfounded db.levels [] paths)
verdict db (Setexp paths expiry) = levels_expire expiry paths (first_missing db.levels paths)
verdict db (Deldump path) = if has_level db.levels path then Makes (DelLevel path ∷ []) ok_line else Refuses (refused_word NoSuchLevel path)
verdict db Listdumps = Shows (levels_lines db.levels)
verdict db (Deletedump id) = dump_goes db.listed id (record_of db.listed id)
verdict db (Dumpinfo count id) = told_dumps db.listed count id
verdict db (Volinfo name) = Shows (history_lines db.listed name (volume_history db.listed name))
verdict db Dbverify = Shows (verified_lines db.listed)
verdict db Checkpoint = Shortens
