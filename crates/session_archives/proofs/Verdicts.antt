-- What a command on the database commits touches no dump, or forgets dumps.
use Rattle.std.proofs.Common.{◌≡◌, ◌⊎◌, inl, inr, ℕ, Bool, true, false, List, [], ◌∷◌, length, refl}
use Rattle.std.specs.Prelude.{map, nat_lt, nat_le, ◌==◌, ◌&&◌, if◌then◌else◌, Option, Some, None}
use Rattle.bk_text.specs.declared.expiry.Expiry.{Expiry}
use Rattle.volume_sets.specs.declared.sets.SetEntry.{SetEntry}
use Rattle.volume_sets.specs.Sets.{has_set, entries_of}
use Rattle.dump_levels.specs.Trees.{has_level}
use Rattle.budb_changes.specs.declared.records.DumpRecordFields.{DumpRecordFields}
use Rattle.budb_changes.specs.declared.change.Change.{Change}
use Rattle.budb_changes.specs.declared.change.Change.TheVariants.{AddLevel, SetExpiry, Forget}
use Rattle.budb_fold.specs.declared.database.Database.{Database}
use Rattle.budb_fold.specs.Database.{has_port, has_dump}
use Rattle.budb_fold.specs.Lookups.{record_of}
use Rattle.archive_model.specs.Turns.{AllUntouched}
use Rattle.backup_words.specs.declared.command.DatabaseCommand.{DatabaseCommand}
use Rattle.backup_words.specs.declared.command.DatabaseCommand.TheVariants.{Addvolset, Delvolset, Addvolentry, Delvolentry, Listvolsets, Adddump, Setexp, Deldump, Listdumps, Addhost, Delhost, Listhosts, Checkpoint, Deletedump, Dumpinfo, Volinfo, Dbverify}
use Rattle.backup_session.specs.declared.verdict.Verdict.{Verdict}
use Rattle.backup_session.specs.declared.verdict.Verdict.TheVariants.{Refuses, Makes, Shortens, Shows}
use Rattle.backup_session.specs.Levels.{first_known, first_unfounded, first_missing}
use Rattle.backup_session.specs.Verdicts.{has_host_port, entry_goes, one_set, told_sets, levels_come, levels_expire, set_ids, set_goes, dump_goes, one_dump, told_dumps, verdict}

-- changes that touch no dump, or that forget dumps alone
abbrev pub AreMild : List Change → Type 0
AreMild changes = AllUntouched changes ⊎ ((ids : List ℕ) × (changes ≡ map Forget ids))

abbrev pub IsMild : Verdict → Type 0
IsMild (Refuses text) = Unit {0}
IsMild (Makes changes text) = AreMild changes
IsMild Shortens = Unit {0}
IsMild (Shows text) = Unit {0}

chosen : (b : Bool) (u v : Verdict) → IsMild u → IsMild v → IsMild (if b then u else v)
chosen true u v is_u is_v = is_u
chosen false u v is_u is_v = is_v

levels_added : (expiry : Expiry) (paths : List (List ℕ)) → AllUntouched (map (λ path. AddLevel path expiry) paths)
levels_added expiry [] = tt
levels_added expiry (path ∷ paths) = (tt, levels_added expiry paths)

levels_set : (expiry : Expiry) (paths : List (List ℕ)) → AllUntouched (map (λ path. SetExpiry path expiry) paths)
levels_set expiry [] = tt
levels_set expiry (path ∷ paths) = (tt, levels_set expiry paths)

levels_mild : (expiry : Expiry) (paths : List (List ℕ)) (known unfounded : Option (List ℕ)) → IsMild (levels_come expiry paths known unfounded)
levels_mild expiry paths (Some known) unfounded = tt
levels_mild expiry paths None (Some unfounded) = tt
levels_mild expiry paths None None = inl (levels_added expiry paths)

expires_mild : (expiry : Expiry) (paths : List (List ℕ)) (lacks : Option (List ℕ)) → IsMild (levels_expire expiry paths lacks)
expires_mild expiry paths (Some path) = tt
expires_mild expiry paths None = inl (levels_set expiry paths)

entry_mild : (name : List ℕ) (number : ℕ) (entries : Option (List SetEntry)) → IsMild (entry_goes name number entries)
entry_mild name number None = tt
entry_mild name number (Some entries) = chosen (nat_lt 0 number && nat_le number (length entries)) _ _ (inl (tt, tt)) tt

set_mild : (name : List ℕ) (entries : Option (List SetEntry)) → IsMild (one_set name entries)
set_mild name None = tt
set_mild name (Some entries) = tt

sets_mild : (name : Option (List ℕ)) (db : Database) → IsMild (told_sets db.sets name)
sets_mild None db = tt
sets_mild (Some name) db = set_mild name (entries_of name db.sets)

goes_mild : (listed : List DumpRecordFields) (id initial : ℕ) → IsMild (set_goes listed id initial)
goes_mild listed id initial = chosen (initial == id) _ _ (inr (set_ids listed id, refl)) (chosen (has_dump listed initial) _ _ tt (inr (id ∷ [], refl)))

dump_mild : (listed : List DumpRecordFields) (id : ℕ) (dump : Option DumpRecordFields) → IsMild (dump_goes listed id dump)
dump_mild listed id None = tt
dump_mild listed id (Some dump) = goes_mild listed id dump.initial

one_mild : (id : ℕ) (dump : Option DumpRecordFields) → IsMild (one_dump id dump)
one_mild id None = tt
one_mild id (Some dump) = tt

dumps_mild : (listed : List DumpRecordFields) (count id : Option ℕ) → IsMild (told_dumps listed count id)
dumps_mild listed count None = tt
dumps_mild listed count (Some id) = one_mild id (record_of listed id)

pub verdict_mild : (db : Database) (command : DatabaseCommand) → IsMild (verdict db command)
verdict_mild db (Addhost host port) = chosen (has_port db.hosts port) _ _ tt (inl (tt, tt))
verdict_mild db (Delhost host port) = chosen (has_host_port db.hosts host port) _ _ (inl (tt, tt)) tt
verdict_mild db Listhosts = tt
verdict_mild db (Addvolset name) = chosen (has_set name db.sets) _ _ tt (inl (tt, tt))
verdict_mild db (Delvolset name) = chosen (has_set name db.sets) _ _ (inl (tt, tt)) tt
verdict_mild db (Addvolentry name server partition pattern) = chosen (has_set name db.sets) _ _ (inl (tt, tt)) tt
verdict_mild db (Delvolentry name number) = entry_mild name number (entries_of name db.sets)
verdict_mild db (Listvolsets name) = sets_mild name db
verdict_mild db (Adddump paths expiry) = levels_mild expiry paths (first_known db.levels [] paths) (first_unfounded db.levels [] paths)
verdict_mild db (Setexp paths expiry) = expires_mild expiry paths (first_missing db.levels paths)
verdict_mild db (Deldump path) = chosen (has_level db.levels path) _ _ (inl (tt, tt)) tt
verdict_mild db Listdumps = tt
verdict_mild db (Deletedump id) = dump_mild db.listed id (record_of db.listed id)
verdict_mild db (Dumpinfo count id) = dumps_mild db.listed count id
verdict_mild db (Volinfo name) = tt
verdict_mild db Dbverify = tt
verdict_mild db Checkpoint = tt
