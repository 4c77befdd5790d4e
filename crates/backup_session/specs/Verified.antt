-- WHAT IS TOLD OF A DATABASE THAT IS VERIFIED.
use Rattle.std.specs.Prelude.{ℕ, ◌+◌, List, [], ◌++◌, length, not, if◌then◌else◌}
use Rattle.std.specs.List.{filter, flat_map}
use Rattle.budb_changes.specs.declared.records.DumpRecordFields.{DumpRecordFields}
use Rattle.budb_save.specs.declared.verifying.Group.{Group}
use Rattle.budb_save.specs.declared.verifying.Broken.{Broken}
use Rattle.budb_save.specs.Verifying.{groups_in, broken_in}
use Rattle.backup_replies.specs.Texts.{ok_line}
use Rattle.backup_replies.specs.Saves.{dumpset_line, lost_line, broken_line, verified_line}

-- a dump set, and that its initial dump is lost where that isn't listed
abbrev pub group_lines : Group → List ℕ
group_lines g = dumpset_line g.initial g.dumps ++ (if g.listed then [] else lost_line g.initial)

-- a volume of a dump whose chain stops
abbrev pub broken_lines : Broken → List ℕ
broken_lines b = broken_line b.id b.volume b.at

-- how many initial dumps are lost
abbrev pub lost_count : List Group → ℕ
lost_count groups = length (filter (λ g. not g.listed) groups)

-- the lines of these groups and broken chains, and their count
abbrev pub told_verified : List DumpRecordFields → List Group → List Broken → List ℕ
told_verified listed groups broken =
    flat_map group_lines groups ++ (flat_map broken_lines broken ++ (verified_line (length listed) (lost_count groups + length broken) ++ ok_line))

-- what `dbverify` tells of the listed dumps
abbrev pub verified_lines : List DumpRecordFields → List ℕ
verified_lines listed = told_verified listed (groups_in listed) (broken_in listed)
