-- The names of a rehearsal.
use Rattle.std.specs.Prelude.{ℕ, List, ◌∷◌, ◌++◌, codes}
use Rattle.std.specs.Fmt.{decimal}
use Rattle.std.specs.List.{range_with_len}

-- the tape host, and the server and the partition of all volumes
abbrev pub tape_host : List ℕ
tape_host = codes "th"

-- the server on which all volumes lie
abbrev pub server : List ℕ
server = codes "fs1"

-- the partition in which all volumes lie
abbrev pub partition : List ℕ
partition = codes "vicepa"

-- the volumes are numbered from 1
abbrev pub volumes : ℕ → List ℕ
volumes n = range_with_len 1 n

-- the name of the volume of this number: `reh.1`, `reh.2` and so on
abbrev pub volume_name : ℕ → List ℕ
volume_name k = codes "reh." ++ decimal k

-- what is put behind the name of a volume that is restored
abbrev pub extension : List ℕ
extension = codes ".r"

-- the name of its restored copy: the same with the extension behind it
abbrev pub copy_name : ℕ → List ℕ
copy_name k = volume_name k ++ extension

-- the volume set, and the pattern of its volumes: `reh\..*`
abbrev pub set_name : List ℕ
set_name = codes "reh"

-- the pattern of the set's entry: `reh\..*`, which all of them match
abbrev pub pattern : List ℕ
pattern = codes "reh" ++ 92 ∷ codes "..*"

-- the level of a full dump, and those of the three incremental dumps
abbrev pub full_level : List ℕ
full_level = codes "/full"

-- the level of the first incremental dump, whose parent is the full one
abbrev pub first_level : List ℕ
first_level = codes "/full/r1"

-- the level of the second incremental dump, whose parent is the first
abbrev pub second_level : List ℕ
second_level = codes "/full/r1/r2"

-- the level of the third incremental dump, whose parent is the second
abbrev pub third_level : List ℕ
third_level = codes "/full/r1/r2/r3"
