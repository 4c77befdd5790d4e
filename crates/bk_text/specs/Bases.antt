-- The base name of a volume.
use Rattle.std.specs.Prelude.{ℕ, ◌-◌, List, length, take, codes, Bool, ◌&&◌, nat_lt, nat_eq, if◌then◌else◌}
use Rattle.std.specs.List.{ends_with}

-- ".backup", which a backup volume's name ends in
abbrev pub backup_ending : List ℕ
backup_ending = codes ".backup"

-- a name with something before that ending
abbrev pub is_backup_name : List ℕ → Bool
is_backup_name name = nat_lt 7 (length name) && ends_with nat_eq name backup_ending

-- the name without that ending, or the whole
abbrev pub base_of : List ℕ → List ℕ
base_of name = if is_backup_name name then take (length name - 7) name else name
