-- What a volume's record keeps.
use Rattle.std.specs.Prelude.{◌≤◌, length}
use Rattle.budb_changes.specs.declared.records.VolRecordFields.{VolRecordFields}

-- 1 to 65,535 fragments
abbrev pub KeepsFrags : VolRecordFields → Type 0
KeepsFrags v = (1 ≤ length v.frags) × (length v.frags ≤ 65535)
