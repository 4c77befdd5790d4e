-- What a record of version 1 can tell.
use Rattle.std.specs.Prelude.{◌≡◌, [], All}
use Rattle.budb_changes.specs.declared.records.TapePart.{TapePart}
use Rattle.budb_changes.specs.declared.records.DumpRecordFields.{DumpRecordFields}

-- nothing of a tape's uses and of its permanent name
pub record IsPlainPart (t : TapePart) : Type 0 where
  pub uses : t.uses ≡ 0
  pub permanent : t.permanent ≡ []

-- A record is plain where its cell and every permanent name are empty, and every number of uses is 0.
pub record IsPlain (d : DumpRecordFields) : Type 0 where
  pub tapes : All IsPlainPart d.tapes
  pub cell : d.cell ≡ []
