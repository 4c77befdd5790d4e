-- The test for a database without sets, levels and dumps.
use Rattle.std.proofs.Common.{◌≡◌, true, ap, length}
use Rattle.std.specs.Prelude.{◌==◌, ◌&&◌}
use Rattle.std.proofs.lemmas.Bool.{and_parts, and_from, eqb-true, eq-eqb}
use Rattle.budb_fold.specs.declared.database.Database.{Database}
use Rattle.budb_save.specs.Back.{IsUnused, is_unused}
use Rattle.budb_save.proofs.LoadLaws.{unused_is}

pub unused_by : (db : Database) → is_unused db ≡ true → IsUnused db
unused_by db is =
    let sets = and_parts (length db.sets == 0) ((length db.levels == 0) && (length db.listed == 0)) is in
    let rest = and_parts (length db.levels == 0) (length db.listed == 0) sets.1 in
    unused_is db (eqb-true (length db.sets) 0 sets.0) (eqb-true (length db.levels) 0 rest.0) (eqb-true (length db.listed) 0 rest.1)

pub unused_only : (db : Database) → IsUnused db → is_unused db ≡ true
unused_only db unused =
    and_from (length db.sets == 0) ((length db.levels == 0) && (length db.listed == 0)) (eq-eqb (length db.sets) 0 (ap length unused.sets))
    (and_from (length db.levels == 0) (length db.listed == 0) (eq-eqb (length db.levels) 0 (ap length unused.levels)) (eq-eqb (length db.listed) 0 (ap length unused.listed)))
