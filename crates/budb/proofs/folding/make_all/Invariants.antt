use Rattle.std.proofs.Common.{◌≡◌, drop}
use Rattle.budb_fold.specs.Database.{after_from}
use Rattle.budb.proofs.folding.make_all.Given as goal

abbrev pub invariant-loop-change : goal.invariant-loop-change
invariant-loop-change l = record {
  database : after_from (drop l.change-index l.changes) l.database ≡ after_from l.initial.changes l.initial.database;
  index : l.index.listed ≡ l.database.listed;
}
