use Rattle.budb_fold.proofs.FoldLaws.{entry_fits}
use Rattle.budb_fold.proofs.fold_laws.entry_fits_by_its_pattern.Goals as goal

pub returns : goal.returns
returns c = entry_fits c.pattern_test.ensures
