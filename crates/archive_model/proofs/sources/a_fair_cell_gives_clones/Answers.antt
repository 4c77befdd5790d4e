use Rattle.archive_model.proofs.SourceLaws.{fair_clone}
use Rattle.archive_model.proofs.sources.a_fair_cell_gives_clones.Goals as goal

pub returns : goal.returns
returns c = fair_clone
