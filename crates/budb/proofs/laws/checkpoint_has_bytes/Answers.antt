use Rattle.budb_fold.specs.Database.{after}
use Rattle.budb.proofs.FoldForms.{forms_after, checkpoint_form}
use Rattle.budb.proofs.laws.checkpoint_has_bytes.Goals as goal

pub returns : goal.returns
returns c = λ log form. checkpoint_form (after log) (forms_after log form)
