use Rattle.budb.proofs.FoldForms.{forms_after}
use Rattle.budb.proofs.laws.listed_dumps_are_records.Goals as goal

pub returns : goal.returns
returns c = λ log form. (forms_after log form).listed
