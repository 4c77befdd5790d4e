use Rattle.lost_journals.proofs.Alike.{restored_alike}
use Rattle.lost_journals.proofs.archives.archives_that_list_the_same_restore_the_same.Goals as goal

pub returns : goal.returns
returns c = λ a b same has here. restored_alike a b same has here
