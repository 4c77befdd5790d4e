use Rattle.backup_script.proofs.HeldLaws.{held_unasked}
use Rattle.backup_script.proofs.laws.scripts_that_ask_no_archive.Goals as goal

pub returns : goal.returns
returns c = held_unasked
