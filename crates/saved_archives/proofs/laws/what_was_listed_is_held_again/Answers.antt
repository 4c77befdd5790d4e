use Rattle.saved_archives.proofs.ArchiveLaws.{saved_kept, saved_holds}
use Rattle.saved_archives.proofs.laws.what_was_listed_is_held_again.Goals as goal

pub returns-clause-kept : goal.returns-clause-kept
returns-clause-kept c = saved_kept

pub returns-clause-held : goal.returns-clause-held
returns-clause-held c = saved_holds
