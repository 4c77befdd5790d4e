use Rattle.backup_top.proofs.ArchiveLaws.{image_enters}
use Rattle.backup_top.proofs.archives.an_image_is_an_entry.Goals as goal

pub returns-clause-holds : goal.returns-clause-holds
returns-clause-holds c = image_enters

pub returns-clause-ids : goal.returns-clause-ids
returns-clause-ids c = λ config later files present log cell next before contents old image effects held known. held.ids known
