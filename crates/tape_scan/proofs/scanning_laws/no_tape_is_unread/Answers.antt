use Rattle.tape_scan.proofs.ScanningLaws.{not_unread}
use Rattle.tape_scan.proofs.scanning_laws.no_tape_is_unread.Goals as goal

pub returns : goal.returns
returns c = not_unread
