use Rattle.tape_scan.proofs.ClosedLaws.{scanned_closed}
use Rattle.tape_scan.proofs.laws.a_scanned_part_is_closed.Goals as goal

pub returns : goal.returns
returns c = scanned_closed
