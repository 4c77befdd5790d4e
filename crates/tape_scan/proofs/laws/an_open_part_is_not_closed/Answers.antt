use Rattle.tape_scan.proofs.OpenLaws.{open_is_not_closed}
use Rattle.tape_scan.proofs.laws.an_open_part_is_not_closed.Goals as goal

pub returns : goal.returns
returns c = open_is_not_closed
