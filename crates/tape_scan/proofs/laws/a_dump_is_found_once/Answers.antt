use Rattle.tape_scan.proofs.ClosedLaws.{found_once}
use Rattle.tape_scan.proofs.laws.a_dump_is_found_once.Goals as goal

pub returns : goal.returns
returns c = found_once
