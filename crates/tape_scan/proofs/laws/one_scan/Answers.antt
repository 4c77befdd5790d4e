use Rattle.tape_scan.proofs.ClosedLaws.{one_count, scans_agree}
use Rattle.tape_scan.proofs.laws.one_scan.Goals as goal

pub returns-clause-count : goal.returns-clause-count
returns-clause-count c = one_count

pub returns-clause-closed : goal.returns-clause-closed
returns-clause-closed c = scans_agree
