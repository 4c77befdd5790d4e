use Rattle.tape_scan.proofs.HeadLaws.{scanned_begun, begun_scanned}
use Rattle.tape_scan.proofs.laws.a_scanned_head_is_begun.Goals as goal

pub returns-clause-found : goal.returns-clause-found
returns-clause-found c = scanned_begun

pub returns-clause-all : goal.returns-clause-all
returns-clause-all c = begun_scanned
