use Rattle.tape_scan.proofs.ReachedScan.{told_once}
use Rattle.tape_scan.proofs.scanning_laws.one_tape_is_told_once.Goals as goal

pub returns : goal.returns
returns c = told_once
