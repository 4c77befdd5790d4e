use Rattle.backup_session.proofs.TurnLaws.{scan_lists}
use Rattle.backup_session.proofs.laws.a_scan_lists_what_is_whole.Goals as goal

pub returns : goal.returns
returns c = scan_lists
