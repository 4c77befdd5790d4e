use Rattle.session_archives.proofs.OnLines.{scans_list_whole}
use Rattle.session_archives.proofs.laws.scans_list_what_is_whole.Goals as goal

pub returns : goal.returns
returns c = scans_list_whole c.one_reading.ensures
