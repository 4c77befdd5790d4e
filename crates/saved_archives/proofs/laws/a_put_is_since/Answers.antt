use Rattle.saved_archives.proofs.SinceLaws.{put_all_since, put_within_since}
use Rattle.saved_archives.proofs.laws.a_put_is_since.Goals as goal

pub returns-clause-newer : goal.returns-clause-newer
returns-clause-newer c = put_all_since

pub returns-clause-within : goal.returns-clause-within
returns-clause-within c = put_within_since
