use Rattle.archive_model.proofs.DumpLaws.{mid_put_holds}
use Rattle.archive_model.proofs.turns.a_put_in_mid_dump_keeps_all.Goals as goal

pub returns : goal.returns
returns c = mid_put_holds
