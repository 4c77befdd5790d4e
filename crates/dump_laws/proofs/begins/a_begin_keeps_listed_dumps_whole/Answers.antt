use Rattle.dump_laws.proofs.BeginLaws.{begun_whole}
use Rattle.dump_laws.proofs.begins.a_begin_keeps_listed_dumps_whole.Goals as goal

pub returns : goal.returns
returns c = begun_whole
