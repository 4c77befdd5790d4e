use Rattle.dump_stream.proofs.FormLaws.{volume_kind_none}
use Rattle.dump_stream.proofs.judge.judge_volume_kind.Goals as goal

pub returns-in-empty : goal.returns-in-empty
returns-in-empty c = volume_kind_none c.args.payload.now c.in-empty.len_below
