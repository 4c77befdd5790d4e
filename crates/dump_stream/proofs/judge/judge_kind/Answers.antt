use Rattle.dump_stream.proofs.FormLaws.{kind_none}
use Rattle.dump_stream.proofs.judge.judge_kind.Goals as goal

pub returns-in-empty : goal.returns-in-empty
returns-in-empty c = kind_none c.args.directory c.args.payload.now c.in-empty.len_below
