use Rattle.std.proofs.Common.{arith}
use Rattle.std.proofs.lemmas.Bool.{iff_false}
use Rattle.byte_formats.proofs.Leaves.{one_empty, one_stuck}
use Rattle.byte_formats.proofs.fronts.front_one.Goals as goal

pub returns-then-bytes-lt1 : goal.returns-then-bytes-lt1
returns-then-bytes-lt1 c = one_empty c.args.low c.args.high c.args.bytes.now c.requires (omega arith)

pub returns-then-not-is_within : goal.returns-then-not-is_within
returns-then-not-is_within c = one_stuck c.args.low c.args.high c.args.bytes.now c.requires (omega arith) (iff_false c.is_within.ensures c.if-not-is_within.true)
