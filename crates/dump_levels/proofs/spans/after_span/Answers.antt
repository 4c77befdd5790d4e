use Rattle.std.proofs.Common.{arith}
use Rattle.dump_levels.proofs.SpanLaws.{far}
use Rattle.dump_levels.proofs.spans.after_span.Goals as goal

pub returns-then-years-gt-MOST_YEARS : goal.returns-then-years-gt-MOST_YEARS
returns-then-years-gt-MOST_YEARS c = omega (arith, far c.args.created c.args.years c.args.months c.args.days c.if-years-gt-MOST_YEARS.true)
