use Rattle.std.proofs.Common.{arith, FitsSigned, w64}
use Rattle.std.proofs.lemmas.Int.{to_z-of_z}
use Rattle.jiff_core.proofs.SignedLemmas.{signed_arith}
use Rattle.dump_levels.proofs.SpanLaws.{sums}
use Rattle.dump_levels.proofs.spans.span_of.Goals as goal

pub returns : goal.returns
returns c =
    let fits_years : FitsSigned w64 c.into.result = omega (arith, signed_arith, c.into.ensures) in
    let fits_months : FitsSigned w64 c.into-2.result = omega (arith, signed_arith, c.into-2.ensures) in
    let fits_days : FitsSigned w64 c.into-3.result = omega (arith, signed_arith, c.into-3.ensures) in
    let y = rw c.into.ensures at (simp to_z-of_z at c.years.ensures) in
    let m = rw c.into-2.ensures at (simp to_z-of_z at c.months.ensures) in
    let d = rw c.into-3.ensures at (simp to_z-of_z at c.days.ensures) in
    let made = sums c.args.years c.args.months c.args.days c.new.result c.years.result c.months.result c.days.result c.new.ensures y m d in
    record { months = made.months; days = made.days; clock = made.clock }
