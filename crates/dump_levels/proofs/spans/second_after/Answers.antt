use Rattle.std.proofs.Common.{◌≡◌, ℕ, ◌*◌, ◌∙◌, ℤ, pos, Ok, ap, arith, FitsSigned, w64}
use Rattle.std.specs.Prelude.{int_div}
use Rattle.std.proofs.lemmas.Bool.{false≢true}
use Rattle.std.proofs.lemmas.Int.{to_z-of_z}
use Rattle.jiff_core.specs.DateTime.{civil_nanos}
use Rattle.jiff_core.proofs.SignedLemmas.{signed_arith}
use Rattle.dump_levels.specs.Spans.{second_after}
use Rattle.dump_levels.proofs.SpanLaws.{starts, moves}
use Rattle.dump_levels.proofs.spans.second_after.Goals as goal

pub returns-in_err-end : goal.returns-in_err-end
returns-in_err-end c =
    let small : FitsSigned w64 c.into.result = omega (arith, signed_arith) in
    let second = simp to_z-of_z at c.in_ok-from_second.ensures.value in
    let from : civil_nanos c.to_datetime-start.result ≡ pos (c.args.created * 1_000_000_000) = omega (arith, signed_arith, second, c.into.ensures, c.to_datetime-start.ensures) in
    let made = moves c.args.created c.args.years c.args.months c.args.days c.to_datetime-start.result c.span_of.result c.ranges.created.fits c.requires c.ranges.months.fits c.ranges.days.fits (starts c.args.created c.to_datetime-start.result c.ranges.created.fits from) c.span_of.ensures.months c.span_of.ensures.days c.span_of.ensures.clock in
    absurd (false≢true (c.in_err-end.ensures.succeeds.1 made.can))

pub returns-in_err-to_timestamp : goal.returns-in_err-to_timestamp
returns-in_err-to_timestamp c =
    let small : FitsSigned w64 c.into.result = omega (arith, signed_arith) in
    let second = simp to_z-of_z at c.in_ok-from_second.ensures.value in
    let from : civil_nanos c.to_datetime-start.result ≡ pos (c.args.created * 1_000_000_000) = omega (arith, signed_arith, second, c.into.ensures, c.to_datetime-start.ensures) in
    let made = moves c.args.created c.args.years c.args.months c.args.days c.to_datetime-start.result c.span_of.result c.ranges.created.fits c.requires c.ranges.months.fits c.ranges.days.fits (starts c.args.created c.to_datetime-start.result c.ranges.created.fits from) c.span_of.ensures.months c.span_of.ensures.days c.span_of.ensures.clock in
    let end : civil_nanos c.in_ok-end.end ≡ pos (second_after c.args.created c.args.years c.args.months c.args.days * 1_000_000_000) = c.in_ok-end.ensures.value ∙ made.is in
    absurd (false≢true (c.in_err-to_timestamp.ensures.succeeds.1 (omega (arith, signed_arith, end, made.within), omega (arith, signed_arith, end, made.within))))

pub returns : goal.returns
returns c =
    let small : FitsSigned w64 c.into.result = omega (arith, signed_arith) in
    let second = simp to_z-of_z at c.in_ok-from_second.ensures.value in
    let from : civil_nanos c.to_datetime-start.result ≡ pos (c.args.created * 1_000_000_000) = omega (arith, signed_arith, second, c.into.ensures, c.to_datetime-start.ensures) in
    let made = moves c.args.created c.args.years c.args.months c.args.days c.to_datetime-start.result c.span_of.result c.ranges.created.fits c.requires c.ranges.months.fits c.ranges.days.fits (starts c.args.created c.to_datetime-start.result c.ranges.created.fits from) c.span_of.ensures.months c.span_of.ensures.days c.span_of.ensures.clock in
    let n : ℕ = second_after c.args.created c.args.years c.args.months c.args.days in
    let end : c.in_ok-to_timestamp.field-0.nanosecond ≡ pos (n * 1_000_000_000) = omega (arith, signed_arith, c.in_ok-to_timestamp.ensures.value, c.in_ok-end.ensures.value, made.is) in
    let is : c.as_second.result ≡ pos n = c.as_second.ensures ∙ ap (λ (z : ℤ). int_div z (pos 1_000_000_000)) end ∙ ap pos (omega arith) in
    let fits : FitsSigned w64 c.as_second.result = omega (arith, signed_arith, is, made.within) in
    ap Ok (to_z-of_z w64 c.as_second.result fits ∙ is)
