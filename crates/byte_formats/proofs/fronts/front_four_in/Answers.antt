use Rattle.std.proofs.Common.{arith, subst, sym, drop}
use Rattle.std.proofs.lemmas.Bool.{iff_false}
use Rattle.byte_formats.specs.Formats.{Took, four_in}
use Rattle.byte_formats.proofs.FourWithin.{within_cut_0, within_stuck_0, within_cut_1, within_stuck_1, within_cut_2, within_stuck_2, within_cut_3, within_stuck_3, within_took}
use Rattle.byte_formats.proofs.fronts.front_four_in.Goals as goal

pub returns-then-count-lt1 : goal.returns-then-count-lt1
returns-then-count-lt1 c =
    within_cut_0 c.args.low c.args.high c.args.bytes.now c.requires (omega (arith, c.ranges.high.fits)) (omega arith)

pub returns-then-not-meets_four : goal.returns-then-not-meets_four
returns-then-not-meets_four c =
    within_stuck_0 c.args.low c.args.high c.args.bytes.now c.requires (omega (arith, c.ranges.high.fits)) (omega arith) (λ h. iff_false c.meets_four.ensures c.if-not-meets_four.true h)

pub returns-then-count-lt2 : goal.returns-then-count-lt2
returns-then-count-lt2 c =
    let meet = c.meets_four.ensures.0 c.if-not-meets_four.false in
    within_cut_1 c.args.low c.args.high c.args.bytes.now c.requires (omega (arith, c.ranges.high.fits)) (omega arith) (omega arith) (omega (arith, c.type_inv.bytes 0)) meet.0 meet.1

pub returns-then-not-meets_four-2 : goal.returns-then-not-meets_four-2
returns-then-not-meets_four-2 c =
    let meet = c.meets_four.ensures.0 c.if-not-meets_four.false in
    within_stuck_1 c.args.low c.args.high c.args.bytes.now c.requires (omega (arith, c.ranges.high.fits)) (omega arith) (omega (arith, c.type_inv.bytes 0)) meet.0 meet.1 (λ h. iff_false c.meets_four-2.ensures c.if-not-meets_four-2.true h)

pub returns-then-count-lt3 : goal.returns-then-count-lt3
returns-then-count-lt3 c =
    let meet = c.meets_four-2.ensures.0 c.if-not-meets_four-2.false in
    within_cut_2 c.args.low c.args.high c.args.bytes.now c.requires (omega (arith, c.ranges.high.fits)) (omega arith) (omega arith) (omega (arith, c.type_inv.bytes 0)) (omega (arith, c.type_inv.bytes 1)) meet.0 meet.1

pub returns-then-not-meets_four-3 : goal.returns-then-not-meets_four-3
returns-then-not-meets_four-3 c =
    let meet = c.meets_four-2.ensures.0 c.if-not-meets_four-2.false in
    within_stuck_2 c.args.low c.args.high c.args.bytes.now c.requires (omega (arith, c.ranges.high.fits)) (omega arith) (omega (arith, c.type_inv.bytes 0)) (omega (arith, c.type_inv.bytes 1)) meet.0 meet.1 (λ h. iff_false c.meets_four-3.ensures c.if-not-meets_four-3.true h)

pub returns-then-count-lt4 : goal.returns-then-count-lt4
returns-then-count-lt4 c =
    let meet = c.meets_four-3.ensures.0 c.if-not-meets_four-3.false in
    within_cut_3 c.args.low c.args.high c.args.bytes.now c.requires (omega (arith, c.ranges.high.fits)) (omega arith) (omega arith) (omega (arith, c.type_inv.bytes 0)) (omega (arith, c.type_inv.bytes 1)) (omega (arith, c.type_inv.bytes 2)) meet.0 meet.1

pub returns-then-not-is_within : goal.returns-then-not-is_within
returns-then-not-is_within c =
    let meet = c.meets_four-3.ensures.0 c.if-not-meets_four-3.false in
    within_stuck_3 c.args.low c.args.high c.from_be_bytes-number.result c.args.bytes.now c.requires (omega (arith, c.ranges.high.fits)) (omega arith) (omega (arith, c.type_inv.bytes 0)) (omega (arith, c.type_inv.bytes 1)) (omega (arith, c.type_inv.bytes 2)) meet.0 meet.1 c.from_be_bytes-number.ensures (iff_false c.is_within.ensures c.if-not-is_within.true)

pub returns : goal.returns
returns c =
    let is = c.is_within.ensures.0 c.if-not-is_within.false in
    let took : Took (four_in c.args.low c.args.high) c.args.bytes.now c.from_be_bytes-number.result (drop 4 c.args.bytes.now)
    = within_took c.args.low c.args.high c.args.bytes.now c.from_be_bytes-number.result (omega arith) (λ i. omega (arith, c.type_inv.bytes i)) c.from_be_bytes-number.ensures is.0 is.1 in
    subst (Took (four_in c.args.low c.args.high) c.args.bytes.now c.from_be_bytes-number.result) (sym c.behind.ensures) took
