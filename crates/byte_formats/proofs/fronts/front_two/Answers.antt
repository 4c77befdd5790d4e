use Rattle.std.proofs.Common.{arith, drop, subst, sym}
use Rattle.std.proofs.lemmas.Bool.{iff_false}
use Rattle.byte_formats.specs.Formats.{Took, two_in}
use Rattle.byte_formats.proofs.Leaves.{two_empty, two_first, two_cut, two_second, two_took}
use Rattle.byte_formats.proofs.fronts.front_two.Goals as goal

pub returns-then-bytes-lt1 : goal.returns-then-bytes-lt1
returns-then-bytes-lt1 c = two_empty c.args.low c.args.high c.args.bytes.now c.requires (omega arith)

pub returns-then-not-meets : goal.returns-then-not-meets
returns-then-not-meets c =
    two_first c.args.low c.args.high c.args.bytes.now c.requires (omega (arith, c.ranges.high.fits)) (omega arith) (omega (arith, c.type_inv.bytes 0))
    (λ h. iff_false c.meets.ensures c.if-not-meets.true (omega (arith, h.0, c.from_be_bytes-most.ensures), omega (arith, h.1, c.from_be_bytes-least.ensures)))

pub returns-then-bytes-lt2 : goal.returns-then-bytes-lt2
returns-then-bytes-lt2 c =
    let meet = c.meets.ensures.0 c.if-not-meets.false in
    two_cut c.args.low c.args.high c.args.bytes.now c.requires (omega (arith, c.ranges.high.fits)) (omega arith) (omega arith) (omega (arith, c.type_inv.bytes 0))
    (omega (arith, meet.0, c.from_be_bytes-most.ensures)) (omega (arith, meet.1, c.from_be_bytes-least.ensures))

pub returns-then-not-is_within : goal.returns-then-not-is_within
returns-then-not-is_within c =
    let meet = c.meets.ensures.0 c.if-not-meets.false in
    two_second c.args.low c.args.high c.from_be_bytes-number.result c.args.bytes.now c.requires (omega (arith, c.ranges.high.fits)) (omega arith) (omega (arith, c.type_inv.bytes 0)) (omega (arith, c.type_inv.bytes 1))
    (omega (arith, meet.0, c.from_be_bytes-most.ensures)) (omega (arith, meet.1, c.from_be_bytes-least.ensures)) c.from_be_bytes-number.ensures (iff_false c.is_within.ensures c.if-not-is_within.true)

pub returns : goal.returns
returns c =
    let is = c.is_within.ensures.0 c.if-not-is_within.false in
    let took : Took (two_in c.args.low c.args.high) c.args.bytes.now c.from_be_bytes-number.result (drop 2 c.args.bytes.now)
    = two_took c.args.low c.args.high c.from_be_bytes-number.result c.args.bytes.now (omega arith) (omega (arith, c.type_inv.bytes 0)) (omega (arith, c.type_inv.bytes 1)) c.from_be_bytes-number.ensures is.0 is.1 in
    subst (Took (two_in c.args.low c.args.high) c.args.bytes.now c.from_be_bytes-number.result) (sym c.behind.ensures) took
