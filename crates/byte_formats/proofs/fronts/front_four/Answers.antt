use Rattle.std.proofs.Common.{◌≤◌, length, ◌∙◌, ap, arith, drop, subst, sym}
use Rattle.std.specs.Int.{w32, from_be_bytes}
use Rattle.byte_formats.specs.Formats.{Took, any_four}
use Rattle.byte_formats.proofs.Leaves.{four_cut, four_took, four_front}
use Rattle.byte_formats.proofs.fronts.front_four.Goals as goal

pub returns-then-bytes-lt4 : goal.returns-then-bytes-lt4
returns-then-bytes-lt4 c = four_cut c.args.bytes.now (omega arith) (λ i. omega (arith, c.type_inv.bytes i))

pub returns : goal.returns
returns c =
    let some : 4 ≤ length c.args.bytes.now = omega arith in
    let took : Took any_four c.args.bytes.now c.read_u32-number.result (drop 4 c.args.bytes.now)
    = four_took c.args.bytes.now c.read_u32-number.result some (λ i. omega (arith, c.type_inv.bytes i)) (c.read_u32-number.ensures.is ∙ ap (from_be_bytes w32) (four_front c.args.bytes.now some)) in
    subst (Took any_four c.args.bytes.now c.read_u32-number.result) (sym c.behind.ensures) took
