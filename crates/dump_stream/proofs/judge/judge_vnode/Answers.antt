use Rattle.std.proofs.Common.{◌≡◌, arith, subst, sym}
use Rattle.std.proofs.lemmas.Bool.{iff_false}
use Rattle.vnode_model.specs.Limits.{ComesAfter}
use Rattle.dump_stream.specs.Forms.{}
use Rattle.dump_stream.proofs.FormLaws.{greatest, vnode_begun, vnode_goes_on, vnode_ends, bytes_from}
use Rattle.dump_stream.proofs.judge.judge_vnode.Goals as goal

pub returns-then-comes_after : goal.returns-then-comes_after
returns-then-comes_after c =
    let p = c.args.payload.now in
    let n = c.from_be_bytes-greatest.result in
    let n_is : n ≡ greatest p = rw (← c.byte_or.ensures, ← c.byte_or-then-payload-lt4.ensures, ← c.byte_or-then-payload-lt4-2.ensures) c.from_be_bytes-greatest.ensures in
    vnode_begun c.args.last p (bytes_from p (λ i. omega (arith, c.type_inv.payload i))) c.if-payload-lt4.true
    (subst (ComesAfter c.args.last) n_is (c.comes_after.ensures.0 c.if-comes_after.true))

pub returns-else-comes_after : goal.returns-else-comes_after
returns-else-comes_after c =
    let p = c.args.payload.now in
    let n = c.from_be_bytes-greatest.result in
    let n_is : n ≡ greatest p = rw (← c.byte_or.ensures, ← c.byte_or-then-payload-lt4.ensures, ← c.byte_or-then-payload-lt4-2.ensures) c.from_be_bytes-greatest.ensures in
    vnode_ends c.args.last p (λ h. iff_false c.comes_after.ensures c.if-comes_after.false (subst (ComesAfter c.args.last) (sym n_is) h))

pub returns-then-payload-lt8 : goal.returns-then-payload-lt8
returns-then-payload-lt8 c =
    let p = c.args.payload.now in
    vnode_goes_on c.args.last p (bytes_from p (λ i. omega (arith, c.type_inv.payload i))) c.if-payload-lt4.false c.if-payload-lt8.true
    (subst (ComesAfter c.args.last) c.number_at.ensures (c.comes_after-else-payload-lt4.ensures.0 c.if-payload-gt8.false.0))

pub returns-else-payload-lt8 : goal.returns-else-payload-lt8
returns-else-payload-lt8 c =
    let p = c.args.payload.now in (
      bytes_from p (λ i. omega (arith, c.type_inv.payload i)),
      (omega arith, subst (ComesAfter c.args.last) c.number_at.ensures (c.comes_after-else-payload-lt4.ensures.0 c.if-payload-gt8.false.0)),
    )
