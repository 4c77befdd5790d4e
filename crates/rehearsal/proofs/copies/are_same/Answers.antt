use Rattle.std.proofs.Common.{◌≡◌, true, false, sym, ◌∙◌, arith}
use Rattle.rehearsal.specs.Copies.{is_same_vnode}
use Rattle.rehearsal.proofs.CopyLaws.{same_more, same_not}
use Rattle.rehearsal.proofs.copies.are_same.Goals as goal

pub returns-then-not-is_same_vnode : goal.returns-then-not-is_same_vnode
returns-then-not-is_same_vnode c =
    let other : is_same_vnode c.index-a-i.result c.index-b-i.result ≡ false = sym c.is_same_vnode.ensures ∙ c.if-not-is_same_vnode.true in
    sym (same_not is_same_vnode c.args.a.now c.args.b.now c.loop-i.i c.index-a-i.result c.index-b-i.result (omega (arith, c.loop-i-test.true)) (omega (arith, c.loop-i-test.true, c.if-a-b.false)) c.index-a-i.is c.index-b-i.is other)

pub loop-i-preserved : goal.loop-i-preserved
loop-i-preserved c =
    let same : is_same_vnode c.index-a-i.result c.index-b-i.result ≡ true = sym c.is_same_vnode.ensures ∙ c.if-not-is_same_vnode.false in
    same_more is_same_vnode c.args.a.now c.args.b.now c.loop-i.i c.index-a-i.result c.index-b-i.result (omega (arith, c.loop-i-test.true)) (omega (arith, c.loop-i-test.true, c.if-a-b.false)) c.index-a-i.is c.index-b-i.is c.loop-i.invariant same
