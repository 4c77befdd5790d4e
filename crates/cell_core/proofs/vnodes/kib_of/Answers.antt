use Rattle.std.proofs.Common.{◌≡◌, ◌+◌, ◌≤◌, length, ap, ◌∙◌, sym, arith, subst, ℕ}
use Rattle.std.proofs.Common.{take}
use Rattle.std.specs.Int.{div_ceil}
use Rattle.cell_core.specs.Vnodes.{kib_of}
use Rattle.cell_core.proofs.VnodeLaws.{kept_in, short_body}
use Rattle.cell_core.proofs.ChangeLaws.{kib_short, kib_more}
use Rattle.vnode_model.specs.declared.vnodes.Vnode.{Vnode}
use Rattle.vnode_model.specs.Limits.{most_data}
use Rattle.cell_core.proofs.vnodes.kib_of.Goals as goal

small : (c : goal.After-div_ceil) → c.div_ceil.result ≤ 16384
small c =
    let is : c.div_ceil.result ≡ div_ceil (length c.vnode-item.result.body) 1024 = c.div_ceil.ensures ∙ ap (λ (n : ℕ). div_ceil n 1024) c.len.ensures in
    let short : length c.vnode-item.result.body ≤ most_data = subst (λ (v : Vnode). length v.body ≤ most_data) (sym c.vnode-item.is) (short_body c.args.vnodes.now c.loop-vnode.vnode-index c.vnode-item.result c.requires c.loop-vnode-test.true) in
    subst (λ (n : ℕ). n ≤ 16384) (sym is) (kib_short (length c.vnode-item.result.body) short)

pub overflow_cast-kib : goal.overflow_cast-kib
overflow_cast-kib c = omega (arith, small c)

pub overflow_add-kib : goal.overflow_add-kib
overflow_add-kib c = omega (arith, small c, (kept_in c.args.vnodes.now c.requires).few)

pub loop-vnode-preserved : goal.loop-vnode-preserved
loop-vnode-preserved c =
    let is : c.div_ceil.result ≡ div_ceil (length c.vnode-item.result.body) 1024 = c.div_ceil.ensures ∙ ap (λ (n : ℕ). div_ceil n 1024) c.len.ensures in
    (ap (λ (n : ℕ). n + c.div_ceil.result) c.loop-vnode.invariant.0 ∙ (ap (λ (n : ℕ). kib_of (take c.loop-vnode.vnode-index c.args.vnodes.now) + n) is ∙ kib_more c.args.vnodes.now c.loop-vnode.vnode-index c.vnode-item.result c.loop-vnode-test.true c.vnode-item.is), omega (arith, small c))
