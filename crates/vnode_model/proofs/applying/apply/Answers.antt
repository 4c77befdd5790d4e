use Rattle.std.proofs.Common.{◌≡◌, ◌≤◌, List, None, Bool, true, leb, sym, subst, ◌∙◌}
use Rattle.std.specs.List.{filter_map}
use Rattle.std.proofs.lemmas.Bool.{leb-true}
use Rattle.vnode_model.specs.declared.vnodes.Vnode.{Vnode}
use Rattle.vnode_model.specs.declared.increments.Entry.{Entry}
use Rattle.vnode_model.specs.declared.increments.IncrementFields.{IncrementFields}
use Rattle.vnode_model.specs.Limits.{AreFit, AreVolume, all_data}
use Rattle.vnode_model.specs.Increments.{vnode_for, first_lacking, data_of, vnodes_of}
use Rattle.vnode_model.specs.Taking.{AreOrdered}
use Rattle.vnode_model.proofs.ApplyLaws.{ordered_volume, found_fit, applied_ok}
use Rattle.vnode_model.proofs.applying.apply.Goals as goal

pub take_all-requires-clause-ordered : goal.take_all-requires-clause-ordered
take_all-requires-clause-ordered c = subst AreOrdered (sym c.vnodes_in-rest.ensures.value) (ordered_volume (vnodes_of c.args.base) c.vnodes_in-rest.ensures.form)

taken_fit : (base : List Vnode) (es : List Entry) (vs : List Vnode) → (first_lacking base es ≡ None) × (vs ≡ filter_map (vnode_for base) es) → AreVolume base → AreFit es → data_of vs ≤ all_data → AreVolume vs
taken_fit base es vs taken fit each small = subst AreVolume (sym taken.1) (found_fit base es fit each taken.0 (subst (λ (x : List Vnode). data_of x ≤ all_data) taken.1 small))

small_enough : (shown vs : List Vnode) (is : Bool) → is ≡ leb (data_of shown) all_data → shown ≡ vs → is ≡ true → data_of vs ≤ all_data
small_enough shown vs is by same holds = subst (λ (x : List Vnode). data_of x ≤ all_data) same (leb-true (data_of shown) all_data (sym by ∙ holds))

pub from_fields-requires : goal.from_fields-requires
from_fields-requires c =
    let vs = c.in-Ok.vnodes in
    let small : data_of vs ≤ all_data = small_enough c.as_slice.result.now vs c.is_small.result c.is_small.ensures c.as_slice.ensures c.if-is_small.true in
    let es = c.into_fields-header.result.entries in
    let each : AreFit es = subst (λ (x : IncrementFields). AreFit x.entries) (sym c.into_fields-header.ensures.value) c.into_fields-header.ensures.form in
    taken_fit c.vnodes_in-rest.result.items es vs c.in-Ok.ensures (subst AreVolume (sym c.vnodes_in-rest.ensures.value) c.vnodes_in-rest.ensures.form) each small

pub returns-then-is_small : goal.returns-then-is_small
returns-then-is_small c =
    let vs = c.in-Ok.vnodes in
    let small : data_of vs ≤ all_data = small_enough c.as_slice.result.now vs c.is_small.result c.is_small.ensures c.as_slice.ensures c.if-is_small.true in
    let is = c.into_fields-header.ensures.value in
    let none : first_lacking (vnodes_of c.args.base) c.args.increment.entries ≡ None = rw (c.vnodes_in-rest.ensures.value, is) at c.in-Ok.ensures.0 in
    let found : vs ≡ filter_map (vnode_for (vnodes_of c.args.base)) c.args.increment.entries = rw (c.vnodes_in-rest.ensures.value, is) at c.in-Ok.ensures.1 in
    rw (c.from_fields.ensures, is) (applied_ok c.args.base c.args.increment vs none found small)
