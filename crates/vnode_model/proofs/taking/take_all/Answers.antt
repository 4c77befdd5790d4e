use Rattle.std.proofs.Common.{◌≡◌, List, ◌∷◌, [], ◌++◌, map, refl, sym, ap, subst, ◌∙◌, append_assoc}
use Rattle.std.specs.Prelude.{AllPairs}
use Rattle.std.specs.List.{filter_map}
use Rattle.std.specs.Vec.Iter.{into_iter_items}
use Rattle.vnode_model.specs.declared.vnodes.Vnode.{Vnode}
use Rattle.vnode_model.specs.declared.increments.Entry.{Entry}
use Rattle.vnode_model.specs.Limits.{StandsBefore, number_of}
use Rattle.vnode_model.specs.Increments.{vnode_for, first_lacking}
use Rattle.vnode_model.proofs.TakingLaws.{pairs_rest, lacking_further, found_further}
use Rattle.vnode_model.proofs.taking.take_all.Goals as goal

-- what was taken, and what is still to be taken, one entry further
found_on : (all done then fore aft : List Vnode) (v : Vnode) → all ≡ done ++ fore → fore ≡ v ∷ aft → then ≡ done ++ v ∷ [] → all ≡ then ++ aft
found_on all done then fore aft v h e p = h ∙ ap (λ (x : List Vnode). done ++ x) e ∙ sym (ap (λ (x : List Vnode). x ++ aft) p ∙ append_assoc done (v ∷ []) aft)

pub loop-entry-init : goal.loop-entry-init
loop-entry-init c =
    let left : into_iter_items c.into_iter-entry-iterator.result ≡ c.args.entries = c.into_iter-entry-iterator.ensures.into_iter_gives.0 ∙ c.into_vec-entry-items.ensures in
    record {
      ordered = c.requires.ordered;
      numbers = subst (λ (es : List Entry). AllPairs StandsBefore (map number_of es)) (sym left) c.requires.fit.ordered;
      lacking = ap (λ (es : List Entry). first_lacking c.args.rest.items es) (sym left);
      found = rw (c.new-vnodes.ensures, left) refl;
    }

pub loop-entry-preserved : goal.loop-entry-preserved
loop-entry-preserved c =
    let e = c.in-Some.entry in
    let v = c.in-Ok.vnode in
    let old = c.loop-entry.rest.items in
    let new = c.take.new.rest.items in
    let es = into_iter_items c.next.new.self in
    let left : into_iter_items c.loop-entry.entry-iterator ≡ e ∷ es = c.in-Some.ensures.steps.0 in
    let numbers : AllPairs StandsBefore (map number_of (e ∷ es)) = subst (λ (x : List Entry). AllPairs StandsBefore (map number_of x)) left c.loop-entry.invariant.numbers in
    let lacking : first_lacking old (into_iter_items c.loop-entry.entry-iterator) ≡ first_lacking old (e ∷ es) = ap (λ (x : List Entry). first_lacking old x) left in
    let found : filter_map (vnode_for old) (into_iter_items c.loop-entry.entry-iterator) ≡ filter_map (vnode_for old) (e ∷ es) = ap (λ (x : List Entry). filter_map (vnode_for old) x) left in
    record {
      ordered = c.take.ensures.ordered;
      numbers = pairs_rest (number_of e) (map number_of es) numbers;
      lacking = c.loop-entry.invariant.lacking ∙ lacking ∙ lacking_further old new e es v c.in-Ok.ensures.taken c.take.ensures.behind numbers;
      found = found_on _ _ _ _ _ v c.loop-entry.invariant.found (found ∙ found_further old new e es v c.in-Ok.ensures.taken c.take.ensures.behind numbers) c.in_ok-push-in-Ok.ensures.ok;
    }
