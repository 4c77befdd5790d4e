-- Which file each of a folder's files was told to be, file by file.
use Rattle.std.proofs.Common.{◌≡◌, ℕ, ◌+◌, ◌<◌, Option, List, [], ◌∷◌, ◌++◌, length, sym, ◌∙◌, ap, subst, arith, below_more}
use Rattle.host_edge.specs.declared.node.Node.{Node}
use Rattle.host_edge.specs.Slots.{slot_at}
use Rattle.host_edge.specs.Nodes.{IsToldAs}
use Rattle.host_edge.specs.Here.{slot_front, slot_last}

module _ {F : Type 0} (is_node : F → Node → Type 0) (file : ℕ → Option F) (nodes : List (Option Node)) (node : Option Node) (f : ℕ) where
  -- what was told of the files so far and of the next one is told of all
  pub told_more : length nodes ≡ f → ((k : ℕ) → k < f → IsToldAs is_node (file k) (slot_at nodes k)) → IsToldAs is_node (file f) node
      → (k : ℕ) → k < f + 1 → IsToldAs is_node (file k) (slot_at (nodes ++ node ∷ []) k)
  told_more all told last =
      below_more (λ k. IsToldAs is_node (file k) (slot_at (nodes ++ node ∷ []) k)) f
      (λ k below. subst (IsToldAs is_node (file k)) (sym (slot_front nodes node k (omega (arith, all, below)))) (told k below))
      (subst (IsToldAs is_node (file f)) (sym (ap (λ (n : ℕ). slot_at (nodes ++ node ∷ []) n) (sym all) ∙ slot_last nodes node)) last)
