-- Which of a folder's files are one.
use Rattle.std.specs.Prelude.{◌≡◌, ⊤, ℕ, ◌<◌, List, Option, Some, None, length}
use Rattle.host_edge.specs.declared.node.Node.{Node}
use Rattle.host_edge.specs.Slots.{slot_at}

-- one file under two names, or under the same one
abbrev pub IsSame : Node → Node → Type 0
IsSame a b = (a.device ≡ b.device) × (a.inode ≡ b.inode)

-- two names lead to two files, or one of them to none
abbrev pub IsApart : Option Node → Option Node → Type 0
IsApart (Some a) (Some b) = IsSame a b → ⊥
IsApart (Some a) None = ⊤
IsApart None b = ⊤

-- no two of these are one file
abbrev pub AreApart : List (Option Node) → Type 0
AreApart nodes = (k : ℕ) → k < length nodes → (j : ℕ) → j < k → IsApart (slot_at nodes j) (slot_at nodes k)

-- the file, where it is there, was told to be this one
abbrev pub IsToldAs : {F : Type 0} → (F → Node → Type 0) → Option F → Option Node → Type 0
IsToldAs is_node (Some file) (Some node) = is_node file node
IsToldAs is_node (Some file) None = ⊥
IsToldAs is_node None (Some node) = ⊥
IsToldAs is_node None None = ⊤

-- Each of these files was told to be another one than the others.
pub record AreToldApart {F : Type 0} (is_node : F → Node → Type 0) (file : ℕ → Option F) : Type 0 where
  pub nodes : List (Option Node)
  pub all : length nodes ≡ 257
  pub told : (f : ℕ) → f < 257 → IsToldAs is_node (file f) (slot_at nodes f)
  pub apart : AreApart nodes
