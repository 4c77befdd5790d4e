use Rattle.std.proofs.Common.{ℕ, List, ◌≡◌, ◌≤◌, ◌==◌, take}
use Rattle.std.specs.List.{count_by}
use Rattle.bk_text.proofs.level_path.slashes_in.Given as goal

pub record Counted (text : List ℕ) (at count : ℕ) : Type 0 where
  pub most : count ≤ at
  pub is : count ≡ count_by (λ b. b == 47) (take at text)

abbrev pub invariant-loop-byte : goal.invariant-loop-byte
invariant-loop-byte l = Counted l.text l.byte-index l.count
