-- One entry behind others.
use Rattle.std.specs.Prelude.{◌≡◌, ◌⊎◌, ◌↔◌, ℕ, ◌+◌, ◌<◌, ◌≤◌, List, map, sum_by, All}
use Rattle.vnode_model.specs.declared.increments.Entry.{Entry}
use Rattle.vnode_model.specs.Limits.{StandsBefore, IsFit, AreFit, number_of, data_len, most_vnodes, all_data}

-- a number that may follow so many others, the last of which is this one (0 stands for none)
pub record NumberMayFollow (count last number : ℕ) : Type 0 where
  pub few : count < most_vnodes
  pub numbered : 1 ≤ number
  pub ordered : (last ≡ 0) ⊎ StandsBefore last number

-- an entry that may follow so many others, the last of which has this number (0 stands for none), where there is room
-- for so much data
pub record MayFollow (count last room : ℕ) (e : Entry) : Type 0 where
  pub few : count < most_vnodes
  pub numbered : 1 ≤ number_of e
  pub ordered : (last ≡ 0) ⊎ StandsBefore last (number_of e)
  pub fit : IsFit e
  pub small : data_len e ≤ room

-- fit entries, the last of which has this number, where there is room for so much more data
pub record Stand (es : List Entry) (last room : ℕ) : Type 0 where
  pub fit : AreFit es
  pub last_is : (n : ℕ) → All (λ m. StandsBefore m n) (map number_of es) ↔ ((last ≡ 0) ⊎ StandsBefore last n)
  pub room_left : room + sum_by data_len es ≡ all_data
