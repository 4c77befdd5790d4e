-- Whether there is room.
use Rattle.std.proofs.Common.{◌≡◌, ℕ, ◌<◌, ◌≤◌, true, false, arith}
use Rattle.std.specs.Prelude.{nat_lt}
use Rattle.std.proofs.lemmas.Bool.Decides.{nat_tests}

pub full_true : (a b : ℕ) → a < b → nat_lt a b ≡ true
full_true a b lt = grind (arith, nat_tests)

pub room_false : (a b : ℕ) → b ≤ a → nat_lt a b ≡ false
room_false a b le = grind (arith, nat_tests)
