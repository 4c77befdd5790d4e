-- The parts of a date.
use Rattle.std.proofs.Common.{ℕ, ◌≡◌, ◌∙◌, ap}
use Rattle.std.specs.Prelude.{Option}
use Rattle.dump_levels.specs.Dates.{real_day}

pub same_parts : (m n d e y z : Option ℕ) → m ≡ n → d ≡ e → y ≡ z → real_day m d y ≡ real_day n e z
same_parts m n d e y z months days years = ap (λ (x : Option ℕ). real_day x d y) months ∙ ap (λ (x : Option ℕ). real_day n x y) days ∙ ap (λ (x : Option ℕ). real_day n e x) years
