-- Days year by year, and month by month.
use Rattle.std.proofs.Common.{suc, ℕ, ◌+◌, ◌*◌, ◌≤◌, ◌≡◌, sym, ◌∙◌, ap, arith}
use Rattle.dump_levels.specs.Calendar.{days_in_year, days_in_month, days_of_years, days_of_months}

-- so far the days of so many years, none of them too long
pub record YearsSoFar (n days : ℕ) : Type 0 where
  pub is : days ≡ days_of_years n
  pub most : days ≤ 366 * n

next : (n : ℕ) → suc n ≡ n + 1
next n = omega arith

pub year_more : (n days more : ℕ) → YearsSoFar n days → more ≡ days_in_year (1970 + n) → more ≤ 366 → YearsSoFar (n + 1) (days + more)
year_more n days more so_far is most = record {
  is = ap (λ (d : ℕ). d + more) so_far.is ∙ ap (λ (d : ℕ). days_of_years n + d) is ∙ ap days_of_years (next n);
  most = omega (arith, so_far.most);
}

pub record MonthsSoFar (year n days : ℕ) : Type 0 where
  pub is : days ≡ days_of_months year n
  pub most : days ≤ 31 * n

pub month_more : (year n days more : ℕ) → MonthsSoFar year n days → more ≡ days_in_month year (n + 1) → more ≤ 31 → MonthsSoFar year (n + 1) (days + more)
month_more year n days more so_far is most = record {
  is = ap (λ (d : ℕ). d + more) so_far.is ∙ ap (λ (d : ℕ). days_of_months year n + d) (is ∙ ap (days_in_month year) (sym (next n))) ∙ ap (days_of_months year) (next n);
  most = omega (arith, so_far.most);
}
