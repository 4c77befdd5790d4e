-- Which files are here, by a list that says of each whether it is away. The laws are for any media that keeps such a list.
use Rattle.std.proofs.Common.{◌≡◌, ℕ, zero, suc, ◌<◌, ◌≤◌, Bool, false, not, List, [], ◌∷◌, length, get_or, refl, sym, ap, arith, IsTrue}

-- a file is here
abbrev pub is_here : List Bool → ℕ → Bool
is_here [] k = false
is_here (out ∷ outs) zero = not out
is_here (out ∷ outs) (suc k) = is_here outs k

-- one that is here is one of them
pub here_below : (aways : List Bool) (f : ℕ) → IsTrue (is_here aways f) → f < length aways
here_below [] f here = absurd (cc)
here_below (a ∷ aways) zero here = omega arith
here_below (a ∷ aways) (suc f) here = omega (arith, here_below aways f here)

-- what the list says of a file
pub here_is : (aways : List Bool) (f : ℕ) (a : Bool) → f < length aways → a ≡ get_or aways f a → is_here aways f ≡ not a
here_is [] f a below is = absurd (omega arith)
here_is (b ∷ aways) zero a below is = ap not (sym is)
here_is (b ∷ aways) (suc f) a below is = here_is aways f a (omega arith) is

-- none past the last one is here
pub here_past : (aways : List Bool) (f : ℕ) → length aways ≤ f → is_here aways f ≡ false
here_past [] f past = refl
here_past (a ∷ aways) zero past = absurd (omega arith)
here_past (a ∷ aways) (suc f) past = here_past aways f (omega arith)
