-- What tests tell.
use Rattle.std.proofs.Common.{◌≡◌, ◌≢◌, inl, inr, ℕ, ◌≤◌, Bool, true, false, not, List, [], ◌∷◌, refl, ap, ◌∙◌}
use Rattle.std.specs.Prelude.{nat_le, ◌==◌, ◌||◌}
use Rattle.std.specs.Bool.{Decides}
use Rattle.std.specs.Ordering.{is_lt}
use Rattle.std.specs.declared.cmp.Ordering.{Ordering}
use Rattle.std.specs.declared.cmp.Ordering.TheVariants.{Less, Equal, Greater}
use Rattle.std.proofs.lemmas.Bool.{eqb-true, eqb-false, le-leb, leb-true, and_parts, not-true, not_from_false, false≢true, cases_Bool}
use Rattle.std.proofs.lemmas.Cmp.{nat_list_eq_equiv}
use Rattle.bk_text.specs.Blanks.{is_same_text}

pub upto : (a b : ℕ) → Decides (nat_le a b) (a ≤ b)
upto a b = (leb-true a b, le-leb a b)

pub is_itself : (b : Bool) → Decides b (b ≡ true)
is_itself b = ((λ e. e), (λ e. e))

pub is_off : (b : Bool) → Decides (not b) (b ≡ false)
is_off b = (not-true b, not_from_false b)

pub never : {P : Type 0} → (P → ⊥) → Decides false P
never off = ((λ e. absurd (false≢true e)), (λ p. absurd (off p)))

pub always : {P : Type 0} → P → Decides true P
always p = ((λ e. p), (λ x. refl))

pub other : (a b : ℕ) → Decides (not (a == b)) (a ≢ b)
other a b = ((λ e same. eqb-false a b (not-true (a == b) e) same), (λ differ. not_from_false (a == b) (off differ)))
  where
    off : (a ≡ b → ⊥) → (a == b) ≡ false
    off differ = elim (cases_Bool (a == b)) [
      | inl e ↦ absurd (differ (eqb-true a b e))
      | inr e ↦ e
    ]

-- where a number is another one, more holds
pub where_same : {P : Type 0} (a b : ℕ) (t : Bool) → Decides t P → Decides (not (a == b) || t) (a ≡ b → P)
where_same {P = P} a b t holds = go (a == b) refl
  where
    go : (x : Bool) → (a == b) ≡ x → Decides (not x || t) (a ≡ b → P)
    go true e = ((λ o same. holds.0 o), (λ p. holds.1 (p (eqb-true a b e))))
    go false e = ((λ o same. absurd (eqb-false a b e same)), (λ p. refl))

-- where it isn't, more holds
pub where_other : {P : Type 0} (a b : ℕ) (t : Bool) → Decides t P → Decides ((a == b) || t) (a ≢ b → P)
where_other {P = P} a b t holds = go (a == b) refl
  where
    go : (x : Bool) → (a == b) ≡ x → Decides (x || t) (a ≢ b → P)
    go true e = ((λ o differ. absurd (differ (eqb-true a b e))), (λ p. refl))
    go false e = ((λ o differ. holds.0 o), (λ p. holds.1 (p (eqb-false a b e))))

pub same_text : (xs ys : List ℕ) → Decides (is_same_text xs ys) (xs ≡ ys)
same_text xs ys = (same xs ys, (λ e. ap (λ (l : List ℕ). is_same_text l ys) e ∙ nat_list_eq_equiv.refl ys))
  where
    same : (xs ys : List ℕ) → is_same_text xs ys ≡ true → xs ≡ ys
    same [] [] e = refl
    same [] (y ∷ ys) e = let f : false ≡ true = e in cc
    same (x ∷ xs) [] e = let f : false ≡ true = e in cc
    same (x ∷ xs) (y ∷ ys) e = let p = and_parts (x == y) (is_same_text xs ys) e in λ i. eqb-true x y p.0 i ∷ same xs ys p.1 i

pub less_there : (o : Ordering) → Decides (is_lt o) (o ≡ Less)
less_there Less = ((λ e. refl), (λ e. refl))
less_there Equal = ((λ e. absurd (false≢true e)), (λ e. absurd (cc)))
less_there Greater = ((λ e. absurd (false≢true e)), (λ e. absurd (cc)))
