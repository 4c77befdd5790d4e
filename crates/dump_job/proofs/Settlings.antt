-- A tape that is loaded and cut at its own length.
use Rattle.std.proofs.Common.{◌≡◌, ℕ, Bool, true, false, List, [], ◌∷◌, ◌++◌, length, Option, Some, None, refl, ◌∙◌, ap, subst, arith, inl, inr}
use Rattle.std.specs.Prelude.{◌==◌, ◌≤◌, if◌then◌else◌, Result, Ok, Err, OnOk}
use Rattle.std.proofs.lemmas.Bool.{cases_Bool, eqb-true}
use Rattle.std.proofs.lemmas.List.{take_all}
use Rattle.crash_moments.specs.Moments.{Leads}
use Rattle.plant_core.specs.declared.plant.Plant.{Ghosts as Plant}
use Rattle.plant_core.specs.declared.fault.Failed.{Failed}
use Rattle.plant_core.specs.Crashes.{State, Alike}
use Rattle.plant_core.specs.Effects.{Effect, settles, cuts, putting_away, comes, come, Joint}
use Rattle.plant_effects.specs.Runs.{state_of, loaded_of, Done, IsStartOf, Leaves}
use Rattle.dump_job.specs.Settling.{settling_last}
use Rattle.dump_job.specs.Elsewhere.{LeavesTapes}

-- ---- each tape has the records that it had

own_cut : (k n : ℕ) (s : State) → n ≡ length (s.tape k) → (q : ℕ) → (comes (cuts k n) s).tape q ≡ s.tape q
own_cut k n s own q = elim (cases_Bool (q == k)) [
  | inl hit ↦ (let same : q ≡ k = eqb-true q k hit in let long : length (s.tape q) ≤ n = omega (arith, own, ap (λ (i : ℕ). length (s.tape i)) same) in rw hit (take_all n (s.tape q) long))
  | inr miss ↦ rw miss refl
]

away_cut : (here : Bool) (j k : ℕ) (s : State) (q : ℕ) → (come ((if here then [] else settles j ∷ []) ++ cuts k (length (s.tape k)) ∷ []) s).tape q ≡ s.tape q
away_cut true j k s q = own_cut k (length (s.tape k)) s refl q
away_cut false j k s q = own_cut k (length (s.tape k)) (comes (settles j) s) refl q

loaded_cut : (loaded : Option ℕ) (k : ℕ) (s : State) (q : ℕ) → (come (putting_away loaded k ++ cuts k (length (s.tape k)) ∷ []) s).tape q ≡ s.tape q
loaded_cut None k s q = own_cut k (length (s.tape k)) s refl q
loaded_cut (Some j) k s q = away_cut (j == k) j k s q

module _ {D : Type 0} (P : Plant D) where
  settled_leaves : (o : Option ℕ) (old new : D) → Done P (settling_last P o old) old new → P.tells → LeavesTapes P old new
  settled_leaves None old new done tells q = (done.state tells).tape q
  settled_leaves (Some k) old new done tells q = (done.state tells).tape q ∙ loaded_cut (loaded_of P old) k (state_of P old) q

  pub settling_leaves : (o : Option ℕ) (result : Result (Unit {0}) Failed) (old new : D) → OnOk result (Done P (settling_last P o old) old new) → P.tells → OnOk result (LeavesTapes P old new)
  settling_leaves o (Ok none) old new done tells = settled_leaves o old new done tells
  settling_leaves o (Err failed) old new done tells = tt

  -- ---- effects that are the same
  -- The effects are others that are the same where contents are told.
  pub done_told : (es fs : List Effect) (old new : D) → (P.tells → es ≡ fs) → Done P es old new → Done P fs old new
  done_told es fs old new same done = record {
    sound = done.sound;
    survives = done.survives;
    state = λ tells. subst (λ (xs : List Effect). Alike (come xs (state_of P old)) (state_of P new)) (same tells) (done.state tells);
  }

  pub leaves_told : (es fs : List Effect) (old new : D) → (P.tells → es ≡ fs) → Leaves P es old new → Leaves P fs old new
  leaves_told es fs old new same left = record {
    crash = λ tells survives. subst (λ (xs : List Effect). Leads P.time old new (Joint (state_of P old) xs)) (same tells) (left.crash tells survives);
    told = λ tells. subst (λ (xs : List Effect). IsStartOf (state_of P new).told (come xs (state_of P old)).told) (same tells) (left.told tells);
    grows = left.grows;
  }
