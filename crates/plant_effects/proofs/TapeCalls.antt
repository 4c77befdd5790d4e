-- What the calls of a plant on a tape do to it, as effects.
use Rattle.std.proofs.Common.{◌≡◌, ◌≢◌, ◌⊎◌, inl, inr, ⊎_elim, ℕ, Option, Some, None, Bool, true, false, List, [], ◌∷◌, ◌++◌, length, take, refl, sym, ◌∙◌, ap, subst, arith}
use Rattle.std.specs.Prelude.{if◌then◌else◌, ◌==◌}
use Rattle.std.proofs.lemmas.Bool.Decides.{nat_tests}
use Rattle.std.proofs.lemmas.List.{take_all}
use Rattle.crash_moments.specs.Moments.{Leads}
use Rattle.crash_moments.specs.Telling.{IsFront}
use Rattle.crash_moments.proofs.Joining.{weakened}
use Rattle.plant_core.specs.declared.plant.Plant.{Ghosts as Plant}
use Rattle.plant_core.specs.Crashes.{IsTorn}
use Rattle.plant_core.specs.Effects.{Effect, puts, cuts, Joint}
use Rattle.plant_core.specs.Records.{Record}
use Rattle.plant_core.specs.Steps.{MayGain, MayKeep, MaySettle, IsPutAway}
use Rattle.plant_core.specs.Stock.{Stock}
use Rattle.plant_effects.specs.Runs.{state_of}
use Rattle.plant_effects.proofs.States.{grows_none}
use Rattle.plant_effects.proofs.Joining.{Fits}

same_of : (j k : ℕ) → (j == k) ≡ true → j ≡ k
same_of j k is = grind (arith, nat_tests)

other_of : (j k : ℕ) → (j == k) ≡ false → j ≢ k
other_of j k is = grind (arith, nat_tests)

module _ {D : Type 0} (P : Plant D) (r : Record) (k : ℕ) (old new : D) where
  -- images while a record is put on a tape
  pub puts_step : Fits P old → (P.tells → P.survives old → Leads P.time old new (MayGain r k (state_of P old)))
      → P.tells → P.survives old → Leads P.time old new (Joint (state_of P old) (puts k r ∷ []))
  puts_step fits leads told survives = weakened P.time old new (MayGain r k (state_of P old)) (Joint (state_of P old) (puts k r ∷ [])) (leads told survives) (λ a c was step.
      let a_left = fits told survives a was in
      record {
        count = 1;
        within = omega arith;
        left = record {
          log = step.log ∙ a_left.log;
          tapes = λ j. by a c j (j == k) refl step (a_left.tapes j);
          told = subst (λ (l : List ℕ). IsFront l (state_of P old).told) (sym step.told) a_left.told;
        };
        grows = grows_none a c step.told;
      })
    where
      by : (a c : Stock) (j : ℕ) (b : Bool) → (j == k) ≡ b → MayGain r k (state_of P old) a c → IsTorn ((state_of P old).settled j) ((state_of P old).tape j) (a.tape j)
          → IsTorn ((state_of P old).settled j) (if b then (state_of P old).tape j ++ r ∷ [] else (state_of P old).tape j) (c.tape j)
      by a c j true is step torn = subst (λ (i : ℕ). IsTorn ((state_of P old).settled i) ((state_of P old).tape i ++ r ∷ []) (c.tape i)) (sym (same_of j k is)) step.here
      by a c j false is step torn = subst (λ l. IsTorn ((state_of P old).settled j) ((state_of P old).tape j) l) (sym (step.others j (other_of j k is))) torn

module _ {D : Type 0} (P : Plant D) (k n : ℕ) (old new : D) where
  -- images while a tape is cut
  pub cuts_step : Fits P old → (P.tells → P.survives old → Leads P.time old new (MayKeep n k (state_of P old)))
      → P.tells → P.survives old → Leads P.time old new (Joint (state_of P old) (cuts k n ∷ []))
  cuts_step fits leads told survives = weakened P.time old new (MayKeep n k (state_of P old)) (Joint (state_of P old) (cuts k n ∷ [])) (leads told survives) (λ a c was step.
      let a_left = fits told survives a was in
      ⊎_elim
      (λ (torn : IsTorn ((state_of P old).settled k) ((state_of P old).tape k) (c.tape k)). record {
        count = 0;
        within = omega arith;
        left = record {
          log = step.log ∙ a_left.log;
          tapes = λ j. before a c j (j == k) refl step torn (a_left.tapes j);
          told = subst (λ (l : List ℕ). IsFront l (state_of P old).told) (sym step.told) a_left.told;
        };
        grows = grows_none a c step.told;
      })
      (λ (cut : c.tape k ≡ take n ((state_of P old).tape k)). record {
        count = 1;
        within = omega arith;
        left = record {
          log = step.log ∙ a_left.log;
          tapes = λ j. after a c j (j == k) refl step cut (a_left.tapes j);
          told = subst (λ (l : List ℕ). IsFront l (state_of P old).told) (sym step.told) a_left.told;
        };
        grows = grows_none a c step.told;
      })
      step.here)
    where
      before : (a c : Stock) (j : ℕ) (b : Bool) → (j == k) ≡ b → MayKeep n k (state_of P old) a c → IsTorn ((state_of P old).settled k) ((state_of P old).tape k) (c.tape k) → IsTorn ((state_of P old).settled j) ((state_of P old).tape j) (a.tape j)
          → IsTorn ((state_of P old).settled j) ((state_of P old).tape j) (c.tape j)
      before a c j true is step here torn = subst (λ (i : ℕ). IsTorn ((state_of P old).settled i) ((state_of P old).tape i) (c.tape i)) (sym (same_of j k is)) here
      before a c j false is step here torn = subst (λ l. IsTorn ((state_of P old).settled j) ((state_of P old).tape j) l) (sym (step.others j (other_of j k is))) torn

      after : (a c : Stock) (j : ℕ) (b : Bool) → (j == k) ≡ b → MayKeep n k (state_of P old) a c → c.tape k ≡ take n ((state_of P old).tape k) → IsTorn ((state_of P old).settled j) ((state_of P old).tape j) (a.tape j)
          → IsTorn (if b then length (take n ((state_of P old).tape j)) else (state_of P old).settled j) (if b then take n ((state_of P old).tape j) else (state_of P old).tape j) (c.tape j)
      after a c j true is step cut torn = record {
        count = length (take n ((state_of P old).tape j));
        low = omega arith;
        high = omega arith;
        is = inl (subst (λ (i : ℕ). c.tape i ≡ take n ((state_of P old).tape i)) (sym (same_of j k is)) cut ∙ sym (take_all (length (take n ((state_of P old).tape j))) (take n ((state_of P old).tape j)) (omega arith)));
      }
      after a c j false is step cut torn = subst (λ l. IsTorn ((state_of P old).settled j) ((state_of P old).tape j) l) (sym (step.others j (other_of j k is))) torn

-- the tape that a load puts away is another one than is asked for
put_away : (loaded : Option ℕ) (slot j : ℕ) → (IsPutAway loaded slot j) ⊎ (IsPutAway loaded slot j → ⊥)
put_away None slot j = inr (λ away. cc)
put_away (Some m) slot j = by (j == m) (j == slot) refl refl
  where
    by : (s t : Bool) → (j == m) ≡ s → (j == slot) ≡ t → (IsPutAway (Some m) slot j) ⊎ (IsPutAway (Some m) slot j → ⊥)
    by true false is other = inl (ap (λ (i : ℕ). Some i) (sym (same_of j m is)), other_of j slot other)
    by true true is same = inr (λ away. away.1 (same_of j slot same))
    by false t other t_is = inr (λ away. other_of j m other (some_same away.0))
      where
        some_same : Some m ≡ Some j → j ≡ m
        some_same e = cc

-- images while a tape is put away, which settles it
pub loads_step : {D : Type 0} (P : Plant D) (loaded : Option ℕ) (slot : ℕ) (es : List Effect) (old new : D) → Fits P old → (P.tells → P.survives old → Leads P.time old new (MaySettle loaded slot (state_of P old)))
    → P.tells → P.survives old → Leads P.time old new (Joint (state_of P old) es)
loads_step P loaded slot es old new fits leads told survives = weakened P.time old new (MaySettle loaded slot (state_of P old)) (Joint (state_of P old) es) (leads told survives) (λ a c was step.
    let a_left = fits told survives a was in
    record {
      count = 0;
      within = omega arith;
      left = record {
        log = step.log ∙ a_left.log;
        tapes = λ j. ⊎_elim
            (λ (away : IsPutAway loaded slot j). step.away j away)
            (λ (other : IsPutAway loaded slot j → ⊥). subst (λ l. IsTorn ((state_of P old).settled j) ((state_of P old).tape j) l) (sym (step.others j other)) (a_left.tapes j))
            (put_away loaded slot j);
        told = subst (λ (l : List ℕ). IsFront l (state_of P old).told) (sym step.told) a_left.told;
      };
      grows = grows_none a c step.told;
    })
