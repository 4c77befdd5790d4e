-- What calls on the output and the log do to a plant, as effects.
use Rattle.std.proofs.Common.{◌≡◌, ⊎_elim, ℕ, ◌+◌, ◌-◌, ◌≤◌, min, List, [], ◌∷◌, ◌++◌, length, take, drop, Some, sym, ◌∙◌, ap, subst, arith, append_assoc}
use Rattle.std.proofs.lemmas.List.{append-nil, take-append-drop, take_rest, take_all, take_min, take-append-le, length-drop}
use Rattle.std.proofs.Math.Seq.{take-add}
use Rattle.crash_moments.specs.Moments.{Leads}
use Rattle.crash_moments.specs.Telling.{IsFront}
use Rattle.crash_moments.proofs.Fronts.{front_more, front_part, front_size}
use Rattle.crash_moments.proofs.Joining.{joined, weakened}
use Rattle.plant_core.specs.declared.plant.Plant.{Ghosts as Plant}
use Rattle.plant_core.specs.Crashes.{State, IsTorn, LeftIn, Alike}
use Rattle.plant_core.specs.Effects.{Effect, commits, replaces, tells, comes, Joint, log_with, log_kept}
use Rattle.plant_core.specs.Steps.{Same, OldOr, TellsTo}
use Rattle.plant_core.specs.Stock.{Stock}
use Rattle.plant_effects.specs.Runs.{state_of, Done, IsStartOf, Leaves, SameNumbers, StaysTelling}
use Rattle.plant_core.specs.Views.{OnlyFaults}
use Rattle.plant_effects.proofs.States.{grows_same, grows_more, grows_both, told_kept, grows_none, grows_twice, joint_none}
use Rattle.plant_effects.proofs.Joining.{Fits}

-- what is behind a place, as the code slices it
rest_is : (at : ℕ) (p : List ℕ) → take (length p - at) (drop at p) ≡ drop at p
rest_is at p = take_rest p at

pub rest_length : (at : ℕ) (p : List ℕ) → length (take (length p - at) (drop at p)) ≡ length p - at
rest_length at p = ap length (rest_is at p) ∙ length-drop at p

part_taken : (at n : ℕ) (p : List ℕ) → take at p ++ take n (take (length p - at) (drop at p)) ≡ take (at + n) p
part_taken at n p = ap (λ (l : List ℕ). take at p ++ take n l) (rest_is at p) ∙ sym (take-add at n p)

part_rest : (at : ℕ) (p : List ℕ) → take at p ++ take (length p - at) (drop at p) ≡ p
part_rest at p = ap (λ (l : List ℕ). take at p ++ l) (rest_is at p) ∙ take-append-drop at p

pub parts_ok : (at n : ℕ) (text : List ℕ) → at + n ≤ length text → take at text ++ (take n (take (length text - at) (drop at text)) ++ drop (at + n) text) ≡ text
parts_ok at n text within = sym (append_assoc (take at text) (take n (take (length text - at) (drop at text))) (drop (at + n) text))
    ∙ ap (λ (l : List ℕ). l ++ drop (at + n) text) (part_taken at n text) ∙ take-append-drop (at + n) text

pub parts_err : (at : ℕ) (text : List ℕ) → take at text ++ (take (length text - at) (drop at text) ++ []) ≡ text
parts_err at text = ap (λ (l : List ℕ). take at text ++ l) (append-nil (take (length text - at) (drop at text))) ∙ part_rest at text

pub taken_more : (at n : ℕ) (text : List ℕ) → take at text ++ take n (take (length text - at) (drop at text)) ≡ take (at + n) text
taken_more = part_taken

-- a front of a text, and then a front of the rest, was told
pub told_part : (text : List ℕ) (at n : ℕ) (old mid new : List ℕ) → mid ≡ old ++ take at text → new ≡ mid ++ take n (take (length text - at) (drop at text)) → IsStartOf new (old ++ text)
told_part text at n old mid new so_far more = front_size new (old ++ text) (front_part old text (at + n) new
    (more ∙ ap (λ (l : List ℕ). l ++ take n (take (length text - at) (drop at text))) so_far ∙ append_assoc old (take at text) (take n (take (length text - at) (drop at text))) ∙ ap (λ (l : List ℕ). old ++ l) (part_taken at n text)))

-- what was told has grown, and then by a piece
pub grows_part : (old mid new piece : List ℕ) → IsStartOf old mid → new ≡ mid ++ piece → IsStartOf old new
grows_part old mid new piece start is = grows_both old mid new start (subst (IsStartOf mid) (sym is) (grows_more mid piece))

module _ {D : Type 0} (P : Plant D) where
  -- ---- telling

  -- what was told so far of a text
  pub record Telling (at : ℕ) (text : List ℕ) (old now : D) : Type 0 where
    pub within : at ≤ length text
    pub done : Done P (tells (take at text) ∷ []) old now
    pub leaves : Leaves P (tells text ∷ []) old now
    pub stays : StaysTelling P old now
    pub numbers : SameNumbers P old now
    pub tell_faults : (P.view now).tell_faults ≡ (P.view old).tell_faults

  -- a state from which more was told
  pub told_more : (text piece text2 : List ℕ) (old mid new : D) → text ++ piece ≡ text2 → Alike (comes (tells text) (state_of P old)) (state_of P mid)
      → Alike (comes (tells piece) (state_of P mid)) (state_of P new) → Alike (comes (tells text2) (state_of P old)) (state_of P new)
  told_more text piece text2 old mid new joined_is so_far more = record {
    log = more.log ∙ so_far.log;
    tape = λ k. more.tape k ∙ so_far.tape k;
    told = more.told ∙ ap (λ (l : List ℕ). l ++ piece) so_far.told ∙ append_assoc (state_of P old).told text piece ∙ ap (λ (l : List ℕ). (state_of P old).told ++ l) joined_is;
    log_settled = more.log_settled ∙ so_far.log_settled;
    settled = λ k. more.settled k ∙ so_far.settled k;
  }

  -- images while more of a text is told
  pub tells_step : (text told_text progress rest : List ℕ) (old mid new : D) → told_text ++ (progress ++ rest) ≡ text → Fits P mid
      → Done P (tells told_text ∷ []) old mid → (P.tells → P.survives old → Leads P.time old mid (Joint (state_of P old) (tells text ∷ [])))
      → (P.tells → Leads P.time mid new (TellsTo ((state_of P mid).told ++ progress)))
      → P.tells → P.survives old → Leads P.time old new (Joint (state_of P old) (tells text ∷ []))
  tells_step text told_text progress rest old mid new parts fits done first second told survives =
      let alive = done.survives told survives in
      let alike = done.state told in
      joined P.time old mid new (Joint (state_of P old) (tells text ∷ [])) (TellsTo ((state_of P mid).told ++ progress)) (Joint (state_of P old) (tells text ∷ []))
      (first told survives) (second told) (λ a b was step. step) (λ a b c was step left next.
      let b_left = fits told alive b left in
      record {
        count = 1;
        within = omega arith;
        left = record {
          log = next.log ∙ b_left.log ∙ (λ i. Some (take (alike.log_settled i) (alike.log i)));
          tapes = λ k. torn b c k (alike.settled k) (alike.tape k) (next.tapes k) (b_left.tapes k);
          told = subst (IsFront c.told) (whole alike.told) (front_more c.told ((state_of P mid).told ++ progress) rest next.front);
        };
        grows = grows_twice a b c step.grows next.grows;
      })
    where
      whole : (state_of P mid).told ≡ (state_of P old).told ++ told_text → ((state_of P mid).told ++ progress) ++ rest ≡ (state_of P old).told ++ text
      whole is = append_assoc (state_of P mid).told progress rest ∙ ap (λ (l : List ℕ). l ++ (progress ++ rest)) is ∙ append_assoc (state_of P old).told told_text (progress ++ rest) ∙ ap (λ (l : List ℕ). (state_of P old).told ++ l) parts

      torn : (b c : Stock) (k : ℕ) → (state_of P mid).settled k ≡ (state_of P old).settled k → (state_of P mid).tape k ≡ (state_of P old).tape k → c.tape k ≡ b.tape k
          → IsTorn ((state_of P mid).settled k) ((state_of P mid).tape k) (b.tape k) → IsTorn ((state_of P old).settled k) ((state_of P old).tape k) (c.tape k)
      torn b c k count tape same is = subst (λ l. IsTorn ((state_of P old).settled k) ((state_of P old).tape k) l) (sym same)
          (subst (λ l. IsTorn ((state_of P old).settled k) l (b.tape k)) tape (subst (λ (n : ℕ). IsTorn n ((state_of P mid).tape k) (b.tape k)) count is))

  -- ---- the log

  module _ (old : D) (s : State) (a c : Stock) (left : LeftIn s a) (tapes : (k : ℕ) → c.tape k ≡ a.tape k) (told : c.told ≡ a.told) where
    kept : (k : ℕ) → IsTorn (s.settled k) (s.tape k) (c.tape k)
    kept k = subst (λ l. IsTorn (s.settled k) (s.tape k) l) (sym (tapes k)) (left.tapes k)

    front : IsFront c.told s.told
    front = subst (λ (l : List ℕ). IsFront l s.told) (sym told) left.told

    pub log_as : (effect : Effect) → c.log ≡ a.log → Joint s (effect ∷ []) a c
    log_as effect same = record { count = 0; within = omega arith; left = record { log = same ∙ left.log; tapes = kept; told = front }; grows = grows_none a c told }

    pub log_committed : (bytes : List ℕ) → c.log ≡ Some (s.log ++ bytes) → Joint s (commits bytes ∷ []) a c
    log_committed bytes more = record {
      count = 1;
      within = omega arith;
      left = record { log = more ∙ ap (λ (l : List ℕ). Some l) (sym (take_all (length (s.log ++ bytes)) (s.log ++ bytes) (omega arith))); tapes = kept; told = front };
      grows = grows_none a c told;
    }

    pub log_replaced : (bytes : List ℕ) → c.log ≡ Some bytes → Joint s (replaces bytes ∷ []) a c
    log_replaced bytes more = record {
      count = 1;
      within = omega arith;
      left = record { log = more ∙ ap (λ (l : List ℕ). Some l) (sym (take_all (length bytes) bytes (omega arith))); tapes = kept; told = front };
      grows = grows_none a c told;
    }

  -- images while bytes are put behind the log and committed
  pub commits_step : (bytes log : List ℕ) (old mid new : D) → Fits P old → log ≡ (state_of P old).log ++ bytes
      → P.tells → P.survives old → Leads P.time old mid Same → Leads P.time mid new (OldOr log) → Leads P.time old new (Joint (state_of P old) (commits bytes ∷ []))
  commits_step bytes log old mid new fits is told survives first second = joined P.time old mid new Same (OldOr log) (Joint (state_of P old) (commits bytes ∷ [])) first second
      (λ a b was same. joint_none (state_of P old) (commits bytes ∷ []) a b (subst (LeftIn (state_of P old)) (sym same) (fits told survives a was)) (grows_none a b (ap (λ (x : Stock). x.told) same)))
      (λ a b c was same left step.
      let a_left = fits told survives a was in
      let tapes : (k : ℕ) → c.tape k ≡ a.tape k = λ k. step.tapes k ∙ ap (λ (x : Stock). x.tape k) same in
      let told : c.told ≡ a.told = step.told ∙ ap (λ (x : Stock). x.told) same in
      ⊎_elim
      (λ (old_log : c.log ≡ b.log). log_as old (state_of P old) a c a_left tapes told (commits bytes) (old_log ∙ ap (λ (x : Stock). x.log) same))
      (λ (new_log : c.log ≡ Some log). log_committed old (state_of P old) a c a_left tapes told bytes (new_log ∙ ap (λ (l : List ℕ). Some l) is))
      step.here)

  -- images while the log is replaced
  pub replaces_step : (bytes : List ℕ) (old new : D) → Fits P old → (P.tells → P.survives old → Leads P.time old new (OldOr bytes)) → OnlyFaults P.tells (P.view old) (P.view new) → Leaves P (replaces bytes ∷ []) old new
  replaces_step bytes old new fits leads only = record {
    crash = λ told survives. weakened P.time old new (OldOr bytes) (Joint (state_of P old) (replaces bytes ∷ [])) (leads told survives) (λ a c was step.
        let a_left = fits told survives a was in
        ⊎_elim
        (λ (old_log : c.log ≡ a.log). log_as old (state_of P old) a c a_left step.tapes step.told (replaces bytes) old_log)
        (λ (new_log : c.log ≡ Some bytes). log_replaced old (state_of P old) a c a_left step.tapes step.told bytes new_log)
        step.here);
    told = λ told. told_kept (replaces bytes ∷ []) (state_of P old) (state_of P new).told (only.output told);
    grows = λ told. grows_same (state_of P old).told (state_of P new).told (only.output told);
  }

  -- a state in which bytes were put, and then committed
  pub committed : (bytes : List ℕ) (old mid new : State) → Alike (log_with bytes old) mid → Alike (log_kept mid) new → Alike (comes (commits bytes) old) new
  committed bytes old mid new first second = record {
    log = second.log ∙ first.log;
    tape = λ k. second.tape k ∙ first.tape k;
    told = second.told ∙ first.told;
    log_settled = second.log_settled ∙ ap length first.log;
    settled = λ k. second.settled k ∙ first.settled k;
  }
