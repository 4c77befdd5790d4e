-- A begin that is refused, before its commit and in it.
use Rattle.std.proofs.Common.{◌≡◌, ⊎_elim, ℕ, ◌≤◌, [], ◌∷◌, sym, ◌∙◌, ap, subst}
use Rattle.std.specs.Prelude.{◌⊎◌, Result, Ok, Err, OnErr}
use Rattle.crash_moments.specs.Moments.{Rose, HasCauseAt}
use Rattle.plant_core.specs.declared.plant.Plant.{Ghosts as Plant}
use Rattle.plant_core.specs.Effects.{commits}
use Rattle.plant_effects.specs.Runs.{Leaves}
use Rattle.budb_changes.specs.Bytes.{encoded}
use Rattle.tape_choice.specs.declared.places.Appending.{Appending}
use Rattle.tape_scan.specs.Looking.{Loads}
use Rattle.dump_job.specs.declared.fault.JobFault.{JobFault}
use Rattle.dump_job.specs.declared.fault.JobFault.TheVariants.{Failed, Memory}
use Rattle.dump_job.specs.declared.first_tapes.FirstTape.{FirstTape}
use Rattle.dump_job.specs.declared.fields.JobFields.{JobFields}
use Rattle.dump_job.specs.Faults.{UnlessFailed, Answers, LeavesBehindLoads}
use Rattle.dump_job.specs.Beginning.{begin_changes, begin_effects, Refuses}
use Rattle.dump_job.proofs.Searching.{refused, fault_same}
use Rattle.dump_job.proofs.Beginnings.{leaves_behind}

-- ---- before the commit

pub refuses : (told : Result FirstTape JobFault) (r : Result JobFields JobFault) (e : JobFault) → r ≡ Err e → Answers {T = FirstTape} told (Err e) → Refuses told r
refuses told r e is answers = rw is answers

module _ {D : Type 0} (P : Plant D) where
  -- ---- in the commit

  pub commit_refuses : (told : Result FirstTape JobFault) (r : Result JobFields JobFault) (e : JobFault) → r ≡ Err e → (e ≡ Failed) ⊎ (e ≡ Memory) → Refuses told r
  commit_refuses told r e is only = ⊎_elim (λ (failed : e ≡ Failed). rw (is, failed) tt) (λ (memory : e ≡ Memory). rw (is, memory) tt) only

  -- what holds after loads, and after a commit that wanted memory
  pub commit_left : {T : Type 0} (Holds : D → Type 0) (r : Result T JobFault) (e : JobFault) (mid new : D) → r ≡ Err e → (e ≡ Failed) ⊎ (e ≡ Memory) → (e ≡ Memory → new ≡ mid) → Holds mid → OnErr r (UnlessFailed r (Holds new))
  commit_left Holds r e mid new is only same holds =
      ⊎_elim (λ (failed : e ≡ Failed). rw (is, failed) tt) (λ (memory : e ≡ Memory). rw (is, memory) (subst Holds (sym (same memory)) holds)) only

  -- a begin is its one commit where it isn't refused
  pub begin_leaves : (id : ℕ) (told : Result FirstTape JobFault) (t : FirstTape) (old mid new : D) → told ≡ Ok t → Loads P old mid → Leaves P (commits (encoded (begin_changes id t.take)) ∷ []) mid new → LeavesBehindLoads P (begin_effects id told) old new
  begin_leaves id told t old mid new is loads leaves =
      subst (λ (x : Result FirstTape JobFault). LeavesBehindLoads P (begin_effects id x) old new) (sym is) (leaves_behind P (commits (encoded (begin_changes id t.take)) ∷ []) old mid new loads leaves)

-- ---- counts

pub cause_then : {T U : Type 0} (r : Result T JobFault) (e : JobFault) (before mid now : ℕ) → r ≡ Err e → mid ≡ before → HasCauseAt {T = U} Failed mid now (Err e) → HasCauseAt {T = T} Failed before now r
cause_then {T = T} {U = U} r e before mid now is same cause = record {
  later = subst (λ (n : ℕ). n ≤ now) same cause.later;
  failed = λ failed. subst (λ (n : ℕ). Rose n now) same (cause.failed (ap (λ (f : JobFault). refused U f) (fault_same T e Failed (sym is ∙ failed))));
  stays = λ never. cause.stays (λ failed. never (is ∙ ap (λ (f : JobFault). refused T f) (fault_same U e Failed failed))) ∙ same;
}

-- ---- answers

pub found_same : (a b : Appending) → Answers {T = Appending} (Ok a) (Ok b) → a ≡ b
found_same a b is = cc
