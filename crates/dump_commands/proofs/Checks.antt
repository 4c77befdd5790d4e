-- Answers of the search for the first tape, as a command takes them.
use Rattle.std.proofs.Common.{◌≡◌, ◌≢◌, ℕ, List, length, refl, sym, ◌∙◌, ap, subst}
use Rattle.std.specs.Prelude.{◌<◌, Some, None, Result, Ok, Err, All, map}
use Rattle.std.proofs.lemmas.List.{length-map}
use Rattle.vnode_model.specs.declared.listed.VolEntry.{VolEntry}
use Rattle.cell_core.specs.declared.stored.Stored.{Stored}
use Rattle.cell_core.specs.Calls.{entry_of_stored}
use Rattle.dump_job.specs.declared.fault.JobFault.{JobFault}
use Rattle.dump_job.specs.declared.fault.JobFault.TheVariants.{NothingToAppend, NoTape, CapacityTooSmall, IdsSpent, LogFull, Failed, Memory}
use Rattle.dump_job.specs.declared.first_tapes.FirstTape.{FirstTape}
use Rattle.dump_job.specs.declared.order.DumpOrder.{DumpOrder}
use Rattle.dump_job.specs.Faults.{Answers, UnlessFailed}
use Rattle.dump_job.specs.Beginning.{Checks, Refuses}
use Rattle.dump_courses.specs.declared.stop.DumpStop.{DumpStop}
use Rattle.dump_courses.specs.declared.stop.DumpStop.TheVariants as stop
use Rattle.dump_courses.proofs.Stopping.{stop_is}
use Rattle.dump_commands.specs.Refusals.{passed_on, fault_of, first_bad, trial_refusal}
use Rattle.dump_commands.proofs.EntryLaws.{IsGoodAt, all_good}
use Rattle.dump_commands.proofs.Passing.{trial_passes}

ok_same : (a b : JobFault) (p : Result JobFault DumpStop) → p ≡ Ok a → p ≡ Ok b → a ≡ b
ok_same a b p one other = cc

no_ok : (s : DumpStop) (r : JobFault) (p : Result JobFault DumpStop) → p ≡ Err s → p ≡ Ok r → ⊥
no_ok s r p one other = let e : Err s ≡ Ok r = sym one ∙ other in cc

no_tape : (told : Result FirstTape JobFault) (t : FirstTape) (r : JobFault) → told ≡ Ok t → told ≡ Err r → ⊥
no_tape told t r one other = let e : Ok t ≡ Err r = sym one ∙ other in cc

-- a fault that is passed on is the refusal that the search told
told_passed : (told : Result FirstTape JobFault) (f r : JobFault) → passed_on f ≡ Ok r → Answers told (Err f) → told ≡ Err r
told_passed told NothingToAppend r same is = is ∙ ap (λ (g : JobFault). Err g) (ok_same NothingToAppend r (passed_on NothingToAppend) refl same)
told_passed told (NoTape name) r same is = is ∙ ap (λ (g : JobFault). Err g) (ok_same (NoTape name) r (passed_on (NoTape name)) refl same)
told_passed told CapacityTooSmall r same is = is ∙ ap (λ (g : JobFault). Err g) (ok_same CapacityTooSmall r (passed_on CapacityTooSmall) refl same)
told_passed told IdsSpent r same is = is ∙ ap (λ (g : JobFault). Err g) (ok_same IdsSpent r (passed_on IdsSpent) refl same)
told_passed told (LogFull size) r same is = is ∙ ap (λ (g : JobFault). Err g) (ok_same (LogFull size) r (passed_on (LogFull size)) refl same)
told_passed told Failed r same is = absurd (no_ok stop.Plant r (passed_on Failed) refl same)
told_passed told Memory r same is = absurd (no_ok stop.Memory r (passed_on Memory) refl same)

pub told_none : (told : Result FirstTape JobFault) (none : Unit {0}) → Checks told (Ok none) → None ≡ fault_of told
told_none told none is = sym (ap fault_of is.1)

pub told_some : (told : Result FirstTape JobFault) (f r : JobFault) → Ok r ≡ passed_on f → Checks told (Err f) → Some r ≡ fault_of told
told_some told f r same is = sym (ap fault_of (told_passed told f r (sym same) is))

pub told_not : (told : Result FirstTape JobFault) (t : FirstTape) (f r : JobFault) → told ≡ Ok t → Ok r ≡ passed_on f → Refuses told (Err f) → ⊥
told_not told t f r found same is = no_tape told t r found (told_passed told f r (sym same) is)

-- a search that was stopped otherwise than by the plant didn't fail
pub search_stopped : (T : Type 0) {U : Type 0} (X : Type 0) (f : JobFault) (s : DumpStop) → Err s ≡ passed_on f → UnlessFailed (let r : Result T JobFault = Err f in r) X → (let q : Result U DumpStop = Err s in q) ≢ Err stop.Plant → X
search_stopped T X NothingToAppend s is holds other = holds
search_stopped T X (NoTape name) s is holds other = holds
search_stopped T X CapacityTooSmall s is holds other = holds
search_stopped T X IdsSpent s is holds other = holds
search_stopped T X (LogFull size) s is holds other = holds
search_stopped T X Failed s is holds other = absurd (other (ap (λ (x : DumpStop). Err x) (stop_is s stop.Plant is)))
search_stopped T X Memory s is holds other = holds

-- ---- an order that isn't refused has good images alone

pub good_places : (cell : List Stored) (entries : List VolEntry) (places : List ℕ) → entries ≡ map entry_of_stored cell → All (λ place. place < length entries) places → first_bad entries places ≡ None → All (IsGoodAt cell) places
good_places cell entries places same within good =
    all_good cell places (subst (λ (n : ℕ). All (λ place. place < n) places) (ap length same ∙ length-map cell entry_of_stored) within) (subst (λ (l : List VolEntry). first_bad l places ≡ None) same good)

pub good_trial : (cell : List Stored) (entries : List VolEntry) (o : DumpOrder) → entries ≡ map entry_of_stored cell → All (λ place. place < length entries) o.volumes → trial_refusal entries o ≡ None → All (IsGoodAt cell) o.volumes
good_trial cell entries o same within passed = good_places cell entries o.volumes same within (trial_passes entries o passed)

-- a begin that was refused didn't fail
pub begin_refused : (T : Type 0) (X : Type 0) (f r : JobFault) → Ok r ≡ passed_on f → UnlessFailed (let q : Result T JobFault = Err f in q) X → X
begin_refused T X NothingToAppend r is holds = holds
begin_refused T X (NoTape name) r is holds = holds
begin_refused T X CapacityTooSmall r is holds = holds
begin_refused T X IdsSpent r is holds = holds
begin_refused T X (LogFull size) r is holds = holds
begin_refused T X Failed r is holds = absurd (no_ok stop.Plant r (passed_on Failed) refl (sym is))
begin_refused T X Memory r is holds = holds
