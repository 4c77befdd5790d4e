-- What a volume's restore answers, by what is planned and played.
use Rattle.std.proofs.Common.{◌≡◌, ◌≢◌, ℕ, Option, Some, List, refl, sym, ap, ◌∙◌, subst}
use Rattle.std.specs.Prelude.{Result, Ok, Err, IfOk}
use Rattle.plant_core.specs.declared.plant.Plant.{Ghosts as Plant}
use Rattle.plant_effects.specs.Runs.{StaysQuiet}
use Rattle.vnode_model.specs.declared.volumes.VolumeFields.{VolumeFields}
use Rattle.budb_changes.specs.declared.records.DumpRecordFields.{DumpRecordFields}
use Rattle.budb_fold.specs.Lookups.{latest}
use Rattle.budb_fold.specs.Chains.{HaveParentsBelow}
use Rattle.tape_scan.specs.Slots.{Slot}
use Rattle.tape_scan.specs.Looking.{Loads}
use Rattle.tape_scan.proofs.Looking.{slots_later}
use Rattle.cell_core.specs.declared.stored.Stored.{Stored}
use Rattle.archive_model.specs.Plays.{BadOnTape, Lacks, Large}
use Rattle.archive_model.specs.Archives.{Archive, Refusal, NoDump, MissingDump, MissingTape, Fault, listed_of, LooksUp}
use Rattle.archive_model.proofs.ListedLaws.{all_below}
use Rattle.restore_chain.specs.declared.chain_plan.ChainPlan.{ChainPlan}
use Rattle.restore_chain.specs.declared.fault.RestoreFault.{RestoreFault}
use Rattle.restore_chain.specs.declared.fault.RestoreFault.TheVariants as faults
use Rattle.restore_chain.specs.Planning.{Plans, IsPlanAnswer, refusal_of}
use Rattle.restore_chain.specs.Answers.{looked_up}
use Rattle.restore_chain.specs.Restoring.{IsPlanOf, PlaysPlan, RestoresFrom}
use Rattle.restore_chain.proofs.PlanLaws.{refused}
use Rattle.restore_chain.proofs.RestoreLaws.{planned, restored}
use Rattle.restore_chain.proofs.AnswerLaws.{looked_up_only}
use Rattle.restore_target.specs.Targets.{target_text, after_restore}
use Rattle.restore_commands.specs.declared.stops.RestoreStop.{RestoreStop}
use Rattle.restore_commands.specs.declared.stops.RestoreStop.TheVariants as stops
use Rattle.restore_commands.specs.declared.told.Told.{Told}
use Rattle.restore_commands.specs.declared.told.Told.TheVariants.{Refused}
use Rattle.backup_words.specs.declared.command.Wanted.{Wanted}
use Rattle.restore_commands.specs.Answers.{Manner, VolumeAnswer, look_up_refusal, lines_of, put_answer, found_answer, volume_answer}
use Rattle.restore_commands.specs.Leaving.{IsArchiveOf, OnTheWay}
use Rattle.restore_commands.specs.Steps.{planned_lines, fault_line, IsToldSo}
use Rattle.restore_commands.proofs.LineLaws.{told_by_plan}

pub below : (a : Archive) → HaveParentsBelow (listed_of a)
below a = all_below a.log

-- ---- refusals

-- a look-up is refused, and this is its line
pub record IsRefused (a : Archive) (name : List ℕ) (before : Option ℕ) (target : List ℕ) (fault : RestoreFault) : Type 0 where
  pub refusal : Refusal
  pub is : looked_up a name before ≡ Err refusal
  pub line : fault_line name target fault ≡ look_up_refusal name target refusal

module _ (a : Archive) (name : List ℕ) (before : Option ℕ) (target : List ℕ) where
  only : (outcome : Result VolumeFields Refusal) → LooksUp a name before outcome → looked_up a name before ≡ outcome
  only outcome looks = sym (looked_up_only a name before outcome (below a) looks)

  by_plan : (fault : RestoreFault) (refusal : Refusal) → refusal_of fault ≡ Some refusal → fault_line name target fault ≡ look_up_refusal name target refusal → Plans a.slots (listed_of a) name before (Err fault) → IsRefused a name before target fault
  by_plan fault refusal is line plans = record { refusal = refusal; is = only (Err refusal) (refused a name before fault refusal is plans); line = line }

  pub plan_refused : (fault : RestoreFault) → (let r : Result ChainPlan RestoreFault = Err fault in IsPlanAnswer r) → fault ≢ faults.Failed → fault ≢ faults.Memory → Plans a.slots (listed_of a) name before (Err fault) → IsRefused a name before target fault
  plan_refused faults.NoDump answer went kept plans = by_plan faults.NoDump NoDump refl refl plans
  plan_refused (faults.MissingDump id) answer went kept plans = by_plan (faults.MissingDump id) (MissingDump id) refl refl plans
  plan_refused (faults.MissingTape tape initial) answer went kept plans = by_plan (faults.MissingTape tape initial) (MissingTape tape initial) refl refl plans
  plan_refused (faults.BaseLacks number) answer went kept plans = absurd answer
  plan_refused (faults.BadOnTape tape place) answer went kept plans = absurd answer
  plan_refused faults.TooLarge answer went kept plans = absurd answer
  plan_refused faults.Failed answer went kept plans = absurd (went refl)
  plan_refused faults.Memory answer went kept plans = absurd (kept refl)

  pub play_refused : (fault : RestoreFault) → fault ≢ faults.Failed → fault ≢ faults.Memory → RestoresFrom a name before (Err fault) → IsRefused a name before target fault
  play_refused faults.NoDump went kept from = absurd from
  play_refused (faults.MissingDump id) went kept from = absurd from
  play_refused (faults.MissingTape tape initial) went kept from = absurd from
  play_refused (faults.BaseLacks number) went kept from = record { refusal = Fault (Lacks number from.0); is = only (Err (Fault (Lacks number from.0))) from.1; line = refl }
  play_refused (faults.BadOnTape tape place) went kept from = record { refusal = Fault (BadOnTape tape place); is = only (Err (Fault (BadOnTape tape place))) from; line = refl }
  play_refused faults.TooLarge went kept from = record { refusal = Fault Large; is = only (Err (Fault Large)) from; line = refl }
  play_refused faults.Failed went kept from = absurd (went refl)
  play_refused faults.Memory went kept from = absurd (kept refl)

-- ---- a volume's answer

module _ (a : Archive) (old new : List Stored) (manner : Manner) (wanted : Wanted) (target : List ℕ) (named : target ≡ target_text wanted.name manner.extension) where
  lines : List ℕ
  lines = lines_of manner.is_trial (target_text wanted.name manner.extension) (listed_of a) (latest (listed_of a) wanted.name wanted.before)

  answer_by : (outcome : Result VolumeFields Refusal) → looked_up a wanted.name wanted.before ≡ outcome → volume_answer a old manner wanted ≡ found_answer old wanted manner lines outcome
  unfolding lines
  answer_by outcome is = ap (found_answer old wanted manner lines) is

  -- a refused volume has its line, and the cell stays
  pub refused_told : (fault : RestoreFault) (told : Told) → IsRefused a wanted.name wanted.before target fault → told ≡ Refused (fault_line wanted.name target fault) → new ≡ old → IsToldSo (volume_answer a old manner wanted) told old new
  refused_told fault told refused is same =
      subst (λ (v : VolumeAnswer). IsToldSo v told old new) (sym (answer_by (Err refused.refusal) refused.is))
      (record { told_is = is ∙ ap Refused refused.line ∙ ap (λ (t : List ℕ). Refused (look_up_refusal wanted.name t refused.refusal)) named; list = same })

  -- the same by what told it, which stops at a fault of the outside and for want of memory
  pub refused_answer : (r : Result Told RestoreStop) (fault : RestoreFault) (name : List ℕ) → name ≡ wanted.name → (fault ≡ faults.Failed → r ≡ Err stops.Plant) → (fault ≡ faults.Memory → r ≡ Err stops.Memory)
      → IfOk r (λ told. told ≡ Refused (fault_line name target fault)) → (fault ≢ faults.Failed → fault ≢ faults.Memory → IsRefused a wanted.name wanted.before target fault) → new ≡ old → IfOk r (λ told. IsToldSo (volume_answer a old manner wanted) told old new)
  refused_answer (Ok told) fault name is failed memory text refused same =
      refused_told fault told (refused (λ e. well (failed e)) (λ e. kept (memory e))) (text ∙ ap (λ (n : List ℕ). Refused (fault_line n target fault)) is) same
    where
      well : (let r : Result Told RestoreStop = Ok told in r) ≡ Err stops.Plant → ⊥
      well e = absurd (cc)

      kept : (let r : Result Told RestoreStop = Ok told in r) ≡ Err stops.Memory → ⊥
      kept e = absurd (cc)
  refused_answer (Err stop) fault name is failed memory text refused same = tt

  -- a volume that was found is answered by how it is put
  answer_put : (plan : ChainPlan) (volume : VolumeFields) → Plans a.slots (listed_of a) wanted.name wanted.before (Ok plan) → looked_up a wanted.name wanted.before ≡ Ok volume
      → volume_answer a old manner wanted ≡ put_answer manner.is_trial target (planned_lines manner.is_trial target plan) (after_restore old wanted.server wanted.partition target manner.time volume)
  unfolding lines
  answer_put plan volume plans is =
      answer_by (Ok volume) is
      ∙ ap (λ (l : List ℕ). put_answer manner.is_trial (target_text wanted.name manner.extension) l (after_restore old wanted.server wanted.partition (target_text wanted.name manner.extension) manner.time volume))
      (told_by_plan a.slots (listed_of a) (below a) manner.is_trial (target_text wanted.name manner.extension) plan (latest (listed_of a) wanted.name wanted.before) plans)
      ∙ sym (ap (λ (t : List ℕ). put_answer manner.is_trial t (planned_lines manner.is_trial t plan) (after_restore old wanted.server wanted.partition t manner.time volume)) named)

  pub put_told : (plan : ChainPlan) (volume : VolumeFields) (told : Told) → Plans a.slots (listed_of a) wanted.name wanted.before (Ok plan) → looked_up a wanted.name wanted.before ≡ Ok volume
      → IsToldSo (put_answer manner.is_trial target (planned_lines manner.is_trial target plan) (after_restore old wanted.server wanted.partition target manner.time volume)) told old new → IsToldSo (volume_answer a old manner wanted) told old new
  put_told plan volume told plans is so = subst (λ (v : VolumeAnswer). IsToldSo v told old new) (sym (answer_put plan volume plans is)) so

  pub put_left : (plan : ChainPlan) (volume : VolumeFields) → Plans a.slots (listed_of a) wanted.name wanted.before (Ok plan) → looked_up a wanted.name wanted.before ≡ Ok volume
      → OnTheWay old (put_answer manner.is_trial target (planned_lines manner.is_trial target plan) (after_restore old wanted.server wanted.partition target manner.time volume)).cells new → OnTheWay old (volume_answer a old manner wanted).cells new
  put_left plan volume plans is left = subst (λ (v : VolumeAnswer). OnTheWay old v.cells new) (sym (answer_put plan volume plans is)) left

-- ---- an archive on a plant

module _ {D : Type 0} (P : Plant D) (listed : List DumpRecordFields) (a : Archive) where
  pub archive_later : (old new : D) → Loads P old new → StaysQuiet P old new → P.tells → IsArchiveOf P listed a old → IsArchiveOf P listed a new
  archive_later old new loads stays told is = record { stock = is.stock; records = is.records; holds = is.holds; slots = slots_later P a.slots old new loads stays told is.slots; lists = is.lists }

  -- a plan is one by what the archive lists
  pub plans_there : (plant : D) → IsArchiveOf P listed a plant → (name : List ℕ) (before : Option ℕ) (r : Result ChainPlan RestoreFault) → Plans a.slots listed name before r → Plans a.slots (listed_of a) name before r
  plans_there plant is name before r plans = subst (λ (l : List DumpRecordFields). Plans a.slots l name before r) (sym is.lists) plans

  -- what is played of a plan is restored
  pub played_from : (plant : D) → IsArchiveOf P listed a plant → (name : List ℕ) (before : Option ℕ) (plan : ChainPlan) (r : Result VolumeFields RestoreFault) → Plans a.slots listed name before (Ok plan)
      → (IsPlanOf a.slots listed plan → PlaysPlan a.slots listed plan r) → RestoresFrom a name before r
  played_from plant is name before plan r plans plays =
      restored is.stock a is.records is.holds name before plan r (plans_there plant is name before (Ok plan) plans)
      (subst (λ (l : List DumpRecordFields). PlaysPlan a.slots l plan r) (sym is.lists) (plays (planned a.slots listed name before plan plans)))

  pub volume_from : (name : List ℕ) (before : Option ℕ) (volume : VolumeFields) → RestoresFrom a name before (Ok volume) → looked_up a name before ≡ Ok volume
  volume_from name before volume from = sym (looked_up_only a name before (Ok volume) (below a) from)

-- a plan of the same volume before the same time
pub plans_of : (slots : List Slot) (listed : List DumpRecordFields) (name : List ℕ) (before : Option ℕ) (wanted : Wanted) (r : Result ChainPlan RestoreFault) → name ≡ wanted.name → before ≡ wanted.before → Plans slots listed name before r → Plans slots listed wanted.name wanted.before r
plans_of slots listed name before wanted r name_is before_is plans =
    subst (λ (b : Option ℕ). Plans slots listed wanted.name b r) before_is (subst (λ (n : List ℕ). Plans slots listed n before r) name_is plans)
