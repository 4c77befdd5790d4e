-- How a volume is put, or only its name asked for.
use Rattle.std.proofs.Common.{◌≡◌, inl, inr, ℕ, Bool, true, false, List, [], refl, sym, ◌∙◌, ap, subst, arith}
use Rattle.std.specs.Prelude.{Result, Ok, Err, IfOk}
use Rattle.vnode_model.specs.declared.volumes.VolumeFields.{VolumeFields}
use Rattle.cell_core.specs.declared.fault.CellFault.{CellFault}
use Rattle.cell_core.specs.declared.fault.CellFault.TheVariants.{Failed, NoVolume, VolumeExists, NoVnode, TooLarge, BadImage, Memory}
use Rattle.cell_core.specs.declared.stored.Stored.{Stored}
use Rattle.cell_core.specs.Answers.{Changes}
use Rattle.restore_target.specs.Targets.{target_text, put_with, after_restore}
use Rattle.restore_target.specs.Answers.{Tells}
use Rattle.restore_commands.specs.declared.stops.RestoreStop.{RestoreStop}
use Rattle.restore_commands.specs.declared.stops.RestoreStop.TheVariants as stops
use Rattle.restore_commands.specs.declared.told.Told.{Told}
use Rattle.restore_commands.specs.declared.told.Told.TheVariants.{Restored, Refused}
use Rattle.backup_words.specs.declared.command.Wanted.{Wanted}
use Rattle.restore_commands.specs.Answers.{Manner, put_answer, target_refusal}
use Rattle.restore_commands.specs.Leaving.{OnTheWay, MayPut}
use Rattle.restore_commands.specs.Steps.{told_by, tried, IsToldSo}

-- ---- a trial

module _ (old new : List Stored) (server partition target : List ℕ) (now : ℕ) (volume : VolumeFields) (due : Result ℕ CellFault) where
  pub tried_ok : (id : ℕ) → due ≡ Ok id → new ≡ old → tried true old (put_with old server partition target now volume due) ≡ Ok new
  tried_ok id is same = ap (λ (d : Result ℕ CellFault). tried true old (put_with old server partition target now volume d)) is ∙ ap Ok (sym same)

  refused_so : (fault : CellFault) → due ≡ Err fault → tried true old (put_with old server partition target now volume due) ≡ Err fault
  refused_so fault is = ap (λ (d : Result ℕ CellFault). tried true old (put_with old server partition target now volume d)) is

  pub tried_err : (fault : CellFault) → Tells due old (Err fault) new → Changes (tried true old (put_with old server partition target now volume due)) old (Err fault) new
  tried_err Failed is = is
  tried_err Memory is = is
  tried_err NoVolume is = (refused_so NoVolume is.0, is.1)
  tried_err VolumeExists is = (refused_so VolumeExists is.0, is.1)
  tried_err NoVnode is = (refused_so NoVnode is.0, is.1)
  tried_err TooLarge is = (refused_so TooLarge is.0, is.1)
  tried_err (BadImage at) is = (refused_so (BadImage at) is.0, is.1)

-- ---- what is told

module _ (target lines : List ℕ) (old new : List Stored) where
  told_ok : (is_trial : Bool) (due : Result (List Stored) CellFault) (told : Told) → tried is_trial old due ≡ Ok new → told ≡ Restored lines → IsToldSo (put_answer is_trial target lines due) told old new
  told_ok true (Ok cell) told is same = record { told_is = same; list = (let e : old ≡ new = cc in sym e) }
  told_ok true (Err fault) told is same = absurd (cc)
  told_ok false (Ok cell) told is same = record { told_is = same; list = (let e : cell ≡ new = cc in sym e) }
  told_ok false (Err fault) told is same = absurd (cc)

  told_err : (is_trial : Bool) (due : Result (List Stored) CellFault) (told : Told) (fault : CellFault) → tried is_trial old due ≡ Err fault → new ≡ old → told ≡ Refused (target_refusal target fault) → IsToldSo (put_answer is_trial target lines due) told old new
  told_err true (Ok cell) told fault is list same = absurd (cc)
  told_err true (Err other) told fault is list same = record { told_is = same ∙ ap (λ (f : CellFault). Refused (target_refusal target f)) (let e : fault ≡ other = cc in e); list = list }
  told_err false (Ok cell) told fault is list same = absurd (cc)
  told_err false (Err other) told fault is list same = record { told_is = same ∙ ap (λ (f : CellFault). Refused (target_refusal target f)) (let e : fault ≡ other = cc in e); list = list }

  -- the cell was asked, and this is told
  pub told_so : (is_trial : Bool) (due : Result (List Stored) CellFault) (answer : Result (Unit {0}) CellFault) (told : Told) → Changes (tried is_trial old due) old answer new → (answer ≡ Err Failed → ⊥) → (answer ≡ Err Memory → ⊥)
      → told ≡ told_by target lines answer → IsToldSo (put_answer is_trial target lines due) told old new
  told_so is_trial due (Ok done) told changes went kept is = told_ok is_trial due told changes is
  told_so is_trial due (Err Failed) told changes went kept is = absurd (went refl)
  told_so is_trial due (Err Memory) told changes went kept is = absurd (kept refl)
  told_so is_trial due (Err NoVolume) told changes went kept is = told_err is_trial due told NoVolume changes.0 changes.1 is
  told_so is_trial due (Err VolumeExists) told changes went kept is = told_err is_trial due told VolumeExists changes.0 changes.1 is
  told_so is_trial due (Err NoVnode) told changes went kept is = told_err is_trial due told NoVnode changes.0 changes.1 is
  told_so is_trial due (Err TooLarge) told changes went kept is = told_err is_trial due told TooLarge changes.0 changes.1 is
  told_so is_trial due (Err (BadImage at)) told changes went kept is = told_err is_trial due told (BadImage at) changes.0 changes.1 is

  -- the same by what told it, which stops at a fault of the outside and for want of memory
  pub told_answer : (is_trial : Bool) (due : Result (List Stored) CellFault) (answer : Result (Unit {0}) CellFault) (r : Result Told RestoreStop) → (answer ≡ Err Failed → r ≡ Err stops.Cell) → (answer ≡ Err Memory → r ≡ Err stops.Memory)
      → IfOk r (λ told. told ≡ told_by target lines answer) → Changes (tried is_trial old due) old answer new → IfOk r (λ told. IsToldSo (put_answer is_trial target lines due) told old new)
  told_answer is_trial due answer (Ok told) failed memory text changes = told_so is_trial due answer told changes (λ e. well (failed e)) (λ e. kept (memory e)) text
    where
      well : (let r : Result Told RestoreStop = Ok told in r) ≡ Err stops.Cell → ⊥
      well e = absurd (cc)

      kept : (let r : Result Told RestoreStop = Ok told in r) ≡ Err stops.Memory → ⊥
      kept e = absurd (cc)
  told_answer is_trial due answer (Err stop) failed memory text changes = tt

-- ---- the list that is left

pub stayed_on : (old : List Stored) (cells : List (List Stored)) (new : List Stored) → new ≡ old → OnTheWay old cells new
stayed_on old cells new same = (0, omega arith, sym same)

-- where a call failed or not, the list stays unless it was answered
stays_unless : (due : Result (List Stored) CellFault) (old new : List Stored) (fault : CellFault) → Changes due old (Err fault) new → new ≡ old
stays_unless due old new Failed changes = changes.1
stays_unless due old new Memory changes = changes
stays_unless due old new NoVolume changes = changes.1
stays_unless due old new VolumeExists changes = changes.1
stays_unless due old new NoVnode changes = changes.1
stays_unless due old new TooLarge changes = changes.1
stays_unless due old new (BadImage at) changes = changes.1

module _ (old new : List Stored) where
  left_ok : (is_trial : Bool) (target lines : List ℕ) (due : Result (List Stored) CellFault) → tried is_trial old due ≡ Ok new → OnTheWay old (put_answer is_trial target lines due).cells new
  left_ok true target lines (Ok cell) is = stayed_on old [] new (let e : old ≡ new = cc in sym e)
  left_ok true target lines (Err fault) is = absurd (cc)
  left_ok false target lines (Ok cell) is = (let e : cell ≡ new = cc in (1, omega arith, e))
  left_ok false target lines (Err fault) is = absurd (cc)

  pub left_so : (is_trial : Bool) (target lines : List ℕ) (due : Result (List Stored) CellFault) (answer : Result (Unit {0}) CellFault) → Changes (tried is_trial old due) old answer new → OnTheWay old (put_answer is_trial target lines due).cells new
  left_so is_trial target lines due (Ok done) changes = left_ok is_trial target lines due changes
  left_so is_trial target lines due (Err fault) changes = stayed_on old (put_answer is_trial target lines due).cells new (stays_unless (tried is_trial old due) old new fault changes)

  may_ok : (manner : Manner) (wanted : Wanted) (volume : VolumeFields) (b : Bool) → manner.is_trial ≡ b
      → tried b old (after_restore old wanted.server wanted.partition (target_text wanted.name manner.extension) manner.time volume) ≡ Ok new → MayPut manner wanted old new
  may_ok manner wanted volume true trial is = inl (stays (after_restore old wanted.server wanted.partition (target_text wanted.name manner.extension) manner.time volume) is)
    where
      stays : (due : Result (List Stored) CellFault) → tried true old due ≡ Ok new → new ≡ old
      stays (Ok cell) is = (let e : old ≡ new = cc in sym e)
      stays (Err fault) is = absurd (cc)
  may_ok manner wanted volume false real is = inr (record { real = real; volume = volume; put = is })

  -- whatever was answered
  pub may_so : (manner : Manner) (wanted : Wanted) (volume : VolumeFields) (target : List ℕ) (answer : Result (Unit {0}) CellFault) → target ≡ target_text wanted.name manner.extension
      → Changes (tried manner.is_trial old (after_restore old wanted.server wanted.partition target manner.time volume)) old answer new → MayPut manner wanted old new
  may_so manner wanted volume target (Ok done) named changes =
      may_ok manner wanted volume manner.is_trial refl (subst (λ (t : List ℕ). tried manner.is_trial old (after_restore old wanted.server wanted.partition t manner.time volume) ≡ Ok new) named changes)
  may_so manner wanted volume target (Err fault) named changes =
      inl (stays_unless (tried manner.is_trial old (after_restore old wanted.server wanted.partition target manner.time volume)) old new fault changes)
