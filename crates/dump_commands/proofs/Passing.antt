-- An order that nothing refuses.
use Rattle.std.proofs.Common.{◌≡◌, zero, suc, ℕ, ◌≤◌, List, length, Bool, true, false, refl, sym, arith}
use Rattle.std.specs.Prelude.{Option, Some, None, Result, Ok, Err, if◌then◌else◌, ◌==◌}
use Rattle.std.proofs.lemmas.Bool.{false≢true}
use Rattle.vnode_model.specs.declared.listed.VolEntry.{VolEntry}
use Rattle.dump_job.specs.declared.fault.JobFault.{JobFault}
use Rattle.dump_job.specs.declared.first_tapes.FirstTape.{FirstTape}
use Rattle.dump_job.specs.declared.order.DumpOrder.{DumpOrder}
use Rattle.backup_replies.specs.declared.refusals.Refusal.TheVariants.{NoVolumes}
use Rattle.backup_replies.specs.Texts.{refused_word}
use Rattle.dump_commands.specs.Refusals.{fault_text, is_early, early_by, late_by, none_of, first_bad, or_else, trial_refusal, refusal_by, fault_of}

none_some : {X : Type 0} (x : X) → Some x ≡ None → ⊥
none_some x e = cc

-- neither of two
pub record Neither (one other : Option (List ℕ)) : Type 0 where
  pub first : one ≡ None
  pub second : other ≡ None

neither : (one other : Option (List ℕ)) → or_else one other ≡ None → Neither one other
neither None other is = record { first = refl; second = is }
neither (Some text) other is = absurd (none_some text is)

some_by : (text : List ℕ) (n : ℕ) (b : Bool) → (n == 0) ≡ b → (if b then Some text else None) ≡ None → 1 ≤ n
some_by text n true same is = absurd (none_some text is)
some_by text zero false same is = absurd (false≢true (sym same))
some_by text (suc n) false same is = omega arith

some_volumes : (o : DumpOrder) → none_of o ≡ None → 1 ≤ length o.volumes
some_volumes o is = some_by (refused_word NoVolumes o.set) (length o.volumes) (length o.volumes == 0) refl is

no_fault : (o : DumpOrder) (f : Option JobFault) → early_by o f ≡ None → late_by o f ≡ None → f ≡ None
no_fault o None early late = refl
no_fault o (Some f) early late = by (is_early f) early late
  where
    by : (b : Bool) → (if b then Some (fault_text o f) else None) ≡ None → (if b then None else Some (fault_text o f)) ≡ None → Some f ≡ None
    by true early late = absurd (none_some (fault_text o f) early)
    by false early late = absurd (none_some (fault_text o f) late)

-- it has volumes, all of them good, and a tape on which it begins
pub record Passes (cell : List VolEntry) (o : DumpOrder) (f : Option JobFault) : Type 0 where
  pub fault : f ≡ None
  pub some : 1 ≤ length o.volumes
  pub good : first_bad cell o.volumes ≡ None

pub passes : (cell : List VolEntry) (o : DumpOrder) (f : Option JobFault) → refusal_by cell o f ≡ None → Passes cell o f
passes cell o f is =
    let early : Neither (early_by o f) (or_else (none_of o) (or_else (late_by o f) (first_bad cell o.volumes))) = neither (early_by o f) (or_else (none_of o) (or_else (late_by o f) (first_bad cell o.volumes))) is in
    let none : Neither (none_of o) (or_else (late_by o f) (first_bad cell o.volumes)) = neither (none_of o) (or_else (late_by o f) (first_bad cell o.volumes)) early.second in
    let late : Neither (late_by o f) (first_bad cell o.volumes) = neither (late_by o f) (first_bad cell o.volumes) none.second in
    record { fault = no_fault o f early.first late.first; some = some_volumes o none.first; good = late.second }

pub trial_passes : (cell : List VolEntry) (o : DumpOrder) → trial_refusal cell o ≡ None → first_bad cell o.volumes ≡ None
trial_passes cell o is = (neither (none_of o) (first_bad cell o.volumes) is).second

-- a search that isn't refused found a tape
pub record FoundTape (r : Result FirstTape JobFault) : Type 0 where
  pub tape : FirstTape
  pub is : r ≡ Ok tape

pub found_tape : (r : Result FirstTape JobFault) → fault_of r ≡ None → FoundTape r
found_tape (Ok t) is = record { tape = t; is = refl }
found_tape (Err f) is = absurd (none_some f is)
