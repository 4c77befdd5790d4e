-- The end of a part and what is committed behind it: the last two kinds of steps.
use Rattle.std.specs.Prelude.{◌≡◌, ◌≢◌, ℕ, ◌+◌, Bool, true, false, nat_lt, if◌then◌else◌, None, Result, Ok, Err, List, [], ◌∷◌, ◌++◌, length, IsTrue}
use Rattle.crash_moments.specs.Moments.{HasCauseAt}
use Rattle.plant_core.specs.declared.plant.Plant.{Ghosts as Plant}
use Rattle.plant_core.specs.Effects.{Effect, commits, putting_away}
use Rattle.plant_effects.specs.Runs.{state_of, loaded_of, Done, Leaves, SameNumbers, StaysQuiet}
use Rattle.tape_text.specs.Items.{Item}
use Rattle.tape_writer.specs.Puts.{puts_on}
use Rattle.budb_changes.specs.declared.change.Change.{Change}
use Rattle.budb_changes.specs.declared.change.Change.TheVariants as change
use Rattle.budb_changes.specs.Bytes.{encoded}
use Rattle.budb_changes.specs.Forms.{AreChanges}
use Rattle.budb_fold.specs.Database.{after_from}
use Rattle.budb.specs.declared.fault.CommitFault.{CommitFault}
use Rattle.budb.specs.declared.fault.CommitFault.TheVariants as commit
use Rattle.budb.specs.Views.{BudbView}
use Rattle.budb.specs.Kept.{Keeps}
use Rattle.dump_job.specs.declared.fields.JobFields.{JobFields}
use Rattle.dump_job.specs.declared.fields.Phase.TheVariants as phase
use Rattle.dump_job.specs.Reels.{with_more, turn_of}
use Rattle.dump_job.specs.Ending.{done_record}

-- ---- what is committed

-- Changes are one commit; where there are none nothing is committed.
abbrev pub committing : List Change → List Effect
committing [] = []
committing (c ∷ cs) = commits (encoded (c ∷ cs)) ∷ []

-- the log's length with changes behind so many bytes
abbrev pub length_with : ℕ → List Change → ℕ
length_with size changes = size + length (encoded changes)

-- The log would have over 268,435,456 bytes. Where nothing is committed that isn't asked.
abbrev pub is_too_long : ℕ → List Change → Bool
is_too_long size [] = false
is_too_long size (c ∷ cs) = nat_lt 268435456 (length_with size (c ∷ cs))

-- the changes of a commit that is made: none where the log would be too long
abbrev pub made_of : ℕ → List Change → List Change
made_of size changes = if is_too_long size changes then [] else changes

-- the change that lists a dump
abbrev pub done_changes : JobFields → List Change
done_changes j = change.Done (done_record j) ∷ []

-- ---- what was done

-- The end of the part was put, be it that the commit behind it was refused since the log would be too long.
abbrev pub HasEnded : Result Bool CommitFault → Type 0
HasEnded (Ok true) = Unit {0}
HasEnded (Ok false) = ⊥
HasEnded (Err (commit.LogFull n)) = Unit {0}
HasEnded (Err commit.Failed) = ⊥
HasEnded (Err commit.Memory) = ⊥

-- What a commit of changes did to the plant: all of it; or the log would have been too long, and nothing was done; or the plant failed.
pub record Commits {D : Type 0} (P : Plant D) (changes : List Change) (result : Result Bool CommitFault) (old new : D) : Type 0 where
  pub found : result ≢ Ok false
  pub never : result ≢ Err commit.Memory
  pub done : result ≡ Ok true → Done P (committing changes) old new
  pub full : (n : ℕ) → result ≡ Err (commit.LogFull n) → new ≡ old
  pub full_length : (n : ℕ) → result ≡ Err (commit.LogFull n) → IsTrue (is_too_long (P.view old).log_size changes) × (n ≡ length_with (P.view old).log_size changes)
  pub too_long : IsTrue (is_too_long (P.view old).log_size changes) → result ≢ Ok true
  pub leaves : Leaves P (committing (made_of (P.view old).log_size changes)) old new
  pub log_size : result ≡ Ok true → (P.view new).log_size ≡ length_with (P.view old).log_size changes
  pub stays : StaysQuiet P old new
  pub cause : HasCauseAt commit.Failed (P.view old).faults (P.view new).faults result

-- What the end of a part on the tape of a slot did to the plant, and the commit of changes behind it: all of it; or the log would have been
-- too long, and these items stand on the tape whole; or it was found that the tape doesn't have the records that it should, which comes
-- only where contents aren't told; or memory was refused and nothing was done; or the plant failed.
pub record Closes {D : Type 0} (P : Plant D) (slot : ℕ) (items : List Item) (changes : List Change) (result : Result Bool CommitFault) (old new : D) : Type 0 where
  pub told : P.tells → result ≢ Ok false
  pub done : result ≡ Ok true → Done P (turn_of P slot (puts_on slot items ++ committing changes) old) old new
  pub full : (n : ℕ) → result ≡ Err (commit.LogFull n) → Done P (turn_of P slot (puts_on slot items) old) old new
  pub full_length : (n : ℕ) → result ≡ Err (commit.LogFull n) → IsTrue (is_too_long (P.view old).log_size changes) × (n ≡ length_with (P.view old).log_size changes)
  pub too_long : IsTrue (is_too_long (P.view old).log_size changes) → result ≢ Ok true
  pub lost : result ≡ Ok false → Done P (putting_away (loaded_of P old) slot) old new
  pub lost_size : result ≡ Ok false → (P.view new).log_size ≡ (P.view old).log_size
  pub memory : result ≡ Err commit.Memory → Done P [] old new
  pub memory_leaves : result ≡ Err commit.Memory → Leaves P [] old new
  pub memory_numbers : result ≡ Err commit.Memory → SameNumbers P old new
  pub leaves : Leaves P (turn_of P slot (puts_on slot items ++ committing (made_of (P.view old).log_size changes)) old) old new
  pub log_size : result ≡ Ok true → (P.view new).log_size ≡ length_with (P.view old).log_size changes
  pub stays : StaysQuiet P old new
  pub cause : HasCauseAt commit.Failed (P.view old).faults (P.view new).faults result

-- What it did to the database: the changes are made and kept in the log; or nothing is changed. Whatever was done, nothing is prepared
-- afterwards.
pub record Makes {D : Type 0} (P : Plant D) (changes : List Change) (result : Result Bool CommitFault) (budb budb_after : BudbView) (old new : D) : Type 0 where
  pub form : result ≡ Ok true → AreChanges changes
  pub made : result ≡ Ok true → budb_after.database ≡ after_from changes budb.database
  pub same : result ≢ Ok true → budb_after.database ≡ budb.database
  pub nothing : budb_after.prepared ≡ None
  pub memory : result ≡ Err commit.Memory → budb_after ≡ budb
  pub keeps : P.tells → (log : List Change) → Keeps log (state_of P old).log budb → result ≡ Ok true → Keeps (log ++ changes) (state_of P new).log budb_after
  pub full_keeps : P.tells → (log : List Change) → Keeps log (state_of P old).log budb → (n : ℕ) → result ≡ Err (commit.LogFull n) → Keeps log (state_of P new).log budb_after

-- ---- the dump end

-- The dump is over once its last part is ended.
abbrev pub dump_ended : JobFields → JobFields
dump_ended j = record j { reel = with_more 1 1 j.reel; phase = phase.Over }
