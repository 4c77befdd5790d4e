-- What is told of a plant, and what each kind of call leaves as it was.
use Rattle.std.specs.Prelude.{◌≡◌, ℕ, ◌+◌, ◌-◌, ◌^◌, ◌≤◌, min, ◌==◌, if◌then◌else◌, Bool, List, Option, Some, None}
use Rattle.plant_core.specs.Crashes.{State, Alike}
use Rattle.plant_core.specs.Effects.{Effect, tells, comes, come, putting_away}

-- What reads give and what is settled; the loaded slot, and how many records its tape has with those that were put; how many bytes
-- the log has with what was put; the slots, and which of them are here; and the counts, each of which ends at 2^64 - 1: how often a
-- tape was loaded, a call on the log or a tape refused, a call on the output refused. The state holds where contents are told, all
-- else always.
pub record View : Type 0 where
  pub state : State
  pub loaded : Option ℕ
  pub records : ℕ
  pub log_size : ℕ
  pub slots : ℕ
  pub present : ℕ → Bool
  pub loads : ℕ
  pub faults : ℕ
  pub tell_faults : ℕ

-- a call that went well only read
pub record OnlyReads (told : Type 0) (old new : View) : Type 0 where
  pub state : told → Alike old.state new.state
  pub loaded : new.loaded ≡ old.loaded
  pub records : new.records ≡ old.records
  pub log_size : new.log_size ≡ old.log_size

-- a call that went well did this to the loaded tape, and no more
pub record OnlyTape (told : Type 0) (effects : List Effect) (old new : View) : Type 0 where
  pub state : told → Alike (come effects old.state) new.state
  pub loaded : new.loaded ≡ old.loaded
  pub log_size : new.log_size ≡ old.log_size

-- a call that went well loaded this tape, put the one before away, and did no more
pub record OnlyLoads (told : Type 0) (slot : ℕ) (old new : View) : Type 0 where
  pub state : told → Alike (come (putting_away old.loaded slot) old.state) new.state
  pub loaded : new.loaded ≡ Some slot
  pub log_size : new.log_size ≡ old.log_size

-- a call that went well made the log so, and did no more
pub record OnlyLog (told : Type 0) (now : State) (size : ℕ) (old new : View) : Type 0 where
  pub state : told → Alike now new.state
  pub loaded : new.loaded ≡ old.loaded
  pub records : new.records ≡ old.records
  pub log_size : new.log_size ≡ size

-- a call that went well told this, and did no more
pub record OnlyOutput (told : Type 0) (text : List ℕ) (old new : View) : Type 0 where
  pub state : told → Alike (comes (tells text) old.state) new.state
  pub loaded : new.loaded ≡ old.loaded
  pub records : new.records ≡ old.records
  pub log_size : new.log_size ≡ old.log_size

-- whatever a call on the log or a tape answered: of slots and counts only its own count may have changed, and it told nothing
pub record OnlyFaults (told : Type 0) (old new : View) : Type 0 where
  pub slots : new.slots ≡ old.slots
  pub present : new.present ≡ old.present
  pub loads : new.loads ≡ old.loads
  pub tell_faults : new.tell_faults ≡ old.tell_faults
  pub output : told → new.state.told ≡ old.state.told

-- the same of a load, where loads are counted too: by one at most
pub record OnlyLoadFaults (told : Type 0) (old new : View) : Type 0 where
  pub slots : new.slots ≡ old.slots
  pub present : new.present ≡ old.present
  pub loads : old.loads ≤ new.loads
  pub more : new.loads ≤ old.loads + 1
  pub tell_faults : new.tell_faults ≡ old.tell_faults
  pub output : told → new.state.told ≡ old.state.told

-- the same of a call on the output
pub record OnlyTellFaults (old new : View) : Type 0 where
  pub slots : new.slots ≡ old.slots
  pub present : new.present ≡ old.present
  pub loads : new.loads ≡ old.loads
  pub faults : new.faults ≡ old.faults

-- The count of loads rises by one where another tape or none was loaded. It ends at 2^64 - 1.
abbrev pub loads_after : Option ℕ → ℕ → ℕ → ℕ
loads_after None slot loads = min (loads + 1) (2 ^ 64 - 1)
loads_after (Some k) slot loads = if k == slot then loads else min (loads + 1) (2 ^ 64 - 1)
