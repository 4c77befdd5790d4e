-- What opening a log makes of the two slots.
use Rattle.std.specs.Prelude.{◌≡◌, ◌↔◌, ℕ, ◌==◌, ◌&&◌, Bool, true, false, List, IsTrue}
use Rattle.crash_moments.specs.Moments.{Moments}
use Rattle.media_core.specs.Media.{Image}
use Rattle.crash_log.specs.Log.{Place, is_fine, gate_at, place_at, successor, log_of, is_damaged}
use Rattle.crash_log.specs.State.{put_bytes, settled_bytes, needs_mending, empty_state}
use Rattle.crash_log.specs.Fit.{Fits}
use Rattle.crash_log.specs.declared.state.LogState.{LogState}
use Rattle.crash_log.specs.declared.state.Needs.{Needs}
use Rattle.crash_log.specs.declared.state.Needs.TheVariants.{Nothing, Damaged, Stale}
use Rattle.crash_log.specs.declared.open.Slot.{Slot}

-- what was read of a slot
abbrev pub slot_place : Slot → Place
slot_place s = record { turn = s.turn; start = s.start; size = s.size }

-- what was read of the slot at a base, 0 or 4096: whether its gate is 1, and what its fields say
pub record IsSlot (base : ℕ) (file : List ℕ) (s : Slot) : Type 0 where
  pub gate : IsTrue s.open ↔ (gate_at base file ≡ 1)
  pub place : place_at base file ≡ slot_place s

-- a slot is good in a file of this length
abbrev pub slot_good : Slot → ℕ → Bool
slot_good s long = s.open && is_fine (slot_place s) long

-- the log of a slot
abbrev pub at_slot : Slot → Bool → Bool → Needs → ℕ → ℕ → LogState
at_slot s is_second other_open needs f limit = record { file = f; limit = limit; needs = needs; second = is_second; turn = s.turn; start = s.start; size = s.size; more = 0; other_open = other_open }

-- a gate that is 1 of a slot that isn't good is stale
abbrev pub stale_where : Bool → Needs
stale_where true = Stale
stale_where false = Nothing

-- which slot is the current one: by whether each is good, and whether the second one's turn follows the first one's
abbrev pub state_for : Bool → Bool → Bool → Slot → Slot → ℕ → ℕ → LogState
state_for true true true first second f limit = at_slot second true true Nothing f limit
state_for true true false first second f limit = at_slot first false true Nothing f limit
state_for true false follows first second f limit = at_slot first false false (stale_where second.open) f limit
state_for false true follows first second f limit = at_slot second true false (stale_where first.open) f limit
state_for false false follows first second f limit = empty_state f limit (Damaged first.open second.open)

-- the state of an opened log, by what was read of both slots, its file's number, its limit and the file's length
abbrev pub opened_state : Slot → Slot → ℕ → ℕ → ℕ → LogState
opened_state first second f limit long = state_for (slot_good first long) (slot_good second long) (second.turn == successor first.turn) first second f limit

-- the state of the log that a file has
pub record IsOpened {D : Type 0} (moments : Moments D Image) (seen : D → Image) (f : ℕ) (media : D) (log : LogState) : Type 0 where
  pub fits : Fits moments seen log media
  pub bytes : put_bytes log ((seen media).file f) ≡ log_of ((seen media).file f)
  pub settled : settled_bytes log ((seen media).file f) ≡ log_of ((seen media).file f)
  pub damaged : needs_mending log.needs ≡ is_damaged ((seen media).file f)
