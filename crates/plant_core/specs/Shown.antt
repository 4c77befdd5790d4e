-- What a plant in memory shows: its records and bytes, what was asked of it, and what was refused to it.
use Rattle.std.specs.Prelude.{◌≡◌, ℕ, List, length, Option, Some, None, nat_lt}
use Rattle.crash_moments.specs.Moments.{Moments, history}
use Rattle.plant_core.specs.declared.event.Event.{Event}
use Rattle.plant_core.specs.declared.mem.MemPlant.{MemPlant}
use Rattle.plant_core.specs.Crashes.{State, blank}
use Rattle.plant_core.specs.Past.{after, IsLeft}
use Rattle.plant_core.specs.Stock.{Stock}
use Rattle.plant_core.specs.Views.{View}

-- what was asked, the first first
abbrev pub events_of : MemPlant → List Event
events_of m = m.past.items

-- what reads give of it and what is settled, after all that was asked
abbrev pub state_of : MemPlant → State
state_of m = after m.past.items blank

-- how many records the loaded tape has; 0 where none is loaded
abbrev pub count_at : Option ℕ → State → ℕ
count_at None s = 0
count_at (Some k) s = length (s.tape k)

-- what is told of it; all slots are here
abbrev pub view_of : MemPlant → View
view_of m = record {
  state = state_of m;
  loaded = m.loaded;
  records = count_at m.loaded (state_of m);
  log_size = length (state_of m).log;
  slots = length m.tapes.items;
  present = λ k. nat_lt k (length m.tapes.items);
  loads = m.loads;
  faults = m.refusals.faults;
  tell_faults = m.refusals.tell_faults;
}

-- each event is a moment; a crash may leave what it may leave of the events so far
abbrev pub moments_of : Moments MemPlant Stock
moments_of = history events_of IsLeft

-- calls may be made in every state
abbrev pub IsSound : MemPlant → Type 0
IsSound m = Unit {0}

-- a crash leaves what is settled, in every state
abbrev pub Survives : MemPlant → Type 0
Survives m = Unit {0}

-- how many growths were refused
abbrev pub wants_of : MemPlant → ℕ
wants_of m = m.refusals.wants

-- nothing was loaded, and nothing failed
pub record IsNew (m : MemPlant) : Type 0 where
  pub loaded : m.loaded ≡ None
  pub loads : m.loads ≡ 0
  pub faults : m.refusals.faults ≡ 0
  pub tell_faults : m.refusals.tell_faults ≡ 0
  pub wants : m.refusals.wants ≡ 0
