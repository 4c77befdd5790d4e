-- What files in memory show: their bytes, what was asked of them, which are here, what is planned and what failed.
use Rattle.std.specs.Prelude.{◌≡◌, ◌⊎◌, ℕ, List, IsTrue, Bool, false, Result, OnOk, OnErr, length}
use Rattle.crash_moments.specs.Moments.{Moments, history}
use Rattle.media_core.specs.declared.event.Event.{Event}
use Rattle.media_core.specs.declared.mem.MemMedia.{MemMedia}
use Rattle.media_core.specs.declared.plan.Plan.{Plan}
use Rattle.media_core.specs.Media.{Image}
use Rattle.media_core.specs.Events.{seen_after, IsLeft}
use Rattle.media_core.specs.Presence.{is_here}
use Rattle.media_core.specs.Still.{AreStill}
use Rattle.media_core.specs.Plan.{counted, one_more, is_planned, is_stopped, IsUnplanned}

-- what was asked, the first first
abbrev pub events_of : MemMedia → List Event
events_of m = m.past.items

-- what reads give, and what was told
abbrev pub seen_of : MemMedia → Image
seen_of m = seen_after m.past.items

-- each event is a moment; a crash may leave what it may leave of the events so far
abbrev pub moments_of : Moments MemMedia Image
moments_of = history events_of IsLeft

-- how many files there are, with those that are away
abbrev pub count_of : MemMedia → ℕ
count_of m = length m.away.items

-- the file of a number is here: it isn't away, and it isn't past the last one
abbrev pub present_of : MemMedia → ℕ → Bool
present_of m f = is_here m.away.items f

-- the calls so far, and those that are to fail
abbrev pub plan_of : MemMedia → Plan
plan_of m = m.failures.plan

-- how often a call on files failed, one on the output, and how many growths were refused
abbrev pub faults_of : MemMedia → ℕ
faults_of m = m.failures.faults

-- how often a call on the output failed; it ends at 2^64 - 1
abbrev pub tell_faults_of : MemMedia → ℕ
tell_faults_of m = m.failures.tell_faults

-- how many growths of memory were refused; it ends at 2^64 - 1
abbrev pub wants_of : MemMedia → ℕ
wants_of m = m.failures.wants

-- all of it is on the disk
pub record IsFresh (m : MemMedia) : Type 0 where
  pub files : AreStill moments_of seen_of m
  pub told : (c : Image) → IsLeft (events_of m) c → c.told ≡ (seen_of m).told

-- no call was made, none is planned to fail and nothing failed
pub record IsNew (m : MemMedia) : Type 0 where
  pub calls : (plan_of m).calls ≡ 0
  pub unplanned : IsUnplanned (plan_of m)
  pub faults : faults_of m ≡ 0
  pub tell_faults : tell_faults_of m ≡ 0
  pub wants : wants_of m ≡ 0

-- A call that takes no memory was counted. It failed exactly where that was planned, and no growth was refused to it.
pub record FailsAsPlanned {T E : Type 0} (old new : MemMedia) (result : Result T E) : Type 0 where
  pub plan : plan_of new ≡ counted (plan_of old)
  pub ok : OnOk result (is_planned (plan_of old) ≡ false)
  pub err : OnErr result (IsTrue (is_planned (plan_of old)))
  pub wants : wants_of new ≡ wants_of old

-- A call was counted. It failed exactly where that was planned or a growth was refused to it, which is counted on its own.
pub record IsCounted {T E : Type 0} (old new : MemMedia) (result : Result T E) : Type 0 where
  pub plan : plan_of new ≡ counted (plan_of old)
  pub ok : OnOk result ((is_planned (plan_of old) ≡ false) × (wants_of new ≡ wants_of old))
  pub err : OnErr result ((IsTrue (is_planned (plan_of old)) × (wants_of new ≡ wants_of old)) ⊎ (wants_of new ≡ one_more (wants_of old)))

-- nothing was asked; where the call was stopped, a growth was refused to it
pub record IsPassedOver (old new : MemMedia) : Type 0 where
  pub same : events_of new ≡ events_of old
  pub stopped : IsTrue (is_stopped (plan_of old)) → wants_of new ≡ one_more (wants_of old)

-- It was asked after Ok, and where the call was stopped, which leaves it in progress. Else nothing was.
pub record IsAsked {T E : Type 0} (Asked : Type 0) (old new : MemMedia) (result : Result T E) : Type 0 where
  pub ok : OnOk result Asked
  pub err : OnErr result ((IsTrue (is_stopped (plan_of old)) × Asked) ⊎ IsPassedOver old new)

-- nothing but the plan changes
pub record SameButPlan (old new : MemMedia) : Type 0 where
  pub events : events_of new ≡ events_of old
  pub count : count_of new ≡ count_of old
  pub present : present_of new ≡ present_of old
  pub faults : faults_of new ≡ faults_of old
  pub tell_faults : tell_faults_of new ≡ tell_faults_of old
  pub wants : wants_of new ≡ wants_of old

-- nothing but which files are here changes
pub record SameButPresence (old new : MemMedia) : Type 0 where
  pub events : events_of new ≡ events_of old
  pub count : count_of new ≡ count_of old
  pub plan : plan_of new ≡ plan_of old
  pub faults : faults_of new ≡ faults_of old
  pub tell_faults : tell_faults_of new ≡ tell_faults_of old
  pub wants : wants_of new ≡ wants_of old
