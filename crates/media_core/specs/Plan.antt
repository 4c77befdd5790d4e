-- Which calls of an object in memory fail. Calls are numbered from 0.
use Rattle.std.specs.Prelude.{◌≡◌, ℕ, ◌+◌, ◌-◌, ◌^◌, min, nat_le, ◌==◌, if◌then◌else◌, Bool, true, false, [], ◌∷◌, ◌++◌, Option, Some, None}
use Rattle.std.specs.List.{list_any}
use Rattle.media_core.specs.declared.plan.Plan.{Plan}
use Rattle.media_core.specs.declared.plan.Turn.{Turn}
use Rattle.media_core.specs.declared.plan.Turn.TheVariants.{Goes, Fails, Stops}

-- a number is at or past a named one
abbrev pub is_from : Option ℕ → ℕ → Bool
is_from None n = false
is_from (Some at) n = nat_le at n

-- the next call is one that fails and changes nothing
abbrev pub is_named : Plan → Bool
is_named p = list_any (λ x. x == p.calls) p.fails.items

-- the next call is at or past the one from which on all are stopped
abbrev pub is_stopped : Plan → Bool
is_stopped p = is_from p.stop p.calls

-- what becomes of the next call
abbrev pub turn_of : Plan → Turn
turn_of p = if is_stopped p then Stops else (if is_named p then Fails else Goes)

-- a call that goes its way
abbrev pub goes : Turn → Bool
goes Goes = true
goes Fails = false
goes Stops = false

-- the next call is one that was planned to fail
abbrev pub is_planned : Plan → Bool
is_planned p = if is_stopped p then true else is_named p

-- A count with one more. Counts end at 2^64 - 1.
abbrev pub one_more : ℕ → ℕ
one_more n = min (n + 1) (2 ^ 64 - 1)

-- a count with one more where this is so, else the count as it was
abbrev pub more_where : Bool → ℕ → ℕ
more_where b n = if b then one_more n else n

-- one call more was made
abbrev pub counted : Plan → Plan
counted p = record p { calls = one_more p.calls }

-- no failure is planned
pub record IsUnplanned (p : Plan) : Type 0 where
  pub fails : p.fails.items ≡ []
  pub stop : p.stop ≡ None

-- one call more is named
pub record GainsCall (old new : Plan) (call : ℕ) : Type 0 where
  pub fails : new.fails.items ≡ old.fails.items ++ call ∷ []
  pub stop : new.stop ≡ old.stop
  pub calls : new.calls ≡ old.calls

-- the first of two stops
abbrev pub earlier_stop : Option ℕ → ℕ → Option ℕ
earlier_stop None call = Some call
earlier_stop (Some at) call = Some (min at call)

-- from this call on too all are stopped
abbrev pub stopped_at : Plan → ℕ → Plan
stopped_at p call = record p { stop = earlier_stop p.stop call }

-- nothing more is planned
pub record SamePlan (old new : Plan) : Type 0 where
  pub fails : new.fails.items ≡ old.fails.items
  pub stop : new.stop ≡ old.stop
  pub calls : new.calls ≡ old.calls
