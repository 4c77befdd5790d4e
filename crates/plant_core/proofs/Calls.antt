-- What the calls of a plant in memory do to it and what they leave, by what was asked.
use Rattle.std.proofs.Common.{◌≡◌, ℕ, ◌+◌, List, [], ◌∷◌, ◌++◌, length, Option, Some, Result, Ok, Err, OnOk, OnErr, refl, sym, ◌∙◌, ap, subst, arith}
use Rattle.std.specs.Prelude.{nat_lt, vec_len}
use Rattle.crash_moments.specs.Moments.{Leads}
use Rattle.plant_core.specs.declared.event.Event.{Event}
use Rattle.plant_core.specs.declared.event.Event.TheVariants.{Put, Settle, Cut}
use Rattle.plant_core.specs.declared.mem.MemPlant.{MemPlant}
use Rattle.plant_core.specs.declared.stored.Stored.{Stored}
use Rattle.plant_core.specs.declared.stored.Stored.TheVariants.{Mark}
use Rattle.plant_core.specs.Crashes.{Alike, blank}
use Rattle.plant_core.specs.Effects.{puts, settles, comes, come}
use Rattle.plant_core.specs.Past.{GainsPut, after}
use Rattle.plant_core.specs.Records.{Record, mark}
use Rattle.plant_core.specs.Shown.{events_of, state_of, count_at, view_of, moments_of}
use Rattle.plant_core.specs.Steps.{MayGain, MayKeep}
use Rattle.plant_core.specs.Tapes.{record_of}
use Rattle.plant_core.specs.Views.{OnlyTape, OnlyFaults}
use Rattle.plant_core.proofs.Keeping.{put_state, mark_past, mark_state, put_count}
use Rattle.plant_core.proofs.Leading.{same_slot, put_leads, mark_leads, cut_leads}

-- what follows from a call that went well
pub of_ok : {T E : Type 0} (A B : Type 0) (result : Result T E) → (A → B) → OnOk result A → OnOk result B
of_ok A B (Ok t) f a = f a
of_ok A B (Err e) f a = a

pub of_either : {T E : Type 0} (A B C : Type 0) (result : Result T E) → (A → C) → (B → C) → OnOk result A → OnErr result B → C
of_either A B C (Ok t) f g a b = f a
of_either A B C (Err e) f g a b = g b

module _ (old new : MemPlant) (slot k : ℕ) (is : old.loaded ≡ Some slot) (at : old.loaded ≡ Some k) where
  -- a record is put on the loaded tape
  pub put_only : (kept : Stored) (r : Record) → new.loaded ≡ old.loaded → record_of kept ≡ r → events_of new ≡ events_of old ++ Put slot kept ∷ [] → OnlyTape (Unit {0}) (puts k r ∷ []) (view_of old) (view_of new)
  put_only kept r loaded same more =
      let a = put_state (events_of old) (events_of new) slot kept r same more in
      record {
        state = λ told. subst (λ (n : ℕ). Alike (comes (puts n r) (state_of old)) (state_of new)) (same_slot old.loaded slot k at is) a;
        loaded = loaded;
        log_size = ap length a.log;
      }

  pub put_crash : (kept : Stored) (r : Record) → record_of kept ≡ r → events_of new ≡ events_of old ++ Put slot kept ∷ [] → Leads moments_of old new (MayGain r k (state_of old))
  put_crash kept r same more = put_leads old new k r (subst (λ (n : ℕ). GainsPut (events_of old) (events_of new) n r) (same_slot old.loaded slot k at is) (record { kept = kept; is = same; more = more }))

  pub mark_only : (mid : List Event) → new.loaded ≡ old.loaded → mid ≡ events_of old ++ Put slot Mark ∷ [] → events_of new ≡ mid ++ Settle slot ∷ [] → OnlyTape (Unit {0}) (puts k mark ∷ settles k ∷ []) (view_of old) (view_of new)
  mark_only mid loaded first second =
      let a = mark_state (events_of old) mid (events_of new) slot Mark mark refl first second in
      record {
        state = λ told. subst (λ (n : ℕ). Alike (come (puts n mark ∷ settles n ∷ []) (state_of old)) (state_of new)) (same_slot old.loaded slot k at is) a;
        loaded = loaded;
        log_size = ap length a.log;
      }

  pub mark_crash : (mid : List Event) → mid ≡ events_of old ++ Put slot Mark ∷ [] → events_of new ≡ mid ++ Settle slot ∷ [] → Leads moments_of old new (MayGain mark k (state_of old))
  mark_crash mid first second = subst (λ (n : ℕ). Leads moments_of old new (MayGain mark n (state_of old))) (same_slot old.loaded slot k at is)
      (mark_leads old new slot (mark_past (events_of old) mid (events_of new) slot Mark first second))

  -- it is cut
  pub cut_crash : (n : ℕ) → events_of new ≡ events_of old ++ Cut slot n ∷ [] → Leads moments_of old new (MayKeep n k (state_of old))
  cut_crash n more = subst (λ (i : ℕ). Leads moments_of old new (MayKeep n i (state_of old))) (same_slot old.loaded slot k at is) (cut_leads old new slot n more)

-- A call on the log or a tape changes of slots and counts only its own count, and tells nothing.
pub only_faults : (old new : MemPlant) → vec_len new.tapes ≡ vec_len old.tapes → new.loads ≡ old.loads → new.refusals.tell_faults ≡ old.refusals.tell_faults → (state_of new).told ≡ (state_of old).told
    → OnlyFaults (Unit {0}) (view_of old) (view_of new)
only_faults old new slots loads faults told =
    let same : length new.tapes.items ≡ length old.tapes.items = omega (arith, slots) in
    record { slots = same; present = ap (λ (n : ℕ). λ (k : ℕ). nat_lt k n) same; loads = loads; tell_faults = faults; output = λ tells. told }

-- a record that was put tells nothing
pub put_untold : (old new : MemPlant) (slot : ℕ) (kept : Stored) → events_of new ≡ events_of old ++ Put slot kept ∷ [] → (state_of new).told ≡ (state_of old).told
put_untold old new slot kept more = (put_state (events_of old) (events_of new) slot kept (record_of kept) refl more).told

pub same_untold : (old new : MemPlant) → events_of new ≡ events_of old → (state_of new).told ≡ (state_of old).told
same_untold old new same = ap (λ (es : List Event). (after es blank).told) same

-- how many records there are then
module _ (old new : MemPlant) (slot : ℕ) (is : old.loaded ≡ Some slot) (loaded : new.loaded ≡ old.loaded) where
  counted : (n : ℕ) → length ((state_of new).tape slot) ≡ n → count_at new.loaded (state_of new) ≡ n
  counted n same = ap (λ (l : Option ℕ). count_at l (state_of new)) (loaded ∙ is) ∙ same

  counted_before : count_at old.loaded (state_of old) ≡ length ((state_of old).tape slot)
  counted_before = ap (λ (l : Option ℕ). count_at l (state_of old)) is

  one_more : (r : Record) → (state_of new).tape slot ≡ (comes (puts slot r) (state_of old)).tape slot → count_at new.loaded (state_of new) ≡ count_at old.loaded (state_of old) + 1
  one_more r same = counted (count_at old.loaded (state_of old) + 1) (put_count slot r (state_of old) (state_of new) same ∙ ap (λ (n : ℕ). n + 1) (sym counted_before))

  pub put_records : (kept : Stored) (r : Record) → record_of kept ≡ r → events_of new ≡ events_of old ++ Put slot kept ∷ [] → count_at new.loaded (state_of new) ≡ count_at old.loaded (state_of old) + 1
  put_records kept r same more = one_more r ((put_state (events_of old) (events_of new) slot kept r same more).tape slot)

  pub mark_records : (mid : List Event) → mid ≡ events_of old ++ Put slot Mark ∷ [] → events_of new ≡ mid ++ Settle slot ∷ [] → count_at new.loaded (state_of new) ≡ count_at old.loaded (state_of old) + 1
  mark_records mid first second = one_more mark ((mark_state (events_of old) mid (events_of new) slot Mark mark refl first second).tape slot)
