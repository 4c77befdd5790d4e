-- How what looking at tapes does is joined.
use Rattle.std.proofs.Common.{◌≡◌, ◌≢◌, ℕ, Bool, true, false, Option, Some, None, List, [], ◌∷◌, ◌++◌, map, refl, sym, ap, ◌∙◌, subst}
use Rattle.std.specs.Prelude.{Result, Err, if◌then◌else◌, ◌==◌}
use Rattle.std.proofs.lemmas.List.{map-append}
use Rattle.crash_moments.specs.Moments.{Rose}
use Rattle.plant_core.specs.declared.plant.Plant.{Ghosts as Plant}
use Rattle.plant_core.specs.Crashes.{State}
use Rattle.plant_core.specs.Effects.{Effect, settles, come, comes, putting_away}
use Rattle.plant_core.specs.Records.{Record}
use Rattle.plant_effects.specs.Runs.{state_of, loaded_of, Done, Leaves, SameNumbers, StaysQuiet}
use Rattle.plant_effects.proofs.Joining.{Fits, nothing_done, nothing_left, done_both, leaves_both, quiet_both, nothing_quiet}
use Rattle.tape_text.specs.Items.{Read}
use Rattle.tape_scan.specs.Slots.{Slot}
use Rattle.tape_scan.specs.Looking.{IsSlot, HasSlots, Loads, LeavesLoads, LooksAt}

-- ---- what settling keeps

pub settling_keeps_tapes : (away : List ℕ) (s : State) → (come (map settles away) s).tape ≡ s.tape
settling_keeps_tapes [] s = refl
settling_keeps_tapes (k ∷ away) s = settling_keeps_tapes away (comes (settles k) s)

pub settling_keeps_log : (away : List ℕ) (s : State) → (come (map settles away) s).log ≡ s.log
settling_keeps_log [] s = refl
settling_keeps_log (k ∷ away) s = settling_keeps_log away (comes (settles k) s)

pub settling_keeps_told : (away : List ℕ) (s : State) → (come (map settles away) s).told ≡ s.told
settling_keeps_told [] s = refl
settling_keeps_told (k ∷ away) s = settling_keeps_told away (comes (settles k) s)

-- the tapes that a load puts away
away_by : Bool → ℕ → List ℕ
away_by true k = []
away_by false k = k ∷ []

away_of : Option ℕ → ℕ → List ℕ
away_of None slot = []
away_of (Some k) slot = away_by (k == slot) k

away_if : (b : Bool) (k : ℕ) → (if b then [] else settles k ∷ []) ≡ map settles (away_by b k)
unfolding away_by
away_if true k = refl
away_if false k = refl

away_is : (loaded : Option ℕ) (slot : ℕ) → putting_away loaded slot ≡ map settles (away_of loaded slot)
unfolding away_of
away_is None slot = refl
away_is (Some k) slot = away_if (k == slot) k

module _ {D : Type 0} (P : Plant D) where
  -- ---- loads

  pub loads_none : (s : D) → P.sound s → Fits P s → Loads P s s
  loads_none s sound fits = record { away = []; done = nothing_done P s sound; leaves = nothing_left P [] s fits; log_size = refl }

  pub leaves_loads : (old new : D) → Loads P old new → LeavesLoads P old new
  leaves_loads old new loads = record { away = loads.away; leaves = loads.leaves }

  pub loads_both : (old mid new : D) → Loads P old mid → Loads P mid new → Loads P old new
  loads_both old mid new first second = record {
    away = first.away ++ second.away;
    done = subst (λ (es : List Effect). Done P es old new) (sym (map-append settles first.away second.away)) (done_both P (map settles first.away) (map settles second.away) old mid new first.done second.done);
    leaves = subst (λ (es : List Effect). Leaves P es old new) (sym (map-append settles first.away second.away)) (leaves_both P (map settles first.away) (map settles second.away) old mid new first.done first.leaves second.leaves);
    log_size = second.log_size ∙ first.log_size;
  }

  pub leaves_after : (old mid new : D) → Loads P old mid → LeavesLoads P mid new → LeavesLoads P old new
  leaves_after old mid new first second = record {
    away = first.away ++ second.away;
    leaves = subst (λ (es : List Effect). Leaves P es old new) (sym (map-append settles first.away second.away)) (leaves_both P (map settles first.away) (map settles second.away) old mid new first.done first.leaves second.leaves);
  }

  -- what is read afterwards is what was read before
  pub loads_keep_tape : (old new : D) → Loads P old new → P.tells → (k : ℕ) → (state_of P new).tape k ≡ (state_of P old).tape k
  loads_keep_tape old new loads told k = (loads.done.state told).tape k ∙ ap (λ (f : ℕ → List Record). f k) (settling_keeps_tapes loads.away (state_of P old))

  pub slot_later : (old new : D) → Loads P old new → StaysQuiet P old new → P.tells → (k : ℕ) (s : Slot) → IsSlot P old k s → IsSlot P new k s
  slot_later old new loads stays told k s is = record {
    here = is.here ∙ ap (λ (f : ℕ → Bool). f k) (sym stays.stays.present);
    items = subst (λ (t : List Record). Read t s.items) (sym (loads_keep_tape old new loads told k)) is.items;
  }

  pub slots_later : (slots : List Slot) (old new : D) → Loads P old new → StaysQuiet P old new → P.tells → HasSlots P slots old → HasSlots P slots new
  slots_later slots old new loads stays told has = record {
    count = has.count ∙ sym stays.stays.slots;
    each = λ k s at. slot_later old new loads stays told k s (has.each k s at);
  }

  -- ---- what a function does that only looks

  module _ {T E : Type 0} (fault : E) where
    pub looks_none : (s : D) (r : Result T E) → P.sound s → Fits P s → r ≢ Err fault → LooksAt P fault s s r
    looks_none s r sound fits well = record {
      done = λ _. loads_none s sound fits;
      leaves = leaves_loads s s (loads_none s sound fits);
      stays = nothing_quiet P s;
      cause = record { later = (nothing_quiet P s).stays.faults; failed = λ is. absurd (well is); stays = λ _. refl };
    }

    -- a call went well that did this
    pub looks_well : (old new : D) (r : Result T E) → Loads P old new → StaysQuiet P old new → (P.view new).faults ≡ (P.view old).faults → r ≢ Err fault → LooksAt P fault old new r
    looks_well old new r loads stays same well = record {
      done = λ _. loads;
      leaves = leaves_loads old new loads;
      stays = stays;
      cause = record { later = stays.stays.faults; failed = λ is. absurd (well is); stays = λ _. same };
    }

    -- a call was refused by the outside
    pub looks_ill : (old new : D) (r : Result T E) → LeavesLoads P old new → StaysQuiet P old new → Rose (P.view old).faults (P.view new).faults → r ≡ Err fault → LooksAt P fault old new r
    looks_ill old new r leaves stays rose ill = record {
      done = λ well. absurd (well ill);
      leaves = leaves;
      stays = stays;
      cause = record { later = stays.stays.faults; failed = λ _. rose; stays = λ well. absurd (well ill) };
    }

    -- one after the other, where the first one went well
    pub looks_after : (old mid new : D) (r : Result T E) → Loads P old mid → StaysQuiet P old mid → (P.view mid).faults ≡ (P.view old).faults → LooksAt P fault mid new r → LooksAt P fault old new r
    looks_after old mid new r loads stays same next = record {
      done = λ well. loads_both old mid new loads (next.done well);
      leaves = leaves_after old mid new loads next.leaves;
      stays = quiet_both P old mid new stays next.stays;
      cause = record {
        later = (quiet_both P old mid new stays next.stays).stays.faults;
        failed = λ is. subst (λ (n : ℕ). Rose n (P.view new).faults) same (next.cause.failed is);
        stays = λ well. next.cause.stays well ∙ same;
      };
    }

  -- the same under another answer
  pub looks_as : {T U E F : Type 0} (fault : E) (other : F) (old new : D) (r : Result T E) (q : Result U F) → (q ≡ Err other → r ≡ Err fault) → (r ≡ Err fault → q ≡ Err other) → LooksAt P fault old new r → LooksAt P other old new q
  looks_as fault other old new r q back on looks = record {
    done = λ well. looks.done (λ is. well (on is));
    leaves = looks.leaves;
    stays = looks.stays;
    cause = record { later = looks.cause.later; failed = λ is. looks.cause.failed (back is); stays = λ well. looks.cause.stays (λ is. well (on is)) };
  }

  -- ---- calls

  pub reads_are_loads : (old new : D) → Done P [] old new → Leaves P [] old new → SameNumbers P old new → Loads P old new
  reads_are_loads old new done leaves numbers = record { away = []; done = done; leaves = leaves; log_size = numbers.log_size }

  pub reads_leave : (old new : D) → Leaves P [] old new → LeavesLoads P old new
  reads_leave old new leaves = record { away = []; leaves = leaves }

  pub a_load_loads : (old new : D) (slot : ℕ) → Done P (putting_away (loaded_of P old) slot) old new → Leaves P (putting_away (loaded_of P old) slot) old new → (P.view new).log_size ≡ (P.view old).log_size → Loads P old new
  a_load_loads old new slot done leaves size = record {
    away = away_of (loaded_of P old) slot;
    done = subst (λ (es : List Effect). Done P es old new) (away_is (loaded_of P old) slot) done;
    leaves = subst (λ (es : List Effect). Leaves P es old new) (away_is (loaded_of P old) slot) leaves;
    log_size = size;
  }

  pub a_load_leaves : (old new : D) (slot : ℕ) → Leaves P (putting_away (loaded_of P old) slot) old new → LeavesLoads P old new
  a_load_leaves old new slot leaves = record {
    away = away_of (loaded_of P old) slot;
    leaves = subst (λ (es : List Effect). Leaves P es old new) (away_is (loaded_of P old) slot) leaves;
  }
