-- What calls on the tape in hand did, joined of a load and of what was put then.
use Rattle.std.proofs.Common.{◌≡◌, ℕ, Bool, true, false, List, ◌++◌, Option, Some, None, length, refl, sym, ◌∙◌, subst, arith}
use Rattle.std.specs.Prelude.{◌==◌, if◌then◌else◌, Result, Ok, Err, IsTrue, [], ◌∷◌}
use Rattle.crash_moments.specs.Moments.{Leads, Rose}
use Rattle.plant_core.specs.declared.fault.Failed.{Failed}
use Rattle.plant_core.specs.declared.plant.Plant.{Ghosts as Plant}
use Rattle.plant_core.specs.Crashes.{State, Alike}
use Rattle.plant_core.specs.Effects.{Effect, settles, come, putting_away, Joint}
use Rattle.plant_effects.specs.Runs.{state_of, loaded_of, Done, IsStartOf, Leaves, StaysQuiet}
use Rattle.plant_effects.proofs.Joining.{leaves_both, leaves_more, done_both, quiet_both}
use Rattle.tape_writer.specs.declared.fault.WriteFault.{WriteFault}
use Rattle.tape_writer.specs.declared.fault.WriteFault.TheVariants as write
use Rattle.tape_writer.specs.Room.{Counts, HasRoom, LacksRoom}
use Rattle.tape_writer.specs.Puts.{IsCounted}
use Rattle.dump_job.specs.Reels.{IsOn, Turns}

-- ---- a load leaves what stands on tapes

away_stays : (here : Bool) (j k : ℕ) (s : State) → (come (if here then [] else settles j ∷ []) s).tape k ≡ s.tape k
away_stays true j k s = refl
away_stays false j k s = refl

pub tapes_stay : (loaded : Option ℕ) (slot k : ℕ) (s : State) → (come (putting_away loaded slot) s).tape k ≡ s.tape k
tapes_stay None slot k s = refl
tapes_stay (Some j) slot k s = away_stays (j == slot) j k s

-- ---- what a writer refuses

pub lacks_none : (blocks marks : ℕ) (c d : Counts) → c ≡ d → HasRoom blocks marks d → LacksRoom blocks marks c → ⊥
lacks_none blocks marks c d same room lacks = let there = subst (λ (x : Counts). LacksRoom blocks marks x) same lacks in absurd (omega arith)

pub only_failed : (f : WriteFault) → (f ≡ write.TapeFull → ⊥) → f ≡ write.Failed
only_failed write.TapeFull never = absurd (never refl)
only_failed write.Failed never = refl

module _ {D : Type 0} (P : Plant D) where
  -- a tape that is counted while it is loaded
  pub counted_is_on : (slot count : ℕ) (plant : D) → loaded_of P plant ≡ Some slot → IsTrue ((P.view plant).present slot)
      → (P.tells → (P.view plant).records ≡ length ((state_of P plant).tape slot)) → IsCounted P count plant → IsOn P slot count plant
  counted_is_on slot count plant at here told counted = record {
    sound = counted.sound;
    here = here;
    records = λ tells. sym (told tells) ∙ counted.records;
    whole = λ tells. counted.whole tells slot at;
  }

  -- ---- the ways in which a call ends

  pub failed_first : (slot : ℕ) (es : List Effect) (old new : D) (f : Failed)
      → Leaves P (putting_away (loaded_of P old) slot) old new → StaysQuiet P old new → Rose (P.view old).faults (P.view new).faults → Turns P slot es (Err f) old new
  failed_first slot es old new f left stays rose = record {
    told = λ tells is. absurd (cc);
    done = λ is. absurd (cc);
    lost = λ is. absurd (cc);
    leaves = leaves_more P (putting_away (loaded_of P old) slot) es old new left;
    loaded = tt;
    log_size = tt;
    stays = stays;
    cause = record { later = stays.stays.faults; failed = rose; stays = tt };
  }

  pub lost_first : (slot : ℕ) (es : List Effect) (old new : D) → (P.tells → ⊥) → Done P (putting_away (loaded_of P old) slot) old new
      → Leaves P (putting_away (loaded_of P old) slot) old new → loaded_of P new ≡ Some slot → (P.view new).log_size ≡ (P.view old).log_size
      → StaysQuiet P old new → (P.view new).faults ≡ (P.view old).faults → Turns P slot es (Ok false) old new
  lost_first slot es old new silent done left at size stays same = record {
    told = λ tells is. silent tells;
    done = λ is. absurd (cc);
    lost = λ is. done;
    leaves = leaves_more P (putting_away (loaded_of P old) slot) es old new left;
    loaded = at;
    log_size = size;
    stays = stays;
    cause = record { later = stays.stays.faults; failed = tt; stays = same };
  }

  pub failed_then : (slot : ℕ) (es : List Effect) (old mid new : D) (f : Failed) → Done P (putting_away (loaded_of P old) slot) old mid
      → Leaves P (putting_away (loaded_of P old) slot) old mid → StaysQuiet P old mid → (P.view mid).faults ≡ (P.view old).faults
      → Leaves P es mid new → StaysQuiet P mid new → Rose (P.view mid).faults (P.view new).faults → Turns P slot es (Err f) old new
  failed_then slot es old mid new f done left stays same then_left then_stays rose = record {
    told = λ tells is. absurd (cc);
    done = λ is. absurd (cc);
    lost = λ is. absurd (cc);
    leaves = leaves_both P (putting_away (loaded_of P old) slot) es old mid new done left then_left;
    loaded = tt;
    log_size = tt;
    stays = quiet_both P old mid new stays then_stays;
    cause = record { later = (quiet_both P old mid new stays then_stays).stays.faults; failed = subst (λ (n : ℕ). Rose n (P.view new).faults) same rose; stays = tt };
  }

  pub put_then : (slot : ℕ) (es : List Effect) (old mid new : D) → Done P (putting_away (loaded_of P old) slot) old mid
      → Leaves P (putting_away (loaded_of P old) slot) old mid → loaded_of P mid ≡ Some slot → (P.view mid).log_size ≡ (P.view old).log_size
      → StaysQuiet P old mid → (P.view mid).faults ≡ (P.view old).faults
      → Done P es mid new → Leaves P es mid new → loaded_of P new ≡ loaded_of P mid
      → (P.view new).log_size ≡ (P.view mid).log_size → StaysQuiet P mid new → (P.view new).faults ≡ (P.view mid).faults → Turns P slot es (Ok true) old new
  put_then slot es old mid new done left at size stays same then_done then_left then_at then_size then_stays then_same = record {
    told = λ tells is. absurd (cc);
    done = λ is. done_both P (putting_away (loaded_of P old) slot) es old mid new done then_done;
    lost = λ is. absurd (cc);
    leaves = leaves_both P (putting_away (loaded_of P old) slot) es old mid new done left then_left;
    loaded = then_at ∙ at;
    log_size = then_size ∙ size;
    stays = quiet_both P old mid new stays then_stays;
    cause = record { later = (quiet_both P old mid new stays then_stays).stays.faults; failed = tt; stays = then_same ∙ same };
  }

  -- The effects are others that are the same where contents are told.
  pub turns_told : (slot : ℕ) (es fs : List Effect) (result : Result Bool Failed) (old new : D) → (P.tells → es ≡ fs) → Turns P slot es result old new → Turns P slot fs result old new
  turns_told slot es fs result old new same turns = record {
    told = turns.told;
    done = λ is. record {
      sound = (turns.done is).sound;
      survives = (turns.done is).survives;
      state = λ tells. subst (λ (xs : List Effect). Alike (come (putting_away (loaded_of P old) slot ++ xs) (state_of P old)) (state_of P new)) (same tells) ((turns.done is).state tells);
    };
    lost = turns.lost;
    leaves = record {
      crash = λ tells survives. subst (λ (xs : List Effect). Leads P.time old new (Joint (state_of P old) (putting_away (loaded_of P old) slot ++ xs))) (same tells) (turns.leaves.crash tells survives);
      told = λ tells. subst (λ (xs : List Effect). IsStartOf (state_of P new).told (come (putting_away (loaded_of P old) slot ++ xs) (state_of P old)).told) (same tells) (turns.leaves.told tells);
      grows = turns.leaves.grows;
    };
    loaded = turns.loaded;
    log_size = turns.log_size;
    stays = turns.stays;
    cause = turns.cause;
  }
