-- How what was done to a plant is joined.
use Rattle.std.proofs.Common.{◌≡◌, ◌≤◌, List, [], ◌++◌, refl, sym, ◌∙◌, ap, subst, arith}
use Rattle.crash_moments.specs.Moments.{Leads}
use Rattle.crash_moments.proofs.Joining.{stays, joined, weakened}
use Rattle.plant_core.specs.declared.plant.Plant.{Ghosts as Plant}
use Rattle.plant_core.specs.Crashes.{State, LeftIn, Alike}
use Rattle.plant_core.specs.Effects.{Effect, come, Joint}
use Rattle.plant_core.specs.Steps.{Same}
use Rattle.plant_core.specs.Stock.{Stock}
use Rattle.plant_core.specs.Views.{OnlyFaults, OnlyLoadFaults, OnlyTellFaults}
use Rattle.plant_effects.specs.Runs.{state_of, Done, Leaves, OnlyLooks, SameNumbers, Stays, StaysQuiet, StaysTelling}
use Rattle.plant_effects.proofs.States.{alike_self, alike_both, alike_come, come_append, grows_same, grows_both, told_kept, told_ahead, told_then, grows_none, joint_none, joint_more, joint_then}

module _ {D : Type 0} (P : Plant D) where
  -- each image of now is what the crash model leaves of what is seen
  abbrev pub Fits : D → Type 0
  Fits s = P.tells → P.survives s → (c : Stock) → P.time.may_leave s c → LeftIn (state_of P s) c

  -- nothing was done
  pub nothing_done : (s : D) → P.sound s → Done P [] s s
  nothing_done s sound = record { sound = sound; survives = λ told survives. survives; state = λ told. alike_self (state_of P s) }

  pub nothing_left : (es : List Effect) (s : D) → Fits s → Leaves P es s s
  nothing_left es s fits = record {
    crash = λ told survives. weakened P.time s s (λ a b. b ≡ a) (Joint (state_of P s) es) (stays P.time s)
        (λ a b was same. joint_none (state_of P s) es a b (subst (LeftIn (state_of P s)) (sym same) (fits told survives a was)) (grows_none a b (ap (λ (c : Stock). c.told) same)));
    told = λ told. told_kept es (state_of P s) (state_of P s).told refl;
    grows = λ told. grows_same (state_of P s).told (state_of P s).told refl;
  }

  -- more is to come
  pub leaves_more : (es fs : List Effect) (old new : D) → Leaves P es old new → Leaves P (es ++ fs) old new
  leaves_more es fs old new leaves = record {
    crash = λ told survives. weakened P.time old new (Joint (state_of P old) es) (Joint (state_of P old) (es ++ fs)) (leaves.crash told survives) (λ a b was step. joint_more (state_of P old) es fs a b step);
    told = λ told. told_ahead es fs (state_of P old) (state_of P new).told (leaves.told told);
    grows = leaves.grows;
  }

  -- one after the other
  pub done_both : (es fs : List Effect) (old mid new : D) → Done P es old mid → Done P fs mid new → Done P (es ++ fs) old new
  done_both es fs old mid new first second = record {
    sound = second.sound;
    survives = λ told survives. second.survives told (first.survives told survives);
    state = λ told. subst (λ (s : State). Alike s (state_of P new)) (sym (come_append es fs (state_of P old)))
        (alike_both (come fs (come es (state_of P old))) (come fs (state_of P mid)) (state_of P new) (alike_come fs (come es (state_of P old)) (state_of P mid) (first.state told)) (second.state told));
  }

  pub leaves_both : (es fs : List Effect) (old mid new : D) → Done P es old mid → Leaves P es old mid → Leaves P fs mid new → Leaves P (es ++ fs) old new
  leaves_both es fs old mid new done first second = record {
    crash = λ told survives. joined P.time old mid new (Joint (state_of P old) es) (Joint (state_of P mid) fs) (Joint (state_of P old) (es ++ fs))
        (first.crash told survives) (second.crash told (done.survives told survives))
        (λ a b was step. joint_more (state_of P old) es fs a b step)
        (λ a b c was step left next. joint_then (state_of P old) (state_of P mid) es fs a b c (done.state told) step.grows next);
    told = λ told. told_then (state_of P old) (state_of P mid) es fs (state_of P new).told (done.state told) (second.told told);
    grows = λ told. grows_both (state_of P old).told (state_of P mid).told (state_of P new).told (first.grows told) (second.grows told);
  }

  -- only reads
  pub nothing_looked : (s : D) → OnlyLooks P s s
  nothing_looked s = record { beneath = λ told. refl; crash = λ told. stays P.time s }

  pub looks_both : (old mid new : D) → OnlyLooks P old mid → OnlyLooks P mid new → OnlyLooks P old new
  looks_both old mid new first second = record {
    beneath = λ told. second.beneath told ∙ first.beneath told;
    crash = λ told. joined P.time old mid new Same Same Same (first.crash told) (second.crash told) (λ a b was step. step) (λ a b c was step left next. next ∙ step);
  }

  -- the numbers
  pub same_numbers : (s : D) → SameNumbers P s s
  same_numbers s = record { tape = record { loaded = refl; records = refl; loads = refl }; log_size = refl }

  pub numbers_both : (old mid new : D) → SameNumbers P old mid → SameNumbers P mid new → SameNumbers P old new
  numbers_both old mid new first second = record {
    tape = record { loaded = second.tape.loaded ∙ first.tape.loaded; records = second.tape.records ∙ first.tape.records; loads = second.tape.loads ∙ first.tape.loads };
    log_size = second.log_size ∙ first.log_size;
  }

  -- whatever was done
  pub nothing_stays : (s : D) → Stays P s s
  nothing_stays s = record { slots = refl; present = refl; loads = omega arith; faults = omega arith; tell_faults = omega arith }

  pub stays_both : (old mid new : D) → Stays P old mid → Stays P mid new → Stays P old new
  stays_both old mid new first second = record {
    slots = second.slots ∙ first.slots;
    present = second.present ∙ first.present;
    loads = omega (arith, first.loads, second.loads);
    faults = omega (arith, first.faults, second.faults);
    tell_faults = omega (arith, first.tell_faults, second.tell_faults);
  }

  pub nothing_quiet : (s : D) → StaysQuiet P s s
  nothing_quiet s = record { stays = nothing_stays s; tell_faults = refl }

  pub quiet_both : (old mid new : D) → StaysQuiet P old mid → StaysQuiet P mid new → StaysQuiet P old new
  quiet_both old mid new first second = record { stays = stays_both old mid new first.stays second.stays; tell_faults = second.tell_faults ∙ first.tell_faults }

  pub nothing_telling : (s : D) → StaysTelling P s s
  nothing_telling s = record { stays = nothing_stays s; loads = refl; faults = refl }

  pub telling_both : (old mid new : D) → StaysTelling P old mid → StaysTelling P mid new → StaysTelling P old new
  telling_both old mid new first second = record { stays = stays_both old mid new first.stays second.stays; loads = second.loads ∙ first.loads; faults = second.faults ∙ first.faults }

  -- By what was asked of one call: the counts that a call isn't about stay.
  pub quiet_call : (old new : D) → OnlyFaults P.tells (P.view old) (P.view new) → (P.view old).faults ≤ (P.view new).faults → StaysQuiet P old new
  quiet_call old new only later = record {
    stays = record { slots = only.slots; present = only.present; loads = omega (arith, only.loads); faults = later; tell_faults = omega (arith, only.tell_faults) };
    tell_faults = only.tell_faults;
  }

  pub quiet_load : (old new : D) → OnlyLoadFaults P.tells (P.view old) (P.view new) → (P.view old).faults ≤ (P.view new).faults → StaysQuiet P old new
  quiet_load old new only later = record {
    stays = record { slots = only.slots; present = only.present; loads = only.loads; faults = later; tell_faults = omega (arith, only.tell_faults) };
    tell_faults = only.tell_faults;
  }

  pub telling_call : (old new : D) → OnlyTellFaults (P.view old) (P.view new) → (P.view old).tell_faults ≤ (P.view new).tell_faults → StaysTelling P old new
  telling_call old new only later = record {
    stays = record { slots = only.slots; present = only.present; loads = omega (arith, only.loads); faults = omega (arith, only.faults); tell_faults = later };
    loads = only.loads;
    faults = only.faults;
  }

  -- a call that only reads
  pub reads_left : (es : List Effect) (old new : D) → Fits old → (P.tells → Leads P.time old new Same) → OnlyFaults P.tells (P.view old) (P.view new) → Leaves P es old new
  reads_left es old new fits leads only = record {
    crash = λ told survives. weakened P.time old new Same (Joint (state_of P old) es) (leads told)
        (λ a b was same. joint_none (state_of P old) es a b (subst (LeftIn (state_of P old)) (sym same) (fits told survives a was)) (grows_none a b (ap (λ (c : Stock). c.told) same)));
    told = λ told. told_kept es (state_of P old) (state_of P new).told (only.output told);
    grows = λ told. grows_same (state_of P old).told (state_of P new).told (only.output told);
  }
