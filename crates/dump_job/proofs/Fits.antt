-- A dump fits the plant again behind each step, and stays so while tapes are loaded; and what is so of a step whatever is told.
use Rattle.std.proofs.Common.{◌≡◌, ◌≢◌, ℕ, ◌<◌, ◌≤◌, Bool, true, false, List, [], Option, Some, None, length, map, refl, sym, ◌∙◌, ap, subst, arith}
use Rattle.std.specs.Prelude.{if◌then◌else◌, Result, Ok, Err, OnOk, IfSome, IsTrue}
use Rattle.crash_moments.specs.Moments.{Rose, HasCause}
use Rattle.plant_core.specs.declared.fault.Failed.{Failed}
use Rattle.plant_core.specs.declared.plant.Plant.{Ghosts as Plant}
use Rattle.plant_core.specs.Effects.{Effect, settles, putting_away}
use Rattle.plant_core.specs.Records.{Record, NoBad}
use Rattle.plant_effects.specs.Runs.{state_of, loaded_of, Done, Leaves, StaysQuiet}
use Rattle.plant_effects.proofs.Joining.{Fits, nothing_done, nothing_left, nothing_quiet}
use Rattle.tape_scan.specs.Looking.{Loads}
use Rattle.tape_scan.proofs.Looking.{settling_keeps_tapes}
use Rattle.budb.specs.Views.{BudbView}
use Rattle.dump_job.specs.declared.answer.StepAnswer.{StepAnswer}
use Rattle.dump_job.specs.declared.answer.StepAnswer.TheVariants as answers
use Rattle.dump_job.specs.declared.fields.Hand.{Hand}
use Rattle.dump_job.specs.declared.fields.JobFields.{JobFields}
use Rattle.dump_job.specs.declared.fields.Phase.{Phase}
use Rattle.dump_job.specs.declared.fields.Phase.TheVariants as phase
use Rattle.dump_job.specs.Reels.{records_on, IsOn}
use Rattle.dump_job.specs.Taping.{IsFor, phase_begun}
use Rattle.dump_job.specs.Settling.{last_filled}
use Rattle.dump_job.specs.Jobs.{IsWholeIn, FitsAt, FitsJob}
use Rattle.dump_job.specs.Left.{left_of}
use Rattle.dump_job.specs.Stepping.{HasStepped, IsLast, TakesMemory, Steps, put_answer}
use Rattle.dump_job.proofs.Events.{away_of}

-- ---- phases

pub behind_no_tape : (over : Bool) → (if over then phase.VolumeEnd else phase.Piece) ≢ phase.Tape
behind_no_tape true is = cc
behind_no_tape false is = cc

pub behind_not_over : (over : Bool) → (if over then phase.VolumeEnd else phase.Piece) ≢ phase.Over
behind_not_over true is = cc
behind_not_over false is = cc

pub after_no_tape : (more : Bool) → (if more then phase.Clone else phase.DumpEnd) ≢ phase.Tape
after_no_tape true is = cc
after_no_tape false is = cc

pub after_not_over : (more : Bool) → (if more then phase.Clone else phase.DumpEnd) ≢ phase.Over
after_not_over true is = cc
after_not_over false is = cc

pub begun_no_tape : (hand : Option Hand) → phase_begun hand ≢ phase.Tape
begun_no_tape None is = cc
begun_no_tape (Some h) is = cc

pub begun_not_over : (hand : Option Hand) → phase_begun hand ≢ phase.Over
begun_not_over None is = cc
begun_not_over (Some h) is = cc

module _ {D : Type 0} (P : Plant D) where
  -- ---- fits

  pub on_fits : (p : Phase) (j : JobFields) (plant : D) → p ≢ phase.Tape → IsOn P j.reel.slot (records_on j.reel) plant → FitsAt P p j plant
  on_fits phase.Tape j plant never on = absurd (never refl)
  on_fits phase.Clone j plant never on = on
  on_fits phase.Head j plant never on = on
  on_fits phase.Piece j plant never on = on
  on_fits phase.VolumeEnd j plant never on = on
  on_fits phase.PartEnd j plant never on = on
  on_fits phase.DumpEnd j plant never on = on
  on_fits phase.Over j plant never on = on

  pub fits_on : (p : Phase) (j : JobFields) (plant : D) → p ≢ phase.Tape → FitsAt P p j plant → IsOn P j.reel.slot (records_on j.reel) plant
  fits_on phase.Tape j plant never on = absurd (never refl)
  fits_on phase.Clone j plant never on = on
  fits_on phase.Head j plant never on = on
  fits_on phase.Piece j plant never on = on
  fits_on phase.VolumeEnd j plant never on = on
  fits_on phase.PartEnd j plant never on = on
  fits_on phase.DumpEnd j plant never on = on
  fits_on phase.Over j plant never on = on

  -- ---- loads

  loaded_tape : (away : List ℕ) (slot : ℕ) (old new : D) → P.tells → Done P (map settles away) old new → (state_of P new).tape slot ≡ (state_of P old).tape slot
  loaded_tape away slot old new tells done = (done.state tells).tape slot ∙ ap (λ (f : ℕ → List Record). f slot) (settling_keeps_tapes away (state_of P old))

  on_loads : (away : List ℕ) (slot count : ℕ) (old new : D) → Done P (map settles away) old new → StaysQuiet P old new → IsOn P slot count old → IsOn P slot count new
  on_loads away slot count old new done stays on = record {
    sound = done.sound;
    here = subst (λ (present : ℕ → Bool). IsTrue (present slot)) (sym stays.stays.present) on.here;
    records = λ tells. ap length (loaded_tape away slot old new tells done) ∙ on.records tells;
    whole = λ tells. subst NoBad (sym (loaded_tape away slot old new tells done)) (on.whole tells);
  }

  for_loads : (away : List ℕ) (slot count : ℕ) (old new : D) → Done P (map settles away) old new → StaysQuiet P old new → IsFor P slot count old → IsFor P slot count new
  for_loads away slot count old new done stays for = record {
    sound = done.sound;
    here = subst (λ (present : ℕ → Bool). IsTrue (present slot)) (sym stays.stays.present) for.here;
    records = λ tells. subst (λ (tape : List Record). count ≤ length tape) (sym (loaded_tape away slot old new tells done)) (for.records tells);
    whole = λ tells some. subst NoBad (sym (loaded_tape away slot old new tells done)) (for.whole tells some);
  }

  whole_loads : (away : List ℕ) (last : Option ℕ) (old new : D) → Done P (map settles away) old new → StaysQuiet P old new → IfSome last (IsWholeIn P old) → IfSome last (IsWholeIn P new)
  whole_loads away None old new done stays there = tt
  whole_loads away (Some slot) old new done stays there = record {
    here = subst (λ (present : ℕ → Bool). IsTrue (present slot)) (sym stays.stays.present) there.here;
    whole = λ tells. subst NoBad (sym (loaded_tape away slot old new tells done)) (there.whole tells);
  }

  at_loads : (p : Phase) (away : List ℕ) (j : JobFields) (old new : D) → Done P (map settles away) old new → StaysQuiet P old new → FitsAt P p j old → FitsAt P p j new
  at_loads phase.Tape away j old new done stays fit = record {
    next = for_loads away j.reel.slot (records_on j.reel) old new done stays fit.next;
    last = whole_loads away (last_filled j.filled) old new done stays fit.last;
  }
  at_loads phase.Clone away j old new done stays fit = on_loads away j.reel.slot (records_on j.reel) old new done stays fit
  at_loads phase.Head away j old new done stays fit = on_loads away j.reel.slot (records_on j.reel) old new done stays fit
  at_loads phase.Piece away j old new done stays fit = on_loads away j.reel.slot (records_on j.reel) old new done stays fit
  at_loads phase.VolumeEnd away j old new done stays fit = on_loads away j.reel.slot (records_on j.reel) old new done stays fit
  at_loads phase.PartEnd away j old new done stays fit = on_loads away j.reel.slot (records_on j.reel) old new done stays fit
  at_loads phase.DumpEnd away j old new done stays fit = on_loads away j.reel.slot (records_on j.reel) old new done stays fit
  at_loads phase.Over away j old new done stays fit = on_loads away j.reel.slot (records_on j.reel) old new done stays fit

  pub fits_loads : (away : List ℕ) (j : JobFields) (old new : D) → Done P (map settles away) old new → StaysQuiet P old new → FitsJob P j old → FitsJob P j new
  fits_loads away j old new done stays fit = record { job = fit.job; tape = at_loads j.phase away j old new done stays fit.tape }

  -- a load of a tape that was then found to have other records, which comes only where contents aren't told
  pub lost_loads : (slot : ℕ) (old new : D) → (P.tells → ⊥) → Done P (putting_away (loaded_of P old) slot) old new → (P.view new).log_size ≡ (P.view old).log_size
      → Loads P old new
  lost_loads slot old new silent done size =
      let one = away_of (loaded_of P old) slot in
      record {
        away = one.away;
        done = subst (λ (xs : List Effect). Done P xs old new) one.is done;
        leaves = record { crash = λ tells survives. absurd (silent tells); told = λ tells. absurd (silent tells); grows = λ tells. absurd (silent tells) };
        log_size = size;
      }

  -- nothing was done
  pub still_loads : (old new : D) → Done P [] old new → Leaves P [] old new → (P.view new).log_size ≡ (P.view old).log_size → Loads P old new
  still_loads old new done left size = record { away = []; done = done; leaves = left; log_size = size }

  -- ---- a step

  -- it was made
  pub steps_made : (answer : StepAnswer) (after : BudbView) (budb : BudbView) (old new : D) (j k : JobFields) → HasStepped answer → FitsJob P k new → k.places ≡ j.places
      → (answer ≡ answers.More → k.phase ≢ phase.Over) → (answer ≡ answers.More → left_of k < left_of j) → (IsLast answer → k.phase ≡ phase.Over) → after.prepared ≡ None → StaysQuiet P old new → (P.view new).faults ≡ (P.view old).faults
      → Steps P answer budb after old new j k
  steps_made answers.More after budb old new j k stepped fit places going less over nothing stays same = record {
    fit = λ never. fit;
    places = λ never. places;
    going = going;
    less = less;
    over = over;
    nothing = nothing;
    same_job = λ idle. absurd idle;
    same_budb = λ idle. absurd idle;
    loads = λ idle. absurd idle;
    memory = λ tells is. absurd (cc);
    stays = stays;
    cause = record { later = stays.stays.faults; failed = λ is. absurd (cc); stays = λ never. same };
  }
  steps_made (answers.Done id) after budb old new j k stepped fit places going less over nothing stays same = record {
    fit = λ never. fit;
    places = λ never. places;
    going = going;
    less = less;
    over = over;
    nothing = nothing;
    same_job = λ idle. absurd idle;
    same_budb = λ idle. absurd idle;
    loads = λ idle. absurd idle;
    memory = λ tells is. absurd (cc);
    stays = stays;
    cause = record { later = stays.stays.faults; failed = λ is. absurd (cc); stays = λ never. same };
  }
  steps_made (answers.Refused fault) after budb old new j k stepped fit places going less over nothing stays same = record {
    fit = λ never. fit;
    places = λ never. places;
    going = going;
    less = less;
    over = over;
    nothing = nothing;
    same_job = λ idle. absurd idle;
    same_budb = λ idle. absurd idle;
    loads = λ idle. absurd idle;
    memory = λ tells is. absurd (cc);
    stays = stays;
    cause = record { later = stays.stays.faults; failed = λ is. absurd (cc); stays = λ never. same };
  }
  steps_made answers.PlantFailed after budb old new j k stepped fit places going less over nothing stays same = absurd stepped
  steps_made answers.CellFailed after budb old new j k stepped fit places going less over nothing stays same = absurd stepped
  steps_made answers.Memory after budb old new j k stepped fit places going less over nothing stays same = absurd stepped

  -- the plant failed
  pub steps_failed : (after budb : BudbView) (old new : D) (j k : JobFields) → after.prepared ≡ None → StaysQuiet P old new → Rose (P.view old).faults (P.view new).faults
      → Steps P answers.PlantFailed budb after old new j k
  steps_failed after budb old new j k nothing stays rose = record {
    fit = λ never. absurd (never refl);
    places = λ never. absurd (never refl);
    going = λ is. absurd (cc);
    less = λ is. absurd (cc);
    over = λ last. absurd last;
    nothing = nothing;
    same_job = λ idle. absurd idle;
    same_budb = λ idle. absurd idle;
    loads = λ idle. absurd idle;
    memory = λ tells is. absurd (cc);
    stays = stays;
    cause = record { later = stays.stays.faults; failed = λ is. rose; stays = λ never. absurd (never refl) };
  }

  -- no step was made
  pub steps_memory : (after budb : BudbView) (old new : D) (j k : JobFields) → FitsJob P j old → budb.prepared ≡ None → after ≡ budb → k ≡ j → Loads P old new
      → (P.tells → TakesMemory j.phase j) → StaysQuiet P old new → (P.view new).faults ≡ (P.view old).faults → Steps P answers.Memory budb after old new j k
  steps_memory after budb old new j k fit none same is loads may stays still = record {
    fit = λ never. subst (λ (x : JobFields). FitsJob P x new) (sym is) (fits_loads loads.away j old new loads.done stays fit);
    places = λ never. ap (λ (x : JobFields). x.places) is;
    going = λ more. absurd (cc);
    less = λ more. absurd (cc);
    over = λ last. absurd last;
    nothing = ap (λ (b : BudbView). b.prepared) same ∙ none;
    same_job = λ idle. is;
    same_budb = λ idle. same;
    loads = λ idle. loads;
    memory = λ tells memory. may tells;
    stays = stays;
    cause = record { later = stays.stays.faults; failed = λ failed. absurd (cc); stays = λ never. still };
  }

  pub steps_cell : (budb : BudbView) (old : D) (j k : JobFields) → FitsJob P j old → P.sound old → Fits P old → budb.prepared ≡ None → k ≡ j → Steps P answers.CellFailed budb budb old old j k
  steps_cell budb old j k fit sound fits none is = record {
    fit = λ never. subst (λ (x : JobFields). FitsJob P x old) (sym is) fit;
    places = λ never. ap (λ (x : JobFields). x.places) is;
    going = λ more. absurd (cc);
    less = λ more. absurd (cc);
    over = λ last. absurd last;
    nothing = none;
    same_job = λ idle. is;
    same_budb = λ idle. refl;
    loads = λ idle. still_loads old old (nothing_done P old sound) (nothing_left P [] old fits) refl;
    memory = λ tells memory. absurd (cc);
    stays = nothing_quiet P old;
    cause = record { later = omega arith; failed = λ failed. absurd (cc); stays = λ never. refl };
  }

  -- something was put on the tape in hand
  pub steps_put : (slot : ℕ) (result : Result Bool Failed) (budb : BudbView) (old new : D) (j k : JobFields) → FitsJob P j old → budb.prepared ≡ None
      → (P.tells → result ≢ Ok false) → (result ≡ Ok false → Done P (putting_away (loaded_of P old) slot) old new) → OnOk result ((P.view new).log_size ≡ (P.view old).log_size)
      → StaysQuiet P old new → HasCause (P.view old).faults (P.view new).faults result
      → (result ≡ Ok true → FitsJob P k new) → (result ≡ Ok true → k.places ≡ j.places) → (result ≡ Ok true → k.phase ≢ phase.Over) → (result ≡ Ok true → left_of k < left_of j) → (result ≡ Ok false → k ≡ j)
      → Steps P (put_answer result) budb budb old new j k
  steps_put slot (Ok true) budb old new j k fit none told lost size stays cause fits places going less same =
      steps_made answers.More budb budb old new j k tt (fits refl) (places refl) (λ is. going refl) (λ is. less refl) (λ last. absurd last) none stays cause.stays
  steps_put slot (Ok false) budb old new j k fit none told lost size stays cause fits places going less same =
      steps_memory budb budb old new j k fit none refl (same refl) (lost_loads slot old new (λ tells. told tells refl) (lost refl) size)
      (λ tells. absurd (told tells refl)) stays cause.stays
  steps_put slot (Err f) budb old new j k fit none told lost size stays cause fits places going less same = steps_failed budb budb old new j k none stays cause.failed
