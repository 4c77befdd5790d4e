-- What calls on the media make of the plant's images.
use Rattle.std.proofs.Common.{◌≡◌, ◌≢◌, ◌⊎◌, inl, inr, ⊎_elim, ℕ, ◌+◌, ◌≤◌, min, Bool, false, List, [], ◌∷◌, ◌++◌, length, take, Option, Some, refl, sym, ◌∙◌, ap, subst, arith, length-append}
use Rattle.std.proofs.lemmas.Bool.{cases_lt}
use Rattle.std.proofs.lemmas.List.{append-nil, take_min, take_all, take-take, take-append-le, length-take}
use Rattle.std.proofs.Math.Nat.{le_refl}
use Rattle.std.proofs.Math.Seq.{take-append-add}
use Rattle.crash_moments.specs.Moments.{Moments, Leads}
use Rattle.crash_moments.proofs.Joining.{mapped_leads, weakened}
use Rattle.media_core.specs.Media.{Image, AtFile, Tells}
use Rattle.crash_moments.specs.Telling.{IsFront}
use Rattle.crash_log.specs.Log.{HasLog, HasOneOf}
use Rattle.crash_log.specs.CrashLog.{file_of, damaged_of, settled_log, state_of}
use Rattle.crash_log.specs.Fit.{Fits}
use Rattle.crash_log.specs.declared.log.CrashLog.{CrashLog}
use Rattle.crash_log.proofs.Fitting.{log_left, whole_left}
use Rattle.plant_core.specs.Records.{Record}
use Rattle.plant_core.specs.Crashes.{IsTorn}
use Rattle.plant_core.specs.Steps.{Same, OldOr, AtTape, MayGain, MayKeep, MaySettle, TellsTo}
use Rattle.plant_core.specs.Stock.{Stock}
use Rattle.plant_media.specs.Stock.{tape_of, journal_of, stock_of, SameTape, TapeOr, SameJournal, JournalOr}
use Rattle.plant_media.specs.Loaded.{tape_in, TapeSuits}
use Rattle.plant_media.specs.Slots.{slot_in, tape_at, settled_in}
use Rattle.plant_media.specs.State.{media_of, moments_of, shown_of, loaded_of}
use Rattle.plant_media.specs.Shown.{journal_whole}
use Rattle.plant_media.specs.Slotting.{shown_tape, shown_settled, at_loaded, settled_loaded, some_is}
use Rattle.plant_media.specs.Taping.{tape_left}
use Rattle.plant_media.specs.declared.tape.Tape.{Tape}
use Rattle.plant_media.specs.declared.plant.MediaPlant.{MediaPlant}

-- of the journal's file
module _ {D : Type 0} (moments : Moments D Image) (seen : D → Image) (log : CrashLog) (old new : D) (fits : Fits moments seen (state_of log) old) (whole : damaged_of log ≡ false) where
  abbrev settled : List ℕ
  settled = settled_log log ((seen old).file (file_of log))

  journal_was : (a : Image) → moments.may_leave old a → journal_of (a.file (file_of log)) ≡ Some settled
  journal_was a was = journal_whole (a.file (file_of log)) (whole_left moments seen log old fits whole a was) ∙ ap (λ (l : List ℕ). Some l) (log_left moments seen log old fits a was)

  pub journal_same : Leads moments old new (AtFile (file_of log) (HasLog settled)) → Leads moments old new (AtFile (file_of log) SameJournal)
  journal_same leads = weakened moments old new (AtFile (file_of log) (HasLog settled)) (AtFile (file_of log) SameJournal) leads (λ a b was step. record {
    here = journal_whole (b.file (file_of log)) (step.here.whole (whole_left moments seen log old fits whole a was)) ∙ ap (λ (l : List ℕ). Some l) step.here.bytes ∙ sym (journal_was a was);
    others = step.others;
    told = step.told;
  })

  pub journal_or : (bytes : List ℕ) → Leads moments old new (AtFile (file_of log) (HasOneOf settled bytes)) → Leads moments old new (AtFile (file_of log) (JournalOr bytes))
  journal_or bytes leads = weakened moments old new (AtFile (file_of log) (HasOneOf settled bytes)) (AtFile (file_of log) (JournalOr bytes)) leads (λ a b was step.
      let now = journal_whole (b.file (file_of log)) (step.here.whole (whole_left moments seen log old fits whole a was)) in
      record {
        here = ⊎_elim (λ before. inl (now ∙ ap (λ (l : List ℕ). Some l) before ∙ sym (journal_was a was))) (λ after. inr (now ∙ ap (λ (l : List ℕ). Some l) after)) step.here.bytes;
        others = step.others;
        told = step.told;
      })

-- fronts
front_behind : (xs ys zs : List ℕ) → IsFront ys zs → IsFront (xs ++ ys) (xs ++ zs)
front_behind xs ys zs front = (length xs + front.0, ap (λ (l : List ℕ). xs ++ l) front.1 ∙ sym (take-append-add xs zs front.0))

front_more : (xs ys zs : List ℕ) → IsFront xs ys → IsFront xs (ys ++ zs)
front_more xs ys zs front = (min front.0 (length ys), front.1 ∙ sym (take_min front.0 ys) ∙ sym (take-append-le (min front.0 (length ys)) ys zs (omega arith)))

pub not_zero : (k : ℕ) → k + 1 ≢ 0
not_zero k is = absurd (omega (arith, is))

module _ {D : Type 0} (moments : Moments D Image) (old new : MediaPlant D) where
  abbrev Lifts : (Stock → Stock → Type 0) → Type 0
  Lifts S = Leads (moments_of moments) old new S

  lifted : (R : Image → Image → Type 0) (S : Stock → Stock → Type 0) → Leads moments old.media new.media R → ((a b : Image) → moments.may_leave old.media a → R a b → S (stock_of a) (stock_of b)) → Lifts S
  lifted R S = mapped_leads moments media_of stock_of old new R S

  pub lift_journal_same : Leads moments old.media new.media (AtFile 0 SameJournal) → Lifts Same
  lift_journal_same leads = lifted (AtFile 0 SameJournal) Same leads (λ a b was step. λ i. record {
    log = step.here i;
    tape = λ k. tape_of (step.others (k + 1) (not_zero k) i);
    told = step.told i;
  })

  pub lift_journal_or : (bytes : List ℕ) → Leads moments old.media new.media (AtFile 0 (JournalOr bytes)) → Lifts (OldOr bytes)
  lift_journal_or bytes leads = lifted (AtFile 0 (JournalOr bytes)) (OldOr bytes) leads (λ a b was step. record {
    here = step.here;
    tapes = λ k. ap tape_of (step.others (k + 1) (not_zero k));
    told = step.told;
  })

  pub lift_tape : (s : ℕ) (R : List ℕ → List ℕ → Type 0) (Is : List Record → Type 0) → Leads moments old.media new.media (AtFile (s + 1) R)
      → ((a b : Image) → moments.may_leave old.media a → R (a.file (s + 1)) (b.file (s + 1)) → Is (tape_of (b.file (s + 1)))) → Lifts (AtTape s Is)
  lift_tape s R Is leads here = lifted (AtFile (s + 1) R) (AtTape s Is) leads (λ a b was step. record {
    here = here a b was step.here;
    others = λ j ne. ap tape_of (step.others (j + 1) (λ is. ne (omega (arith, is))));
    log = ap journal_of (step.others 0 (λ is. absurd (omega (arith, is))));
    told = step.told;
  })

  pub lift_tell : (taken part piece : List ℕ) → IsFront part piece → ((c : Image) → moments.may_leave old.media c → IsFront c.told taken) → Leads moments old.media new.media (Tells taken part) → Lifts (TellsTo (taken ++ piece))
  lift_tell taken part piece of_piece fronts leads = lifted (Tells taken part) (TellsTo (taken ++ piece)) leads (λ a b was step. record {
    front = ⊎_elim
        (λ same. subst (λ (l : List ℕ). IsFront l (taken ++ piece)) (sym same) (front_more a.told taken piece (fronts a was)))
        (λ more. subst (λ (l : List ℕ). IsFront l (taken ++ piece)) (sym more.1.1) (front_behind taken (take more.1.0 part) piece (front_of more.1.0 part piece of_piece)))
        step.told;
    grows = ⊎_elim (λ same. ([], same ∙ sym (append-nil a.told))) (λ more. (take more.1.0 part, more.1.1 ∙ ap (λ (l : List ℕ). l ++ take more.1.0 part) (sym more.0))) step.told;
    tapes = λ k. ap tape_of (step.files (k + 1));
    log = ap journal_of (step.files 0);
  })
    where
      front_of : (n : ℕ) (xs ys : List ℕ) → IsFront xs ys → IsFront (take n xs) ys
      front_of n xs ys front = elim (cases_lt front.0 n) [
        | inl longer ↦ (front.0, take_all n xs (omega (arith, ap length front.1, length-take front.0 ys)) ∙ front.1)
        | inr shorter ↦ (n, ap (λ (l : List ℕ). take n l) front.1 ∙ take-take n front.0 ys shorter)
      ]

-- the loaded tape, as it is shown
module _ {D : Type 0} (seen : D → Image) (plant : MediaPlant D) (t : Tape) (is : plant.tape ≡ Some t) where
  pub slot_is : (k : ℕ) → loaded_of plant ≡ Some k → k ≡ t.slot
  slot_is k loaded = some_is k t.slot (sym loaded ∙ ap slot_in is)

  pub whole_is : (s : ℕ) → s ≡ t.slot → (shown_of seen plant).tape s ≡ tape_in t (seen plant.media)
  whole_is s same = shown_tape plant.journal plant.tape (seen plant.media) s ∙ ap (λ (o : Option Tape). tape_at o (seen plant.media) s) is ∙ at_loaded t (seen plant.media) s same

  pub settled_is : (s : ℕ) → s ≡ t.slot → (shown_of seen plant).settled s ≡ t.settled
  settled_is s same = shown_settled plant.journal plant.tape (seen plant.media) s ∙ ap (λ (o : Option Tape). settled_in o (seen plant.media) s) is ∙ settled_loaded t (seen plant.media) s same

torn_by : (l m c : List Record) (n k : ℕ) → n ≡ k → k ≤ length m → c ≡ take k l → take k m ≡ take k l → IsTorn n m c
torn_by l m c n k same within is front = record { count = k; low = omega arith; high = within; is = inl (is ∙ sym front) }

torn_all : (m c : List Record) (n : ℕ) → n ≤ length m → c ≡ m → IsTorn n m c
torn_all m c n within is = record { count = length m; low = within; high = le_refl (length m); is = inl (is ∙ sym (take_all (length m) m (le_refl (length m)))) }

module _ {D : Type 0} (tells : Type 0) (moments : Moments D Image) (seen : D → Image) (present : D → ℕ → Bool) (old new : MediaPlant D) (t : Tape) (is : old.tape ≡ Some t) (held : TapeSuits tells moments seen present t old.media) (told : tells) (slot : ℕ) (slot_same : slot ≡ t.slot) where
  abbrev image : Image
  image = seen old.media

  abbrev whole : List Record
  whole = (shown_of seen old).tape slot

  whole_same : whole ≡ tape_in t image
  whole_same = whole_is seen old t is slot slot_same

  settled_same : (shown_of seen old).settled slot ≡ t.settled
  settled_same = settled_is seen old t is slot slot_same

  was_front : (a : Image) → moments.may_leave old.media a → tape_of (a.file (slot + 1)) ≡ take t.settled whole
  was_front a was = ap (λ (n : ℕ). tape_of (a.file (n + 1))) slot_same ∙ tape_left tells moments seen present t old.media held told a was ∙ ap (λ (l : List Record). take t.settled l) (sym whole_same)

  few : t.settled ≤ length whole
  few = omega (arith, held.within, held.counted told, ap length whole_same)

  at_slot : (R : List ℕ → List ℕ → Type 0) → Leads moments old.media new.media (AtFile (t.slot + 1) R) → Leads moments old.media new.media (AtFile (slot + 1) R)
  at_slot R leads = subst (λ (n : ℕ). Leads moments old.media new.media (AtFile (n + 1) R)) (sym slot_same) leads

  -- a put leaves what is settled
  pub lift_put : (more : Record) → Leads moments old.media new.media (AtFile (t.slot + 1) SameTape) → Leads (moments_of moments) old new (MayGain more slot (shown_of seen old))
  lift_put more leads = lift_tape moments old new slot SameTape (IsTorn ((shown_of seen old).settled slot) (whole ++ more ∷ [])) (at_slot SameTape leads) (λ a b was same.
      torn_by whole (whole ++ more ∷ []) (tape_of (b.file (slot + 1))) ((shown_of seen old).settled slot) t.settled settled_same (omega (arith, few, length-append whole (more ∷ [])))
      (same ∙ was_front a was) (take-append-le t.settled whole (more ∷ []) few))

  -- a mark leaves that, or all
  pub lift_mark : (more : Record) (tape : List Record) → tape ≡ tape_in t image ++ more ∷ [] → Leads moments old.media new.media (AtFile (t.slot + 1) (TapeOr tape)) → Leads (moments_of moments) old new (MayGain more slot (shown_of seen old))
  lift_mark more tape all leads = lift_tape moments old new slot (TapeOr tape) (IsTorn ((shown_of seen old).settled slot) (whole ++ more ∷ [])) (at_slot (TapeOr tape) leads) (λ a b was either. ⊎_elim
      (λ same. torn_by whole (whole ++ more ∷ []) (tape_of (b.file (slot + 1))) ((shown_of seen old).settled slot) t.settled settled_same (omega (arith, few, length-append whole (more ∷ [])))
      (same ∙ was_front a was) (take-append-le t.settled whole (more ∷ []) few))
      (λ now. torn_all (whole ++ more ∷ []) (tape_of (b.file (slot + 1))) ((shown_of seen old).settled slot) (omega (arith, settled_same, few, length-append whole (more ∷ [])))
      (now ∙ all ∙ ap (λ (l : List Record). l ++ more ∷ []) (sym whole_same))) either)

  -- a cut leaves what is settled, or what is kept
  pub lift_cut : (n : ℕ) → Leads moments old.media new.media (AtFile (t.slot + 1) (TapeOr (take n (tape_in t image)))) → Leads (moments_of moments) old new (MayKeep n slot (shown_of seen old))
  lift_cut n leads = lift_tape moments old new slot (TapeOr (take n (tape_in t image))) (λ tape. IsTorn ((shown_of seen old).settled slot) whole tape ⊎ (tape ≡ take n whole)) (at_slot (TapeOr (take n (tape_in t image))) leads) (λ a b was either. ⊎_elim
      (λ same. inl (torn_by whole whole (tape_of (b.file (slot + 1))) ((shown_of seen old).settled slot) t.settled settled_same few (same ∙ was_front a was) refl))
      (λ now. inr (now ∙ ap (λ (l : List Record). take n l) (sym whole_same))) either)

module _ {D : Type 0} (tells : Type 0) (moments : Moments D Image) (seen : D → Image) (present : D → ℕ → Bool) (old new : MediaPlant D) (t : Tape) (is : old.tape ≡ Some t) (held : TapeSuits tells moments seen present t old.media) (told : tells) where
  -- settling leaves what is settled, or all
  pub lift_settle : (s : ℕ) → t.slot ≢ s → Leads moments old.media new.media (AtFile (t.slot + 1) (TapeOr (tape_in t (seen old.media)))) → Leads (moments_of moments) old new (MaySettle (loaded_of old) s (shown_of seen old))
  lift_settle s ne leads = mapped_leads moments media_of stock_of old new (AtFile (t.slot + 1) (TapeOr (tape_in t (seen old.media)))) (MaySettle (loaded_of old) s (shown_of seen old)) leads (λ a b was step. record {
    away = λ k put. settle a b was step k (some_is k t.slot (sym put.0 ∙ ap slot_in is));
    others = λ k not_put. ap tape_of (step.others (k + 1) (λ same. not_put (ap slot_in is ∙ ap (λ (n : ℕ). Some n) (omega (arith, same)), λ it. ne (omega (arith, same, it)))));
    log = ap journal_of (step.others 0 (λ same. absurd (omega (arith, same))));
    told = step.told;
  })
    where
      settle : (a b : Image) → moments.may_leave old.media a → AtFile (t.slot + 1) (TapeOr (tape_in t (seen old.media))) a b → (k : ℕ) → k ≡ t.slot → IsTorn ((shown_of seen old).settled k) ((shown_of seen old).tape k) (tape_of (b.file (k + 1)))
      settle a b was step k same =
          let all = whole_is seen old t is k same in
          let size = settled_is seen old t is k same in
          let now : tape_of (b.file (k + 1)) ≡ tape_of (b.file (t.slot + 1)) = ap (λ (n : ℕ). tape_of (b.file (n + 1))) same in
          let within : t.settled ≤ length ((shown_of seen old).tape k) = omega (arith, held.within, held.counted told, ap length all) in
          ⊎_elim
          (λ stays. torn_by ((shown_of seen old).tape k) ((shown_of seen old).tape k) (tape_of (b.file (k + 1))) ((shown_of seen old).settled k) t.settled size within
          (now ∙ stays ∙ tape_left tells moments seen present t old.media held told a was ∙ ap (λ (l : List Record). take t.settled l) (sym all)) refl)
          (λ turned. torn_all ((shown_of seen old).tape k) (tape_of (b.file (k + 1))) ((shown_of seen old).settled k) (omega (arith, size, within)) (now ∙ turned ∙ sym all)) step.here
