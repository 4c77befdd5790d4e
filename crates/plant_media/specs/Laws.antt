-- The laws of a plant, of one over a media.
use Rattle.std.proofs.Common.{◌≡◌, ◌≢◌, inl, inr, ℕ, ◌+◌, ◌-◌, ◌^◌, ◌<◌, ◌≤◌, Bool, List, length, take, Option, Some, IsTrue, sym, ◌∙◌, ap, subst, arith}
use Rattle.std.proofs.lemmas.Bool.{cases_lt}
use Rattle.crash_moments.specs.Moments.{Moments}
use Rattle.media_core.specs.Media.{Image}
use Rattle.media_core.specs.Still.{IsStill, AreStill}
use Rattle.crash_moments.specs.Telling.{IsFront}
use Rattle.crash_log.specs.CrashLog.{file_of, length_of, log_bytes, settled_of}
use Rattle.crash_log.specs.declared.log.CrashLog.{CrashLog}
use Rattle.crash_log.proofs.Fitting.{settled_front, settled_within, log_left, whole_left, still_settled, bytes_long}
use Rattle.plant_core.specs.Crashes.{State, IsTorn, IsSettled, IsWithin, LeftIn, settled_part}
use Rattle.plant_core.specs.Stock.{Stock}
use Rattle.plant_media.specs.Stock.{tape_of, journal_of, stock_of}
use Rattle.plant_media.specs.Loaded.{TapeSuits, tape_in}
use Rattle.plant_media.specs.Slots.{records_in, settled_in, slots_here, tape_at}
use Rattle.plant_media.specs.State.{shown_of, moments_of, loaded_of, Suits}
use Rattle.plant_media.specs.declared.plant.MediaPlant.{MediaPlant}
use Rattle.plant_media.specs.declared.tape.Tape.{Tape}
use Rattle.plant_media.specs.Shown.{journal_whole}
use Rattle.plant_media.specs.Slotting as slotting
use Rattle.plant_media.specs.Counts.{few_in, few_loaded}
use Rattle.plant_media.specs.Slotting.{at_loaded, shown_tape, shown_log, shown_told, shown_settled, shown_kept, one_stock, which, of_loaded, at_other, settled_loaded, settled_other, loaded_counted, torn_left, settled_read}

pub few : (n : ℕ) → n ≤ 65536 → n - 1 ≤ 65535
few n le = omega arith

pub small_log : (log : CrashLog) → length_of log ≤ 2 ^ 38
small_log log = log.bounded.room

pub below : (here : ℕ → Bool) (n k : ℕ) → ((f : ℕ) → IsTrue (here f) → f < n) → IsTrue (slots_here here k) → k < n - 1
unfolding slots_here
below here n k within is = omega (arith, within (k + 1) is)

module _ {D : Type 0} (tells : Type 0) (moments : Moments D Image) (seen : D → Image) (present : D → ℕ → Bool) (plant : MediaPlant D) (suits : Suits tells moments seen present plant) where
  pub is_here : (k : ℕ) → loaded_of plant ≡ Some k → IsTrue (slots_here (present plant.media) k)
  unfolding slots_here
  is_here k loaded = elim (which plant.tape k) [
    | inl (t, is, slot) ↦ subst (λ (n : ℕ). IsTrue (present plant.media (n + 1))) slot (of_loaded (λ t. TapeSuits tells moments seen present t plant.media) plant.tape t is suits.loaded).here
    | inr other ↦ absurd (other loaded)
  ]

  module _ (told : tells) where
    abbrev image : Image
    image = seen plant.media

    abbrev state : State
    state = shown_of seen plant

    pub counted : (k : ℕ) → loaded_of plant ≡ Some k → records_in plant.tape ≡ length (state.tape k)
    counted k loaded = loaded_counted tells moments seen present plant.tape plant.media told suits.loaded k loaded ∙ ap length (sym (shown_tape plant.journal plant.tape image k))

    pub log_counted : length_of plant.journal ≡ length state.log
    log_counted = sym (ap length (shown_log plant.journal plant.tape image) ∙ ap (λ (f : ℕ). length (log_bytes plant.journal (image.file f))) (sym suits.journal.file)
        ∙ bytes_long moments seen plant.journal plant.media (suits.journal.fits told))

    pub few_records : (k : ℕ) → length (state.tape k) ≤ 4294967295
    few_records k = elim (which plant.tape k) [
      | inl (t, is, slot) ↦
          let suit : TapeSuits tells moments seen present t plant.media = of_loaded (λ t. TapeSuits tells moments seen present t plant.media) plant.tape t is suits.loaded in
          let room : length (log_bytes t.log (image.file (t.slot + 1))) ≤ 2 ^ 38 =
          subst (λ (f : ℕ). length (log_bytes t.log (image.file f)) ≤ 2 ^ 38) suit.file (omega (arith, bytes_long moments seen t.log plant.media (suit.fits told), small_log t.log)) in
          let one : state.tape k ≡ tape_in t image = shown_tape plant.journal plant.tape image k ∙ ap (λ (o : Option Tape). tape_at o image k) is ∙ at_loaded t image k (sym slot) in
          omega (arith, ap length one, few_loaded t image room)
      | inr other ↦ omega (arith, ap length (shown_tape plant.journal plant.tape image k ∙ at_other plant.tape image k other), few_in (image.file (k + 1)))
    ]

    pub all_within : IsWithin state
    all_within = record {
      log = omega (arith, shown_kept plant.journal plant.tape image, settled_within plant.journal, log_counted);
      tapes = λ k. omega (arith, shown_settled plant.journal plant.tape image k, slotting.settled_within tells moments seen present plant.tape plant.media told suits.loaded k, ap length (shown_tape plant.journal plant.tape image k));
    }

    pub others_whole : (k : ℕ) → loaded_of plant ≢ Some k → state.settled k ≡ length (state.tape k)
    others_whole k other = shown_settled plant.journal plant.tape image k ∙ settled_other plant.tape image k other ∙ ap length (sym (shown_tape plant.journal plant.tape image k ∙ at_other plant.tape image k other))

    -- once all is settled, no write to a file waits for a sync
    module _ (all : IsSettled state) where
      journal_still : IsStill moments seen 0 plant.media
      journal_still = subst (λ (f : ℕ). IsStill moments seen f plant.media) suits.journal.file
          (still_settled moments seen plant.journal plant.media (suits.journal.fits told) (sym (shown_kept plant.journal plant.tape image) ∙ all.log ∙ sym log_counted))

      tape_still : (k : ℕ) → IsStill moments seen (k + 1) plant.media
      tape_still k = elim (which plant.tape k) [
        | inl (t, is, slot) ↦
            let suit : TapeSuits tells moments seen present t plant.media = of_loaded (λ t. TapeSuits tells moments seen present t plant.media) plant.tape t is suits.loaded in
            let size : state.settled k ≡ t.settled = shown_settled plant.journal plant.tape image k ∙ ap (λ (o : Option Tape). settled_in o image k) is ∙ settled_loaded t image k (sym slot) in
            let one : state.tape k ≡ tape_in t image = shown_tape plant.journal plant.tape image k ∙ ap (λ (o : Option Tape). tape_at o image k) is ∙ at_loaded t image k (sym slot) in
            subst (λ (n : ℕ). IsStill moments seen (n + 1) plant.media) slot (suit.still told (sym size ∙ all.tapes k ∙ ap length one ∙ sym (suit.counted told)))
        | inr other ↦ suits.others told k other
      ]

      pub files_still : AreStill moments seen plant.media
      files_still f = elim (cases_lt 0 f) [
        | inl some ↦
            let next : (f - 1) + 1 ≡ f = omega (arith, some) in
            subst (λ (n : ℕ). IsStill moments seen n plant.media) next (tape_still (f - 1))
        | inr none ↦
            let first : 0 ≡ f = omega (arith, none) in
            subst (λ (n : ℕ). IsStill moments seen n plant.media) first journal_still
      ]

    log_front : (c : Image) → moments.may_leave plant.media c → journal_of (c.file 0) ≡ Some (take state.log_settled state.log)
    log_front c left =
        let j = suits.journal in
        ap (λ (f : ℕ). journal_of (c.file f)) (sym j.file) ∙ journal_whole (c.file (file_of plant.journal)) (whole_left moments seen plant.journal plant.media (j.fits told) j.whole c left)
        ∙ ap (λ (l : List ℕ). Some l) (log_left moments seen plant.journal plant.media (j.fits told) c left
        ∙ settled_front plant.journal (image.file (file_of plant.journal))
        ∙ ap (λ (f : ℕ). take (settled_of plant.journal) (log_bytes plant.journal (image.file f))) j.file
        ∙ ap (λ (l : List ℕ). take (settled_of plant.journal) l) (sym (shown_log plant.journal plant.tape image))
        ∙ ap (λ (n : ℕ). take n state.log) (sym (shown_kept plant.journal plant.tape image)))

    tapes_left : (c : Image) → moments.may_leave plant.media c → (k : ℕ) → IsTorn (state.settled k) (state.tape k) (tape_of (c.file (k + 1)))
    tapes_left c left k =
        subst (λ (n : ℕ). IsTorn n (state.tape k) (tape_of (c.file (k + 1)))) (sym (shown_settled plant.journal plant.tape image k))
        (subst (λ l. IsTorn (settled_in plant.tape image k) l (tape_of (c.file (k + 1)))) (sym (shown_tape plant.journal plant.tape image k))
        (torn_left tells moments seen present plant.tape plant.media told suits.loaded (suits.others told) c left k))

    module _ (fronts : (c : Image) → moments.may_leave plant.media c → IsFront c.told image.told) where
      pub is_left : (c : Stock) → (moments_of moments).may_leave plant c → LeftIn state c
      is_left c left = subst (LeftIn state) (sym left.is) (record {
        log = log_front left.from left.was;
        tapes = tapes_left left.from left.was;
        told = subst (λ (l : List ℕ). IsFront left.from.told l) (sym (shown_told plant.journal plant.tape image)) (fronts left.from left.was);
      })

    pub settled_is_left : moments.may_leave plant.media image → (moments_of moments).may_leave plant (settled_part state)
    settled_is_left reads = record {
      from = image;
      was = reads;
      is = one_stock (settled_part state) (stock_of image)
          (sym (log_front image reads))
          (λ k. ap (λ l. take (state.settled k) l) (shown_tape plant.journal plant.tape image k) ∙ ap (λ (n : ℕ). take n (tape_at plant.tape image k)) (shown_settled plant.journal plant.tape image k)
          ∙ settled_read tells moments seen present plant.tape plant.media told suits.loaded (suits.others told) reads k)
          (shown_told plant.journal plant.tape image);
    }

-- what was told of an image is a front of what was told
pub told_is_left : {D : Type 0} (moments : Moments D Image) (seen : D → Image) (plant : MediaPlant D) → ((c : Image) → moments.may_leave plant.media c → IsFront c.told (seen plant.media).told)
    → (c : Stock) → (moments_of moments).may_leave plant c → IsFront c.told (shown_of seen plant).told
told_is_left moments seen plant fronts c left =
    subst (λ (l : List ℕ). IsFront l (shown_of seen plant).told) (ap (λ (s : Stock). s.told) (sym left.is))
    (subst (λ (l : List ℕ). IsFront left.from.told l) (sym (shown_told plant.journal plant.tape (seen plant.media))) (fronts left.from left.was))
