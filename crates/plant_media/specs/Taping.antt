-- The loaded tape and its images.
use Rattle.std.proofs.Common.{◌≡◌, ◌⊎◌, inl, inr, ⊎_elim, ℕ, ◌+◌, ◌*◌, ◌<◌, min, Bool, true, false, List, [], ◌∷◌, ◌++◌, length, take, refl, sym, ◌∙◌, ap, subst, arith, append_assoc}
use Rattle.std.proofs.lemmas.Bool.{cases_lt}
use Rattle.std.proofs.lemmas.List.{take_min, take_all, length-take}
use Rattle.crash_moments.specs.Moments.{Moments, Stepped, Leads}
use Rattle.crash_moments.proofs.Joining.{weakened, joined}
use Rattle.media_core.specs.Media.{Image, AtFile, Same}
use Rattle.crash_log.specs.Log.{is_damaged, HasLog, HasOneOf}
use Rattle.crash_log.specs.CrashLog.{file_of, length_of, settled_of, damaged_of, log_bytes, settled_log, state_of, Survives}
use Rattle.crash_log.specs.Fit.{IsStill, Fits}
use Rattle.crash_log.specs.declared.log.CrashLog.{CrashLog}
use Rattle.crash_log.proofs.Fitting.{settled_front, settled_within, damaged_empty, log_left, whole_left, still_damaged, damaged_is, bytes_long}
use Rattle.plant_core.specs.Records.{Record, bad, NoBad}
use Rattle.plant_media.specs.Records.{record_of, records_of}
use Rattle.plant_media.specs.Stock.{tape_of, SameTape, TapeOr}
use Rattle.plant_media.specs.Loaded.{tape_in, TapeSuits, TapeFits, TapeSurvives}
use Rattle.plant_media.specs.declared.tape.Tape.{Tape}
use Rattle.plant_media.specs.Cutting.{records_take, records_none, records_more, whole_length}
use Rattle.plant_media.specs.Shown.{either, tape_damaged, tape_whole, loaded_damaged, loaded_whole, bad_is_bad}

-- the same of a file by another name of it
pub at_file : {D : Type 0} (moments : Moments D Image) (f g : ℕ) (R : List ℕ → List ℕ → Type 0) (old new : D) → f ≡ g → Leads moments old new (AtFile f R) → Leads moments old new (AtFile g R)
at_file moments f g R old new same leads = subst (λ (n : ℕ). Leads moments old new (AtFile n R)) same leads

-- two steps on a tape that leave it as it is
pub tape_twice : {D : Type 0} (moments : Moments D Image) (f : ℕ) (old mid new : D) → Leads moments old mid (AtFile f SameTape) → Leads moments mid new (AtFile f SameTape) → Leads moments old new (AtFile f SameTape)
tape_twice moments f old mid new first second = joined moments old mid new (AtFile f SameTape) (AtFile f SameTape) (AtFile f SameTape) first second (λ a b was step. step)
    (λ a b c was step left next. record { here = next.here ∙ step.here; others = λ k ne. next.others k ne ∙ step.others k ne; told = next.told ∙ step.told })

-- one that leaves it as it is, and one that may change it
pub tape_then : {D : Type 0} (moments : Moments D Image) (f : ℕ) (tape : List Record) (old mid new : D) → Leads moments old mid (AtFile f SameTape) → Leads moments mid new (AtFile f (TapeOr tape)) → Leads moments old new (AtFile f (TapeOr tape))
tape_then moments f tape old mid new first second = joined moments old mid new (AtFile f SameTape) (AtFile f (TapeOr tape)) (AtFile f (TapeOr tape)) first second
    (λ a b was step. record { here = inl step.here; others = step.others; told = step.told })
    (λ a b c was step left next. record { here = ⊎_elim (λ same. inl (same ∙ step.here)) (λ is. inr is) next.here; others = λ k ne. next.others k ne ∙ step.others k ne; told = next.told ∙ step.told })

-- the same with a file and a tape by other names of them
pub turn_at : {D : Type 0} (moments : Moments D Image) (f g : ℕ) (S T : List Record) (old new : D) → f ≡ g → S ≡ T → Leads moments old new (AtFile f (TapeOr S)) → Leads moments old new (AtFile g (TapeOr T))
turn_at moments f g S T old new same is leads = at_file moments f g (TapeOr T) old new same (subst (λ (l : List Record). Leads moments old new (AtFile f (TapeOr l))) is leads)

-- each image that these moments may leave now is one that they might have left before, after this step
abbrev pub LeavesNow : {D : Type 0} → Moments D Image → D → D → (Image → Image → Type 0) → Type 0
LeavesNow moments old new R = (c : Image) → moments.may_leave new c → Stepped moments old R c

-- a file to which nothing waits is still so after a read
pub still_same : {D : Type 0} (moments : Moments D Image) (seen : D → Image) (f : ℕ) (old new : D) → LeavesNow moments old new Same → seen new ≡ seen old → IsStill moments seen f old → IsStill moments seen f new
still_same moments seen f old new now same still c left =
    let step = now c left in
    ap (λ (i : Image). i.file f) step.step ∙ still step.from step.was ∙ sym (ap (λ (i : Image). i.file f) same)

-- A tape that fits its file survives a crash where its log does, and where its file is as it is read once all is settled.
pub tape_survives : {D : Type 0} (tells : Type 0) (moments : Moments D Image) (seen : D → Image) (present : D → ℕ → Bool) (tape : Tape) (media : D) → TapeFits tells seen present tape media
    → (tells → Survives moments seen tape.log media) → (tells → tape.settled ≡ tape.records → IsStill moments seen (tape.slot + 1) media) → TapeSurvives tells moments seen present tape media
tape_survives tells moments seen present tape media fits log still = record {
  file = fits.file;
  limit = fits.limit;
  here = fits.here;
  within = fits.within;
  room = fits.room;
  fits = log;
  counted = fits.counted;
  settled = fits.settled;
  damaged = fits.damaged;
  still = still;
}

no_bytes : (l : List ℕ) → length l ≡ 0 → l ≡ []
no_bytes [] none = refl
no_bytes (x ∷ l) none = absurd (omega arith)

module _ {D : Type 0} (moments : Moments D Image) (seen : D → Image) (log : CrashLog) (media : D) (fits : Fits moments seen (state_of log) media) where
  abbrev settled : List ℕ
  settled = settled_log log ((seen media).file (file_of log))

  whole_tape : damaged_of log ≡ false → (a : Image) → moments.may_leave media a → tape_of (a.file (file_of log)) ≡ records_of settled
  whole_tape whole a was = tape_whole (a.file (file_of log)) (whole_left moments seen log media fits whole a was) ∙ ap records_of (log_left moments seen log media fits a was)

  -- what was put shows in no image
  pub same_put : damaged_of log ≡ false → (new : D) → Leads moments media new (AtFile (file_of log) (HasLog settled)) → Leads moments media new (AtFile (file_of log) SameTape)
  same_put whole new leads = weakened moments media new (AtFile (file_of log) (HasLog settled)) (AtFile (file_of log) SameTape) leads (λ a b was step. record {
    here = tape_whole (b.file (file_of log)) (step.here.whole (whole_left moments seen log media fits whole a was)) ∙ ap records_of step.here.bytes ∙ sym (whole_tape whole a was);
    others = step.others;
    told = step.told;
  })

  damaged_tape : damaged_of log ≡ true → (a : Image) → moments.may_leave media a → tape_of (a.file (file_of log)) ≡ bad ∷ []
  damaged_tape damaged a was = tape_damaged (a.file (file_of log)) (ap is_damaged (still_damaged moments seen log media fits damaged a was) ∙ damaged_is moments seen log media fits damaged)

  damaged_none : damaged_of log ≡ true → settled ≡ []
  damaged_none damaged = no_bytes settled (omega (arith, damaged_empty log damaged, settled_within log, ap length (settled_front log ((seen media).file (file_of log))), length-take (settled_of log) (log_bytes log ((seen media).file (file_of log)))))

  -- a commit or a cut leaves the old tape or the new one
  pub or_turn : (kept : List ℕ) (tape : List Record) → records_of kept ≡ tape → (damaged_of log ≡ true → tape ≡ []) → (new : D) → Leads moments media new (AtFile (file_of log) (HasOneOf settled kept)) → Leads moments media new (AtFile (file_of log) (TapeOr tape))
  or_turn kept tape is none new leads = weakened moments media new (AtFile (file_of log) (HasOneOf settled kept)) (AtFile (file_of log) (TapeOr tape)) leads (λ a b was step. record {
    here = turned a b was step.here (either (damaged_of log)) (either (is_damaged (b.file (file_of log))));
    others = step.others;
    told = step.told;
  })
    where
      turned : (a b : Image) → moments.may_leave media a → HasOneOf settled kept (a.file (file_of log)) (b.file (file_of log)) → (damaged_of log ≡ true) ⊎ (damaged_of log ≡ false) → (is_damaged (b.file (file_of log)) ≡ true) ⊎ (is_damaged (b.file (file_of log)) ≡ false)
          → TapeOr tape (a.file (file_of log)) (b.file (file_of log))
      turned a b was step (inl damaged) (inl still) = inl (tape_damaged (b.file (file_of log)) still ∙ sym (damaged_tape damaged a was))
      turned a b was step (inl damaged) (inr now) = inr (tape_whole (b.file (file_of log)) now ∙ ⊎_elim
          (λ old. ap records_of (old ∙ damaged_none damaged) ∙ records_none ∙ sym (none damaged))
          (λ cut. ap records_of cut ∙ is) step.bytes)
      turned a b was step (inr whole) now =
          let clear : is_damaged (b.file (file_of log)) ≡ false = step.whole (whole_left moments seen log media fits whole a was) in
          ⊎_elim
          (λ old. inl (tape_whole (b.file (file_of log)) clear ∙ ap records_of old ∙ sym (whole_tape whole a was)))
          (λ cut. inr (tape_whole (b.file (file_of log)) clear ∙ ap records_of cut ∙ is)) step.bytes

module _ {D : Type 0} (tells : Type 0) (moments : Moments D Image) (seen : D → Image) (present : D → ℕ → Bool) (tape : Tape) (media : D) (held : TapeSuits tells moments seen present tape media) (told : tells) where
  abbrev bytes : List ℕ
  bytes = log_bytes tape.log ((seen media).file (file_of tape.log))

  pub fits_now : Fits moments seen (state_of tape.log) media
  fits_now = held.fits told

  pub bytes_size : length bytes ≡ length_of tape.log
  bytes_size = bytes_long moments seen tape.log media fits_now

  pub read_whole : damaged_of tape.log ≡ false → tape_in tape (seen media) ≡ records_of bytes
  read_whole whole = loaded_whole tape (seen media) (file_of tape.log) bytes held.file whole refl

  -- without a bad record a tape isn't damaged, and its bytes are whole records
  pub not_damaged : NoBad (tape_in tape (seen media)) → damaged_of tape.log ≡ false
  not_damaged whole = elim (either (damaged_of tape.log)) [
    | inl damaged ↦ absurd (bad_is_bad (tape_in tape (seen media)) (loaded_damaged tape (seen media) damaged) whole)
    | inr is ↦ is
  ]

  pub whole_bytes : NoBad (tape_in tape (seen media)) → length_of tape.log ≡ 16385 * tape.records
  whole_bytes whole =
      let is = read_whole (not_damaged whole) in
      omega (arith, bytes_size, held.counted told, ap length is, whole_length bytes (subst NoBad is whole))

  -- what was put since the last settling isn't in the way of a commit: a damaged tape has nothing of it
  pub put_whole : tape.settled < tape.records → damaged_of tape.log ≡ false
  put_whole more = elim (either (damaged_of tape.log)) [
    | inl damaged ↦ absurd (omega (arith, more, held.damaged told damaged, held.counted told, ap length (loaded_damaged tape (seen media) damaged)))
    | inr is ↦ is
  ]

  settled_bytes : take (settled_of tape.log) bytes ≡ take (16385 * tape.settled) bytes
  settled_bytes = ap (λ (n : ℕ). take n bytes) (held.settled told) ∙ ap (λ (n : ℕ). take (min (16385 * tape.settled) n) bytes) (sym bytes_size) ∙ take_min (16385 * tape.settled) bytes

  -- each image has the settled records
  pub tape_left : (c : Image) → moments.may_leave media c → tape_of (c.file (tape.slot + 1)) ≡ take tape.settled (tape_in tape (seen media))
  tape_left c left = ap (λ (n : ℕ). tape_of (c.file n)) (sym held.file) ∙ elim (either (damaged_of tape.log)) [
    | inl damaged ↦
        damaged_tape moments seen tape.log media fits_now damaged c left
        ∙ sym (ap (λ (l : List Record). take tape.settled l) (loaded_damaged tape (seen media) damaged) ∙ take_all tape.settled (bad ∷ []) (omega (arith, held.damaged told damaged)))
    | inr whole ↦
        whole_tape moments seen tape.log media fits_now whole c left
        ∙ ap records_of (settled_front tape.log ((seen media).file (file_of tape.log)) ∙ settled_bytes)
        ∙ sym (records_take tape.settled bytes) ∙ ap (λ (l : List Record). take tape.settled l) (sym (read_whole whole))
  ]

  -- once all is settled the file stands as it is read
  pub tape_settled : moments.may_leave media (seen media) → tape.settled ≡ tape.records → tape_of ((seen media).file (tape.slot + 1)) ≡ tape_in tape (seen media)
  tape_settled reads all = tape_left (seen media) reads ∙ take_all tape.settled (tape_in tape (seen media)) (omega (arith, all, held.counted told))

  -- a cut of the bytes is one of the records
  pub cut_tape : (n size : ℕ) → size ≡ min (16385 * n) (length_of tape.log) → (0 < n → NoBad (tape_in tape (seen media))) → records_of (take size bytes) ≡ take n (tape_in tape (seen media))
  cut_tape n size is whole = elim (cases_lt 0 n) [
    | inl some ↦
        ap (λ (k : ℕ). records_of (take k bytes)) (is ∙ ap (λ (k : ℕ). min (16385 * n) k) (sym bytes_size)) ∙ ap records_of (take_min (16385 * n) bytes)
        ∙ sym (records_take n bytes) ∙ ap (λ (l : List Record). take n l) (sym (read_whole (not_damaged (whole some))))
    | inr none ↦
        let zero_n : n ≡ 0 = omega arith in
        let zero_size : size ≡ 0 = omega arith in
        ap (λ (k : ℕ). records_of (take k bytes)) zero_size ∙ records_none ∙ ap (λ (k : ℕ). take k (tape_in tape (seen media))) (sym zero_n)
  ]

  pub cut_none : (n : ℕ) → (0 < n → NoBad (tape_in tape (seen media))) → damaged_of tape.log ≡ true → take n (tape_in tape (seen media)) ≡ []
  cut_none n whole damaged = elim (cases_lt 0 n) [
    | inl some ↦ let clear : damaged_of tape.log ≡ false = not_damaged (whole some) in absurd (cc)
    | inr none ↦ let zero_n : n ≡ 0 = omega arith in ap (λ (k : ℕ). take k (tape_in tape (seen media))) zero_n
  ]

  -- two puts of the log put a record
  pub put_tape : NoBad (tape_in tape (seen media)) → (new : Tape) (image : Image) (log : CrashLog) (mid : List ℕ) (first : ℕ) (rest : List ℕ) → length rest ≡ 16384 → file_of log ≡ new.slot + 1 → damaged_of new.log ≡ false
      → log_bytes new.log (image.file (file_of log)) ≡ log_bytes log mid ++ rest → log_bytes log mid ≡ bytes ++ first ∷ [] → tape_in new image ≡ tape_in tape (seen media) ++ record_of (first ∷ rest) ∷ []
  put_tape whole new image log mid first rest long file sound all one =
      loaded_whole new image (file_of log) (bytes ++ (first ∷ rest)) file sound (all ∙ ap (λ (l : List ℕ). l ++ rest) one ∙ append_assoc bytes (first ∷ []) rest)
      ∙ records_more bytes (first ∷ rest) tape.records (bytes_size ∙ whole_bytes whole) (omega (arith, long))
      ∙ ap (λ (l : List Record). l ++ record_of (first ∷ rest) ∷ []) (sym (read_whole (not_damaged whole)))
