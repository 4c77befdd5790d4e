-- The steps of a put, a cut and a replace, one after the other.
use Rattle.std.proofs.Common.{◌≡◌, inl, ◌↔◌, IsTrue, ℕ, ◌+◌, ◌<◌, ◌≤◌, false, List, ◌++◌, length, take, drop, refl, sym, ◌∙◌, ap, subst, arith}
use Rattle.std.proofs.lemmas.List.{take-take, drop-take, drop-drop}
use Rattle.crash_moments.specs.Moments.{Moments, Stepped, Leads}
use Rattle.crash_moments.proofs.Joining.{weakened, stays}
use Rattle.media_core.specs.Media.{Image, AtFile}
use Rattle.crash_log.specs.Log.{span, Place, gate_at, is_good, log_of, HasLog}
use Rattle.crash_log.proofs.Closing.{apart, ready_log}
use Rattle.crash_log.proofs.Slots.{stands_log, none_good}
use Rattle.crash_log.proofs.Formatting.{blank_log, empty_settled}
use Rattle.crash_log.proofs.WritingApart.{span_joined}
use Rattle.crash_log.specs.State.{moved_to, put_bytes, settled_bytes, base_of, other_of, place_in}
use Rattle.crash_log.specs.Fit.{Fits, FitsAs, IsStill, Stands, Other}
use Rattle.crash_log.specs.declared.state.LogState.{LogState}
use Rattle.crash_log.specs.declared.state.Needs.{Needs}
use Rattle.crash_log.specs.declared.state.Needs.TheVariants.{Nothing, Blank, Damaged, Stale}

-- the first n bytes of a span
pub span_front : (a m n : ℕ) (file : List ℕ) → n ≤ m → span a n file ≡ take n (span a m file)
span_front a m n file le = sym (take-take n m (drop a file) le)

-- a span of a span
pub span_in : (a m at n : ℕ) (file : List ℕ) → at + n ≤ m → take n (drop (a + at) file) ≡ take n (drop at (span a m file))
span_in a m at n file le =
    ap (λ (l : List ℕ). take n l) (sym (drop-drop at a file)) ∙ sym (drop-take at n (drop a file)) ∙ ap (λ (l : List ℕ). drop at l) (sym (take-take (at + n) m (drop a file) le)) ∙ drop-take at n (span a m file)

-- where there are bytes to read, the file has them
pub fits_long : {D : Type 0} (needs : Needs) (moments : Moments D Image) (seen : D → Image) (log : LogState) (media : D) → FitsAs needs moments seen log media → 0 < log.size + log.more → log.start + (log.size + log.more) ≤ length ((seen media).file log.file)
fits_long Nothing moments seen log media fits some = fits.ready.put
fits_long Blank moments seen log media fits some = let none : log.size + log.more ≡ 0 = ap (λ (l : LogState). l.size + l.more) fits.empty in absurd (omega (arith, none, some))
fits_long (Damaged first second) moments seen log media fits some = let none : log.size + log.more ≡ 0 = ap (λ (l : LogState). l.size + l.more) fits.empty in absurd (omega (arith, none, some))
fits_long Stale moments seen log media fits some = omega (arith, fits.stands.within, fits.none)

-- What reads and images show of the file stays.
module _ {D : Type 0} (moments : Moments D Image) (seen : D → Image) (log : LogState) (old new : D) (R : Image → Image → Type 0) (now : (c : Image) → moments.may_leave new c → Stepped moments old R c) (alone : (a b : Image) → R a b → b.file log.file ≡ a.file log.file)
    (same : (seen new).file log.file ≡ (seen old).file log.file) where
  still_kept : IsStill moments seen log.file old → IsStill moments seen log.file new
  still_kept still c left = let step = now c left in alone step.from c step.step ∙ still step.from step.was ∙ sym same

  moved_file : (P : List ℕ → Type 0) → P ((seen old).file log.file) → P ((seen new).file log.file)
  moved_file P p = subst P (sym same) p

  -- what leaves the file alone keeps the fit
  pub fits_kept_as : (needs : Needs) → FitsAs needs moments seen log old → FitsAs needs moments seen log new
  fits_kept_as Nothing fits = record {
    ready = record {
      fine = fits.ready.fine;
      put = moved_file (λ (l : List ℕ). log.start + (log.size + log.more) ≤ length l) fits.ready.put;
      stands = λ c left. let step = now c left in
          moved_file (λ (l : List ℕ). Stands (base_of log) (place_in log) (settled_bytes log l) (c.file log.file))
          (subst (λ (l : List ℕ). Stands (base_of log) (place_in log) (settled_bytes log ((seen old).file log.file)) l) (sym (alone step.from c step.step)) (fits.ready.stands step.from step.was));
      other = λ c left. let step = now c left in
          subst (λ (l : List ℕ). Other log.other_open (other_of log) log.turn l) (sym (alone step.from c step.step)) (fits.ready.other step.from step.was);
    };
    quiet = λ none. still_kept (fits.quiet none);
  }
  fits_kept_as Blank fits = record { still = still_kept fits.still; short = moved_file (λ (l : List ℕ). length l < 8192) fits.short; empty = fits.empty }
  fits_kept_as (Damaged first second) fits = record {
    still = still_kept fits.still;
    long = moved_file (λ (l : List ℕ). 8192 ≤ length l) fits.long;
    first = moved_file (λ (l : List ℕ). IsTrue first ↔ (gate_at 0 l ≡ 1)) fits.first;
    second = moved_file (λ (l : List ℕ). IsTrue second ↔ (gate_at 4096 l ≡ 1)) fits.second;
    first_bad = moved_file (λ (l : List ℕ). is_good 0 l ≡ false) fits.first_bad;
    second_bad = moved_file (λ (l : List ℕ). is_good 4096 l ≡ false) fits.second_bad;
    empty = fits.empty;
  }
  fits_kept_as Stale fits = record {
    still = still_kept fits.still;
    fine = fits.fine;
    none = fits.none;
    shut = fits.shut;
    gate = moved_file (λ (l : List ℕ). gate_at (other_of log) l ≡ 1) fits.gate;
    stands = moved_file (λ (l : List ℕ). Stands (base_of log) (place_in log) (settled_bytes log l) l) fits.stands;
    other_bad = moved_file (λ (l : List ℕ). is_good (other_of log) l ≡ false) fits.other_bad;
  }

pub fits_kept : {D : Type 0} (moments : Moments D Image) (seen : D → Image) (log : LogState) (old new : D) (R : Image → Image → Type 0) → Fits moments seen log old → ((c : Image) → moments.may_leave new c → Stepped moments old R c)
    → ((a b : Image) → R a b → b.file log.file ≡ a.file log.file) → (seen new).file log.file ≡ (seen old).file log.file → Fits moments seen log new
fits_kept moments seen log old new R fits now alone same = fits_kept_as moments seen log old new R now alone same log.needs fits

-- each image has the settled log
pub fits_has_log : {D : Type 0} (needs : Needs) (moments : Moments D Image) (seen : D → Image) (log : LogState) (media : D) → FitsAs needs moments seen log media → (a : Image) → moments.may_leave media a
    → log_of (a.file log.file) ≡ settled_bytes log ((seen media).file log.file)
fits_has_log Nothing moments seen log media fits a was = ready_log moments seen log media fits.ready a was
fits_has_log Blank moments seen log media fits a was = ap log_of (fits.still a was) ∙ blank_log ((seen media).file log.file) fits.short ∙ sym (empty_settled log Blank ((seen media).file log.file) fits.empty)
fits_has_log (Damaged first second) moments seen log media fits a was =
    ap log_of (fits.still a was) ∙ none_good ((seen media).file log.file) fits.first_bad fits.second_bad ∙ sym (empty_settled log (Damaged first second) ((seen media).file log.file) fits.empty)
fits_has_log Stale moments seen log media fits a was =
    ap log_of (fits.still a was) ∙ stands_log (base_of log) (other_of log) (apart log) (place_in log) (settled_bytes log ((seen media).file log.file)) ((seen media).file log.file) fits.fine fits.stands (inl fits.other_bad)

-- nothing was done
pub fits_idle : {D : Type 0} (moments : Moments D Image) (seen : D → Image) (log : LogState) (media : D) → Fits moments seen log media → Leads moments media media (AtFile log.file (HasLog (settled_bytes log ((seen media).file log.file))))
fits_idle moments seen log media fits = weakened moments media media (λ a b. b ≡ a) (AtFile log.file (HasLog (settled_bytes log ((seen media).file log.file)))) (stays moments media) (λ a c was same.
    subst (AtFile log.file (HasLog (settled_bytes log ((seen media).file log.file))) a) (sym same) (record { here = record { bytes = fits_has_log log.needs moments seen log media fits a was; whole = λ whole. whole }; others = λ k ne. refl; told = refl }))

-- what was put behind the log
pub put_grown : (log : LogState) (n : ℕ) (old new bytes : List ℕ) → span log.start (log.size + log.more) new ≡ put_bytes log old → span (log.start + (log.size + log.more)) n new ≡ bytes → span log.start (log.size + (log.more + n)) new ≡ put_bytes log old ++ bytes
put_grown log n old new bytes front behind =
    let sum : log.size + (log.more + n) ≡ (log.size + log.more) + n = omega arith in
    ap (λ (k : ℕ). span log.start k new) sum ∙ span_joined log.start (log.size + log.more) n new ∙ (λ i. front i ++ behind i)

-- what the current slot names
pub moved_bytes : (log moved : LogState) (p : Place) (file : List ℕ) → moved ≡ moved_to log p → put_bytes moved file ≡ span p.start p.size file
moved_bytes log moved p file is =
    let none : p.size + 0 ≡ p.size = omega arith in
    ap (λ (l : LogState). put_bytes l file) is ∙ ap (λ (k : ℕ). span p.start k file) none
