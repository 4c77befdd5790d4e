-- What reads give, and what a crash may leave once a file is on the disk.
use Rattle.std.proofs.Common.{◌≡◌, ℕ, List, refl, sym, ap, subst}
use Rattle.crash_moments.specs.Moments.{Moments, Stepped}
use Rattle.media_core.specs.Media.{Image}
use Rattle.crash_log.specs.State.{base_of, other_of, place_in, settled_bytes}
use Rattle.crash_log.specs.Log.{Place, gate_at}
use Rattle.crash_log.specs.Fit.{Stands, Other, IsReady, IsSound, IsStill, Fits, FitsAs, as_read}
use Rattle.crash_log.specs.Format.{Has}
use Rattle.crash_log.specs.Turn.{IsNamed}
use Rattle.crash_log.specs.declared.state.LogState.{LogState}
use Rattle.crash_log.specs.declared.state.Needs.{Needs}
use Rattle.crash_log.specs.declared.state.Needs.TheVariants.{Nothing, Blank, Damaged, Stale}

-- reads give a file as it is read
pub still_read : {D : Type 0} (seen : D → Image) (f : ℕ) (media : D) → IsStill (as_read seen) seen f media
still_read seen f media c is = ap (λ (i : Image). i.file f) is

-- one step of what reads give
pub step_read : {D : Type 0} (seen : D → Image) (old new : D) (R : Image → Image → Type 0) → R (seen old) (seen new) → (c : Image) → (as_read seen).may_leave new c → Stepped (as_read seen) old R c
step_read seen old new R step c is = record { from = seen old; was = refl; step = subst (λ (i : Image). R (seen old) i) (sym is) step }

-- where no write to the file waits for a sync, what is so of reads is so of each image that a crash may leave
pub has_still : {D : Type 0} (moments : Moments D Image) (seen : D → Image) (Is : List ℕ → Type 0) (f : ℕ) (media : D) → IsStill moments seen f media → Has (as_read seen) seen Is f media → Has moments seen Is f media
has_still moments seen Is f media still has = record { still = still; is = has.is }

module _ {D : Type 0} (moments : Moments D Image) (seen : D → Image) (log : LogState) (media : D) (still : IsStill moments seen log.file media) where
  abbrev settled : List ℕ
  settled = settled_bytes log ((seen media).file log.file)

  stands_still : Stands (base_of log) (place_in log) settled ((seen media).file log.file) → (c : Image) → moments.may_leave media c → Stands (base_of log) (place_in log) settled (c.file log.file)
  stands_still stands c left = subst (λ (l : List ℕ). Stands (base_of log) (place_in log) settled l) (sym (still c left)) stands

  pub ready_still : IsReady (as_read seen) seen log media → IsReady moments seen log media
  ready_still ready = record {
    fine = ready.fine;
    put = ready.put;
    stands = stands_still (ready.stands (seen media) refl);
    other = λ c left. subst (λ (l : List ℕ). Other log.other_open (other_of log) log.turn l) (sym (still c left)) (ready.other (seen media) refl);
  }

  pub sound_still : IsReady (as_read seen) seen log media → IsSound moments seen log media
  sound_still ready = record { ready = ready_still ready; quiet = λ none. still }

  pub named_still : (p : Place) → IsNamed (as_read seen) seen log p media → IsNamed moments seen log p media
  named_still p named = record {
    closed = record {
      fine = named.closed.fine;
      put = named.closed.put;
      stands = stands_still (named.closed.stands (seen media) refl);
      shut = λ c left is_one. named.closed.shut (seen media) refl (subst (λ (l : List ℕ). gate_at (other_of log) l ≡ 1) (still c left) is_one);
    };
    durable = still;
    place = named.place;
  }

  fits_still_as : (needs : Needs) → FitsAs needs (as_read seen) seen log media → FitsAs needs moments seen log media
  fits_still_as Nothing fits = sound_still fits.ready
  fits_still_as Blank fits = record { still = still; short = fits.short; empty = fits.empty }
  fits_still_as (Damaged first second) fits = record {
    still = still;
    long = fits.long;
    first = fits.first;
    second = fits.second;
    first_bad = fits.first_bad;
    second_bad = fits.second_bad;
    empty = fits.empty;
  }
  fits_still_as Stale fits = record {
    still = still;
    fine = fits.fine;
    none = fits.none;
    shut = fits.shut;
    gate = fits.gate;
    stands = fits.stands;
    other_bad = fits.other_bad;
  }

  pub fits_still : Fits (as_read seen) seen log media → Fits moments seen log media
  fits_still fits = fits_still_as log.needs fits
