-- The steps of a commit, one after the other.
use Rattle.std.proofs.Common.{◌≡◌, inl, inr, ⊎_elim, ℕ, List, ◌∙◌}
use Rattle.crash_moments.specs.Moments.{Moments, Leads}
use Rattle.media_core.specs.Media.{Image, AtFile}
use Rattle.crash_moments.proofs.Joining.{joined, weakened}
use Rattle.crash_log.specs.Log.{HasLog, HasOneOf}

-- two changes of one file
at_both : (f : ℕ) (R S T : List ℕ → List ℕ → Type 0) (a b c : Image) → AtFile f R a b → AtFile f S b c → (R (a.file f) (b.file f) → S (b.file f) (c.file f) → T (a.file f) (c.file f)) → AtFile f T a c
at_both f R S T a b c first second both = record {
  here = both first.here second.here;
  others = λ k ne. second.others k ne ∙ first.others k ne;
  told = second.told ∙ first.told;
}

at_weaker : (f : ℕ) (R T : List ℕ → List ℕ → Type 0) (a b : Image) → AtFile f R a b → (R (a.file f) (b.file f) → T (a.file f) (b.file f)) → AtFile f T a b
at_weaker f R T a b first weaker = record { here = weaker first.here; others = first.others; told = first.told }

module _ {D : Type 0} (moments : Moments D Image) (f : ℕ) (log put : List ℕ) (old mid new : D) where
  pub before_put : Leads moments old mid (AtFile f (HasLog log)) → Leads moments old mid (AtFile f (HasOneOf log put))
  before_put leads = weakened moments old mid (AtFile f (HasLog log)) (AtFile f (HasOneOf log put)) leads (λ a b was step. at_weaker f (HasLog log) (HasOneOf log put) a b step (λ is. record { bytes = inl is.bytes; whole = is.whole }))

  pub still_before : (log' : List ℕ) → log' ≡ log → Leads moments old mid (AtFile f (HasLog log)) → Leads moments mid new (AtFile f (HasLog log')) → Leads moments old new (AtFile f (HasLog log))
  still_before log' same first second = joined moments old mid new (AtFile f (HasLog log)) (AtFile f (HasLog log')) (AtFile f (HasLog log)) first second
      (λ a b was step. step) (λ a b c was step left next. at_both f (HasLog log) (HasLog log') (HasLog log) a b c step next (λ x y. record { bytes = y.bytes ∙ same; whole = λ was. y.whole (x.whole was) }))

  pub either_log : (log' put' : List ℕ) → log' ≡ log → put' ≡ put → Leads moments old mid (AtFile f (HasLog log)) → Leads moments mid new (AtFile f (HasOneOf log' put')) → Leads moments old new (AtFile f (HasOneOf log put))
  either_log log' put' same same_put first second = joined moments old mid new (AtFile f (HasLog log)) (AtFile f (HasOneOf log' put')) (AtFile f (HasOneOf log put)) first second
      (λ a b was step. at_weaker f (HasLog log) (HasOneOf log put) a b step (λ is. record { bytes = inl is.bytes; whole = is.whole }))
      (λ a b c was step left next. at_both f (HasLog log) (HasOneOf log' put') (HasOneOf log put) a b c step next (λ x y. record {
        bytes = ⊎_elim (λ l. inl (l ∙ same)) (λ p. inr (p ∙ same_put)) y.bytes;
        whole = λ was. y.whole (x.whole was);
      }))
