-- The closed slot gets the next place.
use Rattle.std.proofs.Common.{◌≡◌, inl, ℕ, ◌+◌, ◌≤◌, List, length, sym, ◌∙◌, ap, subst, arith, slice_index}
use Rattle.crash_moments.specs.Moments.{Moments, Leads}
use Rattle.crash_moments.proofs.Joining.{weakened}
use Rattle.media_core.specs.Media.{Image, Torn, AtFile, Holds, written}
use Rattle.media_core.specs.Laws.{written_torn}
use Rattle.crash_log.specs.Log.{Place, place_of, gate_at, place_at, HasLog}
use Rattle.crash_log.specs.State.{base_of, other_of, place_in, settled_bytes}
use Rattle.crash_log.specs.Fit.{Stands, IsStill, SameBehind}
use Rattle.crash_log.specs.Turn.{IsClosed, IsNamed}
use Rattle.crash_log.specs.declared.state.LogState.{LogState}
use Rattle.crash_log.proofs.Spans.{torn_span, written_span, same_behind}
use Rattle.crash_log.proofs.Slots.{stands_log, stands_whole, stands_apart, shut_false}
use Rattle.crash_log.proofs.Closing.{apart, other_low}

module _ {D : Type 0} (moments : Moments D Image) (seen : D → Image) (log : LogState) (old : D) (closed : IsClosed moments seen log old) where
  abbrev before : List ℕ
  before = (seen old).file log.file

  abbrev settled : List ℕ
  settled = settled_bytes log before

  still : (a c : List ℕ) → Torn (other_of log + 1) 23 a c → Stands (base_of log) (place_in log) settled a → Stands (base_of log) (place_in log) settled c
  still a c torn stands = stands_apart (base_of log) (other_of log) (apart log) (place_in log) settled closed.fine (other_of log + 1) 23 a c torn (omega arith) (omega arith) stands

  -- the gate stands in front of what is written
  gate_stays : (a c : List ℕ) → Torn (other_of log + 1) 23 a c → gate_at (other_of log) c ≡ gate_at (other_of log) a
  gate_stays a c torn = ap (λ (l : List ℕ). slice_index l 0) (torn_span (other_of log + 1) 23 (other_of log) 1 a c torn (inl (omega arith)))

  -- while the place is written
  pub naming : (mid : D) → Leads moments old mid (AtFile log.file (Torn (other_of log + 1) 23)) → Leads moments old mid (AtFile log.file (HasLog settled))
  naming mid leads = weakened moments old mid (AtFile log.file (Torn (other_of log + 1) 23)) (AtFile log.file (HasLog settled)) leads (λ a c was step. record {
    here = record {
      bytes = stands_log (base_of log) (other_of log) (apart log) (place_in log) settled (c.file log.file) closed.fine (still (a.file log.file) (c.file log.file) step.here (closed.stands a was))
          (inl (shut_false (other_of log) (c.file log.file) (λ is_one. closed.shut a was (sym (gate_stays (a.file log.file) (c.file log.file) step.here) ∙ is_one))));
      whole = λ _. stands_whole (base_of log) (other_of log) (apart log) (place_in log) settled (c.file log.file) closed.fine (still (a.file log.file) (c.file log.file) step.here (closed.stands a was));
    };
    others = step.others;
    told = step.told;
  })

  -- afterwards
  module _ (mid : D) (reads : moments.may_leave old (seen old)) (fields : List ℕ) (size : length fields ≡ 23) (p : Place) (place : place_of fields ≡ p)
      (holds : Holds (other_of log + 1) fields before ((seen mid).file log.file)) where
    long : other_of log + 1 ≤ length before
    long = omega (arith, other_low log, closed.put, closed.fine.low)

    torn : Torn (other_of log + 1) 23 before ((seen mid).file log.file)
    torn = subst (Torn (other_of log + 1) 23 before) (sym holds) (subst (λ (n : ℕ). Torn (other_of log + 1) n before (written (other_of log + 1) fields before)) size (written_torn (other_of log + 1) fields before long))

    pub named_same : SameBehind before ((seen mid).file log.file)
    named_same = same_behind (other_of log + 1) 23 before ((seen mid).file log.file) (omega (arith, other_low log)) torn

    stands : Stands (base_of log) (place_in log) (settled_bytes log ((seen mid).file log.file)) ((seen mid).file log.file)
    stands = subst (λ (l : List ℕ). Stands (base_of log) (place_in log) l ((seen mid).file log.file)) (sym (named_same.bytes log.start log.size closed.fine.low)) (still before ((seen mid).file log.file) torn (closed.stands (seen old) reads))

    pub now_named : IsStill moments seen log.file mid → IsNamed moments seen log p mid
    now_named durable = record {
      closed = record {
        fine = closed.fine;
        put = omega (arith, closed.put, torn.no_shorter);
        stands = λ c left. subst (λ (l : List ℕ). Stands (base_of log) (place_in log) (settled_bytes log ((seen mid).file log.file)) l) (sym (durable c left)) stands;
        shut = λ c left is_one. closed.shut (seen old) reads (sym (ap (λ (l : List ℕ). gate_at (other_of log) l) (durable c left) ∙ gate_stays before ((seen mid).file log.file) torn) ∙ is_one);
      };
      durable = durable;
      place = ap (λ (l : List ℕ). place_at (other_of log) l) holds ∙ ap place_of (written_span (other_of log + 1) fields before 23 long size) ∙ place;
    }
