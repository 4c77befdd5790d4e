-- A stale gate is closed.
use Rattle.std.proofs.Common.{◌≡◌, inl, ℕ, ◌+◌, ◌≤◌, Bool, List, [], ◌∷◌, length, refl, sym, ◌∙◌, ap, subst, arith, slice_index}
use Rattle.crash_moments.specs.Moments.{Moments, Leads}
use Rattle.crash_moments.proofs.Joining.{weakened}
use Rattle.media_core.specs.Media.{Image, Torn, AtFile, Holds}
use Rattle.media_core.specs.Laws.{written_torn}
use Rattle.crash_log.specs.Log.{gate_at, log_of, HasLog}
use Rattle.crash_log.specs.State.{base_of, other_of, place_in, settled_bytes}
use Rattle.crash_log.specs.Fit.{Stands, Other, IsReady, IsStill, IsStale, SameBehind, SameLog}
use Rattle.crash_log.specs.declared.state.LogState.{LogState}
use Rattle.crash_log.proofs.Spans.{written_span, same_behind}
use Rattle.crash_log.proofs.Slots.{stands_log, stands_whole, stands_apart, gate_torn_bad}
use Rattle.crash_log.proofs.Closing.{apart, other_low}

module _ {D : Type 0} (moments : Moments D Image) (seen : D → Image) (log : LogState) (old mid : D) (stale : IsStale moments seen log old) where
  abbrev before : List ℕ
  before = (seen old).file log.file

  abbrev settled : List ℕ
  settled = settled_bytes log before

  within : other_of log + 1 ≤ length before
  within = omega (arith, other_low log, stale.stands.within, stale.fine.low)

  still : (c : List ℕ) → Torn (other_of log) 1 before c → Stands (base_of log) (place_in log) settled c
  still c torn = stands_apart (base_of log) (other_of log) (apart log) (place_in log) settled stale.fine (other_of log) 1 before c torn (omega arith) (omega arith) stale.stands

  has : (c : List ℕ) → Torn (other_of log) 1 before c → log_of c ≡ settled
  has c torn = stands_log (base_of log) (other_of log) (apart log) (place_in log) settled c stale.fine (still c torn) (inl (gate_torn_bad (other_of log) before c within torn stale.gate stale.other_bad))

  pub unstaling : Leads moments old mid (AtFile log.file (Torn (other_of log) 1)) → Leads moments old mid (AtFile log.file (HasLog settled))
  unstaling leads = weakened moments old mid (AtFile log.file (Torn (other_of log) 1)) (AtFile log.file (HasLog settled)) leads (λ a c was step. record {
    here =
        let torn = subst (λ (l : List ℕ). Torn (other_of log) 1 l (c.file log.file)) (stale.still a was) step.here in
        record {
          bytes = has (c.file log.file) torn;
          whole = λ _. stands_whole (base_of log) (other_of log) (apart log) (place_in log) settled (c.file log.file) stale.fine (still (c.file log.file) torn);
        };
    others = step.others;
    told = step.told;
  })

  module _ (holds : Holds (other_of log) (0 ∷ []) before ((seen mid).file log.file)) where
    torn : Torn (other_of log) 1 before ((seen mid).file log.file)
    torn = subst (Torn (other_of log) 1 before) (sym holds) (written_torn (other_of log) (0 ∷ []) before (omega (arith, within)))

    same : SameBehind before ((seen mid).file log.file)
    same = same_behind (other_of log) 1 before ((seen mid).file log.file) (omega (arith, other_low log)) torn

    pub unstale_same : SameLog log before ((seen mid).file log.file)
    unstale_same = record { settled = same.bytes log.start log.size stale.fine.low; put = same.bytes log.start (log.size + log.more) stale.fine.low }

    gate : gate_at (other_of log) ((seen mid).file log.file) ≡ 0
    gate = ap (λ (l : List ℕ). gate_at (other_of log) l) holds ∙ ap (λ (l : List ℕ). slice_index l 0) (written_span (other_of log) (0 ∷ []) before 1 (omega (arith, within)) refl)

    pub unstale_ready : IsStill moments seen log.file mid → IsReady moments seen log mid
    unstale_ready durable = record {
      fine = stale.fine;
      put = omega (arith, stale.stands.within, stale.none, torn.no_shorter);
      stands = λ c left. subst (λ (l : List ℕ). Stands (base_of log) (place_in log) (settled_bytes log ((seen mid).file log.file)) l) (sym (durable c left))
          (subst (λ (l : List ℕ). Stands (base_of log) (place_in log) l ((seen mid).file log.file)) (sym unstale_same.settled) (still ((seen mid).file log.file) torn));
      other = λ c left. subst (λ (b : Bool). Other b (other_of log) log.turn (c.file log.file)) (sym stale.shut)
          (λ is_one. let zero_is : 0 ≡ 1 = sym (ap (λ (l : List ℕ). gate_at (other_of log) l) (durable c left) ∙ gate) ∙ is_one in absurd (omega arith));
    }
