-- The slot that has the next place is opened.
use Rattle.std.proofs.Common.{◌≡◌, ◌⊎◌, inl, inr, ℕ, ◌+◌, ◌≤◌, Bool, true, false, not, if◌then◌else◌, List, [], ◌∷◌, length, refl, sym, ◌∙◌, ap, subst, arith, slice_index}
use Rattle.std.proofs.lemmas.Bool.{cases_eq}
use Rattle.crash_moments.specs.Moments.{Moments, Leads}
use Rattle.crash_moments.proofs.Joining.{weakened}
use Rattle.media_core.specs.Media.{Image, Torn, AtFile, Holds}
use Rattle.media_core.specs.Laws.{written_torn}
use Rattle.crash_log.specs.Log.{span, Place, place_of, gate_at, log_of, HasOneOf}
use Rattle.crash_log.specs.State.{base_of, other_of, place_in, settled_bytes, moved_to}
use Rattle.crash_log.specs.Fit.{Stands, Yields, IsReady, IsStill, SameBehind}
use Rattle.crash_log.specs.Turn.{IsNext, IsNamed}
use Rattle.crash_log.specs.declared.state.LogState.{LogState}
use Rattle.crash_log.proofs.Spans.{torn_span, written_span, same_behind}
use Rattle.crash_log.proofs.Slots.{Apart, stands_log, stands_whole, stands_apart, stands_older, shut_false}
use Rattle.crash_log.proofs.Closing.{apart, other_low}

turned : (b o : ℕ) → Apart b o → Apart o b
turned b o apart = elim apart.bases [ inl (x, y) ↦ record { bases = inr (y, x) } | inr (x, y) ↦ record { bases = inl (y, x) } ]

base_not : (second : Bool) → ◌≡◌ {A = ℕ} (if (not second) then 4096 else 0) (if second then 0 else 4096)
base_not true = refl
base_not false = refl

other_not : (second : Bool) → ◌≡◌ {A = ℕ} (if (not second) then 0 else 4096) (if second then 4096 else 0)
other_not true = refl
other_not false = refl

module _ {D : Type 0} (moments : Moments D Image) (seen : D → Image) (log : LogState) (p : Place) (old : D) (named : IsNamed moments seen log p old) (next : IsNext log p ((seen old).file log.file)) (reads : moments.may_leave old (seen old)) where
  abbrev before : List ℕ
  before = (seen old).file log.file

  abbrev settled : List ℕ
  settled = settled_bytes log before

  abbrev bytes : List ℕ
  bytes = span p.start p.size before

  still : (c : List ℕ) → Torn (other_of log) 1 before c → Stands (base_of log) (place_in log) settled c
  still c torn = stands_apart (base_of log) (other_of log) (apart log) (place_in log) settled named.closed.fine (other_of log) 1 before c torn (omega arith) (omega arith) (named.closed.stands (seen old) reads)

  next_stands : (c : List ℕ) → Torn (other_of log) 1 before c → gate_at (other_of log) c ≡ 1 → Stands (other_of log) p bytes c
  next_stands c torn is_open = record {
    gate = is_open;
    place = ap place_of (torn_span (other_of log) 1 (other_of log + 1) 23 before c torn (inr (omega arith))) ∙ named.place;
    bytes = torn_span (other_of log) 1 p.start p.size before c torn (inr (omega (arith, other_low log, next.fine.low)));
    within = omega (arith, next.within, torn.no_shorter);
  }

  base_older : (c : List ℕ) → Torn (other_of log) 1 before c → Yields (base_of log) p.turn c
  base_older c torn = stands_older (base_of log) (place_in log) settled p.turn c named.closed.fine (still c torn) next.turn

  either : (c : List ℕ) → Torn (other_of log) 1 before c → (log_of c ≡ settled) ⊎ (log_of c ≡ bytes)
  either c torn = elim (cases_eq (gate_at (other_of log) c) 1) [
    | inl is_open ↦ inr (stands_log (other_of log) (base_of log) (turned (base_of log) (other_of log) (apart log)) p bytes c next.fine (next_stands c torn is_open) (inr (base_older c torn)))
    | inr shut ↦ inl (stands_log (base_of log) (other_of log) (apart log) (place_in log) settled c named.closed.fine (still c torn) (inl (shut_false (other_of log) c shut)))
  ]

  -- while the gate is written
  pub opening : (mid : D) → Leads moments old mid (AtFile log.file (Torn (other_of log) 1)) → Leads moments old mid (AtFile log.file (HasOneOf settled bytes))
  opening mid leads = weakened moments old mid (AtFile log.file (Torn (other_of log) 1)) (AtFile log.file (HasOneOf settled bytes)) leads (λ a c was step. record {
    here =
        let torn = subst (λ (l : List ℕ). Torn (other_of log) 1 l (c.file log.file)) (named.durable a was) step.here in
        record {
          bytes = either (c.file log.file) torn;
          whole = λ _. stands_whole (base_of log) (other_of log) (apart log) (place_in log) settled (c.file log.file) named.closed.fine (still (c.file log.file) torn);
        };
    others = step.others;
    told = step.told;
  })

  -- afterwards
  module _ (mid : D) (holds : Holds (other_of log) (1 ∷ []) before ((seen mid).file log.file)) where
    long : other_of log ≤ length before
    long = omega (arith, other_low log, named.closed.put, named.closed.fine.low)

    torn : Torn (other_of log) 1 before ((seen mid).file log.file)
    torn = subst (Torn (other_of log) 1 before) (sym holds) (written_torn (other_of log) (1 ∷ []) before long)

    open_gate : gate_at (other_of log) ((seen mid).file log.file) ≡ 1
    open_gate = ap (λ (l : List ℕ). gate_at (other_of log) l) holds ∙ ap (λ (l : List ℕ). slice_index l 0) (written_span (other_of log) (1 ∷ []) before 1 long refl)

    pub opened_same : SameBehind before ((seen mid).file log.file)
    opened_same = same_behind (other_of log) 1 before ((seen mid).file log.file) (omega (arith, other_low log)) torn

    pub now_ready : IsStill moments seen log.file mid → IsReady moments seen (moved_to log p) mid
    now_ready durable = record {
      fine = next.fine;
      put = omega (arith, next.within, torn.no_shorter);
      stands = λ c left. subst (λ (l : List ℕ). Stands (base_of (moved_to log p)) p (span p.start p.size ((seen mid).file log.file)) l) (sym (durable c left))
          (subst (λ (n : ℕ). Stands n p (span p.start p.size ((seen mid).file log.file)) ((seen mid).file log.file)) (sym (base_not log.second))
          (subst (λ (l : List ℕ). Stands (other_of log) p l ((seen mid).file log.file)) (sym (opened_same.bytes p.start p.size next.fine.low)) (next_stands ((seen mid).file log.file) torn open_gate)));
      other = λ c left. subst (λ (l : List ℕ). Yields (other_of (moved_to log p)) p.turn l) (sym (durable c left))
          (subst (λ (n : ℕ). Yields n p.turn ((seen mid).file log.file)) (sym (other_not log.second)) (base_older ((seen mid).file log.file) torn));
    }
