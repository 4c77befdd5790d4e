-- The other slot is closed.
use Rattle.std.proofs.Common.{◌≡◌, ◌≢◌, inl, inr, ℕ, ◌≤◌, Bool, true, false, if◌then◌else◌, List, [], ◌∷◌, length, refl, sym, ◌∙◌, ap, subst, arith, slice_index}
use Rattle.crash_moments.specs.Moments.{Moments, Leads}
use Rattle.crash_moments.proofs.Joining.{weakened, stays}
use Rattle.media_core.specs.Media.{Image, Torn, AtFile, Holds}
use Rattle.media_core.specs.Laws.{written_torn}
use Rattle.crash_log.specs.Log.{gate_at, log_of, is_damaged, HasLog}
use Rattle.crash_log.specs.State.{base_of, other_of, place_in, settled_bytes}
use Rattle.crash_log.specs.Fit.{Stands, Yields, Other, IsReady, IsStill, SameBehind}
use Rattle.crash_log.specs.Turn.{IsClosed}
use Rattle.crash_log.specs.declared.state.LogState.{LogState}
use Rattle.crash_log.proofs.Spans.{written_span, same_behind}
use Rattle.crash_log.proofs.Slots.{Apart, IsOther, stands_log, stands_whole, stands_apart, gate_torn, shut_false}

pub apart_of : (second : Bool) → Apart (if second then 4096 else 0) (if second then 0 else 4096)
apart_of true = record { bases = inr (refl, refl) }
apart_of false = record { bases = inl (refl, refl) }

pub apart : (log : LogState) → Apart (base_of log) (other_of log)
apart log = apart_of log.second

pub other_low : (log : LogState) → other_of log ≤ 4096
other_low log = elim (apart log).bases [ inl (x, y) ↦ omega arith | inr (x, y) ↦ omega arith ]

pub is_other : (is_open : Bool) (o turn : ℕ) (file : List ℕ) → Other is_open o turn file → IsOther o turn file
is_other true o turn file older = inr older
is_other false o turn file shut = inl (shut_false o file shut)

module _ {D : Type 0} (moments : Moments D Image) (seen : D → Image) (log : LogState) (old : D) (ready : IsReady moments seen log old) where
  abbrev before : List ℕ
  before = (seen old).file log.file

  abbrev settled : List ℕ
  settled = settled_bytes log before

  -- an image at the entry
  pub ready_log : (a : Image) → moments.may_leave old a → log_of (a.file log.file) ≡ settled
  ready_log a was = stands_log (base_of log) (other_of log) (apart log) (place_in log) settled (a.file log.file) ready.fine (ready.stands a was) (is_other log.other_open (other_of log) log.turn (a.file log.file) (ready.other a was))

  pub ready_whole : (a : Image) → moments.may_leave old a → is_damaged (a.file log.file) ≡ false
  ready_whole a was = stands_whole (base_of log) (other_of log) (apart log) (place_in log) settled (a.file log.file) ready.fine (ready.stands a was)

  pub older : log.other_open ≡ true → (a : Image) → moments.may_leave old a → Yields (other_of log) log.turn (a.file log.file)
  older is_open a was = subst (λ (b : Bool). Other b (other_of log) log.turn (a.file log.file)) is_open (ready.other a was)

  pub shut : log.other_open ≡ false → (a : Image) → moments.may_leave old a → gate_at (other_of log) (a.file log.file) ≢ 1
  shut is_shut a was = subst (λ (b : Bool). Other b (other_of log) log.turn (a.file log.file)) is_shut (ready.other a was)

  still : (a c : List ℕ) → Torn (other_of log) 1 a c → Stands (base_of log) (place_in log) settled a → Stands (base_of log) (place_in log) settled c
  still a c torn stands = stands_apart (base_of log) (other_of log) (apart log) (place_in log) settled ready.fine (other_of log) 1 a c torn (omega arith) (omega arith) stands

  -- while the gate is written
  pub closing : log.other_open ≡ true → (mid : D) → Leads moments old mid (AtFile log.file (Torn (other_of log) 1)) → Leads moments old mid (AtFile log.file (HasLog settled))
  closing is_open mid leads = weakened moments old mid (AtFile log.file (Torn (other_of log) 1)) (AtFile log.file (HasLog settled)) leads (λ a c was step. record {
    here = record {
      bytes = stands_log (base_of log) (other_of log) (apart log) (place_in log) settled (c.file log.file) ready.fine (still (a.file log.file) (c.file log.file) step.here (ready.stands a was))
          (gate_torn (other_of log) log.turn (a.file log.file) (c.file log.file) step.here (older is_open a was));
      whole = λ _. stands_whole (base_of log) (other_of log) (apart log) (place_in log) settled (c.file log.file) ready.fine (still (a.file log.file) (c.file log.file) step.here (ready.stands a was));
    };
    others = step.others;
    told = step.told;
  })

  -- where there is nothing to close
  pub idle : Leads moments old old (AtFile log.file (HasLog settled))
  idle = weakened moments old old (λ a b. b ≡ a) (AtFile log.file (HasLog settled)) (stays moments old) (λ a c was same.
      subst (AtFile log.file (HasLog settled) a) (sym same) (record { here = record { bytes = ready_log a was; whole = λ whole. whole }; others = λ k ne. refl; told = refl }))

  pub idle_closed : log.other_open ≡ false → IsClosed moments seen log old
  idle_closed is_shut = record { fine = ready.fine; put = ready.put; stands = ready.stands; shut = shut is_shut }

  -- afterwards
  module _ (mid : D) (reads : moments.may_leave old (seen old)) (holds : Holds (other_of log) (0 ∷ []) before ((seen mid).file log.file)) where
    long : other_of log ≤ length before
    long = omega (arith, other_low log, ready.put, ready.fine.low)

    torn : Torn (other_of log) 1 before ((seen mid).file log.file)
    torn = subst (Torn (other_of log) 1 before) (sym holds) (written_torn (other_of log) (0 ∷ []) before long)

    stands : Stands (base_of log) (place_in log) settled ((seen mid).file log.file)
    stands = still before ((seen mid).file log.file) torn (ready.stands (seen old) reads)

    closed_gate : gate_at (other_of log) ((seen mid).file log.file) ≡ 0
    closed_gate = ap (λ (l : List ℕ). gate_at (other_of log) l) holds ∙ ap (λ (l : List ℕ). slice_index l 0) (written_span (other_of log) (0 ∷ []) before 1 long refl)

    pub closed_same : SameBehind before ((seen mid).file log.file)
    closed_same = same_behind (other_of log) 1 before ((seen mid).file log.file) (omega (arith, other_low log)) torn

    pub now_closed : IsStill moments seen log.file mid → IsClosed moments seen log mid
    now_closed durable = record {
      fine = ready.fine;
      put = omega (arith, ready.put, torn.no_shorter);
      stands = λ c left. subst (λ (l : List ℕ). Stands (base_of log) (place_in log) (settled_bytes log ((seen mid).file log.file)) l) (sym (durable c left))
          (subst (λ (l : List ℕ). Stands (base_of log) (place_in log) l ((seen mid).file log.file)) (sym (closed_same.bytes log.start log.size ready.fine.low)) stands);
      shut = λ c left is_one. let zero_is : 0 ≡ 1 = sym (ap (λ (l : List ℕ). gate_at (other_of log) l) (durable c left) ∙ closed_gate) ∙ is_one in absurd (omega arith);
    }
