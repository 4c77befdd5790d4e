-- Data is written apart from the slots and the current range.
use Rattle.std.proofs.Common.{◌≡◌, ◌⊎◌, inl, inr, ℕ, ◌+◌, ◌≤◌, Bool, true, false, List, ◌++◌, length, take, drop, sym, ◌∙◌, ap, subst, arith, slice_index, length-drop, take-add}
use Rattle.std.proofs.lemmas.List.{length-take, drop-drop}
use Rattle.crash_moments.specs.Moments.{Moments, Stepped, Leads}
use Rattle.crash_moments.proofs.Joining.{weakened}
use Rattle.media_core.specs.Media.{Image, Torn, AtFile, Holds, written}
use Rattle.media_core.specs.Laws.{written_torn}
use Rattle.crash_log.specs.Log.{span, Place, place_of, gate_at, place_at, HasLog}
use Rattle.crash_log.specs.State.{base_of, other_of, place_in, settled_bytes, with_more}
use Rattle.crash_log.specs.Fit.{Stands, Other, IsReady, IsSound, IsStill, as_read}
use Rattle.crash_log.specs.declared.state.LogState.{LogState}
use Rattle.crash_log.proofs.Reading.{step_read}
use Rattle.crash_log.proofs.Spans.{torn_span, torn_none, written_span}
use Rattle.crash_log.proofs.Slots.{stands_log, stands_whole, yields_still}
use Rattle.crash_log.proofs.Closing.{apart, other_low, is_other}

pub base_low : (log : LogState) → base_of log ≤ 4096
base_low log = elim (apart log).bases [ inl (x, y) ↦ omega arith | inr (x, y) ↦ omega arith ]

pub span_joined : (a n m : ℕ) (l : List ℕ) → span a (n + m) l ≡ span a n l ++ span (a + n) m l
span_joined a n m l = take-add n m (drop a l) ∙ ap (λ (k : List ℕ). take n (drop a l) ++ take m k) (drop-drop n a l)

module _ (base : ℕ) (low : base ≤ 4096) (at m : ℕ) (high : 8192 ≤ at) (old new : List ℕ) (torn : Torn at m old new) where
  gate_same : gate_at base new ≡ gate_at base old
  gate_same = ap (λ (l : List ℕ). slice_index l 0) (torn_span at m base 1 old new torn (inl (omega arith)))

  place_same : place_at base new ≡ place_at base old
  place_same = ap place_of (torn_span at m (base + 1) 23 old new torn (inl (omega arith)))

  pub stands_behind : (p : Place) (log : List ℕ) → (p.start + p.size ≤ at) ⊎ (at + m ≤ p.start) → Stands base p log old → Stands base p log new
  stands_behind p log behind stands = record {
    gate = gate_same ∙ stands.gate;
    place = place_same ∙ stands.place;
    bytes = torn_span at m p.start p.size old new torn behind ∙ stands.bytes;
    within = omega (arith, stands.within, torn.no_shorter);
  }

  pub other_behind : (is_open : Bool) (turn : ℕ) → Other is_open base turn old → Other is_open base turn new
  other_behind true turn older = yields_still base turn old new (gate_same ∙ older.gate) place_same torn.no_shorter older
  other_behind false turn shut = λ is_one. shut (sym gate_same ∙ is_one)

module _ {D : Type 0} (moments : Moments D Image) (seen : D → Image) (log : LogState) (old mid : D) (at n : ℕ) (high : 8192 ≤ at) (clear : (at + n ≤ log.start) ⊎ (log.start + log.size ≤ at)) (ready : IsReady moments seen log old) where
  abbrev before : List ℕ
  before = (seen old).file log.file

  abbrev settled : List ℕ
  settled = settled_bytes log before

  turned : (log.start + log.size ≤ at) ⊎ (at + n ≤ log.start)
  turned = elim clear [ inl x ↦ inr x | inr x ↦ inl x ]

  stands_then : (a c : List ℕ) → Torn at n a c → Stands (base_of log) (place_in log) settled a → Stands (base_of log) (place_in log) settled c
  stands_then a c torn stands = stands_behind (base_of log) (base_low log) at n high a c torn (place_in log) settled turned stands

  other_then : (a c : List ℕ) → Torn at n a c → Other log.other_open (other_of log) log.turn a → Other log.other_open (other_of log) log.turn c
  other_then a c torn other = other_behind (other_of log) (other_low log) at n high a c torn log.other_open log.turn other

  pub writing : Leads moments old mid (AtFile log.file (Torn at n)) → Leads moments old mid (AtFile log.file (HasLog settled))
  writing leads = weakened moments old mid (AtFile log.file (Torn at n)) (AtFile log.file (HasLog settled)) leads (λ a c was step. record {
    here = record {
      bytes = stands_log (base_of log) (other_of log) (apart log) (place_in log) settled (c.file log.file) ready.fine
          (stands_then (a.file log.file) (c.file log.file) step.here (ready.stands a was))
          (is_other log.other_open (other_of log) log.turn (c.file log.file) (other_then (a.file log.file) (c.file log.file) step.here (ready.other a was)));
      whole = λ _. stands_whole (base_of log) (other_of log) (apart log) (place_in log) settled (c.file log.file) ready.fine (stands_then (a.file log.file) (c.file log.file) step.here (ready.stands a was));
    };
    others = step.others;
    told = step.told;
  })

  module _ (bytes : List ℕ) (size : length bytes ≡ n) (within : at ≤ length before) (holds : Holds at bytes before ((seen mid).file log.file)) where
    pub torn : Torn at n before ((seen mid).file log.file)
    torn = subst (Torn at n before) (sym holds) (subst (λ (k : ℕ). Torn at k before (written at bytes before)) size (written_torn at bytes before within))

    pub wrote_settled : settled_bytes log ((seen mid).file log.file) ≡ settled
    wrote_settled = torn_span at n log.start log.size before ((seen mid).file log.file) torn turned

    pub wrote_before : (a k : ℕ) → a + k ≤ at → span a k ((seen mid).file log.file) ≡ span a k before
    wrote_before a k le = torn_span at n a k before ((seen mid).file log.file) torn (inl le)

    pub wrote_bytes : span at n ((seen mid).file log.file) ≡ bytes
    wrote_bytes = ap (λ (l : List ℕ). span at n l) holds ∙ written_span at bytes before n within size

    pub wrote_long : at + n ≤ length ((seen mid).file log.file)
    wrote_long = omega (arith, ap length wrote_bytes, size, length-take n (drop at ((seen mid).file log.file)), length-drop at ((seen mid).file log.file), torn.no_shorter, within)

    pub wrote_ready : ((c : Image) → moments.may_leave mid c → Stepped moments old (AtFile log.file (Torn at n)) c) → IsReady moments seen log mid
    wrote_ready now = record {
      fine = ready.fine;
      put = omega (arith, ready.put, torn.no_shorter);
      stands = λ c left. let step = now c left in
          subst (λ (l : List ℕ). Stands (base_of log) (place_in log) l (c.file log.file)) (sym wrote_settled) (stands_then (step.from.file log.file) (c.file log.file) step.step.here (ready.stands step.from step.was));
      other = λ c left. let step = now c left in other_then (step.from.file log.file) (c.file log.file) step.step.here (ready.other step.from step.was);
    }

-- where there are no bytes, still no write waits for a sync
pub wrote_none : {D : Type 0} (moments : Moments D Image) (seen : D → Image) (f : ℕ) (old mid : D) (at n : ℕ) → n ≡ 0 → Torn at n ((seen old).file f) ((seen mid).file f)
    → ((c : Image) → moments.may_leave mid c → Stepped moments old (AtFile f (Torn at n)) c) → IsStill moments seen f old → IsStill moments seen f mid
wrote_none moments seen f old mid at n none torn now still c left =
    let step = now c left in
    torn_none at n (step.from.file f) (c.file f) none step.step.here ∙ still step.from step.was ∙ sym (torn_none at n ((seen old).file f) ((seen mid).file f) none torn)

-- as reads give it
module _ {D : Type 0} (seen : D → Image) (log : LogState) (old mid : D) (at n : ℕ) (high : 8192 ≤ at) (clear : (at + n ≤ log.start) ⊎ (log.start + log.size ≤ at)) (ready : IsReady (as_read seen) seen log old) where
  pub wrote_reads : (bytes : List ℕ) (size : length bytes ≡ n) (within : at ≤ length ((seen old).file log.file)) → AtFile log.file (Holds at bytes) (seen old) (seen mid) → IsReady (as_read seen) seen log mid
  wrote_reads bytes size within written =
      let here = torn (as_read seen) seen log old mid at n high clear ready bytes size within written.here in
      wrote_ready (as_read seen) seen log old mid at n high clear ready bytes size within written.here
      (step_read seen old mid (AtFile log.file (Torn at n)) (record { here = here; others = written.others; told = written.told }))

-- more was put
more_ready : {D : Type 0} (moments : Moments D Image) (seen : D → Image) (log : LogState) (media : D) (n : ℕ) → IsReady moments seen log media → log.start + (log.size + log.more) + n ≤ length ((seen media).file log.file) → IsReady moments seen (with_more log n) media
more_ready moments seen log media n ready long = record { fine = ready.fine; put = omega (arith, long); stands = ready.stands; other = ready.other }

pub more_sound : {D : Type 0} (moments : Moments D Image) (seen : D → Image) (log : LogState) (media : D) (n : ℕ) → IsReady moments seen log media → log.start + (log.size + log.more) + n ≤ length ((seen media).file log.file)
    → (log.more + n ≡ 0 → IsStill moments seen log.file media) → IsSound moments seen (with_more log n) media
more_sound moments seen log media n ready long still = record { ready = more_ready moments seen log media n ready long; quiet = still }
