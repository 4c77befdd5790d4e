-- Which log a file has by its two slots.
use Rattle.std.proofs.Common.{◌≡◌, ◌≢◌, ◌⊎◌, inl, inr, ℕ, ◌+◌, ◌<◌, ◌≤◌, ◌==◌, ◌&&◌, ◌||◌, not, Bool, true, false, List, [], length, refl, sym, ◌∙◌, ap, subst, arith, slice_index}
use Rattle.std.proofs.lemmas.Bool.{cases_eq}
use Rattle.std.proofs.lemmas.Bool.Decides.{nat_tests}
use Rattle.media_core.specs.Media.{Torn}
use Rattle.crash_log.specs.Log.{span, Place, place_of, IsFine, gate_at, place_at, is_fine, is_good, successor, named, log_of, is_damaged}
use Rattle.crash_log.specs.Fit.{Stands, Yields}
use Rattle.crash_log.proofs.Spans.{torn_span}

-- the two slots, either way
pub record Apart (b o : ℕ) : Type 0 where
  pub bases : ((b ≡ 0) × (o ≡ 4096)) ⊎ ((b ≡ 4096) × (o ≡ 0))

pub fine_true : (p : Place) (long : ℕ) → IsFine p → p.start + p.size ≤ long → is_fine p long ≡ true
fine_true p long fine within =
    let a = fine.turn in
    let b = fine.low in
    let c = fine.high in
    let d = fine.small in
    grind (arith, nat_tests)

pub good_true : (base : ℕ) (file : List ℕ) → gate_at base file ≡ 1 → is_fine (place_at base file) (length file) ≡ true → is_good base file ≡ true
good_true base file gate fine = grind (arith, nat_tests)

pub shut_false : (base : ℕ) (file : List ℕ) → gate_at base file ≢ 1 → is_good base file ≡ false
shut_false base file gate = grind (arith, nat_tests)

pub stands_good : (b : ℕ) (p : Place) (log file : List ℕ) → IsFine p → Stands b p log file → is_good b file ≡ true
stands_good b p log file fine stands =
    good_true b file stands.gate (subst (λ (q : Place). is_fine q (length file) ≡ true) (sym stands.place) (fine_true p (length file) fine stands.within))

stands_named : (b : ℕ) (p : Place) (log file : List ℕ) → Stands b p log file → named b file ≡ log
stands_named b p log file stands = ap (λ (q : Place). span q.start q.size file) stands.place ∙ stands.bytes

pub older_good : (o turn : ℕ) (file : List ℕ) → Yields o turn file → is_good o file ≡ true
older_good o turn file older = good_true o file older.gate (fine_true (place_at o file) (length file) older.fine older.within)

module _ (file : List ℕ) where
  first_alone : is_good 0 file ≡ true → is_good 4096 file ≡ false → log_of file ≡ named 0 file
  first_alone a b = grind (arith, nat_tests)

  second_alone : is_good 4096 file ≡ true → is_good 0 file ≡ false → log_of file ≡ named 4096 file
  second_alone a b = grind (arith, nat_tests)

  second_follows : is_good 4096 file ≡ true → is_good 0 file ≡ true → (place_at 4096 file).turn ≡ successor (place_at 0 file).turn → log_of file ≡ named 4096 file
  second_follows a b c = grind (arith, nat_tests)

  first_follows : is_good 4096 file ≡ true → is_good 0 file ≡ true → (place_at 0 file).turn ≡ successor (place_at 4096 file).turn → (place_at 4096 file).turn ≤ 2 → log_of file ≡ named 0 file
  first_follows a b c d = grind (arith, nat_tests)

  first_equal : is_good 4096 file ≡ true → is_good 0 file ≡ true → (place_at 0 file).turn ≡ (place_at 4096 file).turn → log_of file ≡ named 0 file
  first_equal a b c = grind (arith, nat_tests)

  pub none_good : is_good 0 file ≡ false → is_good 4096 file ≡ false → log_of file ≡ []
  none_good a b = grind (arith, nat_tests)

-- a file with a good slot isn't damaged
first_whole : (long a b : Bool) → a ≡ true → (long && not (a || b)) ≡ false
first_whole false a b good = refl
first_whole true true b good = refl
first_whole true false b good = absurd (cc)

second_whole : (long a b : Bool) → b ≡ true → (long && not (a || b)) ≡ false
second_whole false a b good = refl
second_whole true true b good = refl
second_whole true false true good = refl
second_whole true false false good = absurd (cc)

pub good_whole : (base : ℕ) (file : List ℕ) → (base ≡ 0) ⊎ (base ≡ 4096) → is_good base file ≡ true → is_damaged file ≡ false
good_whole base file (inl is) good = first_whole _ (is_good 0 file) (is_good 4096 file) (subst (λ (b : ℕ). is_good b file ≡ true) is good)
good_whole base file (inr is) good = second_whole _ (is_good 0 file) (is_good 4096 file) (subst (λ (b : ℕ). is_good b file ≡ true) is good)

pub stands_whole : (b o : ℕ) → Apart b o → (p : Place) (log file : List ℕ) → IsFine p → Stands b p log file → is_damaged file ≡ false
stands_whole b o apart p log file fine stands =
    good_whole b file (elim apart.bases [ inl (x, y) ↦ inl x | inr (x, y) ↦ inr x ]) (stands_good b p log file fine stands)

-- and neither is one that is shorter than the slots
pub short_whole : (file : List ℕ) → length file < 8192 → is_damaged file ≡ false
short_whole file short = grind (arith, nat_tests)

-- the other slot is no good one, or yields
abbrev pub IsOther : ℕ → ℕ → List ℕ → Type 0
IsOther o turn file = (is_good o file ≡ false) ⊎ Yields o turn file

-- the current slot's bytes are the log
pub stands_log : (b o : ℕ) → Apart b o → (p : Place) (log file : List ℕ) → IsFine p → Stands b p log file → IsOther o p.turn file → log_of file ≡ log
stands_log b o apart p log file fine stands other = elim apart.bases [
  | inl (at_first, at_second) ↦
      first at_first at_second (subst (λ (n : ℕ). Stands n p log file) at_first stands) (subst (λ (n : ℕ). IsOther n p.turn file) at_second other)
  | inr (at_second, at_first) ↦
      second (subst (λ (n : ℕ). Stands n p log file) at_second stands) (subst (λ (n : ℕ). IsOther n p.turn file) at_first other)
]
  where
    first : b ≡ 0 → o ≡ 4096 → Stands 0 p log file → IsOther 4096 p.turn file → log_of file ≡ log
    first x y s (inl shut) = first_alone file (stands_good 0 p log file fine s) shut ∙ stands_named 0 p log file s
    first x y s (inr older) = elim older.follows [
      | inl follows ↦
          first_follows file (older_good 4096 p.turn file older) (stands_good 0 p log file fine s) (ap (λ (q : Place). q.turn) s.place ∙ follows) older.fine.turn
          ∙ stands_named 0 p log file s
      | inr (base, equal) ↦ first_equal file (older_good 4096 p.turn file older) (stands_good 0 p log file fine s) (ap (λ (q : Place). q.turn) s.place ∙ equal) ∙ stands_named 0 p log file s
    ]

    second : Stands 4096 p log file → IsOther 0 p.turn file → log_of file ≡ log
    second s (inl shut) = second_alone file (stands_good 4096 p log file fine s) shut ∙ stands_named 4096 p log file s
    second s (inr older) = elim older.follows [
      | inl follows ↦
          second_follows file (stands_good 4096 p log file fine s) (older_good 0 p.turn file older) (ap (λ (q : Place). q.turn) s.place ∙ follows) ∙ stands_named 4096 p log file s
      | inr (base, equal) ↦ absurd (omega (arith, base))
    ]

-- a write into the other slot leaves the current one alone
pub stands_apart : (b o : ℕ) → Apart b o → (p : Place) (log : List ℕ) → IsFine p → (at m : ℕ) (old new : List ℕ) → Torn at m old new → o ≤ at → at + m ≤ o + 24 → Stands b p log old → Stands b p log new
stands_apart b o apart p log fine at m old new torn low high stands = record {
  gate = ap (λ (l : List ℕ). slice_index l 0) (torn_span at m b 1 old new torn (elim apart.bases [ inl (x, y) ↦ inl (omega arith) | inr (x, y) ↦ inr (omega arith) ])) ∙ stands.gate;
  place = ap place_of (torn_span at m (b + 1) 23 old new torn (elim apart.bases [ inl (x, y) ↦ inl (omega arith) | inr (x, y) ↦ inr (omega arith) ])) ∙ stands.place;
  bytes = torn_span at m p.start p.size old new torn (inr (elim apart.bases [ inl (x, y) ↦ omega (arith, fine.low) | inr (x, y) ↦ omega (arith, fine.low) ])) ∙ stands.bytes;
  within = omega (arith, stands.within, torn.no_shorter);
}

-- the fields, as they are compared
follows_moved : (base turn : ℕ) (p q : Place) → q ≡ p → (turn ≡ successor p.turn) ⊎ ((base ≡ 4096) × (turn ≡ p.turn)) → (turn ≡ successor q.turn) ⊎ ((base ≡ 4096) × (turn ≡ q.turn))
follows_moved base turn p q same follows = subst (λ (r : Place). (turn ≡ successor r.turn) ⊎ ((base ≡ 4096) × (turn ≡ r.turn))) (sym same) follows

-- a slot whose gate and fields stay still yields, as the file grows
pub yields_still : (o turn : ℕ) (old new : List ℕ) → gate_at o new ≡ 1 → place_at o new ≡ place_at o old → length old ≤ length new → Yields o turn old → Yields o turn new
yields_still o turn old new is_open same long older = record {
  gate = is_open;
  fine = subst IsFine (sym same) older.fine;
  within = subst (λ (q : Place). q.start + q.size ≤ length new) (sym same) (omega (arith, older.within, long));
  follows = follows_moved o turn (place_at o old) (place_at o new) same older.follows;
}

-- a torn gate leaves a slot closed, or as it was
pub gate_torn : (o turn : ℕ) (old new : List ℕ) → Torn o 1 old new → Yields o turn old → IsOther o turn new
gate_torn o turn old new torn older = elim (cases_eq (gate_at o new) 1) [
  | inl is_open ↦
      let same : place_at o new ≡ place_at o old = ap place_of (torn_span o 1 (o + 1) 23 old new torn (inr (omega arith))) in
      inr (yields_still o turn old new is_open same torn.no_shorter older)
  | inr shut ↦ inl (shut_false o new shut)
]

good_moved : (o : ℕ) (old new : List ℕ) → gate_at o new ≡ gate_at o old → place_at o new ≡ place_at o old → length new ≡ length old → is_good o new ≡ is_good o old
good_moved o old new gate place long = λ i. gate i == 1 && is_fine (place i) (long i)

-- a torn gate of a slot that isn't good, though its gate is 1, makes it no good one
pub gate_torn_bad : (o : ℕ) (old new : List ℕ) → o + 1 ≤ length old → Torn o 1 old new → gate_at o old ≡ 1 → is_good o old ≡ false → is_good o new ≡ false
gate_torn_bad o old new within torn is_one bad = elim (cases_eq (gate_at o new) 1) [
  | inl is_open ↦
      good_moved o old new (is_open ∙ sym is_one) (ap place_of (torn_span o 1 (o + 1) 23 old new torn (inr (omega arith)))) (omega (arith, torn.no_shorter, torn.no_longer)) ∙ bad
  | inr shut ↦ shut_false o new shut
]

-- a write in one slot makes no good one of the other
pub bad_apart : (b o : ℕ) → Apart b o → (at m : ℕ) (old new : List ℕ) → o ≤ at → at + m ≤ o + 24 → at + m ≤ length old → Torn at m old new → is_good b old ≡ false → is_good b new ≡ false
bad_apart b o apart at m old new low high within torn bad =
    let gate : gate_at b new ≡ gate_at b old = ap (λ (l : List ℕ). slice_index l 0) (torn_span at m b 1 old new torn (elim apart.bases [ inl (x, y) ↦ inl (omega arith) | inr (x, y) ↦ inr (omega arith) ])) in
    let place : place_at b new ≡ place_at b old = ap place_of (torn_span at m (b + 1) 23 old new torn (elim apart.bases [ inl (x, y) ↦ inl (omega arith) | inr (x, y) ↦ inr (omega arith) ])) in
    good_moved b old new gate place (omega (arith, torn.no_shorter, torn.no_longer)) ∙ bad

-- what stands yields to its successor
pub stands_older : (b : ℕ) (p : Place) (log : List ℕ) (turn : ℕ) (file : List ℕ) → IsFine p → Stands b p log file → turn ≡ successor p.turn → Yields b turn file
stands_older b p log turn file fine stands follows = record {
  gate = stands.gate;
  fine = subst IsFine (sym stands.place) fine;
  within = subst (λ (q : Place). q.start + q.size ≤ length file) (sym stands.place) stands.within;
  follows = inl (follows ∙ ap (λ (q : Place). successor q.turn) (sym stands.place));
}
