-- A log that was opened fits its file.
use Rattle.std.proofs.Common.{◌≡◌, ◌⊎◌, inl, inr, ◌↔◌, ℕ, ◌+◌, ◌≤◌, ◌<◌, ◌==◌, ◌&&◌, ◌||◌, not, nat_le, Bool, true, false, IsTrue, if◌then◌else◌, List, [], length, refl, sym, ◌∙◌, ap, subst, arith}
use Rattle.std.proofs.lemmas.Bool.{cases_eq}
use Rattle.std.proofs.lemmas.Bool.Decides.{nat_tests}
use Rattle.crash_moments.specs.Moments.{Moments, Leads}
use Rattle.crash_moments.proofs.Joining.{joined}
use Rattle.media_core.specs.Media.{Image, Same}
use Rattle.crash_log.specs.Log.{Place, IsFine, is_fine, is_good, gate_at, successor, span, log_of, is_damaged}
use Rattle.crash_log.specs.State.{empty_state}
use Rattle.crash_log.specs.Fit.{Stands, Yields, Other, IsReady, IsStill}
use Rattle.crash_log.specs.Opened.{slot_place, slot_good, IsSlot, at_slot, stale_where, state_for, opened_state, IsOpened}
use Rattle.crash_log.specs.declared.state.Needs.TheVariants.{Nothing, Blank}
use Rattle.crash_log.specs.declared.open.Slot.{Slot}
use Rattle.crash_log.proofs.Slots.{IsOther, stands_log, none_good}
use Rattle.crash_log.proofs.Closing.{apart_of}
use Rattle.crash_log.proofs.Formatting.{blank_log}

-- nothing changes, twice
pub same_twice : {D : Type 0} (moments : Moments D Image) (old mid new : D) → Leads moments old mid Same → Leads moments mid new Same → Leads moments old new Same
same_twice moments old mid new first second = joined moments old mid new Same Same Same first second (λ a b was step. step) (λ a b c was step left next. next ∙ step)

-- what may be left was there before
pub still_later : {D : Type 0} (moments : Moments D Image) (seen : D → Image) (old new : D) (f : ℕ) → Leads moments old new Same → seen new ≡ seen old → IsStill moments seen f old → IsStill moments seen f new
still_later moments seen old new f leads same still c left =
    let step = leads.now c left in
    ap (λ (i : Image). i.file f) step.step ∙ still step.from step.was ∙ sym (ap (λ (i : Image). i.file f) same)

-- what a good slot is
fine_parts : (p : Place) (long : ℕ) → is_fine p long ≡ true → IsFine p
fine_parts p long good = record {
  turn = grind (arith, nat_tests);
  low = grind (arith, nat_tests);
  high = grind (arith, nat_tests);
  small = grind (arith, nat_tests);
}

fine_within : (p : Place) (long : ℕ) → is_fine p long ≡ true → p.start + p.size ≤ long
fine_within p long good = grind (arith, nat_tests)

both_true : (a b : Bool) → (a && b) ≡ true → (a ≡ true) × (b ≡ true)
both_true true b both = (refl, both)
both_true false b both = absurd (cc)

module _ (s : Slot) (long : ℕ) (good : slot_good s long ≡ true) where
  parts : (s.open ≡ true) × (is_fine (slot_place s) long ≡ true)
  parts = both_true s.open (is_fine (slot_place s) long) good

  pub good_open : s.open ≡ true
  good_open = parts.0

  pub good_fine : IsFine (slot_place s)
  good_fine = fine_parts (slot_place s) long parts.1

  pub good_within : s.start + s.size ≤ long
  good_within = fine_within (slot_place s) long parts.1

-- a slot that was read is good where it is in the file
gate_test : (n : ℕ) (b : Bool) → (IsTrue b ↔ (n ≡ 1)) → (n == 1) ≡ b
gate_test n true is = let one : n ≡ 1 = is.0 refl in grind (arith, nat_tests)
gate_test n false is = elim (cases_eq n 1) [
  | inl one ↦ let no : false ≡ true = is.1 one in absurd (cc)
  | inr other ↦ grind (arith, nat_tests)
]

pub read_good : (base : ℕ) (file : List ℕ) (s : Slot) → IsSlot base file s → is_good base file ≡ slot_good s (length file)
read_good base file s slot = λ i. gate_test (gate_at base file) s.open slot.gate i && is_fine (slot.place i) (length file)

turns : (a b : ℕ) → a ≤ 2 → b ≤ 2 → (b == successor a) ≡ false → (a ≡ successor b) ⊎ (a ≡ b)
turns a b low low' apart = elim (cases_eq a b) [
  | inl same ↦ inr same
  | inr other ↦ inl (grind (arith, nat_tests))
]

follows_is : (a b : ℕ) → (b == successor a) ≡ true → b ≡ successor a
follows_is a b test = grind (arith, nat_tests)

slot_yields : (base turn : ℕ) (file : List ℕ) (s : Slot) → IsSlot base file s → slot_good s (length file) ≡ true → (turn ≡ successor s.turn) ⊎ ((base ≡ 4096) × (turn ≡ s.turn)) → Yields base turn file
slot_yields base turn file s slot good follows = record {
  gate = slot.gate.0 (good_open s (length file) good);
  fine = subst IsFine (sym slot.place) (good_fine s (length file) good);
  within = subst (λ (q : Place). q.start + q.size ≤ length file) (sym slot.place) (good_within s (length file) good);
  follows = subst (λ (q : Place). (turn ≡ successor q.turn) ⊎ ((base ≡ 4096) × (turn ≡ q.turn))) (sym slot.place) follows;
}

module _ {D : Type 0} (moments : Moments D Image) (seen : D → Image) (media : D) (f limit : ℕ) (still : IsStill moments seen f media) where
  abbrev file : List ℕ
  file = (seen media).file f

  -- the slot that is the current one
  module _ (is_second : Bool) (current rest : Slot) (here : IsSlot (if is_second then 4096 else 0) file current) (there : IsSlot (if is_second then 0 else 4096) file rest) (good : slot_good current (length file) ≡ true) where
    abbrev base : ℕ
    base = if is_second then 4096 else 0

    abbrev other : ℕ
    other = if is_second then 0 else 4096

    fine : IsFine (slot_place current)
    fine = good_fine current (length file) good

    within : current.start + current.size ≤ length file
    within = good_within current (length file) good

    stands : Stands base (slot_place current) (span current.start current.size file) file
    stands = record { gate = here.gate.0 (good_open current (length file) good); place = here.place; bytes = refl; within = within }

    ready : (other_open : Bool) → Other other_open other current.turn file → IsReady moments seen (at_slot current is_second other_open Nothing f limit) media
    ready other_open yields = record {
      fine = fine;
      put = omega (arith, within);
      stands = λ c left. subst (λ (l : List ℕ). Stands base (slot_place current) (span current.start current.size file) l) (sym (still c left)) stands;
      other = λ c left. subst (λ (l : List ℕ). Other other_open other current.turn l) (sym (still c left)) yields;
    }

    names : IsOther other current.turn file → log_of file ≡ span current.start current.size file
    names yields = stands_log base other (apart_of is_second) (slot_place current) (span current.start current.size file) file fine stands yields

    more_none : span current.start (current.size + 0) file ≡ span current.start current.size file
    more_none = let none : current.size + 0 ≡ current.size = omega arith in ap (λ (k : ℕ). span current.start k file) none

    -- both slots are good, and the other one yields
    pub opened_two : is_damaged file ≡ false → Yields other current.turn file → IsOpened moments seen f media (at_slot current is_second true Nothing f limit)
    opened_two sound yields = record {
      fits = record { ready = ready true yields; quiet = λ none. still };
      bytes = more_none ∙ sym (names (inr yields));
      settled = sym (names (inr yields));
      damaged = sym sound;
    }

    -- the other one isn't good
    pub opened_one : is_damaged file ≡ false → is_good other file ≡ false → (is_open : Bool) → rest.open ≡ is_open → IsOpened moments seen f media (at_slot current is_second false (stale_where is_open) f limit)
    opened_one sound bad true is = record {
      fits = record {
        still = still;
        fine = fine;
        none = refl;
        shut = refl;
        gate = there.gate.0 is;
        stands = stands;
        other_bad = bad;
      };
      bytes = more_none ∙ sym (names (inl bad));
      settled = sym (names (inl bad));
      damaged = sym sound;
    }
    opened_one sound bad false is = record {
      fits = record { ready = ready false (λ is_one. let no : false ≡ true = sym is ∙ there.gate.1 is_one in absurd (cc)); quiet = λ none. still };
      bytes = more_none ∙ sym (names (inl bad));
      settled = sym (names (inl bad));
      damaged = sym sound;
    }

  damaged_is : (l a b : Bool) → nat_le 8192 (length file) ≡ l → is_good 0 file ≡ a → is_good 4096 file ≡ b → is_damaged file ≡ (l && not (a || b))
  damaged_is l a b long first second = λ i. long i && not (first i || second i)

  module _ (first second : Slot) (long : 8192 ≤ length file) (at_first : IsSlot 0 file first) (at_second : IsSlot 4096 file second) where
    there_long : nat_le 8192 (length file) ≡ true
    there_long = grind (arith, nat_tests)

    sound_is : (a b : Bool) → slot_good first (length file) ≡ a → slot_good second (length file) ≡ b → is_damaged file ≡ not (a || b)
    sound_is a b one two = damaged_is true a b there_long (read_good 0 file first at_first ∙ one) (read_good 4096 file second at_second ∙ two)

    pub opened_for : (a b t : Bool) → slot_good first (length file) ≡ a → slot_good second (length file) ≡ b → (second.turn == successor first.turn) ≡ t → IsOpened moments seen f media (state_for a b t first second f limit)
    opened_for true true true one two follows =
        opened_two true second first at_second at_first two (sound_is true true one two) (slot_yields 0 second.turn file first at_first one (inl (follows_is first.turn second.turn follows)))
    opened_for true true false one two follows =
        opened_two false first second at_first at_second one (sound_is true true one two) (slot_yields 4096 first.turn file second at_second two (either (turns first.turn second.turn (good_fine first (length file) one).turn (good_fine second (length file) two).turn follows)))
      where
        either : (first.turn ≡ successor second.turn) ⊎ (first.turn ≡ second.turn) → (first.turn ≡ successor second.turn) ⊎ ((◌≡◌ {A = ℕ} 4096 4096) × (first.turn ≡ second.turn))
        either (inl is) = inl is
        either (inr is) = inr (refl, is)
    opened_for true false t one two follows = opened_one false first second at_first at_second one (sound_is true false one two) (read_good 4096 file second at_second ∙ two) second.open refl
    opened_for false true t one two follows = opened_one true second first at_second at_first two (sound_is false true one two) (read_good 0 file first at_first ∙ one) first.open refl
    opened_for false false t one two follows =
        let none : log_of file ≡ [] = none_good file (read_good 0 file first at_first ∙ one) (read_good 4096 file second at_second ∙ two) in
        record {
          fits = record {
            still = still;
            long = long;
            first = at_first.gate;
            second = at_second.gate;
            first_bad = read_good 0 file first at_first ∙ one;
            second_bad = read_good 4096 file second at_second ∙ two;
            empty = refl;
          };
          bytes = sym none;
          settled = sym none;
          damaged = sym (sound_is false false one two);
        }

    pub opened_slots : IsOpened moments seen f media (opened_state first second f limit (length file))
    opened_slots = opened_for (slot_good first (length file)) (slot_good second (length file)) (second.turn == successor first.turn) refl refl refl

  pub opened_blank : length file < 8192 → IsOpened moments seen f media (empty_state f limit Blank)
  opened_blank short =
      let none = blank_log file short in
      record {
        fits = record { still = still; short = short; empty = refl };
        bytes = sym none;
        settled = sym none;
        damaged = sym (damaged_is false (is_good 0 file) (is_good 4096 file) (let no : nat_le 8192 (length file) ≡ false = grind (arith, nat_tests) in no) refl refl);
      }

-- whichever slot it is, the file and the limit are those that were asked
pub state_file : (a b t : Bool) (first second : Slot) (f limit : ℕ) → (state_for a b t first second f limit).file ≡ f
state_file true true true first second f limit = refl
state_file true true false first second f limit = refl
state_file true false t first second f limit = refl
state_file false true t first second f limit = refl
state_file false false t first second f limit = refl

pub state_limit : (a b t : Bool) (first second : Slot) (f limit : ℕ) → (state_for a b t first second f limit).limit ≡ limit
state_limit true true true first second f limit = refl
state_limit true true false first second f limit = refl
state_limit true false t first second f limit = refl
state_limit false true t first second f limit = refl
state_limit false false t first second f limit = refl
