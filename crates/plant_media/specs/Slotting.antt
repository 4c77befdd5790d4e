-- The tapes in the slots, and what reads and images give of them.
use Rattle.std.proofs.Common.{◌≡◌, ◌≢◌, ◌⊎◌, inl, inr, ℕ, ◌+◌, ◌≤◌, ◌==◌, if◌then◌else◌, Bool, true, false, List, length, take, Option, Some, None, IfSome, refl, sym, ◌∙◌, ap, subst, arith}
use Rattle.std.proofs.lemmas.Bool.{cases_eq}
use Rattle.std.proofs.lemmas.Bool.Decides.{nat_tests}
use Rattle.std.proofs.lemmas.List.{take_all}
use Rattle.std.proofs.Math.Nat.{le_refl}
use Rattle.crash_moments.specs.Moments.{Moments}
use Rattle.media_core.specs.Media.{Image}
use Rattle.crash_log.specs.Fit.{IsStill}
use Rattle.crash_log.specs.CrashLog.{log_bytes, settled_of}
use Rattle.crash_log.specs.declared.log.CrashLog.{CrashLog}
use Rattle.plant_core.specs.Records.{Record}
use Rattle.plant_core.specs.Crashes.{IsTorn}
use Rattle.plant_core.specs.Stock.{Stock}
use Rattle.plant_media.specs.Stock.{tape_of}
use Rattle.plant_media.specs.Loaded.{tape_in, TapeSuits}
use Rattle.plant_media.specs.Slots.{slot_in, records_in, tape_at, shown, settled_in}
use Rattle.plant_media.specs.declared.tape.Tape.{Tape}
use Rattle.plant_media.specs.Taping.{tape_left}

pub if_same : {X : Type 0} (k s : ℕ) (x y : X) → k ≡ s → (if k == s then x else y) ≡ x
if_same k s x y same = ap (λ (b : Bool). if b then x else y) (test k s same)
  where
    test : (k s : ℕ) → k ≡ s → (k == s) ≡ true
    test k s same = grind (arith, nat_tests)

pub if_other : {X : Type 0} (k s : ℕ) (x y : X) → k ≢ s → (if k == s then x else y) ≡ y
if_other k s x y other = ap (λ (b : Bool). if b then x else y) (test k s other)
  where
    test : (k s : ℕ) → k ≢ s → (k == s) ≡ false
    test k s other = grind (arith, nat_tests)

pub some_is : (x y : ℕ) → Some x ≡ Some y → x ≡ y
some_is x y same = cc

-- the loaded tape, and the others
pub at_loaded : (tape : Tape) (image : Image) (k : ℕ) → k ≡ tape.slot → tape_at (Some tape) image k ≡ tape_in tape image
at_loaded tape image k same = if_same k tape.slot (tape_in tape image) (tape_of (image.file (k + 1))) same

pub at_other : (tape : Option Tape) (image : Image) (k : ℕ) → slot_in tape ≢ Some k → tape_at tape image k ≡ tape_of (image.file (k + 1))
at_other None image k other = refl
at_other (Some tape) image k other = if_other k tape.slot (tape_in tape image) (tape_of (image.file (k + 1))) (λ same. other (ap (λ (n : ℕ). Some n) (sym same)))

pub settled_loaded : (tape : Tape) (image : Image) (k : ℕ) → k ≡ tape.slot → settled_in (Some tape) image k ≡ tape.settled
unfolding settled_in
settled_loaded tape image k same = if_same k tape.slot tape.settled (length (tape_of (image.file (k + 1)))) same

pub settled_other : (tape : Option Tape) (image : Image) (k : ℕ) → slot_in tape ≢ Some k → settled_in tape image k ≡ length (tape_of (image.file (k + 1)))
unfolding settled_in
settled_other None image k other = refl
settled_other (Some tape) image k other = if_other k tape.slot tape.settled (length (tape_of (image.file (k + 1)))) (λ same. other (ap (λ (n : ℕ). Some n) (sym same)))

-- what is shown
pub shown_tape : (journal : CrashLog) (tape : Option Tape) (image : Image) (k : ℕ) → (shown journal tape image).tape k ≡ tape_at tape image k
unfolding shown
shown_tape journal tape image k = refl

pub shown_log : (journal : CrashLog) (tape : Option Tape) (image : Image) → (shown journal tape image).log ≡ log_bytes journal (image.file 0)
unfolding shown
shown_log journal tape image = refl

pub shown_told : (journal : CrashLog) (tape : Option Tape) (image : Image) → (shown journal tape image).told ≡ image.told
unfolding shown
shown_told journal tape image = refl

pub shown_settled : (journal : CrashLog) (tape : Option Tape) (image : Image) (k : ℕ) → (shown journal tape image).settled k ≡ settled_in tape image k
unfolding shown
shown_settled journal tape image k = refl

pub shown_kept : (journal : CrashLog) (tape : Option Tape) (image : Image) → (shown journal tape image).log_settled ≡ settled_of journal
unfolding shown
shown_kept journal tape image = refl

-- stocks that agree in all parts are one
pub one_stock : (a b : Stock) → a.log ≡ b.log → ((k : ℕ) → a.tape k ≡ b.tape k) → a.told ≡ b.told → a ≡ b
one_stock a b log tapes told = λ i. record { log = log i; tape = λ k. tapes k i; told = told i }

-- a loaded tape or another one
pub which : (tape : Option Tape) (k : ℕ) → ((t : Tape) × (tape ≡ Some t) × (t.slot ≡ k)) ⊎ (slot_in tape ≢ Some k)
which None k = inr (λ is. absurd (cc))
which (Some t) k = elim (cases_eq t.slot k) [
  | inl same ↦ inl (t, refl, same)
  | inr other ↦ inr (λ is. other (some_is t.slot k is))
]

-- what holds of the loaded tape
pub of_loaded : (P : Tape → Type 0) (tape : Option Tape) (t : Tape) → tape ≡ Some t → IfSome tape P → P t
of_loaded P tape t is held = subst (λ (o : Option Tape). IfSome o P) is held

torn_whole : (l c : List Record) (n : ℕ) → c ≡ l → n ≡ length l → IsTorn n l c
torn_whole l c n same size = record { count = length l; low = omega arith; high = le_refl (length l); is = inl (same ∙ sym (take_all (length l) l (le_refl (length l)))) }

pub torn_front : (l c : List Record) (n m : ℕ) → m ≡ n → n ≤ length l → c ≡ take n l → IsTorn m l c
torn_front l c n m same within is = record { count = n; low = omega arith; high = within; is = inl is }

module _ {D : Type 0} (tells : Type 0) (moments : Moments D Image) (seen : D → Image) (present : D → ℕ → Bool) (tape : Option Tape) (media : D) (told : tells) (held : IfSome tape (λ t. TapeSuits tells moments seen present t media)) where
  pub held_by : (t : Tape) → tape ≡ Some t → TapeSuits tells moments seen present t media
  held_by t is = of_loaded (λ t. TapeSuits tells moments seen present t media) tape t is held

  pub loaded_counted : (k : ℕ) → slot_in tape ≡ Some k → records_in tape ≡ length (tape_at tape (seen media) k)
  loaded_counted k loaded = elim (which tape k) [
    | inl (t, is, slot) ↦
        ap records_in is ∙ (held_by t is).counted told
        ∙ sym (ap length (ap (λ (o : Option Tape). tape_at o (seen media) k) is ∙ at_loaded t (seen media) k (sym slot)))
    | inr other ↦ absurd (other loaded)
  ]

  -- no more of a tape is settled than it has
  pub settled_within : (k : ℕ) → settled_in tape (seen media) k ≤ length (tape_at tape (seen media) k)
  settled_within k = elim (which tape k) [
    | inl (t, is, slot) ↦
        let h = held_by t is in
        omega (
          arith,
          h.within,
          h.counted told,
          ap (λ (o : Option Tape). settled_in o (seen media) k) is ∙ settled_loaded t (seen media) k (sym slot),
          ap length (ap (λ (o : Option Tape). tape_at o (seen media) k) is ∙ at_loaded t (seen media) k (sym slot)),
        )
    | inr other ↦ omega (arith, settled_other tape (seen media) k other, ap length (at_other tape (seen media) k other))
  ]

  -- each image has of each tape what is settled
  module _ (still : (k : ℕ) → slot_in tape ≢ Some k → IsStill moments seen (k + 1) media) where
    pub torn_left : (c : Image) → moments.may_leave media c → (k : ℕ) → IsTorn (settled_in tape (seen media) k) (tape_at tape (seen media) k) (tape_of (c.file (k + 1)))
    torn_left c left k = elim (which tape k) [
      | inl (t, is, slot) ↦
          let h = held_by t is in
          let whole : tape_at tape (seen media) k ≡ tape_in t (seen media) = ap (λ (o : Option Tape). tape_at o (seen media) k) is ∙ at_loaded t (seen media) k (sym slot) in
          subst (λ (l : List Record). IsTorn (settled_in tape (seen media) k) l (tape_of (c.file (k + 1)))) (sym whole)
          (torn_front (tape_in t (seen media)) (tape_of (c.file (k + 1))) t.settled (settled_in tape (seen media) k)
          (ap (λ (o : Option Tape). settled_in o (seen media) k) is ∙ settled_loaded t (seen media) k (sym slot))
          (omega (arith, h.within, h.counted told))
          (ap (λ (n : ℕ). tape_of (c.file (n + 1))) (sym slot) ∙ tape_left tells moments seen present t media h told c left))
      | inr other ↦
          let same : tape_of (c.file (k + 1)) ≡ tape_at tape (seen media) k = ap tape_of (still k other c left) ∙ sym (at_other tape (seen media) k other) in
          torn_whole (tape_at tape (seen media) k) (tape_of (c.file (k + 1))) (settled_in tape (seen media) k) same (settled_other tape (seen media) k other ∙ ap length (sym (at_other tape (seen media) k other)))
    ]

    -- what reads give is so, where it is an image
    pub settled_read : moments.may_leave media (seen media) → (k : ℕ) → take (settled_in tape (seen media) k) (tape_at tape (seen media) k) ≡ tape_of ((seen media).file (k + 1))
    settled_read reads k = elim (which tape k) [
      | inl (t, is, slot) ↦
          let whole : tape_at tape (seen media) k ≡ tape_in t (seen media) = ap (λ (o : Option Tape). tape_at o (seen media) k) is ∙ at_loaded t (seen media) k (sym slot) in
          let size : settled_in tape (seen media) k ≡ t.settled = ap (λ (o : Option Tape). settled_in o (seen media) k) is ∙ settled_loaded t (seen media) k (sym slot) in
          (λ i. take (size i) (whole i)) ∙ sym (ap (λ (n : ℕ). tape_of ((seen media).file (n + 1))) (sym slot) ∙ tape_left tells moments seen present t media (held_by t is) told (seen media) reads)
      | inr other ↦
          let same = at_other tape (seen media) k other in
          take_all (settled_in tape (seen media) k) (tape_at tape (seen media) k) (omega (arith, settled_other tape (seen media) k other, ap length same)) ∙ same
    ]
