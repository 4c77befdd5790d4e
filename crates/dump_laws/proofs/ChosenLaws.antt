-- A tape that is chosen: when its dump set is forgotten, nothing that is listed is held on it, and the dump's parent stays listed.
use Rattle.std.proofs.Common.{◌≡◌, ℕ, suc, ◌+◌, Bool, true, false, not, Option, Some, None, List, [], ◌∷◌, length, refl, sym, ap, subst, ◌∙◌, arith, inl, inr}
use Rattle.std.specs.Prelude.{◌==◌, ◌&&◌, ◌||◌, Contains, slice_get, find}
use Rattle.std.specs.List.{list_any}
use Rattle.std.proofs.lemmas.Bool.{eq-eqb, cases_Bool}
use Rattle.tape_config.specs.declared.port.PortFields.{PortFields}
use Rattle.tape_frames.specs.declared.frame.Frame.TheVariants as frames
use Rattle.tape_frames.specs.declared.label.LabelFields.{LabelFields}
use Rattle.budb_changes.specs.declared.records.TapePart.{TapePart}
use Rattle.budb_changes.specs.declared.records.DumpRecordFields.{DumpRecordFields}
use Rattle.budb_fold.specs.Database.{is_initial, without}
use Rattle.budb_fold.specs.Lookups.{record_of}
use Rattle.tape_text.specs.Items.{Item, Says, Filemark, Nothing}
use Rattle.tape_scan.specs.Slots.{Slot}
use Rattle.archive_model.specs.Holding.{place_of, numbered_from, holds_at, holds}
use Rattle.archive_model.proofs.CutLaws.{any_from}
use Rattle.archive_model.proofs.HoldLaws.{held_initial, taken_holds_none, others_stay}
use Rattle.archive_model.proofs.SlotLaws.{in_map}
use Rattle.archive_model.proofs.RecordLaws.{record_by_id}
use Rattle.tape_choice.specs.declared.wanting.Wanting.{Wanting}
use Rattle.tape_choice.specs.declared.choosing.Chosen.{Chosen}
use Rattle.tape_choice.specs.Reads.{label_in}
use Rattle.tape_choice.specs.Choice.{has_unexpired, fits_name, is_own, tape_passes, is_used, slot_passes, is_among, chosen, forgotten, taking, choice_of, upwards, parents_of, initials_above}

pub and_left : (a b : Bool) → (a && b) ≡ true → a ≡ true
and_left true b is = refl
and_left false b is = is

pub and_right : (a b : Bool) → (a && b) ≡ true → b ≡ true
and_right true b is = is
and_right false b is = absurd (cc)

not_true : (b : Bool) → not b ≡ true → b ≡ false
not_true true is = absurd (cc)
not_true false is = refl

-- ---- which slot it is

pub numbered_get : (test : ℕ × Slot → Bool) (n : ℕ) (slots : List Slot) (x : ℕ × Slot) → find test (numbered_from n slots) ≡ Some x → (i : ℕ) × (x.0 ≡ n + i) × (slice_get slots i ≡ Some x.1) × (test x ≡ true)
numbered_get test n [] x is = absurd (cc)
numbered_get test n (s ∷ slots) x is = elim (cases_Bool (test (n, s))) [
  | inl hit ↦
      (let both : Some (n, s) ≡ Some x = rw hit at is in
      let same : (n, s) ≡ x = cc in
      let first : n ≡ x.0 = ap (λ (y : ℕ × Slot). y.0) same in
      (0, omega (arith, first), ap (λ (y : ℕ × Slot). Some y.1) same, ap test (sym same) ∙ hit))
  | inr miss ↦
      (let later : find test (numbered_from (n + 1) slots) ≡ Some x = rw miss at is in
      let rest = numbered_get test (n + 1) slots x later in
      (suc rest.0, omega (arith, rest.1), rest.2, rest.3))
]

-- what is known of a tape that was chosen
pub record IsChosenOf (listed : List DumpRecordFields) (w : Wanting) (slots : List Slot) (c : Chosen) : Type 0 where
  pub slot : Slot
  pub at : slice_get slots c.slot ≡ Some slot
  pub label : c.label ≡ label_in slot.items
  pub take : c.take ≡ forgotten listed (label_in slot.items)
  pub unused : is_used w c.slot ≡ false
  pub passes : tape_passes listed w slot.items ≡ true

chosen_in : (listed : List DumpRecordFields) (w : Wanting) (port : PortFields) (slots : List Slot) (o : Option (ℕ × Slot)) (c : Chosen) → ((x : ℕ × Slot) → o ≡ Some x → (is_among port x.0 && slot_passes listed w x.0 x.1) ≡ true × (slice_get slots x.0 ≡ Some x.1)) → choice_of listed o ≡ Some c → IsChosenOf listed w slots c
chosen_in listed w port slots None c has is = absurd (cc)
chosen_in listed w port slots (Some (k, s)) c has is =
    let same : taking listed k s.items ≡ c = cc in
    let both = has (k, s) refl in
    let passed : slot_passes listed w k s ≡ true = and_right (is_among port k) (slot_passes listed w k s) both.0 in
    let rest : (not (is_used w k) && tape_passes listed w s.items) ≡ true = and_right s.here (not (is_used w k) && tape_passes listed w s.items) passed in
    let slot : k ≡ c.slot = ap (λ (x : Chosen). x.slot) same in
    record {
      slot = s;
      at = ap (λ (n : ℕ). slice_get slots n) (sym slot) ∙ both.1;
      label = ap (λ (x : Chosen). x.label) (sym same);
      take = ap (λ (x : Chosen). x.take) (sym same);
      unused = ap (is_used w) (sym slot) ∙ not_true (is_used w k) (and_left (not (is_used w k)) (tape_passes listed w s.items) rest);
      passes = and_right (not (is_used w k)) (tape_passes listed w s.items) rest;
    }

pub chosen_of : (listed : List DumpRecordFields) (w : Wanting) (port : PortFields) (slots : List Slot) (c : Chosen) → choice_of listed (chosen listed w port slots) ≡ Some c → IsChosenOf listed w slots c
chosen_of listed w port slots c is =
    chosen_in listed w port slots (chosen listed w port slots) c
    (λ x found.
    (let place = numbered_get (λ (y : ℕ × Slot). is_among port y.0 && slot_passes listed w y.0 y.1) 0 slots x found in
    let index : place.0 ≡ x.0 = omega (arith, place.1) in
    (place.3, ap (λ (n : ℕ). slice_get slots n) (sym index) ∙ place.2))) is

-- ---- what is forgotten

-- what is listed when the dump set of a tape is forgotten
abbrev pub without_taken : Option ℕ → List DumpRecordFields → List DumpRecordFields
without_taken None listed = listed
without_taken (Some initial) listed = without (is_initial initial) listed

blank_holds_none : (o : Option TapePart) (d : DumpRecordFields) (tape : ℕ) → holds_at o d tape [] ≡ true → ⊥
blank_holds_none None d tape held = absurd (cc)
blank_holds_none (Some p) d tape held = absurd (cc)

labelled_holds_none : (listed : List DumpRecordFields) (a : LabelFields) (items : List Item) (d : DumpRecordFields) (tape : ℕ) → Contains (without_taken (forgotten listed (Some a)) listed) d → holds d tape (Says (frames.Label a) ∷ items) ≡ true → ⊥
labelled_holds_none listed a items d tape there held = elim (cases_Bool (list_any (is_initial a.initial) listed)) [
  | inl hit ↦
      (let gone : Contains (without (is_initial a.initial) listed) d = rw hit at there in
      taken_holds_none a.initial tape listed d (Says (frames.Label a) ∷ items) refl gone held)
  | inr miss ↦
      (let stays : Contains listed d = rw miss at there in
      let initial : d.initial ≡ a.initial = held_initial a.initial tape d (Says (frames.Label a) ∷ items) refl held in
      let hit : list_any (is_initial a.initial) listed ≡ true = any_from (is_initial a.initial) listed d stays (eq-eqb d.initial a.initial initial) in
      absurd (let e : true ≡ false = sym hit ∙ miss in cc))
]

-- nothing that is listed then is held on the tape
pub holds_none : (listed : List DumpRecordFields) (w : Wanting) (items : List Item) (d : DumpRecordFields) (tape : ℕ) → tape_passes listed w items ≡ true → Contains (without_taken (forgotten listed (label_in items)) listed) d → holds d tape items ≡ true → ⊥
holds_none listed w [] d tape passes there held = blank_holds_none (place_of d tape) d tape held
holds_none listed w (Says (frames.Label a) ∷ items) d tape passes there held = labelled_holds_none listed a items d tape there held
holds_none listed w (Says (frames.DumpHead a) ∷ items) d tape passes there held = absurd (cc)
holds_none listed w (Says (frames.VolHead a) ∷ items) d tape passes there held = absurd (cc)
holds_none listed w (Says (frames.Data a) ∷ items) d tape passes there held = absurd (cc)
holds_none listed w (Says (frames.VolEnd a) ∷ items) d tape passes there held = absurd (cc)
holds_none listed w (Says (frames.DumpEnd a) ∷ items) d tape passes there held = absurd (cc)
holds_none listed w (Filemark ∷ items) d tape passes there held = absurd (cc)
holds_none listed w (Nothing ∷ items) d tape passes there held = absurd (cc)

-- ---- the parent stays

-- the dump set that is forgotten isn't one in which a dump of the chain of parents lies
taken_not_own : (listed : List DumpRecordFields) (w : Wanting) (items : List Item) (initial : ℕ) → tape_passes listed w items ≡ true → forgotten listed (label_in items) ≡ Some initial → is_own w initial ≡ false
taken_not_own listed w [] initial passes is = absurd (cc)
taken_not_own listed w (Says (frames.Label a) ∷ items) initial passes is = elim (cases_Bool (list_any (is_initial a.initial) listed)) [
  | inl hit ↦
      (let some : Some a.initial ≡ Some initial = rw hit at is in
      let same : a.initial ≡ initial = cc in
      let rest = and_right (fits_name w a.afs) (not (has_unexpired listed w.time a.initial) && not (is_own w a.initial)) passes in
      let own : not (is_own w a.initial) ≡ true = and_right (not (has_unexpired listed w.time a.initial)) (not (is_own w a.initial)) rest in
      ap (is_own w) (sym same) ∙ not_true (is_own w a.initial) own)
  | inr miss ↦ absurd (let none : None ≡ Some initial = rw miss at is in cc)
]
taken_not_own listed w (Says (frames.DumpHead a) ∷ items) initial passes is = absurd (cc)
taken_not_own listed w (Says (frames.VolHead a) ∷ items) initial passes is = absurd (cc)
taken_not_own listed w (Says (frames.Data a) ∷ items) initial passes is = absurd (cc)
taken_not_own listed w (Says (frames.VolEnd a) ∷ items) initial passes is = absurd (cc)
taken_not_own listed w (Says (frames.DumpEnd a) ∷ items) initial passes is = absurd (cc)
taken_not_own listed w (Filemark ∷ items) initial passes is = absurd (cc)
taken_not_own listed w (Nothing ∷ items) initial passes is = absurd (cc)

up_first : (listed all : List DumpRecordFields) (o : Option DumpRecordFields) (p : DumpRecordFields) → o ≡ Some p → Contains listed p → Contains (upwards all (length listed) o) p
up_first [] all o p is there = absurd (omega (arith, there.1))
up_first (d ∷ listed) all None p is there = absurd (cc)
up_first (d ∷ listed) all (Some q) p is there = (let same : q ≡ p = cc in (0, omega arith, same))

or_true : (a b : Bool) → b ≡ true → (a || b) ≡ true
or_true true b is = refl
or_true false b is = is

by_taken : (listed : List DumpRecordFields) (w : Wanting) (items : List Item) (above : ℕ) (p : DumpRecordFields) → ((x y : DumpRecordFields) → Contains listed x → Contains listed y → x.id ≡ y.id → x ≡ y) → w.parents ≡ initials_above listed above → tape_passes listed w items ≡ true
    → Contains listed p → p.id ≡ above → (taken : Option ℕ) → forgotten listed (label_in items) ≡ taken → Contains (without_taken taken listed) p
by_taken listed w items above p once parents passes there id None is = there
by_taken listed w items above p once parents passes there id (Some initial) is =
    let own : is_own w initial ≡ false = taken_not_own listed w items initial passes is in
    let record_is : record_of listed above ≡ Some p = record_by_id listed p above once there id in
    let first : Contains (parents_of listed above) p = up_first listed listed (record_of listed above) p record_is there in
    let member : Contains w.parents p.initial = subst (λ (l : List ℕ). Contains l p.initial) (sym parents) (in_map (λ (d : DumpRecordFields). d.initial) (parents_of listed above) p first) in
    others_stay initial listed p there
    (λ same.
    (let hit : list_any (λ (q : ℕ). q == initial) w.parents ≡ true = any_from (λ (q : ℕ). q == initial) w.parents p.initial member (eq-eqb p.initial initial same) in
    let alike : is_own w initial ≡ true = or_true (w.initial == initial) (list_any (λ (q : ℕ). q == initial) w.parents) hit in
    absurd (let e : true ≡ false = sym alike ∙ own in cc)))

-- a listed parent stays listed
pub parent_stays : (listed : List DumpRecordFields) (w : Wanting) (items : List Item) (above : ℕ) (p : DumpRecordFields) → ((x y : DumpRecordFields) → Contains listed x → Contains listed y → x.id ≡ y.id → x ≡ y) → w.parents ≡ initials_above listed above → tape_passes listed w items ≡ true
    → Contains listed p → p.id ≡ above → Contains (without_taken (forgotten listed (label_in items)) listed) p
parent_stays listed w items above p once parents passes there id = by_taken listed w items above p once parents passes there id (forgotten listed (label_in items)) refl
