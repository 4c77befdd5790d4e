-- What the choice of a tape tells, and what is so of a part that is begun.
use Rattle.std.proofs.Common.{◌≡◌, ℕ, suc, ◌+◌, ◌≤◌, Bool, true, false, not, Option, Some, None, List, [], ◌∷◌, refl, sym, ap, subst, ◌∙◌, arith, inl, inr}
use Rattle.std.specs.Prelude.{◌&&◌, slice_get, find}
use Rattle.std.proofs.lemmas.Bool.{cases_Bool}
use Rattle.tape_config.specs.declared.port.PortFields.{PortFields}
use Rattle.tape_frames.specs.declared.label.LabelFields.{LabelFields}
use Rattle.tape_frames.specs.declared.dump_head.DumpHeadFields.{DumpHeadFields}
use Rattle.tape_frames.specs.Layouts.{FitsDumpHead}
use Rattle.budb_changes.specs.declared.records.DumpRecordFields.{DumpRecordFields}
use Rattle.tape_text.specs.Items.{Item}
use Rattle.tape_scan.specs.Slots.{Slot}
use Rattle.tape_writer.specs.Room.{taken_by, HasRoom, with_label}
use Rattle.archive_model.specs.Holding.{numbered_from}
use Rattle.tape_choice.specs.declared.wanting.Wanting.{Wanting}
use Rattle.tape_choice.specs.declared.choosing.Chosen.{Chosen}
use Rattle.tape_choice.specs.Reads.{label_in}
use Rattle.tape_choice.specs.Choice.{tape_passes, is_used, slot_passes, is_among, chosen, forgotten, taking, choice_of}
use Rattle.dump_job.specs.declared.fields.JobFields.{JobFields}
use Rattle.dump_job.specs.Reels.{counts_on}
use Rattle.dump_job.specs.Taping.{uses_by, head_with, reel_begun}

pub and_left : (a b : Bool) → (a && b) ≡ true → a ≡ true
and_left true b is = refl
and_left false b is = is

pub and_right : (a b : Bool) → (a && b) ≡ true → b ≡ true
and_right true b is = is
and_right false b is = absurd (cc)

not_true : (b : Bool) → not b ≡ true → b ≡ false
not_true true is = absurd (cc)
not_true false is = refl

-- ---- which slot it is

pub numbered_get : (test : ℕ × Slot → Bool) (n : ℕ) (slots : List Slot) (x : ℕ × Slot) → find test (numbered_from n slots) ≡ Some x → (i : ℕ) × (x.0 ≡ n + i) × (slice_get slots i ≡ Some x.1) × (test x ≡ true)
numbered_get test n [] x is = absurd (cc)
numbered_get test n (s ∷ slots) x is = elim (cases_Bool (test (n, s))) [
  | inl hit ↦
      (let both : Some (n, s) ≡ Some x = rw hit at is in
      let same : (n, s) ≡ x = cc in
      let first : n ≡ x.0 = ap (λ (y : ℕ × Slot). y.0) same in
      (0, omega (arith, first), ap (λ (y : ℕ × Slot). Some y.1) same, ap test (sym same) ∙ hit))
  | inr miss ↦
      (let later : find test (numbered_from (n + 1) slots) ≡ Some x = rw miss at is in
      let rest = numbered_get test (n + 1) slots x later in
      (suc rest.0, omega (arith, rest.1), rest.2, rest.3))
]

-- what is known of a tape that was chosen
pub record IsChosenOf (listed : List DumpRecordFields) (w : Wanting) (slots : List Slot) (c : Chosen) : Type 0 where
  pub slot : Slot
  pub at : slice_get slots c.slot ≡ Some slot
  pub label : c.label ≡ label_in slot.items
  pub take : c.take ≡ forgotten listed (label_in slot.items)
  pub unused : is_used w c.slot ≡ false
  pub passes : tape_passes listed w slot.items ≡ true

chosen_in : (listed : List DumpRecordFields) (w : Wanting) (port : PortFields) (slots : List Slot) (o : Option (ℕ × Slot)) (c : Chosen) → ((x : ℕ × Slot) → o ≡ Some x → (is_among port x.0 && slot_passes listed w x.0 x.1) ≡ true × (slice_get slots x.0 ≡ Some x.1)) → choice_of listed o ≡ Some c → IsChosenOf listed w slots c
chosen_in listed w port slots None c has is = absurd (cc)
chosen_in listed w port slots (Some (k, s)) c has is =
    let same : taking listed k s.items ≡ c = cc in
    let both = has (k, s) refl in
    let passed : slot_passes listed w k s ≡ true = and_right (is_among port k) (slot_passes listed w k s) both.0 in
    let rest : (not (is_used w k) && tape_passes listed w s.items) ≡ true = and_right s.here (not (is_used w k) && tape_passes listed w s.items) passed in
    let slot : k ≡ c.slot = ap (λ (x : Chosen). x.slot) same in
    record {
      slot = s;
      at = ap (λ (n : ℕ). slice_get slots n) (sym slot) ∙ both.1;
      label = ap (λ (x : Chosen). x.label) (sym same);
      take = ap (λ (x : Chosen). x.take) (sym same);
      unused = ap (is_used w) (sym slot) ∙ not_true (is_used w k) (and_left (not (is_used w k)) (tape_passes listed w s.items) rest);
      passes = and_right (not (is_used w k)) (tape_passes listed w s.items) rest;
    }

pub chosen_of : (listed : List DumpRecordFields) (w : Wanting) (port : PortFields) (slots : List Slot) (c : Chosen) → choice_of listed (chosen listed w port slots) ≡ Some c → IsChosenOf listed w slots c
chosen_of listed w port slots c is =
    chosen_in listed w port slots (chosen listed w port slots) c
    (λ x found.
    (let place = numbered_get (λ (y : ℕ × Slot). is_among port y.0 && slot_passes listed w y.0 y.1) 0 slots x found in
    let index : place.0 ≡ x.0 = omega (arith, place.1) in
    (place.3, ap (λ (n : ℕ). slice_get slots n) (sym index) ∙ place.2))) is

taken_room : (port : PortFields) (blocks marks : ℕ) → taken_by port (blocks + 1 + 5) (marks + 1 + 2) ≤ port.capacity → taken_by port (blocks + 2 + 4) (marks + 1 + 2) ≤ port.capacity
taken_room port blocks marks enough = (let e : blocks + 1 + 5 ≡ blocks + 2 + 4 = omega arith in subst (λ (n : ℕ). taken_by port n (marks + 1 + 2) ≤ port.capacity) e enough)

appended_room : (port : PortFields) (blocks marks : ℕ) → taken_by port (blocks + 5) (marks + 2) ≤ port.capacity → taken_by port (blocks + 1 + 4) (marks + 0 + 2) ≤ port.capacity
appended_room port blocks marks enough =
    let e : blocks + 5 ≡ blocks + 1 + 4 = omega arith in
    let f : marks + 2 ≡ marks + 0 + 2 = omega arith in
    subst (λ (n : ℕ). taken_by port (blocks + 1 + 4) n ≤ port.capacity) f (subst (λ (n : ℕ). taken_by port n (marks + 2) ≤ port.capacity) e enough)

pub begun_room : (j : JobFields) (label : Option LabelFields) → HasRoom 5 2 (with_label label (counts_on j.port j.reel)) → HasRoom 4 2 (counts_on j.port (reel_begun label j.reel))
begun_room j None enough = appended_room j.port j.reel.blocks j.reel.marks enough
begun_room j (Some label) enough = taken_room j.port j.reel.blocks j.reel.marks enough

pub head_fits : (h : DumpHeadFields) (label : Option LabelFields) (old : List Item) → FitsDumpHead h → FitsDumpHead (head_with (uses_by label h.uses old) h)
head_fits h None old form = form
head_fits h (Some label) old form = record {
  id = form.id;
  initial = form.initial;
  parent = form.parent;
  expires = form.expires;
  tape = form.tape;
  part = form.part;
  volumes = form.volumes;
  set = form.set;
  level = form.level;
  base = form.base;
  cell = form.cell;
  permanent = form.permanent;
  uses = omega arith;
  plain = λ none. absurd (omega (arith, none));
}
