-- The slots of a plant: they are never without some reading. What is found on them to append to stands there.
use Rattle.std.proofs.Common.{◌≡◌, inl, inr, ℕ, zero, suc, ◌+◌, ◌≤◌, Bool, true, false, List, [], ◌∷◌, length, refl, sym, ◌∙◌, ap, subst, arith}
use Rattle.std.specs.Prelude.{Option, Some, None, find, slice_get, nat_le, ◌&&◌, IsTrue}
use Rattle.std.proofs.lemmas.Bool.{cases_Bool, cases_lt, and_parts, leb-true}
use Rattle.plant_core.specs.declared.plant.Plant.{Ghosts as Plant}
use Rattle.plant_core.specs.Records.{Record, block_with, mark, bad, NoBad}
use Rattle.plant_effects.specs.Runs.{state_of}
use Rattle.tape_text.specs.Items.{Item, Read}
use Rattle.tape_config.specs.declared.port.PortFields.{PortFields}
use Rattle.budb_changes.specs.declared.records.DumpRecordFields.{DumpRecordFields}
use Rattle.tape_scan.specs.Slots.{Slot}
use Rattle.tape_scan.specs.Looking.{IsSlot, HasSlots}
use Rattle.tape_scan.proofs.ScanningLaws.{not_unread}
use Rattle.archive_model.specs.Holding.{numbered_from, holds}
use Rattle.tape_choice.specs.declared.places.Place.{Place}
use Rattle.tape_choice.specs.declared.places.Appending.{Appending}
use Rattle.tape_choice.specs.declared.places.Appending.TheVariants.{NoSet, NotFound, Found}
use Rattle.tape_choice.specs.Choice.{is_among}
use Rattle.tape_choice.specs.Append.{AreWhole, LastPart, append_passes, append_slot, append_set, last_part, no_tape, found_in, place_behind, appending, appending_behind, appending_to, is_as_told}
use Rattle.dump_job.specs.Beginning.{FoundStands}

-- ---- slots one by one

-- the slots from a number on, where each alone isn't impossible
not_none : (Is : ℕ → Slot → Type 0) → ((k : ℕ) → ((s : Slot) → Is k s → ⊥) → ⊥) → (n count : ℕ)
    → ((slots : List Slot) → length slots ≡ count → ((k : ℕ) (s : Slot) → slice_get slots k ≡ Some s → Is (n + k) s) → ⊥) → ⊥
not_none Is each n zero none = none [] refl (λ k s at. absurd (cc))
not_none Is each n (suc count) none = each n (λ s is. not_none Is each (n + 1) count (λ slots long are. none (s ∷ slots) (ap suc long) (all s is slots are)))
  where
    all : (s : Slot) → Is n s → (slots : List Slot) → ((k : ℕ) (t : Slot) → slice_get slots k ≡ Some t → Is (n + 1 + k) t) → (k : ℕ) (t : Slot) → slice_get (s ∷ slots) k ≡ Some t → Is (n + k) t
    all s is slots are zero t at = let same : s ≡ t = cc in let here : n ≡ n + 0 = omega arith in subst (λ (m : ℕ). Is m t) here (subst (λ (u : Slot). Is n u) same is)
    all s is slots are (suc k) t at = let next : n + 1 + k ≡ n + suc k = omega arith in subst (λ (m : ℕ). Is m t) next (are k t at)

-- whether a tape has no bad record
is_fine : Record → Bool
is_fine (block_with bytes) = true
is_fine mark = true
is_fine bad = false

none_bad : List Record → Bool
none_bad [] = true
none_bad (r ∷ rs) = is_fine r && none_bad rs

fine_is : (tape : List Record) → IsTrue (none_bad tape) → NoBad tape
unfolding none_bad is_fine
fine_is [] fine i is = absurd (cc)
fine_is (block_with bytes ∷ rs) fine zero is = absurd (cc)
fine_is (block_with bytes ∷ rs) fine (suc i) is = fine_is rs fine i is
fine_is (mark ∷ rs) fine zero is = absurd (cc)
fine_is (mark ∷ rs) fine (suc i) is = fine_is rs fine i is
fine_is (bad ∷ rs) fine i is = absurd (cc)

is_fine_all : (tape : List Record) → NoBad tape → IsTrue (none_bad tape)
unfolding none_bad is_fine
is_fine_all [] none = refl
is_fine_all (block_with bytes ∷ rs) none = is_fine_all rs (λ i is. none (suc i) is)
is_fine_all (mark ∷ rs) none = is_fine_all rs (λ i is. none (suc i) is)
is_fine_all (bad ∷ rs) none = absurd (none 0 refl)

-- a slot that is found passes
found_slot : (test : ℕ → Slot → Bool) (n : ℕ) (slots : List Slot) (k : ℕ) (s : Slot) → find (λ x. test x.0 x.1) (numbered_from n slots) ≡ Some (k, s)
    → (j : ℕ) × (k ≡ n + j) × (slice_get slots j ≡ Some s) × (test k s ≡ true)
found_slot test n [] k s is = absurd (cc)
found_slot test n (t ∷ ts) k s is = elim (cases_Bool (test n t)) [
  | inl hit ↦
      (let same : Some (n, t) ≡ Some (k, s) = rw hit at is in
      let pair : (n, t) ≡ (k, s) = cc in
      let number : n ≡ k = ap (λ (y : ℕ × Slot). y.0) pair in
      let slot : t ≡ s = ap (λ (y : ℕ × Slot). y.1) pair in
      let zeroth : n ≡ n + 0 = omega arith in
      (0, sym number ∙ zeroth, ap Some slot, subst (λ (m : ℕ). test m s ≡ true) number (subst (λ (u : Slot). test n u ≡ true) slot hit)))
  | inr miss ↦
      (let rest : find (λ x. test x.0 x.1) (numbered_from (n + 1) ts) ≡ Some (k, s) = rw miss at is in
      let found = found_slot test (n + 1) ts k s rest in
      let next : n + 1 + found.0 ≡ n + suc found.0 = omega arith in
      (suc found.0, found.1 ∙ next, found.2, found.3))
]

-- ---- a place that is found

-- it is in a slot whose tape has no bad record and so many records
abbrev StandsIn : (ℕ → Bool) → List Slot → Place → Type 0
StandsIn whole slots p = (s : Slot) × (slice_get slots p.slot ≡ Some s) × (whole p.slot ≡ true) × (p.end ≤ length s.items)

in_slot : (l : LastPart) (port : PortFields) (whole : ℕ → Bool) (slots : List Slot) (p : Place) (k : ℕ) (s : Slot) → append_slot l.dump l.part port whole slots ≡ Some (k, s) → found_in l.dump l.part (Some (k, s)) ≡ Found p → StandsIn whole slots p
in_slot l port whole slots p k s at is =
    let found = found_slot (λ (j : ℕ) (t : Slot). is_among port j && append_passes l.dump l.part whole j t) 0 slots k s at in
    let place : place_behind l.dump l.part k s.items ≡ p = cc in
    let slot : k ≡ p.slot = ap (λ (q : Place). q.slot) place in
    let end : l.part.end ≡ p.end = ap (λ (q : Place). q.end) place in
    let number : found.0 ≡ p.slot = sym (from_zero found.0) ∙ sym found.1 ∙ slot in
    let passes = (and_parts (is_among port k) (append_passes l.dump l.part whole k s) found.3).1 in
    let held = (and_parts s.here (holds l.dump l.part.tape s.items && (whole k && is_as_told l.part s.items)) passes).1 in
    let tape = (and_parts (holds l.dump l.part.tape s.items) (whole k && is_as_told l.part s.items) held).1 in
    let both = and_parts (whole k) (is_as_told l.part s.items) tape in
    let long = leb-true l.part.end (length s.items) (and_parts (nat_le l.part.end (length s.items)) _ both.1).0 in
    (s, subst (λ (j : ℕ). slice_get slots j ≡ Some s) number found.2, subst (λ (j : ℕ). whole j ≡ true) slot both.0, subst (λ (e : ℕ). e ≤ length s.items) end long)
  where
    from_zero : (j : ℕ) → 0 + j ≡ j
    from_zero j = omega arith

by_slot : (l : LastPart) (port : PortFields) (whole : ℕ → Bool) (slots : List Slot) (p : Place) (o : Option (ℕ × Slot)) → append_slot l.dump l.part port whole slots ≡ o → found_in l.dump l.part o ≡ Found p → StandsIn whole slots p
by_slot l port whole slots p None at is = absurd (cc)
by_slot l port whole slots p (Some (k, s)) at is = in_slot l port whole slots p k s at is

no_place : (o : Option DumpRecordFields) (p : Place) → no_tape o ≡ Found p → ⊥
no_place None p is = absurd (cc)
no_place (Some d) p is = absurd (cc)

by_part : (listed : List DumpRecordFields) (port : PortFields) (whole : ℕ → Bool) (slots : List Slot) (initial : ℕ) (p : Place) (o : Option LastPart) → appending_behind listed port whole slots initial o ≡ Found p → StandsIn whole slots p
by_part listed port whole slots initial p None is = absurd (no_place _ p is)
by_part listed port whole slots initial p (Some l) is = by_slot l port whole slots p (append_slot l.dump l.part port whole slots) refl is

by_set : (listed : List DumpRecordFields) (port : PortFields) (whole : ℕ → Bool) (slots : List Slot) (p : Place) (o : Option ℕ) → appending_to listed port whole slots o ≡ Found p → StandsIn whole slots p
by_set listed port whole slots p None is = absurd (cc)
by_set listed port whole slots p (Some initial) is = by_part listed port whole slots initial p (last_part listed initial) is

stands_in : (listed : List DumpRecordFields) (set : List ℕ) (port : PortFields) (whole : ℕ → Bool) (slots : List Slot) (p : Place) → appending listed set port whole slots ≡ Found p → StandsIn whole slots p
stands_in listed set port whole slots p is = by_set listed port whole slots p (append_set listed set) is

read_long : (tape : List Record) (items : List Item) → Read tape items → length items ≡ length tape
read_long [] [] read = refl
read_long [] (i ∷ is) read = absurd read
read_long (r ∷ rs) [] read = absurd read
read_long (r ∷ rs) (i ∷ is) read = omega (arith, read_long rs is read.1)

module _ {D : Type 0} (P : Plant D) where
  wholes : D → ℕ → Bool
  wholes plant k = none_bad ((state_of P plant).tape k)

  are_wholes : (plant : D) → AreWhole P (wholes plant) plant
  unfolding wholes
  are_wholes plant k = (fine_is ((state_of P plant).tape k), is_fine_all ((state_of P plant).tape k))

  -- slots that are those of a plant aren't impossible
  never_unread : (plant : D) → ((slots : List Slot) → HasSlots P slots plant → ⊥) → ⊥
  never_unread plant none = not_none (IsSlot P plant) each 0 (P.view plant).slots (λ slots long are. none slots (has slots long are))
    where
      from_zero : (k : ℕ) → 0 + k ≡ k
      from_zero k = omega arith

      each : (k : ℕ) → ((s : Slot) → IsSlot P plant k s → ⊥) → ⊥
      each k never = not_unread ((state_of P plant).tape k) (λ items read. never (record { here = (P.view plant).present k; items = items }) (record { here = refl; items = read }))

      has : (slots : List Slot) → length slots ≡ (P.view plant).slots → ((k : ℕ) (s : Slot) → slice_get slots k ≡ Some s → IsSlot P plant (0 + k) s) → HasSlots P slots plant
      has slots long are = record {
        count = long;
        each = λ k s at. subst (λ (j : ℕ). IsSlot P plant j s) (from_zero k) (are k s at);
      }

  -- by slots that are those of a plant
  by_slots : (plant : D) (whole : ℕ → Bool) (slots : List Slot) (p : Place) → HasSlots P slots plant → AreWhole P whole plant → StandsIn whole slots p
      → (p.end ≤ length ((state_of P plant).tape p.slot)) × NoBad ((state_of P plant).tape p.slot)
  by_slots plant whole slots p has are stands =
      let read = (has.each p.slot stands.0 stands.1).items in
      (omega (arith, stands.3, read_long ((state_of P plant).tape p.slot) stands.0.items read), (are p.slot).0 stands.2)

  -- A place that is found on whatever the tapes say stands there.
  pub place_stands : (plant : D) (listed : List DumpRecordFields) (set : List ℕ) (port : PortFields) (found : Appending)
      → (P.tells → (slots : List Slot) (whole : ℕ → Bool) → HasSlots P slots plant → AreWhole P whole plant → found ≡ appending listed set port whole slots) → FoundStands P found plant
  place_stands plant listed set port NoSet told = tt
  place_stands plant listed set port (NotFound base tape) told = tt
  place_stands plant listed set port (Found p) told = record { records = long; whole = λ tells some. fine tells }
    where
      at : P.tells → (slots : List Slot) → HasSlots P slots plant → (p.end ≤ length ((state_of P plant).tape p.slot)) × NoBad ((state_of P plant).tape p.slot)
      at tells slots has = by_slots plant (wholes plant) slots p has (are_wholes plant) (stands_in listed set port (wholes plant) slots p (sym (told tells slots (wholes plant) has (are_wholes plant))))

      long : P.tells → p.end ≤ length ((state_of P plant).tape p.slot)
      long tells = elim (cases_lt (length ((state_of P plant).tape p.slot)) p.end) [
        | inl short ↦ absurd (never_unread plant (λ slots has. let there = (at tells slots has).0 in omega (arith, there, short)))
        | inr enough ↦ enough
      ]

      fine : P.tells → NoBad ((state_of P plant).tape p.slot)
      fine tells i is = never_unread plant (λ slots has. (at tells slots has).1 i is)
