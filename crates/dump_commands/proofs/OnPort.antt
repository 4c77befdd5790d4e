-- The tape on which a dump begins is one of its port.
use Rattle.std.proofs.Common.{◌≡◌, ℕ, Bool, true, false, Option, Some, None, List, [], ◌∷◌, inl, inr, refl, sym, ◌∙◌, ap, subst, arith}
use Rattle.std.specs.Prelude.{◌+◌, ◌&&◌, nat_le, if◌then◌else◌, find, Result, Ok, Err, not}
use Rattle.std.specs.List.{list_any}
use Rattle.std.proofs.lemmas.Bool.{cases_Bool, and_parts, leb-true}
use Rattle.plant_core.specs.declared.plant.Plant.{Ghosts as Plant}
use Rattle.plant_effects.specs.Runs.{state_of}
use Rattle.tape_config.specs.declared.port.PortFields.{PortFields}
use Rattle.tape_config.specs.Ports.{IsAmong}
use Rattle.tape_frames.specs.TapeNames.{numbered}
use Rattle.tape_scan.specs.Slots.{Slot}
use Rattle.tape_scan.specs.Looking.{HasSlots}
use Rattle.tape_answers.specs.Slots.{slots_of}
use Rattle.archive_model.specs.Holding.{numbered_from}
use Rattle.budb_changes.specs.declared.records.DumpRecordFields.{DumpRecordFields}
use Rattle.budb_changes.specs.declared.records.TapePart.{TapePart}
use Rattle.budb_fold.specs.declared.database.Database.{Database}
use Rattle.budb.specs.Views.{BudbView}
use Rattle.tape_choice.specs.declared.choosing.Chosen.{Chosen}
use Rattle.tape_choice.specs.declared.places.Place.{Place}
use Rattle.tape_choice.specs.declared.places.Appending.{Appending}
use Rattle.tape_choice.specs.declared.places.Appending.TheVariants.{NoSet, NotFound, Found}
use Rattle.tape_choice.specs.Choice.{is_among, chosen, choice_of}
use Rattle.tape_choice.specs.Append.{AreWhole, LastPart, append_passes, append_slot, append_set, last_part, no_tape, found_in, place_behind, appending, appending_behind, appending_to}
use Rattle.dump_job.specs.declared.fault.JobFault.{JobFault}
use Rattle.dump_job.specs.declared.fields.JobFields.{JobFields}
use Rattle.dump_job.specs.declared.first_tapes.FirstTape.{FirstTape}
use Rattle.dump_job.specs.declared.order.DumpOrder.{DumpOrder}
use Rattle.dump_job.specs.Reels.{has_room}
use Rattle.dump_job.specs.Beginning.{are_spent, length_with, base_of, wanting_of, taken_tape, taken_or_none, next_tape, counts_at, place_tape, tape_by, tape_found, fresh, unless_full, unless_spent, tape_passed, id_of, first_tape, IsBegun}
use Rattle.dump_job.specs.Elsewhere.{IsOnPort}
use Rattle.dump_job.proofs.Elsewhere.{chosen_among}
use Rattle.dump_courses.specs.Scenes.{is_bad}
use Rattle.dump_courses.proofs.Ways.{SlotLaws}
use Rattle.dump_commands.proofs.Scenes.{whole_is}

-- ---- a slot that is found to append to

passes_of : (test : ℕ × Slot → Bool) (n : ℕ) (slots : List Slot) (x : ℕ × Slot) → find test (numbered_from n slots) ≡ Some x → test x ≡ true
passes_of test n [] x is = absurd (cc)
passes_of test n (s ∷ slots) x is = elim (cases_Bool (test (n, s))) [
  | inl hit ↦ (let both : Some (n, s) ≡ Some x = rw hit at is in let same : (n, s) ≡ x = cc in ap test (sym same) ∙ hit)
  | inr miss ↦ (let later : find test (numbered_from (n + 1) slots) ≡ Some x = rw miss at is in passes_of test (n + 1) slots x later)
]

slot_among : (d : DumpRecordFields) (p : TapePart) (port : PortFields) (whole : ℕ → Bool) (slots : List Slot) (x : ℕ × Slot) → append_slot d p port whole slots ≡ Some x → IsAmong port x.0
slot_among d p port whole slots x is =
    let both = and_parts (is_among port x.0) (append_passes d p whole x.0 x.1) (passes_of (λ (y : ℕ × Slot). is_among port y.0 && append_passes d p whole y.0 y.1) 0 slots x is) in
    let ends = and_parts (nat_le port.first x.0) (nat_le x.0 port.last) both.0 in
    (leb-true port.first x.0 ends.0, leb-true x.0 port.last ends.1)

found_among : (d : DumpRecordFields) (p : TapePart) (port : PortFields) (o : Option (ℕ × Slot)) (place : Place) → ((x : ℕ × Slot) → o ≡ Some x → IsAmong port x.0) → found_in d p o ≡ Found place → IsAmong port place.slot
found_among d p port None place each is = absurd (cc)
found_among d p port (Some (k, s)) place each is =
    let same : place_behind d p k s.items ≡ place = cc in
    subst (λ (x : Place). IsAmong port x.slot) same (each (k, s) refl)

no_place : (o : Option DumpRecordFields) (place : Place) → no_tape o ≡ Found place → ⊥
no_place None place is = absurd (cc)
no_place (Some d) place is = absurd (cc)

behind_among : (listed : List DumpRecordFields) (port : PortFields) (whole : ℕ → Bool) (slots : List Slot) (initial : ℕ) (o : Option LastPart) (place : Place) → appending_behind listed port whole slots initial o ≡ Found place → IsAmong port place.slot
behind_among listed port whole slots initial None place is = absurd (no_place _ place is)
behind_among listed port whole slots initial (Some l) place is = found_among l.dump l.part port (append_slot l.dump l.part port whole slots) place (slot_among l.dump l.part port whole slots) is

to_among : (listed : List DumpRecordFields) (port : PortFields) (whole : ℕ → Bool) (slots : List Slot) (o : Option ℕ) (place : Place) → appending_to listed port whole slots o ≡ Found place → IsAmong port place.slot
to_among listed port whole slots None place is = absurd (cc)
to_among listed port whole slots (Some initial) place is = behind_among listed port whole slots initial (last_part listed initial) place is

-- ---- a first tape

-- a tape that is taken
taken_among : (initial : ℕ) (base : List ℕ) (number : ℕ) (port : PortFields) (o : Option Chosen) (t : FirstTape) → ((c : Chosen) → o ≡ Some c → IsAmong port c.slot) → taken_or_none initial base number o ≡ Ok t → IsAmong port t.reel.slot
taken_among initial base number port None t each is = absurd (cc)
taken_among initial base number port (Some c) t each is =
    let same : taken_tape initial base number c ≡ t = cc in
    subst (λ (x : FirstTape). IsAmong port x.reel.slot) same (each c refl)

by_test : (b : Bool) (r : Result FirstTape JobFault) (f : JobFault) (t : FirstTape) → (if b then r else Err f) ≡ Ok t → r ≡ Ok t
by_test true r f t is = is
by_test false r f t is = absurd (cc)

by_miss : (b : Bool) (r : Result FirstTape JobFault) (f : JobFault) (t : FirstTape) → (if b then Err f else r) ≡ Ok t → r ≡ Ok t
by_miss true r f t is = absurd (cc)
by_miss false r f t is = is

next_among : (o : DumpOrder) (listed : List DumpRecordFields) (slots : List Slot) (initial : ℕ) (base : List ℕ) (number : ℕ) (t : FirstTape) → next_tape o listed slots initial base number ≡ Ok t → IsAmong o.port t.reel.slot
next_among o listed slots initial base number t is =
    taken_among initial base number o.port (choice_of listed (chosen listed (wanting_of o listed initial (numbered base number)) o.port slots)) t
    (λ c found. chosen_among listed (wanting_of o listed initial (numbered base number)) o.port slots c found)
    (by_test (nat_le number 4294967295) _ _ t is)

-- a tape that is appended to, or the next one
place_among : (room : Bool) (o : DumpOrder) (listed : List DumpRecordFields) (slots : List Slot) (p : Place) (t : FirstTape) → IsAmong o.port p.slot → (if room then Ok (place_tape p) else next_tape o listed slots p.initial p.base (p.tape + 1)) ≡ Ok t → IsAmong o.port t.reel.slot
place_among true o listed slots p t among is =
    let same : place_tape p ≡ t = cc in
    subst (λ (x : FirstTape). IsAmong o.port x.reel.slot) same among
place_among false o listed slots p t among is = next_among o listed slots p.initial p.base (p.tape + 1) t is

by_among : (o : DumpOrder) (listed : List DumpRecordFields) (slots : List Slot) (id : ℕ) (a : Appending) (t : FirstTape) → ((p : Place) → a ≡ Found p → IsAmong o.port p.slot) → tape_by o listed slots id a ≡ Ok t → IsAmong o.port t.reel.slot
by_among o listed slots id NoSet t each is = absurd (cc)
by_among o listed slots id (NotFound base tape) t each is = absurd (cc)
by_among o listed slots id (Found p) t each is =
    place_among (has_room 5 2 (counts_at o.port p)) o listed slots p t (each p refl) (by_test (nat_le p.initial id) _ _ t is)

either_among : (append : Bool) (o : DumpOrder) (listed : List DumpRecordFields) (slots : List Slot) (whole : ℕ → Bool) (id : ℕ) (t : FirstTape)
    → (if append then tape_by o listed slots id (appending listed o.set o.port whole slots) else next_tape o listed slots id (base_of o) 1) ≡ Ok t → IsAmong o.port t.reel.slot
either_among true o listed slots whole id t is = by_among o listed slots id (appending listed o.set o.port whole slots) t (λ p found. to_among listed o.port whole slots (append_set listed o.set) p found) is
either_among false o listed slots whole id t is = next_among o listed slots id (base_of o) 1 t is

passed_among : (o : DumpOrder) (size greatest id : ℕ) (r : Result FirstTape JobFault) (t : FirstTape) → (r ≡ Ok t → IsAmong o.port t.reel.slot) → tape_passed o size greatest id r ≡ Ok t → IsAmong o.port t.reel.slot
passed_among o size greatest id (Err fault) t found is = absurd (cc)
passed_among o size greatest id (Ok u) t found is =
    let spent = by_test (has_room 6 3 (fresh o.port)) (unless_spent size greatest id u) _ t is in
    let full = by_miss (are_spent greatest) (unless_full (length_with size id u.take) u) _ t spent in
    found (by_miss _ (Ok u) _ t full)

first_among : (db : Database) (slots : List Slot) (whole : ℕ → Bool) (o : DumpOrder) (size : ℕ) (t : FirstTape) → first_tape db slots whole o size ≡ Ok t → IsAmong o.port t.reel.slot
first_among db slots whole o size t is =
    passed_among o size db.greatest (id_of o db) (tape_found o db.listed slots whole (id_of o db)) t (either_among o.append o db.listed slots whole (id_of o db) t) is

-- ---- a dump that was begun

module _ {D : Type 0} (P : Plant D) where
  -- the slots of a plant, and which of its tapes have no bad record
  slots_there : SlotLaws → (plant : D) → HasSlots P (slots_of (P.view plant).slots (P.view plant).present (state_of P plant).tape) plant
  slots_there laws plant = record {
    count = laws.count (P.view plant).slots (P.view plant).present (state_of P plant).tape;
    each = λ k one at. record {
      here = laws.here (P.view plant).slots (P.view plant).present (state_of P plant).tape k one at;
      items = laws.items (P.view plant).slots (P.view plant).present (state_of P plant).tape k one at;
    };
  }

  whole_there : (plant : D) → AreWhole P (λ k. not (list_any is_bad ((state_of P plant).tape k))) plant
  whole_there plant = λ k. whole_is ((state_of P plant).tape k)

  pub begun_on : SlotLaws → P.tells → (o : DumpOrder) (budb budb_after : BudbView) (old new : D) (job : JobFields) → IsBegun P o budb budb_after old new job → IsOnPort job
  begun_on laws told o budb budb_after old new job begun =
      let slots : List Slot = slots_of (P.view old).slots (P.view old).present (state_of P old).tape in
      let whole : ℕ → Bool = λ k. not (list_any is_bad ((state_of P old).tape k)) in
      let right : first_tape budb.database slots whole o (P.view old).log_size ≡ Ok begun.tape = begun.right told slots whole (slots_there laws old) (whole_there old) in
      subst IsOnPort (sym begun.is) (record {
        reel = first_among budb.database slots whole o (P.view old).log_size begun.tape right;
        filled = λ f there. absurd (omega (arith, there.1));
      })
