-- The turn of `savedb`: the tape that is picked carries no dump, so the archive is kept, no dump is brought, and a ready world stays ready.
use Rattle.std.proofs.Common.{◌≡◌, inr, ℕ, ◌<◌, true, Option, Some, None, List, [], ◌∷◌, length, IsTrue, refl, sym, ap, subst, ◌∙◌, arith}
use Rattle.std.specs.Prelude.{Result, Ok, Err, slice_get, ◌&&◌}
use Rattle.bk_text.specs.Alphabets.{IsTapeName}
use Rattle.byte_formats.specs.Forms.{IsMaybe}
use Rattle.plant_core.specs.Records.{Record, block_with, mark, bad}
use Rattle.plant_core.specs.Effects.{come}
use Rattle.tape_config.specs.declared.port.PortFields.{PortFields}
use Rattle.tape_frames.specs.declared.label.LabelFields.{LabelFields}
use Rattle.tape_frames.specs.declared.frame.Frame.TheVariants as frames
use Rattle.tape_frames.specs.Layouts.{FitsLabel}
use Rattle.tape_text.specs.Items.{Item, Says, Filemark, Nothing, ReadsAs, Read}
use Rattle.tape_scan.specs.Slots.{Slot}
use Rattle.tape_answers.specs.Reading.{items_of}
use Rattle.tape_answers.specs.Slots.{slot_of, slots_of}
use Rattle.tape_choice.specs.Reads.{frame_of, label_from, label_in}
use Rattle.tape_choice.specs.Choice.{is_among, permanent_in}
use Rattle.budb_fold.specs.Database.{after}
use Rattle.budb_save.specs.declared.choosing.Picked.{Picked}
use Rattle.budb_save.specs.declared.choosing.Wish.TheVariants.{Saving}
use Rattle.budb_save.specs.Choice.{tape_fits, slot_fits, picked, picking, pick_of}
use Rattle.budb_save.specs.Saves.{save_label}
use Rattle.budb_save.specs.Writing.{putting_save}
use Rattle.budb_save.specs.Saving.{saved_bytes, save_pick}
use Rattle.save_laws.specs.Saving.{CarriesNone}
use Rattle.save_laws.proofs.FitLaws.{fits_none}
use Rattle.dump_laws.proofs.ChosenLaws.{and_left, and_right, numbered_get}
use Rattle.backup_session.specs.Worlds.{World, Turn, archive_of}
use Rattle.backup_session.specs.Saves.{lacks_room, saved_in_slot, saved_on, saved_turn}
use Rattle.backup_session.proofs.SaveTurns.{save_settled}
use Rattle.session_archives.proofs.Slots.{slot_there, slot_told}
use Rattle.session_archives.proofs.Kept.{Reads, TurnKeeps, Finds, said_keeps}
use Rattle.session_archives.proofs.Kept.{picked as either_keeps}
use Rattle.session_archives.proofs.Present.{TouchesHere}
use Rattle.session_archives.proofs.Present.{picked as either_here}
use Rattle.session_archives.proofs.Bringing.{bare_brings}
use Rattle.session_archives.proofs.ReadyTapes.{KeepsOrder, said_orders, either_orders}
use Rattle.session_archives.proofs.Saved.{save_adds, save_here, saved_at, slots_say}

-- ---- the tape that is picked

-- it is here and carries no dump, and its label is the one that was read
pub record IsPicked (w : World) (p : Picked) : Type 0 where
  pub below : p.slot < w.setting.slots
  pub here : IsTrue (w.setting.present p.slot)
  pub none : CarriesNone (items_of (w.state.tape p.slot))
  pub label : p.label ≡ label_in (items_of (w.state.tape p.slot))

module _ (w : World) (port : PortFields) where
  slot_picked : (k : ℕ) (s : Slot) → picked Saving port (archive_of w).slots ≡ Some (k, s) → IsPicked w (picking k s.items)
  slot_picked k s found =
      let x = numbered_get (λ (y : ℕ × Slot). is_among port y.0 && slot_fits Saving y.1) 0 (archive_of w).slots (k, s) found in
      let index : x.0 ≡ k = omega (arith, x.1) in
      let at : slice_get (archive_of w).slots k ≡ Some s = ap (λ (n : ℕ). slice_get (archive_of w).slots n) (sym index) ∙ x.2 in
      let told = slot_told w.setting.present w.state.tape w.setting.slots k s at in
      let fits : slot_fits Saving s ≡ true = and_right (is_among port k) (slot_fits Saving s) x.3 in
      record {
        below = told.0;
        here = ap (λ (y : Slot). y.here) (sym told.1) ∙ and_left s.here (tape_fits Saving s.items) fits;
        none = subst (λ (y : Slot). CarriesNone y.items) told.1 (fits_none s fits);
        label = ap (λ (y : Slot). label_in y.items) told.1;
      }

  by_picked : (o : Option (ℕ × Slot)) → picked Saving port (archive_of w).slots ≡ o → (p : Picked) → pick_of o ≡ Some p → IsPicked w p
  by_picked None found p is = absurd (cc)
  by_picked (Some (k, s)) found p is = (let same : picking k s.items ≡ p = cc in subst (IsPicked w) same (slot_picked k s found))

  pub is_picked : (p : Picked) → save_pick port (archive_of w).slots ≡ Some p → IsPicked w p
  is_picked p is = by_picked (picked Saving port (archive_of w).slots) refl p is

-- ---- its permanent name

label_form : (r : Record) (a : LabelFields) → ReadsAs r (Says (frames.Label a)) → FitsLabel a
label_form (block_with bytes) a read = read.0
label_form mark a read = absurd read
label_form bad a read = absurd read

first_form : (r : Record) (i : Item) → ReadsAs r i → IsMaybe IsTapeName (permanent_in (label_from (frame_of i)))
first_form r (Says (frames.Label a)) read = (label_form r a read).permanent
first_form r (Says (frames.DumpHead a)) read = inr refl
first_form r (Says (frames.VolHead a)) read = inr refl
first_form r (Says (frames.Data a)) read = inr refl
first_form r (Says (frames.VolEnd a)) read = inr refl
first_form r (Says (frames.DumpEnd a)) read = inr refl
first_form r Filemark read = inr refl
first_form r Nothing read = inr refl

read_form : (tape : List Record) (items : List Item) → Read tape items → IsMaybe IsTapeName (permanent_in (label_in items))
read_form tape [] read = inr refl
read_form [] (i ∷ is) read = absurd read
read_form (r ∷ rs) (i ∷ is) read = first_form r i read.0

module _ (w : World) (finds : Finds w) (p : Picked) (is : IsPicked w p) where
  permanent_form : IsMaybe IsTapeName (permanent_in p.label)
  permanent_form =
      let tape = w.state.tape p.slot in
      let read : Read tape (items_of tape) = finds.holds.1.seen.tapes p.slot (slot_of w.setting.present w.state.tape p.slot) (slot_there w.setting.present w.state.tape w.setting.slots p.slot is.below) in
      subst (λ (o : Option LabelFields). IsMaybe IsTapeName (permanent_in o)) (sym is.label) (read_form tape (items_of tape) read)

  module _ (reads : Reads) (bytes : List ℕ) where
    in_slot_keeps : TurnKeeps w (saved_in_slot w p bytes)
    in_slot_keeps = record {
      keeps = saved_at w.setting.slots w.setting.present w.contents reads.once w.state w.log p.slot (permanent_in p.label) bytes finds.holds is.below permanent_form is.none;
      settled = save_settled p.slot (save_label (permanent_in p.label)) bytes w.state finds.settled;
      contents = refl;
      adds = save_adds reads w.log p.slot (permanent_in p.label) bytes permanent_form;
    }

    in_slot_orders : KeepsOrder w (saved_in_slot w p bytes)
    in_slot_orders = record {
      brings = bare_brings (archive_of w) (slots_of w.setting.slots w.setting.present (come (putting_save p.slot (save_label (permanent_in p.label)) bytes) w.state).tape)
          (slots_say reads w.setting.slots w.setting.present w.state w.log p.slot (permanent_in p.label) bytes permanent_form);
      cell = refl;
      later = omega arith;
      four = λ four. four;
    }

-- ---- the turn

module _ (reads : Reads) (w : World) (finds : Finds w) where
  on_keeps : (port : PortFields) (bytes : List ℕ) (o : Option Picked) → ((p : Picked) → o ≡ Some p → IsPicked w p) → TurnKeeps w (saved_on w port bytes o)
  on_keeps port bytes None is = said_keeps w finds _
  on_keeps port bytes (Some p) is = either_keeps w (lacks_room port (length bytes)) _ _ (said_keeps w finds _) (in_slot_keeps w finds p (is p refl) reads bytes)

  pub save_keeps : (port : Result PortFields (List ℕ)) → TurnKeeps w (saved_turn w port)
  save_keeps (Err text) = said_keeps w finds text
  save_keeps (Ok port) = on_keeps port (saved_bytes (after w.log)) (save_pick port (archive_of w).slots) (is_picked w port)

  on_orders : (port : PortFields) (bytes : List ℕ) (o : Option Picked) → ((p : Picked) → o ≡ Some p → IsPicked w p) → KeepsOrder w (saved_on w port bytes o)
  on_orders port bytes None is = said_orders w _
  on_orders port bytes (Some p) is = either_orders w (lacks_room port (length bytes)) _ _ (said_orders w _) (in_slot_orders w finds p (is p refl) reads bytes)

  pub save_orders : (port : Result PortFields (List ℕ)) → KeepsOrder w (saved_turn w port)
  save_orders (Err text) = said_orders w text
  save_orders (Ok port) = on_orders port (saved_bytes (after w.log)) (save_pick port (archive_of w).slots) (is_picked w port)

module _ (w : World) where
  on_here : (port : PortFields) (bytes : List ℕ) (o : Option Picked) → ((p : Picked) → o ≡ Some p → IsPicked w p) → TouchesHere w.setting.present (saved_on w port bytes o).effects
  on_here port bytes None is = tt
  on_here port bytes (Some p) is =
      either_here (λ (t : Turn). TouchesHere w.setting.present t.effects) (lacks_room port (length bytes)) _ _ tt (save_here w.setting.present p.slot (save_label (permanent_in p.label)) bytes (is p refl).here)

  pub saved_here : (port : Result PortFields (List ℕ)) → TouchesHere w.setting.present (saved_turn w port).effects
  saved_here (Err text) = tt
  saved_here (Ok port) = on_here port (saved_bytes (after w.log)) (save_pick port (archive_of w).slots) (is_picked w port)
