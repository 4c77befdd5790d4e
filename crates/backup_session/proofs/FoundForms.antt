-- What a scan in a world finds: what stands in its slots, and that its records have their form.
use Rattle.std.proofs.Common.{◌≡◌, ℕ, zero, suc, ◌+◌, ◌-◌, ◌≤◌, Bool, Some, List, [], ◌∷◌, length, map, subst, arith}
use Rattle.std.specs.Prelude.{All}
use Rattle.std.proofs.lemmas.List.{length-map}
use Rattle.std.proofs.lemmas.List.Elements.{All-weaker}
use Rattle.bk_text.specs.declared.words.Alphabet.TheVariants.{Plain, NoPeriod, AnyFirst}
use Rattle.bk_text.proofs.TestLaws.{word_tells, path_tells}
use Rattle.plant_core.specs.Records.{Record}
use Rattle.tape_config.specs.declared.port.PortFields.{PortFields}
use Rattle.budb_changes.specs.declared.records.DumpRecordFields.{DumpRecordFields}
use Rattle.budb_changes.specs.Forms.{IsDumpRecord}
use Rattle.tape_scan.specs.Slots.{Slot, Located}
use Rattle.tape_scan.specs.Scanned.{IsChosen, Scanned}
use Rattle.tape_answers.specs.Reading.{item_of}
use Rattle.tape_answers.specs.Slots.{slot_of}
use Rattle.tape_answers.specs.Assembling.{found_in}
use Rattle.tape_answers.proofs.FieldLaws.{Forms}
use Rattle.tape_answers.proofs.ScanningLaws.{slots_scanned}
use Rattle.tape_answers.proofs.FoundLaws.{found_there}
use Rattle.backup_session.specs.Worlds.{World}
use Rattle.backup_session.specs.Bounded.{HasTapes}
use Rattle.backup_session.specs.Scanning.{slots_here, scans_of}
use Rattle.backup_session.proofs.ScanLaws.{few_here}
use Rattle.backup_session.proofs.RecordForms.{AreShort, found_form}

pub forms : Forms
forms = record { name = word_tells Plain 31; host = word_tells Plain 63; set_name = word_tells NoPeriod 31; tape_name = word_tells AnyFirst 80; level_path = path_tells }

-- what is found in these slots
pub scanned_in : (present : ℕ → Bool) (tape : ℕ → List Record) (slots : List ℕ) → (left : List Located) × Scanned (map (slot_of present tape) slots) (found_in (scans_of tape slots)).whole left
scanned_in present tape slots = (let found = found_there (map (slot_of present tape) slots) (scans_of tape slots) (slots_scanned forms present tape slots) in (found.0, found.1))

short_slots : (present : ℕ → Bool) (tape : ℕ → List Record) → ((k : ℕ) → length (tape k) ≤ 4294967295) → (slots : List ℕ) → AreShort (map (slot_of present tape) slots)
short_slots present tape short [] k s at = absurd (cc)
short_slots present tape short (n ∷ slots) zero s at =
    let is : slot_of present tape n ≡ s = (let e : Some (slot_of present tape n) ≡ Some s = at in cc) in
    subst (λ (x : Slot). length x.items ≤ 4294967295) is (omega (arith, length-map (tape n) item_of, short n))
short_slots present tape short (n ∷ slots) (suc k) s at = short_slots present tape short slots k s at

module _ (w : World) (has : HasTapes w) (port : PortFields) where
  few_slots : length (map (slot_of w.setting.present w.state.tape) (slots_here w.setting.present port)) ≤ 65535
  few_slots = omega (arith, length-map (slots_here w.setting.present port) (slot_of w.setting.present w.state.tape), few_here w.setting.present 65535 has.slots port.first (port.last + 1 - port.first))

  -- the dumps that a scan of a coordinator's slots finds have records that can be written
  pub found_forms : All IsDumpRecord (found_in (scans_of w.state.tape (slots_here w.setting.present port))).whole
  found_forms =
      let few : List Slot = map (slot_of w.setting.present w.state.tape) (slots_here w.setting.present port) in
      let whole = (found_in (scans_of w.state.tape (slots_here w.setting.present port))).whole in
      All-weaker (λ (d : DumpRecordFields). (parts : List Located) × IsChosen few parts d) IsDumpRecord
      (λ d c. found_form few c.0 d few_slots (short_slots w.setting.present w.state.tape has.records (slots_here w.setting.present port)) c.1.found) whole
      (scanned_in w.setting.present w.state.tape (slots_here w.setting.present port)).1.each
