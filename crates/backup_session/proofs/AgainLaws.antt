-- Dumps that an archive has listed are found again on its tapes.
use Rattle.std.proofs.Common.{◌≡◌, ℕ, zero, suc, Option, Some, None, List, [], ◌∷◌, map, get_or, sym, ◌∙◌, ap, subst, arith}
use Rattle.std.specs.Prelude.{All, Contains, slice_get, IsTrue}
use Rattle.std.proofs.lemmas.List.Elements.{All-head, All-tail}
use Rattle.plant_core.specs.Records.{Record}
use Rattle.plant_core.specs.Stock.{Stock}
use Rattle.tape_config.specs.declared.port.PortFields.{PortFields}
use Rattle.budb_changes.specs.declared.records.DumpRecordFields.{DumpRecordFields}
use Rattle.tape_text.specs.Items.{Item, Read}
use Rattle.tape_scan.specs.Sections.{IsScanOf}
use Rattle.tape_scan.specs.Slots.{Slot, Located}
use Rattle.tape_scan.specs.Scanned.{Scanned}
use Rattle.tape_scan.specs.Assembled.{AreScans}
use Rattle.tape_scan.proofs.AnswerLaws.{whole_once}
use Rattle.tape_answers.specs.Reading.{items_of}
use Rattle.tape_answers.specs.Scanning.{sections_of}
use Rattle.tape_answers.specs.Assembling.{found_in}
use Rattle.tape_answers.specs.Slots.{slot_of}
use Rattle.tape_answers.proofs.ReadingLaws.{tape_read}
use Rattle.tape_answers.proofs.ScanningLaws.{slots_scanned}
use Rattle.tape_answers.proofs.FoundLaws.{found_there}
use Rattle.archive_model.specs.Holding.{holds}
use Rattle.archive_model.specs.Archives.{Archive, listed_of, IsHeld, Holds}
use Rattle.archive_model.proofs.AgainLaws.{scanned_again, scanned_equal}
use Rattle.backup_session.specs.Worlds.{World}
use Rattle.backup_session.specs.Scanning.{slots_here, scans_of}
use Rattle.backup_session.proofs.ScanLaws.{all_here}
use Rattle.backup_session.specs.Again.{HasTheseTapes, IsHeldOn}
use Rattle.backup_session.proofs.FoundForms.{forms, scanned_in}

abbrev pub OneReading : Type 0
OneReading = (rs : List Record) (is js : List Item) → Read rs is → Read rs js → is ≡ js

-- the archive's slot of a number, where it has one
slot_by : Option Slot → Slot → Slot
slot_by None other = other
slot_by (Some s) other = s

module _ (reading : OneReading) (w : World) (stock : Stock) (a : Archive) (records : List DumpRecordFields) (held : Holds stock a records) (these : HasTheseTapes w stock a) where
  own : ℕ → Slot
  own k = slot_by (slice_get a.slots k) (slot_of w.setting.present w.state.tape k)

  own_is : (k : ℕ) (s : Slot) → slice_get a.slots k ≡ Some s → own k ≡ s
  unfolding own slot_by
  own_is k s at = ap (λ (o : Option Slot). slot_by o (slot_of w.setting.present w.state.tape k)) at

  own_at : (k : ℕ) → IsTrue (w.setting.present k) → slice_get a.slots k ≡ Some (own k)
  own_at k here = (let s = (these k here).1 in s.1 ∙ ap (λ (x : Slot). Some x) (sym (own_is k s.0 s.1)))

  own_items : (k : ℕ) → IsTrue (w.setting.present k) → (own k).items ≡ items_of (w.state.tape k)
  own_items k here =
      reading (w.state.tape k) (own k).items (items_of (w.state.tape k)) (subst (λ (rs : List Record). Read rs (own k).items) (these k here).0 (held.tapes k (own k) (own_at k here))) (tape_read forms (w.state.tape k))

  own_scans : (slots : List ℕ) → All (λ k. IsTrue (w.setting.present k)) slots → AreScans (map own slots) (scans_of w.state.tape slots)
  own_scans [] here = tt
  own_scans (k ∷ slots) here = (
    subst (λ (is : List Item). IsScanOf (sections_of k (w.state.tape k)).slot is (sections_of k (w.state.tape k))) (sym (own_items k (All-head (λ (n : ℕ). IsTrue (w.setting.present n)) k slots here))) (slots_scanned forms w.setting.present w.state.tape (k ∷ [])).0,
    own_scans slots (All-tail (λ (n : ℕ). IsTrue (w.setting.present n)) k slots here),
  )

  -- each of these slots is one of the archive's
  places : (slots : List ℕ) → All (λ k. IsTrue (w.setting.present k)) slots → (j : ℕ) (s : Slot) → slice_get (map own slots) j ≡ Some s → slice_get a.slots (get_or slots j 0) ≡ Some s
  places [] here j s at = absurd (cc)
  places (k ∷ slots) here zero s at = own_at k (All-head (λ (n : ℕ). IsTrue (w.setting.present n)) k slots here) ∙ at
  places (k ∷ slots) here (suc j) s at = places slots (All-tail (λ (n : ℕ). IsTrue (w.setting.present n)) k slots here) j s at

  own_place : (slots : List ℕ) (k : ℕ) → Contains slots k → (j : ℕ) × (slice_get (map own slots) j ≡ Some (own k))
  own_place [] k there = absurd (omega (arith, there.1))
  own_place (n ∷ slots) k (zero, within, is) = (0, ap (λ (m : ℕ). Some (own m)) is)
  own_place (n ∷ slots) k (suc j, within, is) = (let rest = own_place slots k (j, omega (arith, within), is) in (suc rest.0, rest.1))

  held_there : (slots : List ℕ) (d : DumpRecordFields) → IsHeldOn d slots a.slots → IsHeld d (map own slots)
  held_there slots d on p tape =
      let h = on p tape in
      let j = own_place slots h.0 h.2 in
      (j.0, own h.0, j.1, ap (λ (s : Slot). holds d p.tape s.items) (own_is h.0 h.1 h.3) ∙ h.4)

  module _ (port : PortFields) (whole : List DumpRecordFields) (left : List Located) (scan : Scanned (map (slot_of w.setting.present w.state.tape) (slots_here w.setting.present port)) whole left) where
    abbrev slots : List ℕ
    slots = slots_here w.setting.present port

    here : All (λ k. IsTrue (w.setting.present k)) (slots_here w.setting.present port)
    here = all_here w.setting.present _

    found_here : (others : List Located) × Scanned (map own slots) (found_in (scans_of w.state.tape slots)).whole others
    found_here = (let found = found_there (map own slots) (scans_of w.state.tape slots) (own_scans slots here) in (found.0, found.1))

    same_whole : (found_in (scans_of w.state.tape slots)).whole ≡ whole
    same_whole = (let own = scanned_in w.setting.present w.state.tape slots in whole_once (map (slot_of w.setting.present w.state.tape) slots) (found_in (scans_of w.state.tape slots)).whole whole own.0 left own.1 scan)

    own_scan : Scanned (map own slots) whole found_here.0
    own_scan = subst (λ (ds : List DumpRecordFields). Scanned (map own slots) ds found_here.0) same_whole found_here.1

    pub found_again : (d : DumpRecordFields) → Contains (listed_of a) d → IsHeldOn d (slots_here w.setting.present port) a.slots → Contains whole d
    found_again d listed on =
        scanned_again (listed_of a) records a.slots a.contents held.kept (map own slots) (λ j. get_or slots j 0) (places slots here) whole found_here.0 own_scan d listed (held_there slots d on)

    pub found_equal : (d e : DumpRecordFields) → Contains (listed_of a) d → Contains whole e → e.id ≡ d.id → e ≡ d
    found_equal = scanned_equal (listed_of a) records a.slots a.contents held.kept (map own slots) (λ j. get_or slots j 0) (places slots here) whole found_here.0 own_scan
