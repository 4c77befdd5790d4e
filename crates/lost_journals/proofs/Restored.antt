-- Behind a scan that lists all dumps again a restore gives what it gave before the journal was lost.
use Rattle.std.proofs.Common.{◌≡◌, ℕ, ◌≤◌, true, false, Some, Ok, List, [], ◌∷◌, ◌++◌, length, map, IsTrue, sym, ap, subst, ◌∙◌, arith, inl, inr}
use Rattle.std.specs.Prelude.{Contains, slice_get, ◌&&◌, ◌==◌, is_none}
use Rattle.std.proofs.lemmas.Bool.{and_parts, and_from, eqb-true}
use Rattle.std.proofs.lemmas.List.Elements.{All-contains}
use Rattle.plant_core.specs.Records.{Record}
use Rattle.tape_config.specs.declared.port.PortFields.{PortFields}
use Rattle.budb_changes.specs.declared.records.TapePart.{TapePart}
use Rattle.budb_changes.specs.declared.records.DumpRecordFields.{DumpRecordFields}
use Rattle.budb_changes.specs.declared.change.Change.TheVariants as change
use Rattle.budb_changes.specs.Bytes.{encoded}
use Rattle.budb_fold.specs.Database.{after}
use Rattle.tape_scan.specs.Slots.{Slot, Located, IsFound}
use Rattle.tape_answers.specs.Slots.{slot_of, slots_of}
use Rattle.archive_model.specs.Holding.{place_of, holds}
use Rattle.archive_model.specs.Archives.{Need, listed_of, is_missing, IsDump}
use Rattle.archive_model.proofs.QuietLaws.{held_place}
use Rattle.archive_model.proofs.SlotLaws.{find_is, find_slot, slot_found, some_if}
use Rattle.backup_words.specs.declared.command.Command.TheVariants.{Tape}
use Rattle.backup_words.specs.declared.command.TapeCommand.TheVariants.{Scantape}
use Rattle.backup_session.specs.Worlds.{World, Contents, archive_of, after_turn}
use Rattle.backup_session.specs.Scanning.{port_of, slots_here}
use Rattle.backup_session.specs.Machine.{turn}
use Rattle.backup_session.proofs.ScanLaws.{all_here}
use Rattle.backup_session.specs.Listing.{ListsWhole}
use Rattle.backup_session.specs.Again.{IsHeldOn}
use Rattle.session_archives.specs.Held.{HoldsWorld}
use Rattle.session_archives.proofs.Slots.{slot_told}
use Rattle.lost_journals.specs.Archives.{HasItsContents, ListSame, AreHereToo}
use Rattle.lost_journals.specs.Worlds.{HasTapesAnywhere}
use Rattle.lost_journals.proofs.Quiet.{turn_quiet}
use Rattle.lost_journals.proofs.Again.{ListsAgain, listed_again, was_dump}

module _ (w v : World) (held : HoldsWorld w) (has : HasTapesAnywhere w v) (now offset : ℕ) (port : PortFields) (is : port_of v.setting.config (after v.log).hosts offset ≡ Ok port) (none : (after v.log).listed ≡ [])
    (again : ListsAgain) (lists : ListsWhole v (slots_here v.setting.present port) (turn v now (Tape (Scantape true offset))))
    (known : (d : DumpRecordFields) → IsDump (listed_of (archive_of w)) (archive_of w).slots d → Contains (listed_of (archive_of w)) d × IsHeldOn d (slots_here v.setting.present port) (archive_of v).slots)
    (room : (d : DumpRecordFields) (parts : List Located) → IsFound (map (slot_of v.setting.present v.state.tape) (slots_here v.setting.present port)) parts d → length (encoded ((turn v now (Tape (Scantape true offset))).log ++ change.Found d ∷ [])) ≤ 268435456) where
  abbrev behind : World
  behind = after_turn v (turn v now (Tape (Scantape true offset)))

  pub same_list : ListSame (archive_of w) (archive_of behind)
  same_list = record {
    again = λ d there. elim (listed_again w v held has now offset port is none again d there (known d (inl there)).1) [
      | inl listed ↦ listed
      | inr full ↦ absurd (omega (arith, full.3, room full.0 full.1 full.2))
    ];
    others = λ d there. (known d (was_dump w v held has now offset port is none lists d there)).0;
  }

  pub same_contents : HasItsContents (archive_of w) (archive_of behind)
  same_contents d name is_dump = ap (λ (c : Contents). c d.id name) (turn_quiet v now true offset).contents ∙ has.contents d name is_dump

  same_slots : (archive_of behind).slots ≡ (archive_of v).slots
  same_slots = ap (λ (tape : ℕ → List Record). slots_of v.setting.slots v.setting.present tape) (turn_quiet v now true offset).tape

  -- a slot of the coordinator that is here
  here_at : (k : ℕ) (s : Slot) → Contains (slots_here v.setting.present port) k → slice_get (archive_of v).slots k ≡ Some s → s.here ≡ true
  here_at k s there at =
      let present : IsTrue (v.setting.present k) = All-contains (λ (n : ℕ). IsTrue (v.setting.present n)) (slots_here v.setting.present port) k (all_here v.setting.present _) there in
      ap (λ (x : Slot). x.here) (slot_told v.setting.present v.state.tape v.setting.slots k s at).1 ∙ present

  here_for : (n : Need) → Contains (listed_of (archive_of w)) n.dump → is_missing (archive_of w).slots n ≡ false → is_missing (archive_of v).slots n ≡ false
  here_for n there found =
      let x = some_if _ found in
      let old = find_slot (λ (s : Slot). s.here && holds n.dump n.tape s.items) 0 (archive_of w).slots x.0 x.1 in
      let place = held_place (place_of n.dump n.tape) n.dump n.tape x.0.1.items (and_parts x.0.1.here (holds n.dump n.tape x.0.1.items) old.2).1 in
      let part = find_is (λ (p : TapePart). p.tape == n.tape) n.dump.tapes place.0 place.1 in
      let on = (known n.dump (inl there)).1 place.0 part.0 in
      let held_here : holds n.dump n.tape on.1.items ≡ true = subst (λ (tape : ℕ). holds n.dump tape on.1.items ≡ true) (eqb-true place.0.tape n.tape part.1) on.4 in
      let y = slot_found (λ (s : Slot). s.here && holds n.dump n.tape s.items) 0 (archive_of v).slots on.0 on.1 on.3 (and_from on.1.here (holds n.dump n.tape on.1.items) (here_at on.0 on.1 on.2 on.3) held_here) in
      ap is_none y.1

  pub here_too : AreHereToo (archive_of w) (archive_of behind)
  here_too n there found = subst (λ (slots : List Slot). is_missing slots n ≡ false) (sym same_slots) (here_for n there found)
