-- A journal that is lost is made again by a scan of the tapes.
use Rattle.std.proofs.Common.{◌≡◌, ℕ, zero, suc, ◌<◌, true, false, Some, None, Ok, List, [], ◌∷◌, ◌++◌, map, get_or, IsTrue, refl, sym, ap, subst, ◌∙◌}
use Rattle.std.specs.Prelude.{All, Contains, slice_get, not, ◌&&◌, ◌==◌, nat_le}
use Rattle.std.specs.List.{list_all}
use Rattle.std.proofs.lemmas.Bool.{and_parts, or_parts, leb-false}
use Rattle.std.proofs.lemmas.List.Elements.{All-head, All-tail, All-contains, Contains-append_left}
use Rattle.plant_core.specs.Crashes.{seen_in}
use Rattle.plant_core.specs.Stock.{Stock}
use Rattle.tape_config.specs.declared.port.PortFields.{PortFields}
use Rattle.budb_changes.specs.declared.records.DumpRecordFields.{DumpRecordFields}
use Rattle.budb_fold.specs.Database.{after, is_whole}
use Rattle.tape_scan.specs.Slots.{Slot, Located, IsFound}
use Rattle.tape_scan.specs.Scanned.{IsChosen}
use Rattle.tape_scan.proofs.ListLaws.{of_filter}
use Rattle.tape_answers.specs.Slots.{slot_of}
use Rattle.archive_model.specs.Archives.{Archive, listed_of, IsDump, Holds}
use Rattle.archive_model.proofs.AgainLaws.{found_also}
use Rattle.backup_words.specs.declared.command.Command.TheVariants.{Tape}
use Rattle.backup_words.specs.declared.command.TapeCommand.TheVariants.{Scantape}
use Rattle.backup_session.specs.Worlds.{World, archive_of}
use Rattle.backup_session.specs.Scanning.{port_of, slots_here, has_wrong_parent}
use Rattle.backup_session.specs.Machine.{turn}
use Rattle.backup_session.proofs.ScanLaws.{all_here}
use Rattle.backup_session.specs.Listing.{may_be_listed, ListsWhole}
use Rattle.backup_session.specs.Again.{HasTheseTapes, IsHeldOn, IsListedBehind}
use Rattle.session_archives.specs.Held.{HoldsWorld}
use Rattle.session_archives.proofs.Slots.{slot_there}
use Rattle.lost_journals.specs.Worlds.{HasTapesAnywhere}
use Rattle.lost_journals.proofs.Alone.{found_was}
use Rattle.lost_journals.proofs.Standing.{its_tapes, under_same}

-- what scans list again, by the law
abbrev pub ListsAgain : Type 0
ListsAgain =
    (w : World) → w.groups.open ≡ None → (now offset : ℕ) (port : PortFields) → port_of w.setting.config (after w.log).hosts offset ≡ Ok port → (after w.log).listed ≡ []
    → (stock : Stock) (a : Archive) (records : List DumpRecordFields) → Holds stock a records → HasTheseTapes w stock a
    → (d : DumpRecordFields) → Contains (listed_of a) d → IsHeldOn d (slots_here w.setting.present port) a.slots → IsListedBehind w (slots_here w.setting.present port) (turn w now (Tape (Scantape true offset))) d

right_above : (d : DumpRecordFields) → not (has_wrong_parent d) ≡ true → d.parent < d.id
right_above d right = leb-false d.id d.parent (or_parts (nat_le d.id d.parent) ((d.parent == 0) && not (list_all is_whole d.volumes)) (off (has_wrong_parent d) right)).0
  where
    off : (b : _) → not b ≡ true → b ≡ false
    off true is = sym is
    off false is = refl

module _ (w v : World) (held : HoldsWorld w) (has : HasTapesAnywhere w v) where
  -- the world as it would be with the other's journal
  abbrev as_if : World
  as_if = record {
    setting = v.setting;
    log = w.log;
    time = v.time;
    cell = v.cell;
    contents = v.contents;
    state = record { log = w.state.log; tape = v.state.tape; told = v.state.told; log_settled = w.state.log_settled; settled = v.state.settled };
    groups = v.groups;
  }

  as_if_held : HoldsWorld as_if
  as_if_held =
      under_same w as_if held
      (record { place = has.place; tapes = has.tapes; once = has.once; beyond = has.beyond; here = has.here; alone = has.alone; settled = record { log = held.settled.log; tapes = has.settled.tapes }; contents = has.contents }) refl refl

  these : HasTheseTapes v (seen_in as_if.state) (archive_of as_if)
  these k here = (refl, (slot_of v.setting.present v.state.tape k, slot_there v.setting.present v.state.tape v.setting.slots k (has.here k here).0))

  module _ (now offset : ℕ) (port : PortFields) (is : port_of v.setting.config (after v.log).hosts offset ≡ Ok port) (none : (after v.log).listed ≡ []) where
    -- each dump that was listed, and whose tapes are here, is listed again
    pub listed_again : ListsAgain → (d : DumpRecordFields) → Contains (listed_of (archive_of w)) d → IsHeldOn d (slots_here v.setting.present port) (archive_of v).slots
        → IsListedBehind v (slots_here v.setting.present port) (turn v now (Tape (Scantape true offset))) d
    listed_again again d there on = again v has.alone now offset port is none (seen_in as_if.state) (archive_of as_if) as_if_held.records as_if_held.holds.seen these d there on

    -- ---- what is listed was a dump

    places : (slots : List ℕ) → All (λ k. IsTrue (v.setting.present k)) slots → (j : ℕ) (s : Slot) → slice_get (map (slot_of v.setting.present v.state.tape) slots) j ≡ Some s → slice_get (archive_of v).slots (get_or slots j 0) ≡ Some s
    places [] here j s at = absurd (cc)
    places (k ∷ slots) here zero s at = slot_there v.setting.present v.state.tape v.setting.slots k (has.here k (All-head (λ (n : ℕ). IsTrue (v.setting.present n)) k slots here)).0 ∙ at
    places (k ∷ slots) here (suc j) s at = places slots (All-tail (λ (n : ℕ). IsTrue (v.setting.present n)) k slots here) j s at

    abbrev few : List Slot
    few = map (slot_of v.setting.present v.state.tape) (slots_here v.setting.present port)

    found_as : (parts : List Located) (d : DumpRecordFields) → IsFound few parts d → d.parent < d.id → IsDump (listed_of (archive_of w)) (archive_of w).slots d
    found_as parts d found above =
        let all = found_also (archive_of v).slots few (λ j. get_or (slots_here v.setting.present port) j 0) (places (slots_here v.setting.present port) (all_here v.setting.present _)) parts d found in
        found_was (seen_in w.state) (archive_of w) (archive_of v) held.records held.holds.seen (its_tapes w v held has) all.0 d all.1 above

    pub was_dump : ListsWhole v (slots_here v.setting.present port) (turn v now (Tape (Scantape true offset))) → (d : DumpRecordFields) → Contains (after (turn v now (Tape (Scantape true offset))).log).listed d → IsDump (listed_of (archive_of w)) (archive_of w).slots d
    was_dump lists d there =
        let mine : Contains lists.listed d = subst (λ (ds : List DumpRecordFields). Contains ds d) (lists.database ∙ ap (λ (ds : List DumpRecordFields). ds ++ lists.listed) none) there in
        let among = of_filter (may_be_listed (after v.log).listed) lists.whole d (subst (λ (ds : List DumpRecordFields). Contains ds d) (sym lists.room.are) (Contains-append_left lists.listed lists.room.more d mine)) in
        let chosen = All-contains (λ (x : DumpRecordFields). (parts : List Located) × IsChosen few parts x) lists.whole d lists.scanned.each among.0 in
        let right : not (has_wrong_parent d) ≡ true = (and_parts _ (not (has_wrong_parent d)) among.1).1 in
        found_as chosen.0 d chosen.1.found (right_above d right)
