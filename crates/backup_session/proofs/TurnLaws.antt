-- What a scan that adds dumps lists, in a world.
use Rattle.std.proofs.Common.{◌≡◌, inl, inr, ℕ, ◌<◌, Bool, true, false, not, List, [], ◌∷◌, ◌++◌, length, map, refl, sym, ◌∙◌, ap, subst, arith}
use Rattle.std.specs.Prelude.{All, Contains, nat_lt, nat_le, ◌==◌, ◌&&◌, if◌then◌else◌, Option, None, Result, Ok}
use Rattle.std.specs.List.{list_all}
use Rattle.std.proofs.lemmas.Bool.{or_from}
use Rattle.std.proofs.lemmas.Bool.Decides.{nat_tests}
use Rattle.std.proofs.lemmas.List.Elements.{All-weaker, All-contains, Contains-append_cases, Contains-append_right}
use Rattle.plant_core.specs.Stock.{Stock}
use Rattle.tape_config.specs.declared.port.PortFields.{PortFields}
use Rattle.budb_changes.specs.declared.records.DumpRecordFields.{DumpRecordFields}
use Rattle.budb_changes.specs.declared.change.Change.{Change}
use Rattle.budb_changes.specs.declared.change.Change.TheVariants as change
use Rattle.budb_changes.specs.Bytes.{encoded}
use Rattle.budb_fold.specs.Database.{after, is_whole}
use Rattle.budb_fold.proofs.Behind.{each_behind}
use Rattle.budb_fold.proofs.FoldKeeps.{IsNextDump, fit_parts, kept_after}
use Rattle.group_commands.specs.Groups.{GroupView}
use Rattle.backup_words.specs.declared.command.Command.TheVariants.{Tape}
use Rattle.backup_words.specs.declared.command.TapeCommand.TheVariants.{Scantape}
use Rattle.tape_scan.specs.Slots.{Slot, Located}
use Rattle.tape_scan.specs.Scanned.{IsChosen}
use Rattle.tape_scan.proofs.ListLaws.{contains_filter, of_filter}
use Rattle.tape_answers.specs.Slots.{slot_of}
use Rattle.tape_answers.specs.Assembling.{found_in}
use Rattle.archive_model.specs.Archives.{Archive, listed_of, Holds}
use Rattle.backup_session.specs.Worlds.{World, Turn, at_moment}
use Rattle.backup_session.specs.Scanning.{port_of, slots_here, scans_of, has_wrong_parent, adding, slots_turn, scan_turn}
use Rattle.backup_session.specs.Machine.{done_in, turn}
use Rattle.backup_session.specs.Listing.{may_be_listed, found_changes, IsFullAt, ListsWhole}
use Rattle.backup_session.specs.Again.{HasTheseTapes, IsHeldOn, IsListedBehind}
use Rattle.backup_session.proofs.RecordForms.{found_id}
use Rattle.backup_session.proofs.FoundForms.{scanned_in}
use Rattle.backup_session.proofs.ListingLaws.{Added, adding_lists, with_one}
use Rattle.backup_session.proofs.AgainLaws.{OneReading, found_again}

-- the journal behind the command
log_is : (w : World) → w.groups.open ≡ None → (now offset : ℕ) (port : PortFields) → port_of w.setting.config (after w.log).hosts offset ≡ Ok port
    → (turn w now (Tape (Scantape true offset))).log ≡ (adding (at_moment w now) (found_in (scans_of w.state.tape (slots_here w.setting.present port))).whole).turn.log
unfolding turn slots_turn
log_is w none now offset port is = ap (λ (o : Option GroupView). (done_in (at_moment w now) o (Tape (Scantape true offset))).log) none ∙ ap (λ (r : Result PortFields (List ℕ)). (scan_turn (at_moment w now) true r).log) is

some_ids : (slots : List Slot) (whole : List DumpRecordFields) → All (λ d. (parts : List Located) × IsChosen slots parts d) whole → All (λ d. 0 < d.id) whole
some_ids slots whole each = All-weaker (λ (d : DumpRecordFields). (parts : List Located) × IsChosen slots parts d) (λ (d : DumpRecordFields). 0 < d.id) (λ d c. found_id slots c.0 d c.1.found) whole each

pub scan_lists : (w : World) → w.groups.open ≡ None → (now offset : ℕ) (port : PortFields) → port_of w.setting.config (after w.log).hosts offset ≡ Ok port → ListsWhole w (slots_here w.setting.present port) (turn w now (Tape (Scantape true offset)))
scan_lists w alone now offset port is =
    let slots = slots_here w.setting.present port in
    let scan = scanned_in w.setting.present w.state.tape slots in
    let whole = (found_in (scans_of w.state.tape slots)).whole in
    let added : Added (at_moment w now) whole (adding (at_moment w now) whole).turn.log = adding_lists (at_moment w now) whole (some_ids (map (slot_of w.setting.present w.state.tape) slots) whole scan.1.each) scan.1.ascending in
    let log = log_is w alone now offset port is in
    record {
      whole = whole;
      left = scan.0;
      scanned = scan.1;
      listed = added.listed;
      room = added.room;
      log = log ∙ added.log_is;
      database = ap (λ (cs : List Change). (after cs).listed) log ∙ added.database;
    }

-- ---- dumps that were listed

not_below : (a b : ℕ) → nat_lt a b ≡ true → nat_le b a ≡ false
not_below a b is = grind (arith, nat_tests)

whole_none : (none whole : Bool) → (if none then whole else true) ≡ true → (none && not whole) ≡ false
whole_none true whole is = ap not is
whole_none false whole is = refl

-- no listed dump has a wrong parent
right_parents : (log : List Change) (d : DumpRecordFields) → Contains (after log).listed d → has_wrong_parent d ≡ false
right_parents log d there =
    All-contains (λ (x : DumpRecordFields). has_wrong_parent x ≡ false) (after log).listed d
    (each_behind IsNextDump (λ (x : DumpRecordFields). has_wrong_parent x ≡ false)
    (λ b x fit.
    let f = fit_parts x b fit in
    or_from (nat_le x.id x.parent) ((x.parent == 0) && not (list_all is_whole x.volumes)) (not_below x.parent x.id f.above) (whole_none (x.parent == 0) (list_all is_whole x.volumes) f.whole)) [] (after log).listed (kept_after log).listed) there

full_at : (log : List Change) (listed more : List DumpRecordFields) (d : DumpRecordFields) → Contains more d → IsFullAt log listed more → (e : DumpRecordFields) × Contains more e × (268435456 < length (encoded (log ++ found_changes (listed ++ e ∷ []))))
full_at log listed [] d there full = absurd (omega (arith, there.1))
full_at log listed (e ∷ more) d there full = (e, (0, omega arith, refl), full)

pub listed_again : OneReading → (w : World) → w.groups.open ≡ None → (now offset : ℕ) (port : PortFields) → port_of w.setting.config (after w.log).hosts offset ≡ Ok port → (after w.log).listed ≡ []
    → (stock : Stock) (a : Archive) (records : List DumpRecordFields) → Holds stock a records → HasTheseTapes w stock a
    → (d : DumpRecordFields) → Contains (listed_of a) d → IsHeldOn d (slots_here w.setting.present port) a.slots → IsListedBehind w (slots_here w.setting.present port) (turn w now (Tape (Scantape true offset))) d
listed_again reading w alone now offset port is none stock a records held these d there on =
    let lists = scan_lists w alone now offset port is in
    let t : Turn = turn w now (Tape (Scantape true offset)) in
    let whole : Contains lists.whole d = found_again reading w stock a records held these port lists.whole lists.left lists.scanned d there on in
    let may : may_be_listed (after w.log).listed d ≡ true = ap (λ (l : List DumpRecordFields). may_be_listed l d) none ∙ ap not (right_parents a.log d there) in
    let among : Contains (lists.listed ++ lists.room.more) d = subst (λ (ds : List DumpRecordFields). Contains ds d) lists.room.are (contains_filter (may_be_listed (after w.log).listed) lists.whole d whole may) in
    elim (Contains-append_cases lists.listed lists.room.more d among) [
      | inl listed ↦ inl (subst (λ (ds : List DumpRecordFields). Contains ds d) (sym lists.database) (Contains-append_right (after w.log).listed lists.listed d listed))
      | inr past ↦
          (let full = full_at w.log lists.listed lists.room.more d past lists.room.full in
          let of_whole = of_filter (may_be_listed (after w.log).listed) lists.whole full.0 (subst (λ (ds : List DumpRecordFields). Contains ds full.0) (sym lists.room.are) (Contains-append_right lists.listed lists.room.more full.0 full.1)) in
          let chosen = All-contains (λ (x : DumpRecordFields). (parts : List Located) × IsChosen (map (slot_of w.setting.present w.state.tape) (slots_here w.setting.present port)) parts x) lists.whole full.0 lists.scanned.each of_whole.0 in
          inr (full.0, chosen.0, chosen.1.found, subst (λ (cs : List Change). 268435456 < length (encoded cs)) (sym (ap (λ (cs : List Change). cs ++ change.Found full.0 ∷ []) lists.log ∙ with_one w.log lists.listed full.0)) full.2))
    ]
