-- A scan that adds what it finds keeps the order: each dump that it adds lay there, ends on its last tape, and time takes it in.
use Rattle.std.proofs.Common.{◌≡◌, inr, ℕ, ◌≤◌, max, Bool, true, false, List, [], ◌∷◌, ◌++◌, map, IsTrue, refl, sym, ap, subst, arith}
use Rattle.std.specs.Prelude.{All, nat_lt, if◌then◌else◌, Result, Ok, Err}
use Rattle.std.specs.List.{fold, flat_map, list_all}
use Rattle.std.proofs.lemmas.List.Elements.{All-head, All-tail}
use Rattle.byte_formats.specs.Forms.{IsFour}
use Rattle.plant_core.specs.Crashes.{State}
use Rattle.plant_effects.proofs.States.{come_append}
use Rattle.tape_config.specs.declared.port.PortFields.{PortFields}
use Rattle.tape_scan.specs.declared.sections.Sections.{Sections}
use Rattle.tape_scan.specs.declared.assembling.Found.{Found}
use Rattle.tape_answers.specs.Slots.{slot_of, slots_of}
use Rattle.tape_answers.specs.Assembling.{found_in}
use Rattle.budb_changes.specs.declared.records.VolRecordFields.{VolRecordFields}
use Rattle.budb_changes.specs.declared.records.DumpRecordFields.{DumpRecordFields}
use Rattle.budb_changes.specs.declared.change.Change.TheVariants as change
use Rattle.budb_changes.specs.Forms.{IsVolRecord, IsDumpRecord}
use Rattle.budb_fold.specs.Database.{after, has_dump, is_whole, fits_record}
use Rattle.archive_model.proofs.AfterLaws.{recorded_behind}
use Rattle.backup_replies.specs.Texts.{ok_line}
use Rattle.backup_replies.specs.Scans.{found_line}
use Rattle.backup_session.specs.Opening.{with_clone}
use Rattle.backup_session.specs.Worlds.{World, Turn, archive_of, before_reply}
use Rattle.backup_session.specs.Turns.{said, length_with}
use Rattle.backup_session.specs.Scanning.{stopped_line, left_line, slots_here, scans_of, has_wrong_parent, time_with, Step, says, recorded, added_if, then_turn, with_front, with_dump, adding, dumps_turn, then_said, tapes_turn, slots_turn, scan_turn}
use Rattle.backup_session.proofs.ScanLaws.{all_here}
use Rattle.session_archives.proofs.Kept.{Finds, finds_behind}
use Rattle.dump_archives.proofs.Growing.{greatest_more}
use Rattle.session_archives.proofs.Bringing.{BringsNone, brings_then, listing_brings}
use Rattle.session_archives.proofs.Scans.{IsThere, StepKeeps, says_keeps, record_fits, is_unlisted, there_behind, step_keeps, Assembles, all_there, HaveForms}
use Rattle.session_archives.proofs.ReadyTapes.{KeepsOrder, said_orders}

-- ---- time

clones_later : (time : ℕ) (vs : List VolRecordFields) → time ≤ fold with_clone time vs
clones_later time [] = omega arith
clones_later time (v ∷ vs) = omega (arith, clones_later (max time v.clone) vs)

clones_four : (time : ℕ) (vs : List VolRecordFields) → IsFour time → All IsVolRecord vs → IsFour (fold with_clone time vs)
clones_four time [] four forms = four
clones_four time (v ∷ vs) four forms =
    let form = All-head IsVolRecord v vs forms in
    clones_four (max time v.clone) vs (omega (arith, four, form.clone)) (All-tail IsVolRecord v vs forms)

time_later : (time : ℕ) (d : DumpRecordFields) → time ≤ time_with time d
time_later time d = omega (arith, clones_later (max time d.id) d.volumes)

time_four : (time : ℕ) (d : DumpRecordFields) → IsFour time → IsDumpRecord d → IsFour (time_with time d)
time_four time d four form = clones_four (max time d.id) d.volumes (omega (arith, four, form.id)) form.each_volume

-- ---- one dump

module _ (w : World) (finds : Finds w) (d : DumpRecordFields) (there : IsThere w d) where
  recorded_orders : has_dump (after w.log).listed d.id ≡ false → has_wrong_parent d ≡ false → KeepsOrder w (recorded w d)
  recorded_orders new right =
      let log = w.log ++ change.Found d ∷ [] in
      let un = is_unlisted w finds d there new right in
      let fit : fits_record d (after w.log).listed ≡ true = record_fits d.id d.parent (has_dump (after w.log).listed d.id) (list_all is_whole d.volumes) right new in
      let more : (after log).listed ≡ (after w.log).listed ++ d ∷ [] = recorded_behind w.log (change.Found d) d (inr refl) fit in
      record {
        brings = listing_brings (archive_of w) log d more un (greatest_more w.log (change.Found d ∷ []));
        cell = refl;
        later = time_later w.time d;
        four = λ four. time_four w.time d four there.form;
      }

  either : (b : Bool) (s t : Step) → (b ≡ true → KeepsOrder w s.turn) → (b ≡ false → KeepsOrder w t.turn) → KeepsOrder w (if b then s else t).turn
  either true s t is_s is_t = is_s refl
  either false s t is_s is_t = is_t refl

  one_orders : (full : Bool) → KeepsOrder w (added_if w full d).turn
  one_orders full =
      either (has_dump (after w.log).listed d.id) _ _ (λ known. said_orders w _) (λ new.
      either (has_wrong_parent d) _ _ (λ wrong. said_orders w _) (λ right.
      either full _ _ (λ is_full. said_orders w []) (λ has_room.
      either (nat_lt 268435456 (length_with w (change.Found d ∷ []))) _ _ (λ long. said_orders w _) (λ short. recorded_orders new right))))

-- ---- one after the other

same_state : (w : World) (s t : Turn) → archive_of (before_reply (before_reply w s) t) ≡ archive_of (before_reply w (then_turn s t))
same_state w s t = ap (λ (x : State). record { log = t.log; slots = slots_of w.setting.slots w.setting.present x.tape; contents = t.contents }) (sym (come_append s.effects t.effects w.state))

pub both_order : (w : World) (s t : Turn) → KeepsOrder w s → KeepsOrder (before_reply w s) t → KeepsOrder w (then_turn s t)
both_order w s t first second = record {
  brings = subst (BringsNone (archive_of w)) (same_state w s t) (brings_then (archive_of w) (archive_of (before_reply w s)) (archive_of (before_reply (before_reply w s) t)) first.brings second.brings);
  cell = refl;
  later = omega (arith, first.later, second.later);
  four = λ four. second.four (first.four four);
}

front_orders : (w : World) (text : List ℕ) (t : Turn) → KeepsOrder w t → KeepsOrder w (with_front text t)
front_orders w text t order = record { brings = order.brings; cell = order.cell; later = order.later; four = order.four }

behind_orders : (w : World) (t : Turn) (text : List ℕ) → KeepsOrder w t → KeepsOrder w (then_said t text)
behind_orders w t text order = record { brings = order.brings; cell = order.cell; later = order.later; four = order.four }

step_orders : (w : World) (s : Step) (d : DumpRecordFields) → Finds w → StepKeeps w s → KeepsOrder w s.turn → IsThere w d → KeepsOrder w (with_dump w s d).turn
step_orders w s d finds kept so_far there =
    let v = before_reply w s.turn in
    let next = added_if v s.full d in
    both_order w s.turn (with_front (found_line d) next.turn) so_far (front_orders v (found_line d) next.turn (one_orders v (finds_behind w s.turn finds kept.turn) d (there_behind w s d kept there) s.full))

steps_order : (w : World) (s : Step) (ds : List DumpRecordFields) → Finds w → StepKeeps w s → KeepsOrder w s.turn → All (IsThere w) ds → KeepsOrder w (fold (with_dump w) s ds).turn
steps_order w s [] finds kept so_far all = so_far
steps_order w s (d ∷ ds) finds kept so_far all =
    let there = All-head (IsThere w) d ds all in
    steps_order w (with_dump w s d) ds finds (step_keeps w s d finds kept there) (step_orders w s d finds kept so_far there) (All-tail (IsThere w) d ds all)

adding_orders : (w : World) (ds : List DumpRecordFields) → Finds w → All (IsThere w) ds → KeepsOrder w (adding w ds).turn
unfolding adding
adding_orders w ds finds all = steps_order w (says w false []) ds finds (says_keeps w finds false []) (said_orders w []) all

dumps_order : (w : World) (dbadd : Bool) (ds : List DumpRecordFields) → Finds w → All (IsThere w) ds → KeepsOrder w (dumps_turn w dbadd ds)
dumps_order w true ds finds all = adding_orders w ds finds all
dumps_order w false ds finds all = said_orders w _

-- a turn behind one that is but a text
behind_text_orders : (w : World) (text : List ℕ) (t : Turn) → KeepsOrder w t → KeepsOrder (before_reply w (said w text)) t
behind_text_orders w text t order = record { brings = order.brings; cell = order.cell; later = order.later; four = order.four }

tapes_order : (w : World) (dbadd : Bool) (tapes : List Sections) (found : Found) → Finds w → All (IsThere w) found.whole → KeepsOrder w (tapes_turn w dbadd tapes found)
tapes_order w dbadd tapes found finds all =
    let text = flat_map stopped_line tapes in
    let t = dumps_turn w dbadd found.whole in
    behind_orders w (then_turn (said w text) t) (flat_map left_line found.parts ++ ok_line)
    (both_order w (said w text) t (said_orders w text) (behind_text_orders w text t (dumps_order w dbadd found.whole finds all)))

slots_order : Assembles → (w : World) (dbadd : Bool) (slots : List ℕ) → Finds w → All (λ k. IsTrue (w.setting.present k)) slots → All IsDumpRecord (found_in (scans_of w.state.tape slots)).whole → KeepsOrder w (slots_turn w dbadd slots)
unfolding slots_turn
slots_order assembles w dbadd slots finds here forms =
    let scanned = assembles.found (map (slot_of w.setting.present w.state.tape) slots) (scans_of w.state.tape slots) (assembles.scans w.setting.present w.state.tape slots) in
    tapes_order w dbadd (scans_of w.state.tape slots) (found_in (scans_of w.state.tape slots)) finds
    (all_there w finds slots here (found_in (scans_of w.state.tape slots)).whole scanned.1.each forms)

pub scan_orders : Assembles → (w : World) (dbadd : Bool) (port : Result PortFields (List ℕ)) → Finds w → HaveForms w port → KeepsOrder w (scan_turn w dbadd port)
scan_orders assembles w dbadd (Err text) finds forms = said_orders w text
scan_orders assembles w dbadd (Ok port) finds forms = slots_order assembles w dbadd (slots_here w.setting.present port) finds (all_here w.setting.present _) forms
