-- A scan that adds what it finds keeps the archive: each dump that it adds lies whole on the plant's tapes, and settled.
use Rattle.std.proofs.Common.{◌≡◌, ℕ, zero, suc, ◌<◌, Bool, true, false, not, List, [], ◌∷◌, ◌++◌, map, IsTrue, refl, sym, ap, subst, ◌∙◌, arith}
use Rattle.std.specs.Prelude.{All, Some, slice_get, nat_lt, nat_le, ◌&&◌, ◌||◌, ◌==◌, if◌then◌else◌, Result, Ok, Err}
use Rattle.std.specs.List.{fold, list_all, flat_map}
use Rattle.std.proofs.lemmas.Bool.{leb-false, lt-ltb, ne_eqb, or_parts}
use Rattle.std.proofs.lemmas.List.Elements.{All-nil, All-cons, All-head, All-tail}
use Rattle.plant_core.specs.Records.{Record}
use Rattle.plant_core.specs.Crashes.{State, IsSettled}
use Rattle.plant_core.specs.Effects.{come}
use Rattle.plant_effects.proofs.States.{come_append}
use Rattle.tape_config.specs.declared.port.PortFields.{PortFields}
use Rattle.tape_scan.specs.declared.sections.Sections.{Sections}
use Rattle.tape_scan.specs.declared.assembling.Found.{Found}
use Rattle.tape_scan.specs.Slots.{Slot, Located, IsFound}
use Rattle.tape_scan.specs.Scanned.{Scanned, IsChosen}
use Rattle.tape_scan.specs.Assembled.{AreScans, part_id}
use Rattle.tape_answers.specs.Slots.{slot_of, slots_of}
use Rattle.tape_answers.specs.Scanning.{sections_of}
use Rattle.tape_answers.specs.Assembling.{found_in}
use Rattle.budb_changes.specs.declared.records.DumpRecordFields.{DumpRecordFields}
use Rattle.budb_changes.specs.declared.change.Change.TheVariants as change
use Rattle.budb_changes.specs.Bytes.{encoded}
use Rattle.budb_changes.specs.Forms.{IsDumpRecord, IsChange, AreChanges}
use Rattle.budb_fold.specs.Database.{after, has_dump, is_whole, fits_record}
use Rattle.archive_model.specs.Archives.{IsUnlisted}
use Rattle.archive_model.proofs.AgainLaws.{found_also}
use Rattle.backup_replies.specs.Texts.{ok_line}
use Rattle.backup_replies.specs.Scans.{found_line}
use Rattle.backup_session.specs.Worlds.{World, Turn, Contents, before_reply}
use Rattle.backup_session.specs.Turns.{said, length_with}
use Rattle.backup_session.specs.Scanning.{stopped_line, left_line, slots_here, scans_of, has_wrong_parent, Step, says, recorded, added_if, then_turn, with_front, with_dump, adding, dumps_turn, then_said, tapes_turn, slots_turn, scan_turn}
use Rattle.backup_session.proofs.Settling.{settled_commit}
use Rattle.backup_session.proofs.ScanLaws.{all_here}
use Rattle.script_journals.proofs.Following.{own_bytes}
use Rattle.session_archives.proofs.Slots.{slot_there}
use Rattle.session_archives.proofs.Keeping.{Keeps, keeps_then}
use Rattle.session_archives.proofs.Knowing.{adds_then}
use Rattle.session_archives.proofs.Effects.{found_at, settled_dump}
use Rattle.session_archives.proofs.Kept.{TurnKeeps, Finds, finds_behind, said_keeps}

-- ---- turns behind one another

pub both_keep : (w : World) (s t : Turn) → TurnKeeps w s → TurnKeeps (before_reply w s) t → TurnKeeps w (then_turn s t)
both_keep w s t first second = record {
  keeps = keeps_then w.setting.slots w.setting.present w.contents s.effects t.effects w.state w.log s.log t.log first.keeps
      (subst (λ (c : Contents). Keeps w.setting.slots w.setting.present c s.log (come s.effects w.state) t.effects t.log) first.contents second.keeps);
  settled = subst IsSettled (sym (come_append s.effects t.effects w.state)) second.settled;
  contents = second.contents ∙ first.contents;
  adds = adds_then s.effects t.effects w.log s.log t.log first.adds second.adds;
}

front_keeps : (w : World) (text : List ℕ) (t : Turn) → TurnKeeps w t → TurnKeeps w (with_front text t)
front_keeps w text t keeps = record { keeps = keeps.keeps; settled = keeps.settled; contents = keeps.contents; adds = keeps.adds }

behind_keeps : (w : World) (t : Turn) (text : List ℕ) → TurnKeeps w t → TurnKeeps w (then_said t text)
behind_keeps w t text keeps = record { keeps = keeps.keeps; settled = keeps.settled; contents = keeps.contents; adds = keeps.adds }

-- ---- a dump that lies whole on the plant's tapes, and has the form of a record

pub record IsThere (w : World) (d : DumpRecordFields) : Type 0 where
  pub parts : List Located
  pub found : IsFound (slots_of w.setting.slots w.setting.present w.state.tape) parts d
  pub form : IsDumpRecord d

-- a step keeps the archive, and the tapes stay
pub record StepKeeps (w : World) (s : Step) : Type 0 where
  pub turn : TurnKeeps w s.turn
  pub tape : (come s.turn.effects w.state).tape ≡ w.state.tape

pub says_keeps : (w : World) → Finds w → (full : Bool) (text : List ℕ) → StepKeeps w (says w full text)
says_keeps w finds full text = record { turn = said_keeps w finds text; tape = refl }

either : (w : World) (b : Bool) (s t : Step) → (b ≡ true → StepKeeps w s) → (b ≡ false → StepKeeps w t) → StepKeeps w (if b then s else t)
either w true s t is_s is_t = is_s refl
either w false s t is_s is_t = is_t refl

-- one whose parent isn't wrong, and whose id isn't listed, has a record that fits
fits_by : (zero has below none whole : Bool) → zero ≡ false → has ≡ false → below ≡ true → (none && not whole) ≡ false → (not zero && not has && below && (if none then whole else true)) ≡ true
fits_by false false true true true z h b n = refl
fits_by false false true true false z h b n = absurd (cc)
fits_by false false true false whole z h b n = refl
fits_by false false false none whole z h b n = absurd (cc)
fits_by false true below none whole z h b n = absurd (cc)
fits_by true has below none whole z h b n = absurd (cc)

pub record_fits : (id parent : ℕ) (has whole : Bool) → (nat_le id parent || ((parent == 0) && not whole)) ≡ false → has ≡ false → (not (id == 0) && not has && nat_lt parent id && (if parent == 0 then whole else true)) ≡ true
record_fits id parent has whole right unlisted =
    let parts = or_parts (nat_le id parent) ((parent == 0) && not whole) right in
    let below : parent < id = leb-false id parent parts.0 in
    fits_by (id == 0) has (nat_lt parent id) (parent == 0) whole (ne_eqb id 0 (λ none. omega (arith, below, none))) unlisted (lt-ltb parent id below) parts.1

module _ (w : World) (finds : Finds w) (d : DumpRecordFields) (there : IsThere w d) where
  pub is_unlisted : has_dump (after w.log).listed d.id ≡ false → has_wrong_parent d ≡ false → IsUnlisted (after w.log).listed (slots_of w.setting.slots w.setting.present w.state.tape) d
  is_unlisted new right = record { parts = there.parts; found = there.found; unlisted = new; above = leb-false d.id d.parent (or_parts (nat_le d.id d.parent) ((d.parent == 0) && not (list_all is_whole d.volumes)) right).0 }

  pub recorded_keeps : has_dump (after w.log).listed d.id ≡ false → has_wrong_parent d ≡ false → StepKeeps w (record { turn = recorded w d; full = false })
  recorded_keeps new right =
      let changes = change.Found d ∷ [] in
      let form : AreChanges (change.Found d ∷ []) = All-cons IsChange (change.Found d) [] there.form (All-nil IsChange) in
      let un = is_unlisted new right in
      let fit : fits_record d (after w.log).listed ≡ true = record_fits d.id d.parent (has_dump (after w.log).listed d.id) (list_all is_whole d.volumes) right new in
      let settled = settled_dump w.setting.slots w.setting.present w.contents w.state w.log d finds.holds finds.settled un in
      record {
        turn = record {
          keeps = (finds.holds, (changes, own_bytes changes form, (found_at w.setting.slots w.setting.present w.contents w.state w.log d finds.holds form fit un settled, refl)));
          settled = settled_commit (encoded changes) w.state finds.settled;
          contents = refl;
          adds = (changes, own_bytes changes form, refl);
        };
        tape = refl;
      }

  pub one_keeps : (full : Bool) → StepKeeps w (added_if w full d)
  one_keeps full =
      either w (has_dump (after w.log).listed d.id) _ _ (λ known. says_keeps w finds full _) (λ new.
      either w (has_wrong_parent d) _ _ (λ wrong. says_keeps w finds full _) (λ right.
      either w full _ _ (λ is_full. says_keeps w finds true []) (λ has_room.
      either w (nat_lt 268435456 (length_with w (change.Found d ∷ []))) _ _ (λ long. says_keeps w finds true _) (λ short. recorded_keeps new right))))

-- the same dump behind a step, since the tapes stayed
pub there_behind : (w : World) (s : Step) (d : DumpRecordFields) → StepKeeps w s → IsThere w d → IsThere (before_reply w s.turn) d
there_behind w s d step there = record {
  parts = there.parts;
  found = subst (λ (tape : ℕ → List Record). IsFound (slots_of w.setting.slots w.setting.present tape) there.parts d) (sym step.tape) there.found;
  form = there.form;
}

pub step_keeps : (w : World) (s : Step) (d : DumpRecordFields) → Finds w → StepKeeps w s → IsThere w d → StepKeeps w (with_dump w s d)
step_keeps w s d finds so_far there =
    let v = before_reply w s.turn in
    let next = added_if v s.full d in
    let step = one_keeps v (finds_behind w s.turn finds so_far.turn) d (there_behind w s d so_far there) s.full in
    record {
      turn = both_keep w s.turn _ so_far.turn (front_keeps v (found_line d) next.turn step.turn);
      tape = ap (λ (x : State). x.tape) (come_append s.turn.effects next.turn.effects w.state) ∙ step.tape ∙ so_far.tape;
    }

steps_keep : (w : World) (s : Step) (ds : List DumpRecordFields) → Finds w → StepKeeps w s → All (IsThere w) ds → StepKeeps w (fold (with_dump w) s ds)
steps_keep w s [] finds so_far all = so_far
steps_keep w s (d ∷ ds) finds so_far all = steps_keep w (with_dump w s d) ds finds (step_keeps w s d finds so_far (All-head (IsThere w) d ds all)) (All-tail (IsThere w) d ds all)

adding_keeps : (w : World) (ds : List DumpRecordFields) → Finds w → All (IsThere w) ds → TurnKeeps w (adding w ds).turn
unfolding adding
adding_keeps w ds finds all = (steps_keep w (says w false []) ds finds (says_keeps w finds false []) all).turn

dumps_keep : (w : World) (dbadd : Bool) (ds : List DumpRecordFields) → Finds w → All (IsThere w) ds → TurnKeeps w (dumps_turn w dbadd ds)
dumps_keep w true ds finds all = adding_keeps w ds finds all
dumps_keep w false ds finds all = said_keeps w finds _

-- a turn behind one that is but a text
pub behind_text : (w : World) (text : List ℕ) (t : Turn) → TurnKeeps w t → TurnKeeps (before_reply w (said w text)) t
behind_text w text t keeps = record { keeps = keeps.keeps; settled = keeps.settled; contents = keeps.contents; adds = keeps.adds }

tapes_keep : (w : World) (dbadd : Bool) (tapes : List Sections) (found : Found) → Finds w → All (IsThere w) found.whole → TurnKeeps w (tapes_turn w dbadd tapes found)
tapes_keep w dbadd tapes found finds all =
    let text = flat_map stopped_line tapes in
    let t = dumps_turn w dbadd found.whole in
    behind_keeps w (then_turn (said w text) t) (flat_map left_line found.parts ++ ok_line)
    (both_keep w (said w text) t (said_keeps w finds text) (behind_text w text t (dumps_keep w dbadd found.whole finds all)))

-- ---- what is found over the slots that are here lies on the plant's

-- how what is found over tapes follows from scans of them
pub record Assembles : Type 0 where
  pub scans : (present : ℕ → Bool) (tape : ℕ → List Record) (slots : List ℕ) → AreScans (map (slot_of present tape) slots) (map (λ k. sections_of k (tape k)) slots)
  pub found : (slots : List Slot) (tapes : List Sections) → AreScans slots tapes → (left : List Located) × Scanned slots (found_in tapes).whole left × ((found_in tapes).parts ≡ map part_id left)

-- the number of the slot at a place
number_of : List ℕ → ℕ → ℕ
number_of [] k = 0
number_of (s ∷ slots) zero = s
number_of (s ∷ slots) (suc k) = number_of slots k

some_there : (w : World) → Finds w → (slots : List ℕ) → All (λ k. IsTrue (w.setting.present k)) slots → (k : ℕ) (s : Slot) → slice_get (map (slot_of w.setting.present w.state.tape) slots) k ≡ Some s
    → slice_get (slots_of w.setting.slots w.setting.present w.state.tape) (number_of slots k) ≡ Some s
unfolding number_of
some_there w finds [] all k s at = absurd (cc)
some_there w finds (j ∷ slots) all zero s at = slot_there w.setting.present w.state.tape w.setting.slots j (finds.within j (All-head (λ (k : ℕ). IsTrue (w.setting.present k)) j slots all)) ∙ at
some_there w finds (j ∷ slots) all (suc k) s at = some_there w finds slots (All-tail (λ (k : ℕ). IsTrue (w.setting.present k)) j slots all) k s at

module _ (w : World) (finds : Finds w) (slots : List ℕ) (here : All (λ k. IsTrue (w.setting.present k)) slots) where
  pub all_there : (ds : List DumpRecordFields) → All (λ d. (parts : List Located) × IsChosen (map (slot_of w.setting.present w.state.tape) slots) parts d) ds → All IsDumpRecord ds → All (IsThere w) ds
  all_there [] each forms = All-nil (IsThere w)
  all_there (d ∷ ds) each forms =
      let chosen = All-head (λ d. (parts : List Located) × IsChosen (map (slot_of w.setting.present w.state.tape) slots) parts d) d ds each in
      let found = found_also (slots_of w.setting.slots w.setting.present w.state.tape) (map (slot_of w.setting.present w.state.tape) slots) (number_of slots) (some_there w finds slots here) chosen.0 d chosen.1.found in
      All-cons (IsThere w) d ds (record { parts = found.0; found = found.1; form = All-head IsDumpRecord d ds forms })
      (all_there ds (All-tail (λ d. (parts : List Located) × IsChosen (map (slot_of w.setting.present w.state.tape) slots) parts d) d ds each) (All-tail IsDumpRecord d ds forms))

pub slots_keep : Assembles → (w : World) (dbadd : Bool) (slots : List ℕ) → Finds w → All (λ k. IsTrue (w.setting.present k)) slots → All IsDumpRecord (found_in (scans_of w.state.tape slots)).whole → TurnKeeps w (slots_turn w dbadd slots)
unfolding slots_turn
slots_keep assembles w dbadd slots finds here forms =
    let scanned = assembles.found (map (slot_of w.setting.present w.state.tape) slots) (scans_of w.state.tape slots) (assembles.scans w.setting.present w.state.tape slots) in
    tapes_keep w dbadd (scans_of w.state.tape slots) (found_in (scans_of w.state.tape slots)) finds
    (all_there w finds slots here (found_in (scans_of w.state.tape slots)).whole scanned.1.each forms)

-- the dumps that a scan finds have records of the journal's form
abbrev pub HaveForms : World → Result PortFields (List ℕ) → Type 0
HaveForms w (Err text) = Unit {0}
HaveForms w (Ok port) = All IsDumpRecord (found_in (scans_of w.state.tape (slots_here w.setting.present port))).whole

pub scan_keeps : Assembles → (w : World) (dbadd : Bool) (port : Result PortFields (List ℕ)) → Finds w → HaveForms w port → TurnKeeps w (scan_turn w dbadd port)
scan_keeps assembles w dbadd (Err text) finds forms = said_keeps w finds text
scan_keeps assembles w dbadd (Ok port) finds forms = slots_keep assembles w dbadd (slots_here w.setting.present port) finds (all_here w.setting.present _) forms
