-- TURNS THAT KEEP THE ORDER of what stands on the plant: they bring no dump, and time goes on.
use Rattle.std.proofs.Common.{◌≡◌, ◌⊎◌, inl, inr, ℕ, zero, suc, ◌≤◌, Bool, true, false, Option, Some, None, List, [], ◌∷◌, ◌++◌, length, take, refl, sym, ap, subst, ◌∙◌, arith}
use Rattle.std.specs.Prelude.{not, Result, Ok, Err, IfSome, Contains, slice_get, nat_lt, ◌==◌, if◌then◌else◌}
use Rattle.std.specs.List.{list_any}
use Rattle.bk_text.specs.Alphabets.{IsTapeName}
use Rattle.byte_formats.specs.Forms.{IsFour}
use Rattle.plant_core.specs.Records.{Record, block_with, mark}
use Rattle.plant_core.specs.Crashes.{State}
use Rattle.plant_core.specs.Effects.{commits, comes, come}
use Rattle.tape_frames.specs.declared.label.LabelFields.{LabelFields}
use Rattle.tape_frames.specs.declared.dump_head.DumpHeadFields.{DumpHeadFields}
use Rattle.tape_frames.specs.declared.frame.Frame.TheVariants.{Label, DumpHead}
use Rattle.tape_frames.specs.Layouts.{FitsLabel}
use Rattle.tape_frames.specs.Frames.{spelling}
use Rattle.tape_text.specs.Items.{Says, Filemark}
use Rattle.tape_scan.specs.Slots.{Slot}
use Rattle.tape_answers.specs.Reading.{items_of}
use Rattle.tape_answers.specs.Slots.{slot_of as slot_at, slots_of}
use Rattle.budb_changes.specs.declared.records.DumpRecordFields.{DumpRecordFields}
use Rattle.budb_changes.specs.declared.change.Change.{Change}
use Rattle.budb_changes.specs.declared.change.Change.TheVariants.{Take}
use Rattle.budb_changes.specs.Bytes.{encoded}
use Rattle.budb_fold.specs.declared.database.Database.{Database}
use Rattle.budb_fold.specs.Database.{after, is_initial, without}
use Rattle.budb_fold.specs.Checkpoints.{checkpoint}
use Rattle.tape_scan.proofs.ListLaws.{of_filter}
use Rattle.archive_model.specs.Turns.{is_one_of, with_log}
use Rattle.archive_model.proofs.AfterLaws.{untouched_behind, taken_behind, forgotten_behind}
use Rattle.backup_session.specs.declared.verdict.Verdict.{Verdict}
use Rattle.backup_session.specs.declared.verdict.Verdict.TheVariants.{Refuses, Makes, Shortens, Shows}
use Rattle.backup_session.specs.Worlds.{World, Turn, archive_of, last_cell, before_reply}
use Rattle.backup_session.specs.Turns.{said, length_with}
use Rattle.backup_session.specs.Labels.{label_of}
use Rattle.backup_session.specs.Tapes.{new_label, putting_label, taken, labeled, label_turn, read_turn, label_reply}
use Rattle.backup_session.specs.Machine.{committed, replaced, carried}
use Rattle.session_archives.proofs.Slots.{slot_there, slot_told}
use Rattle.session_archives.proofs.Kept.{Reads, Finds}
use Rattle.session_archives.proofs.Labels.{label_fits, new_fits, label_no_head}
use Rattle.session_archives.proofs.Verdicts.{AreMild, IsMild}
use Rattle.dump_archives.proofs.Growing.{greatest_more}
use Rattle.session_archives.proofs.Bringing.{BringsNone, brings_itself, brings_then, fewer_bring, IsBare, SaysOrIsBare, bare_brings}

pub record KeepsOrder (w : World) (t : Turn) : Type 0 where
  pub brings : BringsNone (archive_of w) (archive_of (before_reply w t))
  pub cell : last_cell w.cell t.cells ≡ w.cell
  pub later : w.time ≤ t.time
  pub four : IsFour w.time → IsFour t.time

pub said_orders : (w : World) (text : List ℕ) → KeepsOrder w (said w text)
said_orders w text = record { brings = brings_itself (archive_of w); cell = refl; later = omega arith; four = λ four. four }

pub either_orders : (w : World) (b : Bool) (s t : Turn) → KeepsOrder w s → KeepsOrder w t → KeepsOrder w (if b then s else t)
either_orders w true s t is_s is_t = is_s
either_orders w false s t is_s is_t = is_t

-- ---- commands on the database

module _ (w : World) (finds : Finds w) where
  listed_fewer : (log : List Change) → ((d : DumpRecordFields) → Contains (after log).listed d → Contains (after w.log).listed d) → (after w.log).greatest ≤ (after log).greatest → BringsNone (archive_of w) (with_log (archive_of w) log)
  listed_fewer log fewer grown = fewer_bring (archive_of w) finds.holds.0 log finds.holds.1.seen.kept fewer grown

  listed_same : (log : List Change) → (after log).listed ≡ (after w.log).listed → (after w.log).greatest ≤ (after log).greatest → BringsNone (archive_of w) (with_log (archive_of w) log)
  listed_same log same grown = listed_fewer log (λ d there. subst (λ (l : List DumpRecordFields). Contains l d) same there) grown

  mild_brings : (changes : List Change) → AreMild changes → BringsNone (archive_of w) (with_log (archive_of w) (w.log ++ changes))
  mild_brings changes (inl none) = listed_same (w.log ++ changes) (untouched_behind w.log changes none) (greatest_more w.log changes)
  mild_brings changes (inr (ids, are)) =
      let behind : (after (w.log ++ changes)).listed ≡ without (is_one_of ids) (after w.log).listed = ap (λ (cs : List Change). (after (w.log ++ cs)).listed) are ∙ forgotten_behind w.log ids in
      listed_fewer (w.log ++ changes) (λ d there. (of_filter (λ x. not (is_one_of ids x)) (after w.log).listed d (subst (λ (l : List DumpRecordFields). Contains l d) behind there)).0) (greatest_more w.log changes)

  committed_orders : (changes : List Change) (text : List ℕ) → AreMild changes → KeepsOrder w (committed w changes text)
  committed_orders changes text mild = record { brings = mild_brings changes mild; cell = refl; later = omega arith; four = λ four. four }

  same_grown : (log : List Change) → after log ≡ after w.log → (after w.log).greatest ≤ (after log).greatest
  same_grown log same = subst (λ (db : Database). (after w.log).greatest ≤ db.greatest) (sym same) (omega arith)

  replaced_orders : (changes : List Change) → after changes ≡ after w.log → KeepsOrder w (replaced w changes)
  replaced_orders changes same = record { brings = listed_same changes (ap (λ (db : Database). db.listed) same) (same_grown changes same); cell = refl; later = omega arith; four = λ four. four }

  pub carried_orders : ((log : List Change) → after (checkpoint (after log)) ≡ after log) → (v : Verdict) → IsMild v → KeepsOrder w (carried w v)
  carried_orders same (Refuses text) mild = said_orders w text
  carried_orders same (Shows text) mild = said_orders w text
  carried_orders same (Makes changes text) mild = either_orders w (nat_lt 268435456 (length_with w changes)) _ _ (said_orders w _) (committed_orders changes text mild)
  carried_orders same Shortens mild =
      let short = checkpoint (after w.log) in
      either_orders w (nat_lt 268435456 (length (encoded short))) _ _ (said_orders w _) (replaced_orders short (same w.log))

-- ---- a label

-- the records of a tape behind a label that is put on it, where it is the one, and of another one
abbrev relabeled : Bool → List Record → Record → List Record
relabeled b old r =
    let cut = if b then take 0 old else old in
    let one = if b then cut ++ r ∷ [] else cut in
    if b then one ++ mark ∷ [] else one

module _ (reads : Reads) (a : LabelFields) (fit : FitsLabel a) where
  bare_label : IsBare (items_of (block_with (spelling (Label a)) ∷ mark ∷ []))
  bare_label = record {
    no_head = no_head;
  }
    where
      no_head : (n : ℕ) (h : DumpHeadFields) → slice_get (items_of (block_with (spelling (Label a)) ∷ mark ∷ [])) n ≡ Some (Says (DumpHead h)) → ⊥
      no_head zero h is = label_no_head reads a fit h cc
      no_head (suc zero) h is = (let e : Some Filemark ≡ Some (Says (DumpHead h)) = is in cc)
      no_head (suc (suc n)) h is = (let e : None ≡ Some (Says (DumpHead h)) = is in cc)

  says_or_bare : (b : Bool) (old : List Record) → (items_of old ≡ items_of (relabeled b old (block_with (spelling (Label a))))) ⊎ IsBare (items_of (relabeled b old (block_with (spelling (Label a)))))
  says_or_bare true old = inr bare_label
  says_or_bare false old = inl refl

  module _ (w : World) (finds : Finds w) (slot : ℕ) where
    slots_say : (s : State) → s.tape ≡ w.state.tape → SaysOrIsBare (slots_of w.setting.slots w.setting.present w.state.tape) (slots_of w.setting.slots w.setting.present (come (putting_label slot a) s).tape)
    slots_say s tapes k t at =
        let told = slot_told w.setting.present (come (putting_label slot a) s).tape w.setting.slots k t at in
        let its : t.items ≡ items_of (relabeled (k == slot) (s.tape k) (block_with (spelling (Label a)))) = ap (λ (x : Slot). x.items) told.1 in
        elim (says_or_bare (k == slot) (s.tape k)) [
          | inl same ↦ inl (slot_at w.setting.present w.state.tape k, slot_there w.setting.present w.state.tape w.setting.slots k told.0, ap (λ (tape : ℕ → List Record). items_of (tape k)) (sym tapes) ∙ same ∙ sym its)
          | inr bare ↦ inr (subst IsBare (sym its) bare)
        ]

    label_brings : (log : List Change) (s : State) → s.tape ≡ w.state.tape → BringsNone (with_log (archive_of w) log) (record { log = log; slots = slots_of w.setting.slots w.setting.present (come (putting_label slot a) s).tape; contents = w.contents })
    label_brings log s tapes = bare_brings (with_log (archive_of w) log) (slots_of w.setting.slots w.setting.present (come (putting_label slot a) s).tape) (slots_say s tapes)

    taken_brings : (initial : ℕ) → BringsNone (archive_of w) (with_log (archive_of w) (w.log ++ Take initial ∷ []))
    taken_brings initial =
        let behind : (after (w.log ++ Take initial ∷ [])).listed ≡ without (is_initial initial) (after w.log).listed = taken_behind w.log [] initial tt in
        listed_fewer w finds (w.log ++ Take initial ∷ []) (λ d there. (of_filter (λ x. not (is_initial initial x)) (after w.log).listed d (subst (λ (l : List DumpRecordFields). Contains l d) behind there)).0) (greatest_more w.log (Take initial ∷ []))

    untaken_orders : KeepsOrder w (labeled w slot a [])
    untaken_orders = record { brings = label_brings w.log w.state refl; cell = refl; later = omega arith; four = λ four. four }

    taken_orders : (initial : ℕ) → KeepsOrder w (labeled w slot a (Take initial ∷ []))
    taken_orders initial = either_orders w (nat_lt 268435456 (length_with w (Take initial ∷ []))) _ _ (said_orders w _) (record {
      brings = brings_then (archive_of w) (with_log (archive_of w) (w.log ++ Take initial ∷ [])) _ (taken_brings initial)
          (label_brings (w.log ++ Take initial ∷ []) (comes (commits (encoded (Take initial ∷ []))) w.state) refl);
      cell = refl;
      later = omega arith;
      four = λ four. four;
    })

    labeled_orders : (label : Option LabelFields) → KeepsOrder w (labeled w slot a (taken (after w.log).listed label))
    labeled_orders None = untaken_orders
    labeled_orders (Some old) = by (list_any (is_initial old.initial) (after w.log).listed)
      where
        by : (b : Bool) → KeepsOrder w (labeled w slot a (if b then Take old.initial ∷ [] else []))
        by true = taken_orders old.initial
        by false = untaken_orders

pub label_orders : (reads : Reads) (w : World) → Finds w → (name pname : Option (List ℕ)) → IfSome name IsTapeName → IfSome pname IsTapeName → (r : Result ℕ (List ℕ)) → KeepsOrder w (label_turn w name pname r)
label_orders reads w finds name pname is_name is_pname (Err text) = said_orders w text
label_orders reads w finds name pname is_name is_pname (Ok slot) =
    let tape = w.state.tape slot in
    labeled_orders reads (new_label (label_of tape) name pname) (new_fits (label_of tape) name pname (label_fits reads tape) is_name is_pname) w finds slot (label_of tape)

pub read_orders : (w : World) (r : Result ℕ (List ℕ)) → KeepsOrder w (read_turn w r)
read_orders w (Err text) = said_orders w text
read_orders w (Ok slot) = said_orders w (label_reply slot (label_of (w.state.tape slot)))
