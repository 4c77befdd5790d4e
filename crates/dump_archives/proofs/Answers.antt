-- A DUMP, whatever it is told: it keeps the archive, and leaves one.
use Rattle.std.proofs.Common.{◌≡◌, ◌⊎◌, ℕ, zero, suc, ◌+◌, ◌<◌, ◌≤◌, max, Bool, true, false, Option, Some, None, Ok, Err, List, [], ◌++◌, length, take, refl, sym, subst, arith, inl, inr}
use Rattle.std.specs.Prelude.{Contains, Result, slice_get, if◌then◌else◌}
use Rattle.std.proofs.lemmas.List.Elements.{All-weaker}
use Rattle.byte_formats.specs.Forms.{IsFour}
use Rattle.tape_frames.specs.declared.frame.Frame.TheVariants as frames
use Rattle.tape_frames.specs.declared.dump_head.DumpHeadFields.{DumpHeadFields}
use Rattle.tape_config.specs.declared.port.PortFields.{PortFields}
use Rattle.cell_core.specs.declared.stored.Stored.{Stored}
use Rattle.cell_core.specs.declared.stored.Image.{Image}
use Rattle.cell_core.specs.declared.stored.Image.TheVariants.{Good, Bad}
use Rattle.cell_core.specs.Fairness.{Fair, IsNotMadeAfter, NoneIsMadeAfter}
use Rattle.cell_core.proofs.FairLaws.{fair_later}
use Rattle.budb.proofs.FoldForms.{forms_after}
use Rattle.budb_changes.specs.declared.records.DumpRecordFields.{DumpRecordFields}
use Rattle.budb_changes.specs.declared.change.Change.{Change}
use Rattle.budb_changes.proofs.Logs.{same_changes}
use Rattle.budb_changes.specs.Bytes.{encoded}
use Rattle.budb_changes.specs.Forms.{AreChanges}
use Rattle.budb_fold.specs.Database.{is_initial, without, after}
use Rattle.plant_core.specs.Crashes.{seen_in, IsSettled}
use Rattle.plant_core.specs.Effects.{come}
use Rattle.tape_text.specs.Texts.{Tape}
use Rattle.tape_text.specs.Items.{Says}
use Rattle.tape_scan.specs.Slots.{Slot}
use Rattle.tape_choice.specs.declared.places.Place.{Place}
use Rattle.tape_choice.specs.declared.places.Appending.TheVariants.{Found}
use Rattle.tape_choice.specs.Append.{appending}
use Rattle.archive_model.specs.Archives.{Archive, listed_of}
use Rattle.archive_model.specs.Settled.{HoldsSettled}
use Rattle.archive_model.specs.Sources.{dumped_by}
use Rattle.archive_model.proofs.GrowLaws.{ids_below}
use Rattle.dump_job.specs.declared.fault.JobFault.{JobFault}
use Rattle.dump_job.specs.declared.order.DumpOrder.{DumpOrder}
use Rattle.dump_job.specs.declared.first_tapes.FirstTape.{FirstTape}
use Rattle.dump_job.specs.Beginning.{new_id, id_of, begin_changes, begun_job, place_tape, first_tape}
use Rattle.dump_forms.specs.Forms.{HasForms}
use Rattle.dump_forms.specs.Begins.{IsOrderForm}
use Rattle.dump_forms.specs.Journals.{IsJournalAfter}
use Rattle.dump_forms.proofs.BeginForms.{begin_forms}
use Rattle.dump_forms.proofs.SlotForms.{tapes_fit}
use Rattle.dump_laws.specs.Running.{RunsIn}
use Rattle.dump_laws.specs.Beginning.{HeadsAreBelow, HasParent, TakenBy, begun_archive, begun_records, nothing_made}
use Rattle.dump_laws.proofs.BeginLaws.{heads_below, begun_kept, taken_runs, first_taken}
use Rattle.dump_laws.proofs.AppendingLaws.{appending_runs}
use Rattle.archive_model.proofs.JobLaws.{remaining_among}
use Rattle.archive_model.proofs.RecordLaws.{record_is_there}
use Rattle.dump_courses.specs.Scenes.{Scene, database_in, slots_in, entries_in, whole_in}
use Rattle.dump_courses.specs.Courses.{Point, Course, course}
use Rattle.dump_courses.proofs.Settling.{commit_settled}
use Rattle.backup_words.specs.declared.command.DumpCommand.{DumpCommand}
use Rattle.dump_commands.specs.Forms.{IsCommandForm}
use Rattle.dump_commands.specs.Orders.{asked_port, order_of}
use Rattle.dump_commands.specs.Refusals.{refusal_by, fault_of, trial_refusal}
use Rattle.dump_commands.specs.Trials.{trial_text}
use Rattle.dump_commands.specs.Answers.{Contents, said, contents_with, begin_of, commit_of, begun_point, ended, begun, tape_for, begun_or, refused_or, real_answer, trial_answer, order_answer, port_answer, dump_answer}
use Rattle.dump_commands.proofs.Passing.{Passes, passes}
use Rattle.dump_archives.specs.Asking.{archive_with, archive_in, AsksOfScene}
use Rattle.dump_archives.specs.Keeping.{IsKnown, IsKnownId, HeadsUpTo, KnowsIds, ComesOn, ComesSince, AsksBehind}
use Rattle.dump_archives.proofs.Clones.{HasGoodPlaces}
use Rattle.dump_archives.proofs.Contents.{free_contents, dumped_same, grown_other}
use Rattle.dump_archives.proofs.Courses.{Underway, Left, course_done}
use Rattle.dump_archives.proofs.Fairs.{fewer_fair}
use Rattle.dump_archives.proofs.Growing.{greatest_begun}
use Rattle.dump_archives.proofs.Heads.{StaysUpTo, stays_known, heads_raised}
use Rattle.dump_archives.proofs.Keeping.{archive_at, Keeps, keeps_then, keeps_so}
use Rattle.dump_archives.proofs.Sinces.{comes_as, contents_come}
use Rattle.saved_archives.specs.Since.{ComesOf}
use Rattle.dump_archives.proofs.Slots.{ReadOnce}
use Rattle.dump_archives.proofs.Kept.{KeptBy}
use Rattle.dump_archives.proofs.Orders.{two_cases, IsOrder, is_order, good_order}

-- ---- a later time

image_later : (time now : ℕ) → time ≤ now → (image : Image) → IsNotMadeAfter time image → IsNotMadeAfter now image
image_later time now le (Good v) is = omega (arith, le, is)
image_later time now le (Bad at) is = is

pub made_later : (time now : ℕ) → time ≤ now → (cell : List Stored) → NoneIsMadeAfter time cell → NoneIsMadeAfter now cell
made_later time now le cell none = All-weaker (λ (x : Stored). IsNotMadeAfter time x.image) (λ (x : Stored). IsNotMadeAfter now x.image) (λ x is. image_later time now le x.image is) cell none

-- ---- ids that are known

-- the dumps of a scene's archive are
pub within_two : (id time greatest : ℕ) → id < max (greatest + 1) time → (id ≤ greatest) ⊎ (id < time)
within_two id time greatest less = elim (two_cases id greatest) [
  | inl le ↦ inl le
  | inr lt ↦ inr (omega (arith, less, lt))
]

known_heads : (slots : List Slot) (time greatest : ℕ) → HeadsAreBelow slots time greatest → (k : ℕ) (x : Slot) (n : ℕ) (h : DumpHeadFields) → slice_get slots k ≡ Some x → slice_get x.items n ≡ Some (Says (frames.DumpHead h)) → h.id < max (greatest + 1) time
known_heads slots time greatest heads k x n h at is = elim (heads k x n h at is) [
  | inl le ↦ omega (arith, le)
  | inr lt ↦ omega (arith, lt)
]

pub known_dumps : (s : Scene) (contents : Contents) (records : List DumpRecordFields) → AsksOfScene s contents records → (d : DumpRecordFields) → Contains records d → IsKnown s.time (database_in s).greatest d
known_dumps s contents records asks d there =
    within_two d.id s.time (database_in s).greatest
    (ids_below (seen_in s.state) (archive_in s contents) records (max ((database_in s).greatest + 1) s.time) asks.holds.seen (known_heads (slots_in s) s.time (database_in s).greatest asks.heads) (omega arith) d there)

-- ---- a dump that is begun

among_begun : (take : Option ℕ) (a : Archive) (records : List DumpRecordFields) (e : DumpRecordFields) → Contains (begun_records take a records) e → Contains records e
among_begun None a records e there = there
among_begun (Some initial) a records e there = remaining_among (without (is_initial initial) (listed_of a)) a.slots records e there

at_most : (slots : List Slot) (time greatest id : ℕ) → ((k : ℕ) (s : Slot) (n : ℕ) (h : DumpHeadFields) → slice_get slots k ≡ Some s → slice_get s.items n ≡ Some (Says (frames.DumpHead h)) → h.id < id) → HeadsUpTo id slots
at_most slots time greatest id below k s n h at is = (let less = below k s n h at is in omega (arith, less))

module _ (once : ReadOnce) (s : Scene) (contents : Contents) (records : List DumpRecordFields) (asks : AsksOfScene s contents records) (o : DumpOrder) (order : IsOrderForm o) (time : o.time ≡ s.time) (parent : HasParent (database_in s).listed o.parent) (some : 1 ≤ length o.volumes)
    (good : HasGoodPlaces s.cell o.volumes) (t : FirstTape) (tape : tape_for s o ≡ Ok t) where
  abbrev its : ℕ
  its = id_of o (database_in s)

  abbrev grown : Contents
  grown = contents_with s o contents

  abbrev IsLow : DumpRecordFields → Type 0
  IsLow d = d.id ≤ its

  abbrev start : Archive
  start = archive_in s grown

  begun_tape : first_tape (database_in s) (slots_in s) (whole_in s) o (length (encoded s.log)) ≡ Ok t
  unfolding tape_for
  begun_tape = tape

  its_tape : (((p : Place) × (appending (database_in s).listed o.set o.port (whole_in s) (slots_in s) ≡ Found p) × (t ≡ place_tape p)) ⊎ TakenBy o (database_in s).listed (slots_in s) t) × ((database_in s).greatest < 4294967295)
  its_tape = first_taken start o (slots_in s) (whole_in s) (length (encoded s.log)) t begun_tape

  few : o.time ≤ 4294967295
  few = order.time

  heads : HeadsAreBelow (slots_in s) o.time (database_in s).greatest
  heads = subst (λ (n : ℕ). HeadsAreBelow (slots_in s) n (database_in s).greatest) (sym time) asks.heads

  all_below : (k : ℕ) (x : Slot) (n : ℕ) (h : DumpHeadFields) → slice_get (slots_in s) k ≡ Some x → slice_get x.items n ≡ Some (Says (frames.DumpHead h)) → h.id < its
  all_below = heads_below (slots_in s) o.time (database_in s).greatest few its_tape.1 heads

  id_above : (greatest n : ℕ) → greatest < 4294967295 → greatest < new_id n greatest
  id_above greatest n less = omega (arith, less)

  time_below : (greatest n : ℕ) → n ≤ 4294967295 → n ≤ new_id n greatest
  time_below greatest n le = omega (arith, le)

  new : (e : DumpRecordFields) → Contains records e → e.id < its
  new = ids_below (seen_in s.state) (archive_in s contents) records its asks.holds.seen all_below (id_above (database_in s).greatest o.time its_tape.1)

  other : (d : DumpRecordFields) (name : List ℕ) → Contains records d → grown d.id name ≡ contents d.id name
  other d name there = grown_other s o contents d.id name (λ same. absurd (let less = new d there in omega (arith, less, same)))

  held : HoldsSettled s.state start records
  held = free_contents s.state (archive_in s contents) records grown asks.holds other

  fair : Fair s.cell (dumped_by grown records) o.time
  fair = subst (λ (n : ℕ). Fair s.cell (dumped_by grown records) n) (sym time) (subst (λ (l : List _). Fair s.cell l s.time) (sym (dumped_same grown contents records other)) asks.fair)

  begin : AreChanges (begin_of s o t) × HasForms (begun_job o (database_in s).listed its t)
  begin = begin_forms o (database_in s) (slots_in s) (whole_in s) (length (encoded s.log)) t order some (forms_after s.log asks.form.log).listed (tapes_fit s.slots s.present s.state.tape) begun_tape

  abbrev point : Point
  point = begun_point s o t

  abbrev begun_so : Archive
  begun_so = begun_archive its t.take start

  -- what it runs in, on a tape that is taken or appended to
  appended_run : (p : Place) → appending (database_in s).listed o.set o.port (whole_in s) (slots_in s) ≡ Found p → t ≡ place_tape p → (front : Tape) × RunsIn point.state begun_so (begun_records t.take start records) point.job (nothing_made front)
  appended_run p found is =
      let forms : AreChanges (begin_changes its None) = subst (λ (x : FirstTape). AreChanges (begin_changes its x.take)) is begin.0 in
      let x = appending_runs s.state start records held o few its_tape.1 heads parent (whole_in s) p found forms in
      subst (λ (y : FirstTape). (front : Tape) × RunsIn (come (commit_of s o y) s.state) (begun_archive its y.take start) (begun_records y.take start records) (begun_job o (database_in s).listed its y) (nothing_made front)) (sym is) x

  runs : (front : Tape) × RunsIn point.state begun_so (begun_records t.take start records) point.job (nothing_made front)
  runs = elim its_tape.0 [
    | inl placed ↦ appended_run placed.0 placed.1 placed.2
    | inr taken ↦ taken_runs s.state start records held o few its_tape.1 heads parent t taken begin.0
  ]

  later_made : NoneIsMadeAfter o.time s.cell
  later_made = subst (λ (n : ℕ). NoneIsMadeAfter n s.cell) (sym time) asks.made

  underway : Underway once s o contents asks.cell asks.form.cell good later_made asks.named point
  underway = record {
    archive = begun_so;
    records = begun_records t.take start records;
    put = nothing_made runs.0;
    log = refl;
    slots = refl;
    contents_are = refl;
    runs = runs.1;
    running = tt;
    forms = begin.1;
    places = refl;
    time = refl;
    parent = refl;
    id = refl;
    above = refl;
    clones = tt;
    fair = fewer_fair s.cell grown records (begun_records t.take start records) o.time fair (among_begun t.take start records);
    low = λ d there. (let less = new d (among_begun t.take start records d there) in omega (arith, less));
    known = records;
    fair_known = fair;
    parent_known = λ d is. held.seen.kept.dumps.complete d (inl (record_is_there (database_in s).listed o.parent d is).0);
    heads = at_most (slots_in s) o.time (database_in s).greatest its all_below;
    greatest = greatest_begun s.log _ its;
    settled = commit_settled (encoded (begin_of s o t)) s.state asks.settled;
    short = asks.short;
  }

  -- ---- it keeps the archive

  commit_way : Keeps s.slots s.present grown IsLow s.log s.state (commit_of s o t) (s.log ++ begin_of s o t)
  commit_way =
      let both = begun_kept s.state start records held o few its_tape.1 heads parent t begin.0 in
      let low : (d : DumpRecordFields) → Contains records d → IsLow d = λ d there. (let less = new d there in omega (arith, less)) in
      ((records, held, low), (begin_of s o t, record { form = begin.0; is = refl }, ((begun_records t.take start records, both.1, λ d there. low d (among_begun t.take start records d there)), refl)))

  abbrev its_course : Course
  its_course = course s point

  course_way : Keeps s.slots s.present grown IsLow point.log point.state its_course.effects its_course.log × Left once s o contents asks.cell asks.form.cell good later_made asks.named its_course.log (come its_course.effects point.state)
      × IsSettled (come its_course.effects point.state) × StaysUpTo its s.slots s.present point.state its_course.effects
      × ComesOn its (archive_at s.slots s.present grown point.log point.state.tape) (archive_at s.slots s.present grown its_course.log (come its_course.effects point.state).tape)
  course_way = course_done once s o contents asks.cell asks.form.cell good later_made asks.named point underway

  begun_way : Keeps s.slots s.present grown IsLow s.log s.state (commit_of s o t ++ its_course.effects) its_course.log
  begun_way = keeps_then s.slots s.present grown IsLow (commit_of s o t) its_course.effects s.state s.log point.log its_course.log commit_way course_way.0

  begun_known : Keeps s.slots s.present grown (IsKnown (ended s o t its_course).time (after its_course.log).greatest) s.log s.state (commit_of s o t ++ its_course.effects) its_course.log
  begun_known =
      keeps_so s.slots s.present grown (IsKnown (ended s o t its_course).time (after its_course.log).greatest) IsLow (λ d low. inl (let more = course_way.1.greatest in omega (arith, low, more))) (commit_of s o t ++ its_course.effects) s.state s.log its_course.log begun_way

  -- ids that were known are known on the way: the new one is begun before it stands on a tape
  begun_ids : (count : ℕ) (changes : List Change) → IsJournalAfter s.log (take count (commit_of s o t ++ its_course.effects)) changes → KnowsIds (archive_in s contents)
      → KnowsIds (archive_with s grown changes (come (take count (commit_of s o t ++ its_course.effects)) s.state).tape)
  begun_ids zero changes journal known = subst (λ (l : List Change). KnowsIds (archive_with s grown l s.state.tape)) (sym journal) known
  begun_ids (suc count) changes (more, are, journal) known =
      let same : more ≡ begin_of s o t = same_changes more (begin_of s o t) are.form begin.0 (sym are.is) in
      let low : its ≤ (after (s.log ++ more)).greatest = subst (λ (l : List Change). its ≤ (after (s.log ++ l)).greatest) (sym same) (greatest_begun s.log _ its) in
      let there = stays_known its s.slots s.present count its_course.effects point.state (s.log ++ more) changes course_way.3 low journal in
      heads_raised its (after changes).greatest _ there.0 there.1

  -- what is known has the contents that it had
  begun_others : (d : DumpRecordFields) (name : List ℕ) → IsKnown s.time (database_in s).greatest d → grown d.id name ≡ contents d.id name
  begun_others d name known = grown_other s o contents d.id name (λ same. elim known [
    | inl le ↦ absurd (let above = id_above (database_in s).greatest o.time its_tape.1 in omega (arith, le, same, above))
    | inr lt ↦ absurd (let above : o.time ≤ its = time_below (database_in s).greatest o.time few in omega (arith, lt, same, above, time))
  ])

  -- what the archive came of it comes of behind the dump, whose id isn't known before
  known_below : (greatest : ℕ) → IsKnownId s.time (database_in s).greatest greatest → greatest < its
  known_below greatest (inl le) = (let above = id_above (database_in s).greatest o.time its_tape.1 in omega (arith, le, above))
  known_below greatest (inr lt) = (let above : o.time ≤ its = time_below (database_in s).greatest o.time few in omega (arith, lt, above, time))

  begun_comes : (greatest : ℕ) (before : Archive) → IsKnownId s.time (database_in s).greatest greatest → ComesOf greatest before (archive_in s contents)
      → ComesOf greatest before (archive_with s grown its_course.log (come its_course.effects point.state).tape)
  begun_comes greatest before known comes =
      let less : greatest < its = known_below greatest known in
      let there : ComesOf greatest before start =
      contents_come its (archive_in s contents) grown (listed_of (archive_in s contents)) records asks.holds.seen.kept new (λ id name below. grown_other s o contents id name (λ same. absurd (omega (arith, below, same)))) greatest before less comes in
      let begun_there : ComesOf greatest before (archive_at s.slots s.present grown point.log point.state.tape) = comes_as greatest before start (archive_at s.slots s.present grown point.log point.state.tape) refl refl there in
      let behind_it : ComesOf greatest before (archive_at s.slots s.present grown its_course.log (come its_course.effects point.state).tape) = course_way.4 greatest before less begun_there in
      behind_it

  begun_known_ids : (id : ℕ) → IsKnownId s.time (database_in s).greatest id → IsKnownId (max s.time its) (after its_course.log).greatest id
  begun_known_ids id known = inl (let less = known_below id known in let low = course_way.1.greatest in omega (arith, less, low))

  begun_since : ComesSince s (ended s o t its_course) contents
  begun_since = record { known = begun_known_ids; comes = begun_comes }

  -- ---- what a dump asks is so again

  four_id : (n greatest : ℕ) → IsFour (new_id n greatest)
  four_id n greatest = omega arith

  begun_asks : AsksBehind s (ended s o t its_course) grown
  begun_asks =
      let left = course_way.1 in
      let now : ℕ = max s.time its in
      let four : IsFour now = (let one = asks.form.time in let two = four_id o.time (database_in s).greatest in omega (arith, one, two)) in
      record {
        records = left.records;
        asks = record {
          form = record { log = left.holds.seen.changes; cell = asks.form.cell; few = asks.form.few; time = four; name = asks.form.name; ports = asks.form.ports };
          holds = left.holds;
          settled = course_way.2;
          short = left.short;
          cell = asks.cell;
          fair = fair_later s.cell (dumped_by grown left.records) o.time now left.fair (omega (arith, time));
          made = made_later s.time now (omega arith) s.cell asks.made;
          named = asks.named;
          heads = λ k x n h at is. inl (let low = left.heads k x n h at is in omega (arith, low, left.greatest));
        };
      }

-- ---- whatever is answered

pub said_ids : (s : Scene) (contents : Contents) (count : ℕ) (changes : List Change) → IsJournalAfter s.log (take count []) changes → KnowsIds (archive_in s contents) → KnowsIds (archive_with s contents changes (come (take count []) s.state).tape)
said_ids s contents zero changes journal known = subst (λ (l : List Change). KnowsIds (archive_with s contents l s.state.tape)) (sym journal) known
said_ids s contents (suc count) changes journal known = subst (λ (l : List Change). KnowsIds (archive_with s contents l s.state.tape)) (sym journal) known

said_kept : (s : Scene) (contents : Contents) (records : List DumpRecordFields) → AsksOfScene s contents records → (text : List ℕ) → KeptBy s contents (said s text)
said_kept s contents records asks text = record {
  keeps = ((records, asks.holds, known_dumps s contents records asks), refl);
  behind = record { records = records; asks = asks };
  others = λ d name known. refl;
  ids = said_ids s contents;
  since = record { known = λ id known. known; comes = λ greatest before known comes. comes };
}

module _ (once : ReadOnce) (s : Scene) (contents : Contents) (records : List DumpRecordFields) (asks : AsksOfScene s contents records) where
  by_tape : (o : DumpOrder) → IsOrder s o → (f : Option JobFault) → Passes (entries_in s) o f → (r : Result FirstTape JobFault) → tape_for s o ≡ r → KeptBy s contents (begun_or s o r)
  unfolding begun
  by_tape o order f pass (Ok t) is =
      let good : HasGoodPlaces s.cell o.volumes = good_order s o order pass.good in
      record {
        keeps = begun_known once s contents records asks o order.form order.time order.parent pass.some good t is;
        behind = begun_asks once s contents records asks o order.form order.time order.parent pass.some good t is;
        others = begun_others once s contents records asks o order.form order.time order.parent pass.some good t is;
        ids = begun_ids once s contents records asks o order.form order.time order.parent pass.some good t is;
        since = begun_since once s contents records asks o order.form order.time order.parent pass.some good t is;
      }
  by_tape o order f pass (Err fault) is = said_kept s contents records asks _

  by_refusal : (o : DumpOrder) → IsOrder s o → (r : Option (List ℕ)) → refusal_by (entries_in s) o (fault_of (tape_for s o)) ≡ r → KeptBy s contents (refused_or s r (begun_or s o (tape_for s o)))
  by_refusal o order (Some text) is = said_kept s contents records asks text
  by_refusal o order None is = by_tape o order (fault_of (tape_for s o)) (passes (entries_in s) o (fault_of (tape_for s o)) is) (tape_for s o) refl

  by_trial_refusal : (r : Option (List ℕ)) (text : List ℕ) → KeptBy s contents (refused_or s r (said s text))
  by_trial_refusal (Some line) text = said_kept s contents records asks line
  by_trial_refusal None text = said_kept s contents records asks text

  by_trial : (o : DumpOrder) → IsOrder s o → (trial : Bool) → KeptBy s contents (if trial then trial_answer s o else real_answer s o)
  unfolding real_answer
  by_trial o order true = by_trial_refusal (trial_refusal (entries_in s) o) (trial_text (database_in s).listed s.cell o)
  by_trial o order false = by_refusal o order (refusal_by (entries_in s) o (fault_of (tape_for s o))) refl

  by_port : (a : DumpCommand) → IsCommandForm a → (r : Result PortFields (List ℕ)) → asked_port s.config (database_in s) a ≡ r → KeptBy s contents (port_answer s a r)
  unfolding order_answer
  by_port a command (Err text) is = said_kept s contents records asks text
  by_port a command (Ok port) is = by_trial (order_of s.config (database_in s) (entries_in s) s.time a port) (is_order s asks.form a port command is) a.trial

  pub answer_kept : (a : DumpCommand) → IsCommandForm a → KeptBy s contents (dump_answer s a)
  unfolding dump_answer
  answer_kept a command = by_port a command (asked_port s.config (database_in s) a) refl
