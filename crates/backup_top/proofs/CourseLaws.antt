-- What a run over a plant and a cell says of its course.
use Rattle.std.proofs.Common.{◌≡◌, ◌⊎◌, inl, inr, zero, suc, ℕ, ◌+◌, ◌<◌, ◌≤◌, Bool, true, false, IsTrue, List, [], ◌∷◌, ◌++◌, length, take, drop, Option, Some, None, refl, sym, ◌∙◌, ap, subst, arith, length-append, Result, Ok, Err, IfOk}
use Rattle.std.specs.Prelude.{All, slice_get, min, ◌-◌, ◌^◌}
use Rattle.std.specs.Str.Lines.{lines}
use Rattle.std.proofs.lemmas.Bool.{cases_lt}
use Rattle.std.proofs.lemmas.List.{take-append-le, take-append-drop, take_at, take_all}
use Rattle.bk_text.specs.Places.{FailsAt}
use Rattle.crash_moments.specs.Moments.{Moments, Stepped, LeavesSince}
use Rattle.media_core.specs.Media.{Image}
use Rattle.plant_core.specs.declared.plant.Plant.{Ghosts as Plant}
use Rattle.plant_core.specs.Crashes.{State, Alike, seen_in, settled_part}
use Rattle.plant_core.specs.Effects.{Effect, tells, come, told_by, Joint}
use Rattle.plant_core.specs.Stock.{Stock}
use Rattle.plant_effects.specs.Runs.{state_of, Leaves as LeavesPlant}
use Rattle.plant_effects.proofs.States.{told_is}
use Rattle.plant_effects.proofs.Joining.{leaves_more}
use Rattle.plant_media.specs.Stock.{stock_of}
use Rattle.plant_media.specs.Opening.{HasCauseIn}
use Rattle.plant_media.specs.declared.open.OpenFault.{OpenFault}
use Rattle.plant_media.specs.declared.open.OpenFault.TheVariants as opening
use Rattle.cell_core.specs.declared.cell.Cell.{Ghosts as Cell}
use Rattle.cell_core.specs.Cells.{IsCell}
use Rattle.cell_core.specs.Forms.{IsStoredForm}
use Rattle.cell_forms.specs.Forms.{IsCellForm}
use Rattle.tape_config.specs.Configs.{Settings, config_of}
use Rattle.tape_config.specs.declared.fault.ConfigFault.{ConfigFault}
use Rattle.tape_config.specs.declared.fault.ConfigFault.TheVariants as config
use Rattle.budb_changes.specs.declared.change.Change.{Change}
use Rattle.budb_changes.specs.Bytes.{encoded}
use Rattle.budb_changes.specs.Forms.{AreChanges, IsLog}
use Rattle.backup_replies.specs.Texts.{has_refusal}
use Rattle.backup_session.specs.Worlds.{World}
use Rattle.backup_session.proofs.Silent.{told_by-append}
use Rattle.backup_session.specs.Bounded.{HasTapes}
use Rattle.backup_session.specs.Opening.{first_time}
use Rattle.backup_script.specs.declared.running.RunStop.{RunStop}
use Rattle.backup_script.specs.declared.running.RunStop.TheVariants as stop
use Rattle.backup_script.specs.Lines.{ended, has_quit}
use Rattle.backup_script.specs.Scripts.{Outcome, script, Stage, between, IsStage}
use Rattle.backup_script.specs.Running.{Took, TookTooMany, TookToFault, JointFrom, Left, AreBegun, HasTold}
use Rattle.backup_script.specs.Ended.{Ends, EndsShort, TakesBytes, IsRefusedLog}
use Rattle.backup_script.proofs.StageLaws.{stage_front, stage_whole}
use Rattle.backup_script.proofs.StopLaws.{takes_nothing}
use Rattle.dump_forms.specs.Journals.{IsJournalAfter}
use Rattle.script_journals.proofs.Following.{journal_front, journal_form, journal_bytes}
use Rattle.backup_top.specs.declared.status.Status.{Status}
use Rattle.backup_top.specs.declared.status.Status.TheVariants.{Done, SomeRefused, Usage, ReadFault, MediaFault, CellFault, Memory, BadConfig, BadLog, OutputFault, ScriptTooLong}
use Rattle.backup_top.specs.Answers.{run_status, opening_status, config_status}
use Rattle.backup_top.specs.Courses.{Course, FindsFit, FindsVolumes, contents_in, IsWithin, IsComplete, outcome, Leaves, LeavesShort, Runs, TellsLines, TakesBy, Journal, IsBadLog, RefusesJournal, IsRefusedAt, Reopens, LeftImage, LeavesImages, EndImage, EndsAt, RunsLines, HasCauseAs}
use Rattle.script_journals.specs.Worlds.{HasGroupForm}
use Rattle.script_journals.specs.Dumping.{IsFormedFor}
use Rattle.session_archives.specs.Held.{HoldsWorld, HoldsAfter, KeepsListed, EachKeepsListed, RepliesSettle}
use Rattle.session_archives.proofs.Replies.{settle_first}
use Rattle.session_archives.specs.Ready.{IsFitWorld, IsReady, RestoresApartThroughout, FitsBackThroughout, at_first, IsReadyFor, IsFitFor, AreVolumesFor}
use Rattle.backup_top.proofs.Lowering.{alike_same, log_come, log_whole}
use Rattle.backup_top.proofs.ArchiveLaws.{ScriptsKeep, ImagesHold, keeps_media}

-- ---- the forms of the world that a run finds

-- what is so of each world in which a session begins
pub record OpenedForms : Type 0 where
  pub lines : (w : World) (bytes : List ℕ) (these : List (List ℕ)) → config_of bytes ≡ Ok w.setting.config → HasTapes w → AreChanges w.log → IsCellForm w.cell → w.time ≡ first_time w.log w.cell → HasGroupForm w.groups.open → AreVolumesFor w these → IsFormedFor w these
  pub ready : (w : World) (bytes moments : List ℕ) (these : List (List ℕ)) → config_of bytes ≡ Ok w.setting.config → AreChanges w.log → IsCellForm w.cell → w.time ≡ first_time w.log w.cell → IsFitWorld (at_first w moments these) → IsReady (at_first w moments these)
  pub fit : (w : World) → IsReady w → IsFitWorld w

-- a course whose world has the forms of its configuration, its journal and its cell
pub record HasForms (c : Course) : Type 0 where
  pub formed : (these : List (List ℕ)) → AreVolumesFor c.world these → IsFormedFor c.world these
  pub ready : (these : List (List ℕ)) → IsFitWorld (at_first c.world c.moments these) → IsReady (at_first c.world c.moments these)

pub has_forms : OpenedForms → (c : Course) (bytes : List ℕ) → config_of bytes ≡ Ok c.world.setting.config → HasTapes c.world → AreChanges c.world.log → IsCell c.world.cell → All IsStoredForm c.world.cell → c.world.time ≡ first_time c.world.log c.world.cell
    → HasGroupForm c.world.groups.open → HasForms c
has_forms laws c bytes says has form cell allowed begins group =
    let cells : IsCellForm c.world.cell = record { list = cell; volumes = allowed } in
    record {
      formed = λ these volumes. laws.lines c.world bytes these says has form cells begins group volumes;
      ready = λ these fit. laws.ready c.world bytes c.moments these says form cells begins fit;
    }

pub ready_for : (c : Course) → HasForms c → (these : List (List ℕ)) → IsFitFor c.world c.moments these → IsReadyFor c.world c.moments these
ready_for c forms these fit = record { dumps = λ asks. (let f = fit.dumps asks in (forms.ready these f.0, f.1)); back = fit.back }

-- ---- what was done

-- in a world the tapes in slots that aren't here are behind these effects as they were, settled and not
abbrev pub AbsentStay : World → List Effect → Type 0
AbsentStay w effects = (k : ℕ) → (IsTrue (w.setting.present k) → ⊥) → let s = come effects w.state in (s.tape k ≡ w.state.tape k) × (s.settled k ≡ w.state.settled k)

-- the tapes of a course at its entry, of which all is settled
abbrev pub AreAtRest : Course → Type 0
AreAtRest c = (k : ℕ) → (c.world.state.tape k ≡ c.before.tape k) × (c.world.state.settled k ≡ length (c.world.state.tape k))

settled_tape : (s t : State) (k : ℕ) → t.tape k ≡ s.tape k → t.settled k ≡ s.settled k → s.settled k ≡ length (s.tape k) → (settled_part t).tape k ≡ s.tape k
settled_tape s t k tape settled whole = (λ i. take (settled i) (tape i)) ∙ ap (λ (n : ℕ). take n (s.tape k)) whole ∙ take_all (length (s.tape k)) (s.tape k) (omega arith)

absent_tape : (c : Course) (effects : List Effect) → AreAtRest c → c.after ≡ settled_part (come effects c.world.state) → AbsentStay c.world effects → (k : ℕ) → (IsTrue (c.world.setting.present k) → ⊥) → c.after.tape k ≡ c.before.tape k
absent_tape c effects rests archive stay k absent =
    let stays = stay k absent in
    let rest = rests k in
    ap (λ (x : Stock). x.tape k) archive ∙ settled_tape c.world.state (come effects c.world.state) k stays.0 stays.1 rest.1 ∙ rest.0

-- the effects were done, and the media were handed back
pub leaves_media : (c : Course) (these : List (List ℕ)) (s : Outcome) (first last : State) → c.world.state ≡ first → c.world.state.log_settled ≡ length c.world.state.log → c.world.state.told ≡ c.before.told → AreAtRest c → c.after ≡ settled_part last
    → Alike (come s.effects first) last → Alike s.world.state last → AreChanges s.world.log → s.world.state.log ≡ encoded s.world.log → c.cell ≡ s.world.cell → c.left ≡ s.moments
    → AbsentStay c.world s.effects → ImagesHold → (HoldsWorld c.world → IsFitFor c.world c.moments these → HoldsAfter c.world s.world.contents s.effects) → (HoldsWorld c.world → IsFitFor c.world c.moments these → HoldsWorld s.world)
    → (HoldsWorld c.world → IsFitWorld (at_first c.world c.moments these) → RestoresApartThroughout c.world c.moments these → FitsBackThroughout c.world c.moments these → IsFitWorld s.world) → Leaves c these s
leaves_media c these s first last rests settled told_at tapes_at back done state form log cell clock stay hold whole kept fit =
    let end : come s.effects c.world.state ≡ last = ap (come s.effects) rests ∙ alike_same (come s.effects first) last done in
    let archive : c.after ≡ settled_part (come s.effects c.world.state) = back ∙ ap settled_part (sym end) in
    let same : (come s.effects c.world.state).log ≡ encoded s.world.log = ap (λ (x : State). x.log) end ∙ state.log ∙ log in
    record {
      told = ap (λ (x : Stock). x.told) archive ∙ told_is s.effects c.world.state ∙ ap (λ (l : List ℕ). l ++ told_by s.effects) told_at;
      archive = archive;
      absent = absent_tape c s.effects tapes_at archive stay;
      journal = ap (λ (x : Stock). x.log) archive ∙ ap (λ (l : List ℕ). Some l) (log_whole (come s.effects c.world.state) (log_come s.effects c.world.state settled) ∙ same);
      form = form;
      cell = cell;
      clock = clock;
      kept = λ held asked. keeps_media hold c s archive (alike_same s.world.state last state ∙ sym end) (whole held asked) (kept held asked);
      fit = fit;
    }

module _ {D E : Type 0} (P : Plant D) (C : Cell E) (c : Course) (w : World) (old new : D) (site : E) (same : w ≡ c.world) (leaves : (these : List (List ℕ)) → Ends P C (script w c.moments these) old new site c.left → Leaves c these (script w c.moments these)) where
  in_course : (these : List (List ℕ)) → Leaves c these (script w c.moments these) → Leaves c these (script c.world c.moments these)
  in_course these = subst (λ (v : World). Leaves c these (script v c.moments these)) same

  short_in : EndsShort P C w c.moments c.input c.rest old new site c.left → LeavesShort c
  short_in short = record { took = short.took; leaves = in_course (lines (ended short.took.taken)) (leaves (lines (ended short.took.taken)) short.ends) }

  whole_in : (refused : Bool) → Ends P C (script w c.moments (lines c.input)) old new site c.left × (refused ≡ has_refusal (told_by (script w c.moments (lines c.input)).effects)) → Leaves c (lines c.input) (outcome c) × (has_refusal (told_by (outcome c).effects) ≡ refused)
  whole_in refused (ends, is) = (in_course (lines c.input) (leaves (lines c.input) ends), sym (is ∙ ap (λ (v : World). has_refusal (told_by (script v c.moments (lines c.input)).effects)) same))

  -- by the answer
  pub runs_of : (r : Result Bool RunStop) → IfOk r (λ refused. Ends P C (script w c.moments (lines c.input)) old new site c.left × (refused ≡ has_refusal (told_by (script w c.moments (lines c.input)).effects)))
      → (r ≡ Err stop.Read → EndsShort P C w c.moments c.input c.rest old new site c.left) → (r ≡ Err stop.TooLong → EndsShort P C w c.moments c.input c.rest old new site c.left)
      → ((at : ℕ) → r ≡ Err (stop.BadLog at) → ⊥) → Runs c (run_status r)
  runs_of (Ok true) ran read long bad = whole_in true ran
  runs_of (Ok false) ran read long bad = whole_in false ran
  runs_of (Err stop.Read) ran read long bad = short_in (read refl)
  runs_of (Err stop.TooLong) ran read long bad = short_in (long refl)
  runs_of (Err stop.Plant) ran read long bad = tt
  runs_of (Err stop.Cell) ran read long bad = tt
  runs_of (Err stop.Output) ran read long bad = tt
  runs_of (Err stop.Memory) ran read long bad = tt
  runs_of (Err (stop.BadLog at)) ran read long bad = bad at refl

-- what was told of it
pub told_lines : {D : Type 0} (P : Plant D) (old new : D) (before after : List ℕ) (r : Result Bool RunStop) → before ≡ (state_of P old).told → after ≡ (state_of P new).told → IfOk r (λ refused. HasTold P old new refused)
    → TellsLines before after (run_status r)
told_lines P old new before after (Ok true) start end has = record { text = has.text; told = end ∙ has.told ∙ ap (λ (l : List ℕ). l ++ has.text) (sym start); is = sym has.is }
told_lines P old new before after (Ok false) start end has = record { text = has.text; told = end ∙ has.told ∙ ap (λ (l : List ℕ). l ++ has.text) (sym start); is = sym has.is }
told_lines P old new before after (Err stop.Read) start end has = tt
told_lines P old new before after (Err stop.TooLong) start end has = tt
told_lines P old new before after (Err stop.Plant) start end has = tt
told_lines P old new before after (Err stop.Cell) start end has = tt
told_lines P old new before after (Err stop.Output) start end has = tt
told_lines P old new before after (Err stop.Memory) start end has = tt
told_lines P old new before after (Err (stop.BadLog at)) start end has = tt

pub opening_lines : (before after : List ℕ) (fault : OpenFault) → TellsLines before after (opening_status fault)
opening_lines before after opening.Failed = tt
opening_lines before after (opening.BadLog at) = tt

pub config_lines : (before after : List ℕ) (fault : ConfigFault) → TellsLines before after (config_status fault)
config_lines before after (config.BadLine line) = tt
config_lines before after (config.PortTwice line) = tt
config_lines before after (config.SlotTwice line) = tt
config_lines before after config.Memory = tt

-- where no plant was opened
pub runs_not_opened : (c : Course) (Told : Type 0) (damaged : Bool) (before now : ℕ) (fault : OpenFault) → HasCauseIn Told damaged before now fault → (damaged ≡ true → ⊥) → Told → Runs c (opening_status fault)
runs_not_opened c Told damaged before now opening.Failed cause whole told = tt
runs_not_opened c Told damaged before now (opening.BadLog at) cause whole told = whole (cause.2 told)

-- ---- what was taken

pub takes_run : (old new : List ℕ) (r : Result Bool RunStop) → TakesBytes old new r → TakesBy old new (run_status r)
takes_run old new (Ok true) takes = takes
takes_run old new (Ok false) takes = takes
takes_run old new (Err stop.Read) takes = takes
takes_run old new (Err stop.TooLong) takes = takes
takes_run old new (Err stop.Plant) takes = takes
takes_run old new (Err stop.Cell) takes = takes
takes_run old new (Err stop.Output) takes = takes
takes_run old new (Err stop.Memory) takes = takes
takes_run old new (Err (stop.BadLog at)) takes = takes

pub takes_opening : (input : List ℕ) (fault : OpenFault) → TakesBy input input (opening_status fault)
takes_opening input opening.Failed = takes_nothing input
takes_opening input (opening.BadLog at) = refl

pub takes_config : (input : List ℕ) (fault : ConfigFault) → TakesBy input input (config_status fault)
takes_config input (config.BadLine line) = refl
takes_config input (config.PortTwice line) = refl
takes_config input (config.SlotTwice line) = refl
takes_config input config.Memory = takes_nothing input

pub bad_log_answer : (r : Result Bool RunStop) (at : ℕ) → run_status r ≡ BadLog at → r ≡ Err (stop.BadLog at)
bad_log_answer (Ok true) at is = cc
bad_log_answer (Ok false) at is = cc
bad_log_answer (Err stop.Read) at is = cc
bad_log_answer (Err stop.TooLong) at is = cc
bad_log_answer (Err stop.Plant) at is = cc
bad_log_answer (Err stop.Cell) at is = cc
bad_log_answer (Err stop.Output) at is = cc
bad_log_answer (Err stop.Memory) at is = cc
bad_log_answer (Err (stop.BadLog n)) at is = cc

pub cell_answer : (r : Result Bool RunStop) → run_status r ≡ CellFault → r ≡ Err stop.Cell
cell_answer (Ok true) is = cc
cell_answer (Ok false) is = cc
cell_answer (Err stop.Read) is = cc
cell_answer (Err stop.TooLong) is = cc
cell_answer (Err stop.Plant) is = cc
cell_answer (Err stop.Cell) is = refl
cell_answer (Err stop.Output) is = cc
cell_answer (Err stop.Memory) is = cc
cell_answer (Err (stop.BadLog n)) is = cc

pub plant_answer : (r : Result Bool RunStop) → run_status r ≡ MediaFault → r ≡ Err stop.Plant
plant_answer (Ok true) is = cc
plant_answer (Ok false) is = cc
plant_answer (Err stop.Read) is = cc
plant_answer (Err stop.TooLong) is = cc
plant_answer (Err stop.Plant) is = refl
plant_answer (Err stop.Cell) is = cc
plant_answer (Err stop.Output) is = cc
plant_answer (Err stop.Memory) is = cc
plant_answer (Err (stop.BadLog n)) is = cc

pub refuses_journal : (r : Result Bool RunStop) → IsRefusedLog r → RefusesJournal (run_status r)
refuses_journal (Ok refused) is = absurd is
refuses_journal (Err stop.Read) is = absurd is
refuses_journal (Err stop.TooLong) is = absurd is
refuses_journal (Err stop.Plant) is = tt
refuses_journal (Err stop.Cell) is = absurd is
refuses_journal (Err stop.Output) is = absurd is
refuses_journal (Err stop.Memory) is = tt
refuses_journal (Err (stop.BadLog at)) is = tt

-- a log that is a list of changes
pub journal_of_log : (stock : Stock) (s : State) → stock ≡ seen_in s → IsLog s.log → Journal stock
journal_of_log stock s shown is = record { log = is.0; form = is.1; is = ap (λ (x : Stock). x.log) shown ∙ ap (λ (l : List ℕ). Some l) is.2 }

pub opening_bad : (Told : Type 0) (damaged : Bool) (before now : ℕ) (fault : OpenFault) (at : ℕ) → HasCauseIn Told damaged before now fault → Told → opening_status fault ≡ BadLog at → (at ≡ 0) × (damaged ≡ true)
opening_bad Told damaged before now opening.Failed at cause told is = cc
opening_bad Told damaged before now (opening.BadLog n) at cause told is = (cc, cause.2 told)

pub opening_cause : (Told : Type 0) (damaged : Bool) (before now : ℕ) (fault : OpenFault) → HasCauseIn Told damaged before now fault → HasCauseAs MediaFault before now (opening_status fault)
opening_cause Told damaged before now opening.Failed cause = record { failed = λ is. cause; stays = λ other. absurd (other refl) }
opening_cause Told damaged before now (opening.BadLog at) cause = record { failed = λ is. cc; stays = λ other. cause.1 }

pub opening_later : (Told : Type 0) (damaged : Bool) (before now : ℕ) (fault : OpenFault) → HasCauseIn Told damaged before now fault → min before (2 ^ 64 - 1) ≤ now
opening_later Told damaged before now opening.Failed cause = (let rose : min (before + 1) (2 ^ 64 - 1) ≤ now = cause in omega (arith, rose))
opening_later Told damaged before now (opening.BadLog at) cause = omega (arith, cause.1)

pub bad_journal : (log : Option (List ℕ)) (bytes : List ℕ) (at : ℕ) → log ≡ Some bytes → FailsAt IsLog bytes at → IsBadLog log at
bad_journal log bytes at is fails = subst (λ (l : Option (List ℕ)). IsBadLog l at) (sym is) fails

pub damaged_journal : (log : Option (List ℕ)) (at : ℕ) → log ≡ None → at ≡ 0 → IsBadLog log at
damaged_journal log at is first = subst (λ (l : Option (List ℕ)). IsBadLog l at) (sym is) first

-- ---- images

front_short : (n : ℕ) (xs : List ℕ) → length (take n xs) ≤ length xs
front_short n xs = omega (arith, ap length (take-append-drop n xs), length-append (take n xs) (drop n xs))

told_front : (n : ℕ) (es : List Effect) → length (told_by (take n es)) ≤ length (told_by es)
told_front n es = omega (arith, ap (λ (l : List Effect). length (told_by l)) (take-append-drop n es), ap length (told_by-append (take n es) (drop n es)), length-append (told_by (take n es)) (told_by (drop n es)))

told_short : (start : State) (effects before more : List Effect) (old new : Stock) (joint : Joint start effects old new) → effects ≡ before ++ more → joint.count ≤ length before → length new.told ≤ length start.told + length (told_by before)
told_short start effects before more old new joint is within =
    let front : take joint.count effects ≡ take joint.count before = ap (take joint.count) is ∙ take-append-le joint.count before more within in
    let whole : (come (take joint.count effects) start).told ≡ start.told ++ told_by (take joint.count before) = told_is (take joint.count effects) start ∙ ap (λ (l : List Effect). start.told ++ told_by l) front in
    omega (arith, ap length joint.left.told.1, front_short joint.left.told.0 (come (take joint.count effects) start).told, ap length whole, length-append start.told (told_by (take joint.count before)), told_front joint.count before)

-- a reply that was told whole is among the effects
pub told_whole : (start : State) (effects : List Effect) (old new : Stock) (joint : Joint start effects old new) (before after : List Effect) (reply : List ℕ) → effects ≡ before ++ tells reply ∷ after → 0 < length reply
    → length start.told + length (told_by before) + length reply ≤ length new.told → length before < joint.count
told_whole start effects old new joint before after reply is some whole = elim (cases_lt (length before) joint.count) [
  | inl past ↦ past
  | inr within ↦ absurd (omega (arith, some, whole, told_short start effects before (tells reply ∷ after) old new joint is within))
]

-- Effects of a course whose log is settled: what its journal is after them, and that they keep the archive.
pub record Journaled (c : Course) (effects : List Effect) : Type 0 where
  pub settled : c.world.state.log_settled ≡ length c.world.state.log
  pub form : AreChanges c.world.log
  pub is : c.world.state.log ≡ encoded c.world.log
  pub after : FindsVolumes c → (last : List Change) × IsJournalAfter c.world.log effects last
  pub way : HoldsWorld c.world → FindsFit c → (count : ℕ) → count ≤ length effects → HoldsAfter c.world (contents_in c count) (take count effects)
  pub images : ImagesHold
  pub listed : HoldsWorld c.world → FindsFit c → EachKeepsListed c.world effects
  pub replies : HoldsWorld c.world → FindsFit c → RepliesSettle c.world effects

front_journal : (log : List Change) (effects : List Effect) (n : ℕ) → (last : List Change) × IsJournalAfter log effects last → (mid : List Change) × IsJournalAfter log (take n effects) mid
front_journal log effects n (last, after) = journal_front (take n effects) (drop n effects) log last (subst (λ (es : List Effect). IsJournalAfter log es last) (sym (take-append-drop n effects)) after)

-- the journal that is found opens
opens_again : (c : Course) (effects : List Effect) (n : ℕ) (found : Option (List ℕ)) → Journaled c effects → found ≡ Some (come (take n effects) c.world.state).log → FindsVolumes c → Reopens c.world.log (take n effects) found
opens_again c effects n found j is volumes =
    let mid = front_journal c.world.log effects n (j.after volumes) in
    let form = journal_form (take n effects) c.world.log mid.0 j.form mid.1 in
    let bytes : found ≡ Some (encoded mid.0) = is ∙ ap (λ (l : List ℕ). Some l) (journal_bytes (take n effects) c.world.state c.world.log mid.0 j.is mid.1) in
    record {
      changes = mid.0;
      after = mid.1;
      form = form;
      is = bytes;
      never_bad = λ at bad. (subst (λ (l : Option (List ℕ)). IsBadLog l at) bytes bad).not_whole (mid.0, form, refl);
    }

-- the first of effects that take no tape of a listed dump take none
nothing_at : (k : ℕ) (e : Effect) → slice_get [] k ≡ Some e → ⊥
nothing_at k e at = (let f : ◌≡◌ {A = Option Effect} None (Some e) = at in cc)

front_at : (n k : ℕ) (es : List Effect) (e : Effect) → slice_get (take n es) k ≡ Some e → (slice_get es k ≡ Some e) × (take k (take n es) ≡ take k es)
front_at zero k [] e at = absurd (nothing_at k e at)
front_at zero k (x ∷ es) e at = absurd (nothing_at k e at)
front_at (suc n) k [] e at = (at, refl)
front_at (suc n) zero (x ∷ es) e at = (at, refl)
front_at (suc n) (suc k) (x ∷ es) e at = (let further = front_at n k es e at in (further.0, ap (λ (l : List Effect). x ∷ l) further.1))

front_listed : (w : World) (n : ℕ) (es : List Effect) → EachKeepsListed w es → EachKeepsListed w (take n es)
front_listed w n es keeps = λ k e at.
    (let there = front_at n k es e at in
    subst (λ (l : List Effect). KeepsListed w l e) (sym there.1) (keeps k e there.0))

image_of : (c : Course) (effects : List Effect) (old new : Stock) → Journaled c effects → Joint c.world.state effects old new → LeftImage c effects old new
image_of c effects old new j joint =
    let events : new.log ≡ Some (come (take joint.count effects) c.world.state).log
    = joint.left.log ∙ ap (λ (l : List ℕ). Some l) (log_whole (come (take joint.count effects) c.world.state) (log_come (take joint.count effects) c.world.state j.settled)) in
    record {
      joint = joint;
      events = events;
      reopens = opens_again c effects joint.count new.log j events;
      acknowledged = told_whole c.world.state effects old new joint;
      listed = λ held asked. front_listed c.world joint.count effects (j.listed held asked);
      settled = j.replies;
      archive = λ held asked. j.images c.world (contents_in c joint.count) (take joint.count effects) new (j.way held asked joint.count joint.within) joint.left;
    }

end_image : (c : Course) (stage : Stage) (old new : Stock) → Journaled c stage.effects → JointFrom (length stage.whole) c.world.state stage.effects old new → EndImage c stage old new
unfolding image_of
end_image c stage old new j past = record { left = image_of c stage.effects old new j past.joint; whole = past.low_is }

pub images_of : {D : Type 0} (time : Moments D Image) (old new : D) (c : Course) (effects : List Effect) → Journaled c effects → LeavesSince time old new (λ a b. Joint c.world.state effects (stock_of a) (stock_of b)) → LeavesImages time old new c effects
images_of time old new c effects j images = λ i left. let at = images i left in record { from = at.from; was = at.was; step = image_of c effects (stock_of at.from) (stock_of i) j at.step }

-- the journal of each script
abbrev pub ScriptsJournaled : Type 0
ScriptsJournaled = (w : World) (moments : List ℕ) (lines : List (List ℕ)) → HasTapes w → AreChanges w.log → IsFormedFor w lines → IsJournalAfter w.log (script w moments lines).effects (script w moments lines).world.log

-- no effect of a script takes a tape from a dump that is listed behind it
abbrev pub ScriptsKeepListed : Type 0
ScriptsKeepListed = (w : World) (moments : List ℕ) (lines : List (List ℕ)) → HoldsWorld w → IsReadyFor w moments lines → EachKeepsListed w (script w moments lines).effects

-- where a reply of a script is told all is settled
abbrev pub ScriptsSettle : Type 0
ScriptsSettle = (w : World) (moments : List ℕ) (lines : List (List ℕ)) → HoldsWorld w → IsReadyFor w moments lines → RepliesSettle w (script w moments lines).effects

-- the script of a course
pub journaled : ScriptsJournaled → ScriptsKeep → ScriptsKeepListed → ScriptsSettle → ImagesHold → (c : Course) → HasForms c → HasTapes c.world → c.world.state.log_settled ≡ length c.world.state.log → AreChanges c.world.log → c.world.state.log ≡ encoded c.world.log → Journaled c (outcome c).effects
journaled journals keep listed settle hold c forms has settled form is = record {
  settled = settled;
  form = form;
  is = is;
  after = λ volumes. ((outcome c).world.log, journals c.world c.moments (lines c.input) has form (forms.formed (lines c.input) volumes));
  way = λ held asked count within. keep c.world c.moments (lines c.input) held (ready_for c forms (lines c.input) asked) count;
  images = hold;
  listed = λ held asked. listed c.world c.moments (lines c.input) held (ready_for c forms (lines c.input) asked);
  replies = λ held asked. settle c.world c.moments (lines c.input) held (ready_for c forms (lines c.input) asked);
}

-- a stage of it
stage_journaled : (c : Course) (stage : Stage) → IsStage [] c.world c.moments (lines c.input) stage → Journaled c (outcome c).effects → Journaled c stage.effects
stage_journaled c stage on j =
    let more = stage_whole [] c.world c.moments (lines c.input) stage on in
    record {
      settled = j.settled;
      form = j.form;
      is = j.is;
      after = λ volumes. (let whole = j.after volumes in journal_front stage.effects more.0 c.world.log whole.0 (subst (λ (es : List Effect). IsJournalAfter c.world.log es whole.0) more.1 whole.1));
      way = λ held asked count within.
          (let all : stage.effects ++ more.0 ≡ (outcome c).effects = sym more.1 in
          let long : length stage.effects ≤ length (outcome c).effects = subst (λ (es : List Effect). length stage.effects ≤ length es) all (omega (arith, length-append stage.effects more.0)) in
          subst (λ (es : List Effect). HoldsAfter c.world (contents_in c count) es) (ap (take count) more.1 ∙ take-append-le count stage.effects more.0 within) (j.way held asked count (omega (arith, within, long))));
      images = j.images;
      listed = λ held asked.
          subst (λ (es : List Effect). EachKeepsListed c.world es) (ap (take (length stage.effects)) more.1 ∙ take-append-le (length stage.effects) stage.effects more.0 (omega arith) ∙ take_all (length stage.effects) stage.effects (omega arith))
          (front_listed c.world (length stage.effects) (outcome c).effects (j.listed held asked));
      replies = λ held asked. settle_first c.world stage.effects more.0 (subst (RepliesSettle c.world) more.1 (j.replies held asked));
    }

-- which lines are whole
pub runs_in : (c : Course) (w : World) (whole : List Effect) → w ≡ c.world → (took : Took c.input c.rest) → (whole ≡ (script w c.moments (lines c.input)).effects) ⊎ AreBegun w c.moments (lines (ended took.taken)) whole → RunsLines c whole
runs_in c w whole same took begun = record {
  took = took;
  begun = subst (λ (v : World). (whole ≡ (script v c.moments (lines c.input)).effects) ⊎ AreBegun v c.moments (lines (ended took.taken)) whole) same begun;
}

pub runs_front : (c : Course) → c.rest ≡ c.input → RunsLines c []
unfolding script
runs_front c none = record { took = record { taken = []; is = sym none; few = omega arith }; begun = inr (inl refl) }

-- however it ended
pub ends_past : {D : Type 0} (time : Moments D Image) (seen : D → Image) (old new : D) (c : Course) (stage : Stage) → IsStage [] c.world c.moments (lines c.input) stage → c.cell ≡ stage.cell → c.left ≡ stage.moments → RunsLines c stage.whole → Journaled c (outcome c).effects
    → Stepped time old (λ a b. JointFrom (length stage.whole) c.world.state stage.effects (stock_of a) (stock_of b)) (seen new) → EndsAt time seen old new c
ends_past time seen old new c stage on cell clock run j last = record {
  stage = stage;
  on_the_way = on;
  cell = cell;
  clock = clock;
  run = run;
  image = record {
    from = last.from;
    was = last.was;
    step = end_image c stage (stock_of last.from) (stock_of (seen new)) (stage_journaled c stage on j) last.step;
  };
}

-- where no line was begun
pub ends_front : {D : Type 0} (time : Moments D Image) (seen : D → Image) (old new : D) (c : Course) → c.cell ≡ c.world.cell → c.left ≡ c.moments → c.rest ≡ c.input → Journaled c (outcome c).effects → time.moment old ≤ time.moment new → time.may_leave new (seen new)
    → LeavesSince time old new (λ a b. Joint c.world.state [] (stock_of a) (stock_of b)) → EndsAt time seen old new c
ends_front time seen old new c cell clock none j later reads images =
    let last = images (seen new) (time.counts_now new (time.moment old) (seen new) later reads) in
    ends_past time seen old new c (between [] c.world c.moments) (stage_front [] c.world c.moments (lines c.input)) cell clock (runs_front c none) j
    (record { from = last.from; was = last.was; step = record { joint = last.step; low_is = omega arith } })

-- what was left of a stage was left of the script
pub left_whole : {D E : Type 0} (P : Plant D) (C : Cell E) (w v : World) (ms : List ℕ) (these : List (List ℕ)) (old new : D) (site : E) (left : List ℕ) → w ≡ v → Left P C w ms these old new site left → LeavesPlant P (script v ms these).effects old new
left_whole P C w v ms these old new site left same begun =
    let more = stage_whole [] w ms these begun.stage begun.on_the_way in
    subst (λ (es : List Effect). LeavesPlant P es old new) (sym more.1 ∙ ap (λ (x : World). (script x ms these).effects) same) (leaves_more P begun.stage.effects more.0 old new begun.leaves)

-- ---- the configuration

pub settings_same : (bytes : List ℕ) (a b : Settings) → config_of bytes ≡ Ok a → config_of bytes ≡ Ok b → a ≡ b
settings_same bytes a b one two = cc

-- ---- where nothing fails

not_too_long : (input rest : List ℕ) → TookTooMany input rest → IsWithin input → ⊥
not_too_long input rest took within = elim within [
  | inl few ↦ omega (arith, few, took.many, ap length took.took.is, length-append took.took.taken rest)
  | inr quits ↦ same_bool (sym quits ∙ ap (λ (l : List ℕ). has_quit (lines (ended l))) (ap (take 16777217) took.took.is ∙ take_at took.took.taken rest 16777217 took.many) ∙ took.no_quit)
]
  where
    same_bool : true ≡ false → ⊥
    same_bool is = cc

-- a configuration isn't both of the form and refused, and a list of changes isn't refused as none
pub never_refused : (config : List ℕ) (settings : Settings) (line : ℕ) → config_of config ≡ Ok settings → IsRefusedAt config line → ⊥
never_refused config settings line says refused = not_both (sym says ∙ refused.says)
  where
    not_both : Ok settings ≡ Err refused.fault → ⊥
    not_both is = cc

pub never_bad_log : (stock : Stock) (at : ℕ) → Journal stock → IsBadLog stock.log at → ⊥
never_bad_log stock at journal bad = (subst (λ (l : Option (List ℕ)). IsBadLog l at) journal.is bad).not_whole (journal.log, journal.form, refl)

pub complete_by : (input rest : List ℕ) (s : Status) → TakesBy input rest s → IsWithin input → (s ≡ Usage → ⊥) → ((line : ℕ) → s ≡ BadConfig line → ⊥) → ((at : ℕ) → s ≡ BadLog at → ⊥)
    → (s ≡ MediaFault → ⊥) → (s ≡ CellFault → ⊥) → (s ≡ OutputFault → ⊥) → (s ≡ ReadFault → ⊥) → IsComplete s
complete_by input rest Done takes within usage config log media cell output read = tt
complete_by input rest SomeRefused takes within usage config log media cell output read = tt
complete_by input rest Memory takes within usage config log media cell output read = tt
complete_by input rest Usage takes within usage config log media cell output read = usage refl
complete_by input rest (BadConfig line) takes within usage config log media cell output read = config line refl
complete_by input rest (BadLog at) takes within usage config log media cell output read = log at refl
complete_by input rest MediaFault takes within usage config log media cell output read = media refl
complete_by input rest CellFault takes within usage config log media cell output read = cell refl
complete_by input rest OutputFault takes within usage config log media cell output read = output refl
complete_by input rest ReadFault takes within usage config log media cell output read = read refl
complete_by input rest ScriptTooLong takes within usage config log media cell output read = not_too_long input rest takes within
