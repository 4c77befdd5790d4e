-- THE END OF A GROUP keeps the archive, and leaves one.
use Rattle.std.proofs.Common.{◌≡◌, ◌⊎◌, ℕ, zero, suc, ◌+◌, ◌<◌, ◌≤◌, le_trans, Some, None, List, [], ◌∷◌, ◌++◌, take, sym, subst, arith, inl, inr}
use Rattle.std.specs.Prelude.{Contains, slice_get}
use Rattle.std.proofs.lemmas.List.Elements.{All-nil}
use Rattle.cell_core.proofs.FairLaws.{fair_later}
use Rattle.budb_changes.specs.declared.records.DumpRecordFields.{DumpRecordFields}
use Rattle.budb_changes.specs.declared.change.Change.{Change}
use Rattle.budb_changes.proofs.Logs.{same_changes}
use Rattle.budb_changes.specs.Bytes.{encoded}
use Rattle.budb_changes.specs.Forms.{AreChanges}
use Rattle.budb_fold.specs.Database.{after}
use Rattle.plant_core.specs.Crashes.{State}
use Rattle.plant_core.specs.Effects.{Effect, come}
use Rattle.tape_answers.specs.Slots.{slots_of}
use Rattle.archive_model.specs.Sources.{dumped_by}
use Rattle.tape_choice.specs.Choice.{takes}
use Rattle.dump_forms.specs.Journals.{AreBytesOf, IsJournalAfter}
use Rattle.dump_courses.specs.Scenes.{Scene, database_in}
use Rattle.dump_commands.specs.Answers.{Contents}
use Rattle.dump_commands.specs.Starts.{Start}
use Rattle.dump_archives.specs.Asking.{archive_with, archive_in, AsksOfScene}
use Rattle.dump_archives.specs.Keeping.{IsKnown, HeadsUpTo, KnowsIds}
use Rattle.dump_archives.proofs.Sinces.{contents_come}
use Rattle.saved_archives.specs.Since.{ComesOf}
use Rattle.archive_model.specs.Archives.{Archive, listed_of}
use Rattle.pool_laws.proofs.Sinces.{group_since}
use Rattle.dump_archives.proofs.Answers.{made_later, within_two, known_dumps, said_ids}
use Rattle.dump_archives.proofs.Growing.{greatest_begun}
use Rattle.dump_archives.proofs.Heads.{stays_known, heads_raised}
use Rattle.dump_archives.proofs.Keeping.{Keeps, keeps_so}
use Rattle.dump_archives.proofs.Kept.{KeptBy}
use Rattle.dump_archives.proofs.Slots.{ReadOnce}
use Rattle.job_pool.specs.declared.turn.Kill.{Kill as PoolKill}
use Rattle.job_pool.specs.declared.jobs.PoolJob.{PoolJob}
use Rattle.job_pool.specs.Pools.{PoolPoint, PoolCourse, behind}
use Rattle.job_pool.specs.PoolCourses.{pool_course}
use Rattle.group_commands.specs.Groups.{GroupView}
use Rattle.group_commands.specs.Begins.{id_in, start_event, group_course, first_point, begins, starts_of, kills_of, time_behind, contents_behind}
use Rattle.group_commands.specs.Answers.{group_answer}
use Rattle.pool_laws.specs.Groups.{MayStart, MayAllStart, last_id}
use Rattle.pool_laws.specs.Left.{LeftBehind}
use Rattle.pool_laws.specs.Underway.{AllUnderway, CourseKept}
use Rattle.pool_laws.proofs.Ends.{first_top, none_underway, all_left}
use Rattle.pool_laws.proofs.Groups.{start_under, last_above, group_kept, group_ends}
use Rattle.group_laws.specs.Forms.{IsGroupForm, ArePortsApart}
use Rattle.group_laws.proofs.GroupContents.{later_same, time_more, time_four, pool_grows, last_known}
use Rattle.group_laws.proofs.MayStarts.{IsMoment, all_ascend, may_all}

-- ---- ids that are known

-- an id that is known isn't above the greatest of all that are
known_low : (id time greatest : ℕ) → (id ≤ greatest) ⊎ (id < time) → id ≤ first_top time greatest
known_low id time greatest (inl le) = omega (arith, le)
known_low id time greatest (inr lt) = omega (arith, lt)

low_known : (id time greatest : ℕ) → id ≤ first_top time greatest → (id ≤ greatest) ⊎ (id < time)
low_known id time greatest low = within_two id time greatest (omega (arith, low))

-- ---- heads while a group goes

-- what a begin commits stands behind the journal
journal_then : (p : PoolPoint) (b : Start) → AreChanges (start_event p b).changes → (rest : List Effect) (changes more : List Change) → AreBytesOf more (encoded (start_event p b).changes) → IsJournalAfter (p.log ++ more) rest changes
    → IsJournalAfter (behind p (start_event p b)).log rest changes
journal_then p b form rest changes more are journal =
    let same : more ≡ (start_event p b).changes = same_changes more (start_event p b).changes are.form form (sym are.is) in
    subst (λ (l : List Change). IsJournalAfter (p.log ++ l) rest changes) same journal

module _ (once : ReadOnce) (s : Scene) (contents : Contents) (records : List DumpRecordFields) (asks : AsksOfScene s contents records) (grown : Contents) (kills : List PoolKill) (x : ℕ) where
  abbrev Heads : ℕ → State → Type 0
  Heads id t = HeadsUpTo id (slots_of s.slots s.present t.tape)

  under_then : (b : Start) (top : ℕ) (p : PoolPoint) → AllUnderway s s.time top grown p → MayStart s s.time top grown p b → AllUnderway s s.time (id_in p.log b) grown (behind p (start_event p b))
  under_then b top p u may = start_under once s s.time grown asks.cell asks.form.cell asks.made asks.named top p b u may

  id_known : (p : PoolPoint) (b : Start) → id_in p.log b ≤ (after (behind p (start_event p b)).log).greatest
  id_known p b = greatest_begun p.log (takes b.tape.take) (id_in p.log b)

  -- behind the first begin the last id that was begun is known
  ids_from : (starts : List Start) (top : ℕ) (p : PoolPoint) → AllUnderway s s.time top grown p → MayAllStart s s.time top grown p starts → top ≤ (after p.log).greatest
      → (count : ℕ) (changes : List Change) → IsJournalAfter p.log (take count (group_course s kills x p starts).effects) changes → Heads (after changes).greatest (come (take count (group_course s kills x p starts).effects) p.state)
  ids_from [] top p u may low count changes journal =
      let kept : CourseKept s s.time top grown p (group_course s kills x p []) = group_kept once s s.time grown asks.cell asks.form.cell asks.made asks.named kills x top p [] u may in
      let there = stays_known top s.slots s.present count (group_course s kills x p []).effects p.state p.log changes kept.0.up low journal in
      heads_raised top (after changes).greatest _ there.0 there.1
  ids_from (b ∷ starts) top p u may low zero changes journal = subst (λ (l : List Change). Heads (after l).greatest p.state) (sym journal) (heads_raised top (after p.log).greatest _ low u.stands.heads)
  ids_from (b ∷ starts) top p u may low (suc count) changes (more, are, journal) =
      ids_from starts (id_in p.log b) (behind p (start_event p b)) (under_then b top p u may.0) may.1 (id_known p b) count changes
      (journal_then p b may.0.changes (take count (group_course s kills x (behind p (start_event p b)) starts).effects) changes more are journal)

  -- from the group's end on, where ids were known
  ids_first : (starts : List Start) (top : ℕ) → let p = first_point s in AllUnderway s s.time top grown p → MayAllStart s s.time top grown p starts → (count : ℕ) (changes : List Change) → IsJournalAfter s.log (take count (group_course s kills x p starts).effects) changes
      → KnowsIds (archive_in s contents) → KnowsIds (archive_with s grown changes (come (take count (group_course s kills x p starts).effects) s.state).tape)
  unfolding pool_course
  ids_first [] top u may count changes journal known = said_ids s grown count changes journal known
  ids_first (b ∷ starts) top u may zero changes journal known = subst (λ (l : List Change). Heads (after l).greatest s.state) (sym journal) known
  ids_first (b ∷ starts) top u may (suc count) changes (more, are, journal) known =
      let p = first_point s in
      ids_from starts (id_in p.log b) (behind p (start_event p b)) (under_then b top p u may.0) may.1 (id_known p b) count changes
      (journal_then p b may.0.changes (take count (group_course s kills x (behind p (start_event p b)) starts).effects) changes more are journal)

-- ---- the end

module _ (once : ReadOnce) (s : Scene) (contents : Contents) (records : List DumpRecordFields) (asks : AsksOfScene s contents records) (g : GroupView) (form : IsGroupForm g) (apart : ArePortsApart s.config.entries) where
  abbrev p0 : PoolPoint
  p0 = first_point s

  abbrev starts : List Start
  starts = starts_of s p0 g.held

  abbrev grown : Contents
  grown = contents_behind s p0 starts contents

  abbrev kills : List PoolKill
  kills = kills_of (begins s p0 g.held) g.kills

  abbrev went : PoolCourse
  went = group_course s kills g.schedule p0 starts

  -- the greatest id that is known, in front of it and behind it, and the time behind it
  abbrev top : ℕ
  top = first_top s.time (database_in s).greatest

  abbrev last : ℕ
  last = last_id top p0 starts

  abbrev now : ℕ
  now = time_behind s.time p0 starts

  others : (d : DumpRecordFields) (name : List ℕ) → IsKnown s.time (database_in s).greatest d → grown d.id name ≡ contents d.id name
  others d name known = later_same s starts p0 contents d.id name (all_ascend s asks.form.time g.held p0) (known_low d.id s.time (database_in s).greatest known)

  under : AllUnderway s s.time top grown p0
  under = none_underway s contents grown records asks (λ d name there. others d name (known_dumps s contents records asks d there))

  moment : IsMoment s g.held p0
  moment = record { log = asks.form.log; heads = asks.heads; ports = All-nil _ }

  may : MayAllStart s s.time top grown p0 starts
  may = may_all s asks.form asks.cell apart g.held (record { each = form.group.each; ports = form.group.ports; commands = form.commands }) p0 top contents moment (omega arith)

  kept : CourseKept s s.time last grown p0 went
  kept = group_kept once s s.time grown asks.cell asks.form.cell asks.made asks.named kills g.schedule top p0 starts under may

  left : LeftBehind s s.time last grown (record { log = went.log; state = come went.effects s.state; jobs = went.jobs })
  left = all_left s s.time last grown (record { log = went.log; state = come went.effects s.state; jobs = went.jobs }) kept.1 (group_ends s kills g.schedule starts p0)

  low : last ≤ first_top now (after went.log).greatest
  low = last_known (pool_course s kills g.schedule) (pool_grows s kills g.schedule) starts p0 top s.time (omega arith)

  known : (id : ℕ) → id ≤ last → (id ≤ (after went.log).greatest) ⊎ (id < now)
  known id up = low_known id now (after went.log).greatest (le_trans up low)

  keeps : Keeps s.slots s.present grown (IsKnown now (after went.log).greatest) s.log s.state went.effects went.log
  keeps = keeps_so s.slots s.present grown (IsKnown now (after went.log).greatest) (λ (d : DumpRecordFields). d.id ≤ last) (λ d up. known d.id up) went.effects s.state s.log went.log kept.0.way

  known_less : (d : DumpRecordFields) → Contains records d → d.id < top + 1
  known_less d there = (let le = known_low d.id s.time (database_in s).greatest (known_dumps s contents records asks d there) in omega (arith, le))

  none_from : (n : ℕ) (q : PoolJob) → slice_get p0.jobs n ≡ Some q → q.end ≡ None → top + 1 ≤ q.job.head.id
  none_from n q at runs = absurd (cc)

  comes_behind : (greatest : ℕ) (before : Archive) → (greatest ≤ (database_in s).greatest) ⊎ (greatest < s.time) → ComesOf greatest before (archive_in s contents) → ComesOf greatest before (archive_with s grown went.log (come went.effects s.state).tape)
  comes_behind greatest before known_id comes =
      let le : greatest ≤ top = known_low greatest s.time (database_in s).greatest known_id in
      let less : greatest < top + 1 = omega (arith, le) in
      let there : ComesOf greatest before (archive_in s grown) =
      contents_come (top + 1) (archive_in s contents) grown (listed_of (archive_in s contents)) records asks.holds.seen.kept known_less
      (λ id name below. later_same s starts p0 contents id name (all_ascend s asks.form.time g.held p0) (omega (arith, below))) greatest before less comes in
      group_since once s s.time grown asks.cell asks.form.cell asks.made asks.named (top + 1) kills g.schedule top p0 starts under may none_from (omega arith) greatest before less there

  known_behind : (id : ℕ) → (id ≤ (database_in s).greatest) ⊎ (id < s.time) → (id ≤ (after went.log).greatest) ⊎ (id < now)
  known_behind id known_id = (let first = known_low id s.time (database_in s).greatest known_id in let more = last_above once s s.time grown asks.cell asks.form.cell asks.made asks.named starts top p0 may in known id (le_trans first more))

  -- THE END OF A GROUP keeps the archive.
  pub end_kept : KeptBy s contents (group_answer s g).answer
  unfolding group_answer
  end_kept = record {
    keeps = keeps;
    behind = record {
      records = left.records;
      asks = record {
        form = record { log = left.holds.seen.changes; cell = asks.form.cell; few = asks.form.few; time = time_four starts p0 s.time asks.form.time; name = asks.form.name; ports = asks.form.ports };
        holds = left.holds;
        settled = left.settled;
        short = left.short;
        cell = asks.cell;
        fair = fair_later s.cell (dumped_by grown left.records) s.time now left.fair (time_more starts p0 s.time);
        made = made_later s.time now (time_more starts p0 s.time) s.cell asks.made;
        named = asks.named;
        heads = λ k x n h at is. known h.id (left.heads k x n h at is);
      };
    };
    others = others;
    ids = ids_first once s contents records asks grown kills g.schedule starts top under may;
    since = record { known = known_behind; comes = comes_behind };
  }
