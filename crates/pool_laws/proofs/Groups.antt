-- A group keeps the archive: its begins and its turns, as one list of effects.
use Rattle.std.proofs.Common.{◌≡◌, ℕ, ◌<◌, ◌≤◌, List, [], ◌∷◌, ◌++◌, refl, sym, ap, subst, ◌∙◌, arith}
use Rattle.std.specs.Prelude.{All, Contains, Some, None, slice_get}
use Rattle.cell_core.specs.Cells.{IsCell}
use Rattle.cell_core.specs.Fairness.{NoneIsMadeAfter, NoSourceHasBackupName}
use Rattle.cell_core.specs.Forms.{IsStoredForm}
use Rattle.budb_changes.specs.declared.change.Change.{Change}
use Rattle.budb_changes.specs.declared.records.DumpRecordFields.{DumpRecordFields}
use Rattle.budb_changes.specs.Bytes.{encoded}
use Rattle.budb_fold.specs.Database.{after}
use Rattle.plant_core.specs.Crashes.{State}
use Rattle.plant_core.specs.Effects.{Effect, commits, comes, come, Joint}
use Rattle.plant_core.specs.Stock.{Stock}
use Rattle.tape_scan.specs.Slots.{Slot}
use Rattle.tape_answers.specs.Slots.{slots_of}
use Rattle.archive_model.specs.Archives.{Archive}
use Rattle.archive_model.specs.Settled.{HoldsSettled}
use Rattle.dump_courses.specs.Scenes.{Scene}
use Rattle.dump_commands.specs.Answers.{Contents}
use Rattle.dump_archives.proofs.Keeping.{archive_at, HoldsAt, keeps_then}
use Rattle.dump_archives.proofs.Heads.{heads_raised, stays_then}
use Rattle.dump_archives.proofs.Slots.{ReadOnce}
use Rattle.job_pool.specs.declared.jobs.PoolJob.{PoolJob}
use Rattle.job_pool.specs.Pools.{PoolPoint, PoolEvent, PoolCourse, interleaved, behind}
use Rattle.job_pool.specs.declared.turn.Kill.{Kill as PoolKill}
use Rattle.job_pool.specs.PoolCourses.{scheduled, turns_left, pool_course}
use Rattle.pool_laws.specs.Underway.{StandsAt, AllUnderway, KeepsAll, CourseKept}
use Rattle.job_pool.specs.Schedules.{AllEnded}
use Rattle.pool_laws.specs.Left.{ImageHolds}
use Rattle.dump_commands.specs.Starts.{Start}
use Rattle.group_commands.specs.Begins.{id_in, start_in, start_event, started, group_course}
use Rattle.pool_laws.specs.Groups.{MayStartIn, MayStart, MayAllStart, last_id}
use Rattle.pool_laws.proofs.Pool.{course_kept}
use Rattle.job_pool.proofs.CourseLaws.{course_ends}
use Rattle.pool_laws.proofs.Begins.{taken_underway}
use Rattle.pool_laws.proofs.Images.{image_of}

-- what stands there is held, and no dump is above a greater id
holds_of : (s : Scene) (time top more : ℕ) (grown : Contents) (log : List Change) (t : State) (a : Archive) (records known : List DumpRecordFields) → top ≤ more → StandsAt s time top grown log t a records known → HoldsAt s.slots s.present grown (λ (d : DumpRecordFields). d.id ≤ more) log t
holds_of s time top more grown log t a records known le st =
    let is : a ≡ archive_at s.slots s.present grown log t.tape = λ i. record { log = st.log_is i; slots = st.slots i; contents = st.contents_are i } in
    (records, subst (λ (x : Archive). HoldsSettled t x records) is st.held, λ d there. (let low = st.low d (st.all_known d there) in omega (arith, low, le)))

module _ (once : ReadOnce) (s : Scene) (time : ℕ) (grown : Contents) (is_cell : IsCell s.cell) (stored : All IsStoredForm s.cell) (made : NoneIsMadeAfter time s.cell) (named : NoSourceHasBackupName s.cell) where
  -- ---- one begin

  pub start_under : (top : ℕ) (p : PoolPoint) (b : Start) → AllUnderway s time top grown p → MayStart s time top grown p b → AllUnderway s time (id_in p.log b) grown (behind p (start_event p b))
  start_under top p b u may =
      let m : MayStartIn s time top grown p.jobs b u.archive.log u.archive.slots =
      subst (λ (l : List Change). MayStartIn s time top grown p.jobs b l u.archive.slots) (sym u.stands.log_is)
      (subst (λ (l : List Slot). MayStartIn s time top grown p.jobs b p.log l) (sym u.stands.slots) may) in
      subst (λ (l : List Change). AllUnderway s time (id_in l b) grown (behind p (start_in l p b))) u.stands.log_is
      (taken_underway once s time top grown is_cell stored made named p u b.order m.few m.unspent m.heads m.parent m.greater b.tape m.taken m.changes m.forms m.good m.time_is m.is_grown m.ports)

  start_keeps : (top more : ℕ) (p : PoolPoint) (b : Start) → AllUnderway s time top grown p → MayStart s time top grown p b → id_in p.log b ≤ more → KeepsAll s more grown p.log p.state (start_event p b).effects (p.log ++ (start_event p b).changes)
  start_keeps top more p b u may le =
      let under : AllUnderway s time (id_in p.log b) grown (behind p (start_event p b)) = start_under top p b u may in
      let first : top ≤ more = omega (arith, may.greater, le) in
      record {
        way = (holds_of s time top more grown p.log p.state u.archive u.records u.known first u.stands, ((start_event p b).changes, record { form = may.changes; is = refl }, (holds_of s time (id_in p.log b) more grown (behind p (start_event p b)).log (behind p (start_event p b)).state under.archive under.records under.known le under.stands, refl)));
        up = (heads_raised top more _ first u.stands.heads, heads_raised (id_in p.log b) more _ le under.stands.heads);
      }

  -- ---- all of them, and the rest

  pub last_above : (starts : List Start) (top : ℕ) (p : PoolPoint) → MayAllStart s time top grown p starts → top ≤ last_id top p starts
  last_above [] top p may = omega arith
  last_above (b ∷ starts) top p may =
      let rest : id_in p.log b ≤ last_id (id_in p.log b) (behind p (start_event p b)) starts = last_above starts (id_in p.log b) (behind p (start_event p b)) may.1 in
      let less : top < id_in p.log b = may.0.greater in
      omega (arith, rest, less)

  started_kept : (rest : PoolPoint → PoolCourse) (last : ℕ) → ((q : PoolPoint) → AllUnderway s time last grown q → CourseKept s time last grown q (rest q))
      → (starts : List Start) (top : ℕ) (p : PoolPoint) → AllUnderway s time top grown p → MayAllStart s time top grown p starts → last_id top p starts ≡ last → CourseKept s time last grown p (started rest p starts)
  started_kept rest last kept [] top p u may is = kept p (subst (λ (n : ℕ). AllUnderway s time n grown p) is u)
  started_kept rest last kept (b ∷ starts) top p u may is =
      let e : PoolEvent = start_event p b in
      let q : PoolPoint = behind p (start_event p b) in
      let more : CourseKept s time last grown q (started rest q starts) = started_kept rest last kept starts (id_in p.log b) q (start_under top p b u may.0) may.1 is in
      let above : id_in p.log b ≤ last_id (id_in p.log b) q starts = last_above starts (id_in p.log b) q may.1 in
      let le : id_in p.log b ≤ last = omega (arith, above, is) in
      let one : KeepsAll s last grown p.log p.state (start_event p b).effects (p.log ++ (start_event p b).changes) = start_keeps top last p b u may.0 le in (
        record {
          way = keeps_then s.slots s.present grown (λ (d : DumpRecordFields). d.id ≤ last) (start_event p b).effects (started rest q starts).effects p.state p.log (p.log ++ (start_event p b).changes) (started rest q starts).log one.way more.0.way;
          up = stays_then last s.slots s.present (start_event p b).effects (started rest q starts).effects p.state one.up more.0.up;
        },
        more.1,
      )

  turns_kept : (kills : List PoolKill) (x last : ℕ) (q : PoolPoint) → AllUnderway s time last grown q → CourseKept s time last grown q (pool_course s kills x q)
  unfolding pool_course
  turns_kept kills x last q u = course_kept once s time last grown is_cell stored made named (scheduled (turns_left s.cell q.jobs) s kills x q) q u

  pub group_kept : (kills : List PoolKill) (x top : ℕ) (p : PoolPoint) (starts : List Start) → AllUnderway s time top grown p → MayAllStart s time top grown p starts → CourseKept s time (last_id top p starts) grown p (group_course s kills x p starts)
  group_kept kills x top p starts u may = started_kept (pool_course s kills x) (last_id top p starts) (λ q under. turns_kept kills x (last_id top p starts) q under) starts top p u may refl

  pub group_image : (kills : List PoolKill) (x top : ℕ) (p : PoolPoint) (starts : List Start) → AllUnderway s time top grown p → MayAllStart s time top grown p starts → (old c : Stock) → (joint : Joint p.state (group_course s kills x p starts).effects old c) → ImageHolds s grown p.log p.state (group_course s kills x p starts).effects joint.count c
  group_image kills x top p starts u may old c joint =
      image_of s (last_id top p starts) grown p.log (group_course s kills x p starts).log p.state (group_course s kills x p starts).effects (group_kept kills x top p starts u may).0 old c joint

-- no dump runs behind it
pub group_ends : (s : Scene) (kills : List PoolKill) (x : ℕ) (starts : List Start) (p : PoolPoint) → AllEnded (group_course s kills x p starts).jobs
group_ends s kills x [] p = course_ends s kills x p
group_ends s kills x (b ∷ starts) p = group_ends s kills x starts (behind p (start_event p b))
