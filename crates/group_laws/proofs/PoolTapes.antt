-- Dumps that begin and take turns leave each tape with no more records than a number of four bytes counts, where they are no more than sixteen.
use Rattle.std.proofs.Common.{◌≡◌, ℕ, zero, suc, ◌+◌, ◌*◌, ◌≤◌, Bool, true, false, Option, Some, None, List, [], ◌∷◌, ◌++◌, length, length-append, ap, arith, inl, inr}
use Rattle.std.specs.Prelude.{◌==◌, if◌then◌else◌, All, Ok, slice_get}
use Rattle.plant_core.specs.Crashes.{State}
use Rattle.plant_core.specs.Effects.{come}
use Rattle.plant_effects.proofs.States.{come_append}
use Rattle.cell_core.specs.Forms.{IsStoredForm}
use Rattle.dump_job.specs.declared.fields.JobFields.{JobFields}
use Rattle.dump_job.specs.Settling.{last_cut}
use Rattle.dump_job.specs.Events.{Event}
use Rattle.dump_courses.specs.Scenes.{Scene}
use Rattle.dump_courses.specs.Courses.{around, next_event}
use Rattle.backup_words.specs.declared.command.DumpCommand.{DumpCommand}
use Rattle.dump_commands.specs.Forms.{IsSceneForm, IsCommandForm, AreShort}
use Rattle.dump_commands.specs.Starts.{Start, dump_start}
use Rattle.job_pool.specs.declared.ends.JobEnd.{JobEnd}
use Rattle.job_pool.specs.declared.jobs.PoolJob.{PoolJob}
use Rattle.job_pool.specs.declared.turn.Turn.{Turn}
use Rattle.job_pool.specs.declared.turn.Kill.{Kill as PoolKill}
use Rattle.job_pool.specs.Pools.{PoolPoint, PoolEvent, PoolCourse, point_of, with_job, stepped, killed, settling_at, step_event, kill_event, turn_event, behind, interleaved}
use Rattle.job_pool.specs.PoolCourses.{scheduled, turns_left, pool_course}
use Rattle.job_pool.proofs.Pooling.{with_length}
use Rattle.group_commands.specs.Groups.{GroupView}
use Rattle.group_commands.specs.Begins.{job_in, start_event, started, scene_at, first_point, starts_of, begins, kills_of}
use Rattle.group_commands.specs.Answers.{group_answer}
use Rattle.group_laws.proofs.HeldStarts.{by_held, starts_few}
use Rattle.group_laws.proofs.PoolTurns.{Runs, by_turn}
use Rattle.group_laws.proofs.PoolForms.{AreFormed, HasPoolForms, turn_formed, begin_formed, first_formed}
use Rattle.group_laws.proofs.TapeEvents.{left_of, left_few, Grows, cut_less, event_grows}

-- ---- what is left

-- how many records more a dump puts at most on the tape of a slot; one that has ended puts none
abbrev left_by : Option JobEnd → JobFields → ℕ → ℕ
left_by None j k = left_of j k
left_by (Some end) j k = 0

-- all dumps together
abbrev left_on : ℕ → List PoolJob → ℕ
left_on k [] = 0
left_on k (q ∷ jobs) = left_by q.end q.job k + left_on k jobs

by_most : (o : Option JobEnd) (j : JobFields) (k : ℕ) → left_by o j k ≤ left_of j k
by_most None j k = omega arith
by_most (Some end) j k = omega arith

on_few : (k : ℕ) (jobs : List PoolJob) → left_on k jobs ≤ length jobs * 500000
on_few k [] = omega arith
on_few k (q ∷ jobs) = omega (arith, by_most q.end q.job k, left_few q.job k, on_few k jobs)

on_with : (k n : ℕ) (q r : PoolJob) (jobs : List PoolJob) → slice_get jobs n ≡ Some q → left_on k (with_job n r jobs) + left_by q.end q.job k ≡ left_on k jobs + left_by r.end r.job k
on_with k n q r [] at = absurd (cc)
on_with k zero q r (x ∷ jobs) at =
    let same : x ≡ q = cc in
    let left : left_by x.end x.job k ≡ left_by q.end q.job k = ap (λ (y : PoolJob). left_by y.end y.job k) same in
    omega (arith, left)
on_with k (suc n) q r (x ∷ jobs) at = omega (arith, on_with k n q r jobs at)

on_push : (k : ℕ) (jobs : List PoolJob) (r : PoolJob) → left_on k (jobs ++ r ∷ []) ≡ left_on k jobs + left_by r.end r.job k
on_push k [] r = omega arith
on_push k (x ∷ jobs) r = omega (arith, on_push k jobs r)

-- ---- turns

-- At each slot the records that stand there, and those that are left for all dumps, are no more than four bytes count.
pub record HasTapeRoom (p : PoolPoint) : Type 0 where
  pub few : length p.jobs ≤ 16
  pub room : (k : ℕ) → length (p.state.tape k) + left_on k p.jobs ≤ 4294967295

roomy_short : (p : PoolPoint) → HasTapeRoom p → AreShort p.state.tape
roomy_short p is k = omega (arith, is.room k)

-- one dump of them has had a turn
grown_room : (records left old was : ℕ) (before after : ℕ) → Grows records left (old + was) → after + was ≤ before + left → old + before ≤ 4294967295 → after ≤ 8000000 → records + after ≤ 4294967295
grown_room records left old was before after (inl le) sum room few = omega (arith, le, sum, room)
grown_room records left old was before after (inr le) sum room few = omega (arith, le, few)

module _ (s : Scene) (cell : All IsStoredForm s.cell) where
  step_roomy : (p : PoolPoint) (n : ℕ) (q : PoolJob) → AreFormed p.jobs → HasTapeRoom p → Runs p n q → HasTapeRoom (behind p (step_event s p n q))
  step_roomy p n q formed is run =
      let e : Event = next_event s (point_of p q) in
      let jobs : List PoolJob = with_job n (stepped q e) p.jobs in
      let same : length jobs ≡ length p.jobs = with_length n (stepped q e) p.jobs in
      let few : length jobs ≤ 16 = omega (arith, same, is.few) in
      record {
        few = few;
        room = λ k. (
            let was : left_by q.end q.job k ≡ left_of q.job k = ap (λ (o : Option JobEnd). left_by o q.job k) run.1 in
            let left : left_by (stepped q e).end e.job k ≤ left_of e.job k = by_most (stepped q e).end e.job k in
            let sum : left_on k jobs + left_by q.end q.job k ≡ left_on k p.jobs + left_by (stepped q e).end e.job k = on_with k n q (stepped q e) p.jobs run.0 in
            grown_room (length ((come e.effects p.state).tape k)) (left_of e.job k) (length (p.state.tape k)) (left_of q.job k) (left_on k p.jobs) (left_on k jobs)
            (event_grows (around s (point_of p q)) q.job p.state (formed n q run.0 run.1) k) (omega (arith, was, left, sum)) (is.room k) (omega (arith, on_few k jobs, few))
            );
      }

  settled_less : (o : Option ℕ) (t : State) (k : ℕ) → length ((come (settling_at o t) t).tape k) ≤ length (t.tape k)
  settled_less None t k = omega arith
  settled_less (Some slot) t k = cut_less slot (length (t.tape slot)) t k

  kill_roomy : (p : PoolPoint) (n : ℕ) (q : PoolJob) → HasTapeRoom p → Runs p n q → HasTapeRoom (behind p (kill_event p n q))
  kill_roomy p n q is run =
      let same : length (with_job n (killed q) p.jobs) ≡ length p.jobs = with_length n (killed q) p.jobs in
      record {
        few = omega (arith, same, is.few);
        room = λ k. omega (arith, settled_less (last_cut q.job) p.state k, on_with k n q (killed q) p.jobs run.0, is.room k);
      }

  turn_roomy : (p : PoolPoint) → AreFormed p.jobs → HasTapeRoom p → (t : Turn) → HasTapeRoom (behind p (turn_event s p t))
  turn_roomy p formed is =
      by_turn s p (λ (e : PoolEvent). HasTapeRoom (behind p e)) (record { few = is.few; room = is.room }) (λ n q run. step_roomy p n q formed is run) (λ n q run. kill_roomy p n q is run)

  turns_short : (turns : List Turn) (p : PoolPoint) → AreFormed p.jobs → HasTapeRoom p → AreShort (come (interleaved s p turns).effects p.state).tape
  turns_short [] p formed is = roomy_short p is
  turns_short (t ∷ turns) p formed is =
      let e : PoolEvent = turn_event s p t in
      let rest : PoolCourse = interleaved s (behind p e) turns in
      rw (come_append e.effects rest.effects p.state) (turns_short turns (behind p e) (turn_formed s cell p formed t) (turn_roomy p formed is t))

  pub pool_short : (kills : List PoolKill) (x : ℕ) (p : PoolPoint) → AreFormed p.jobs → HasTapeRoom p → AreShort (come (pool_course s kills x p).effects p.state).tape
  unfolding pool_course
  pool_short kills x p formed is = turns_short (scheduled (turns_left s.cell p.jobs) s kills x p) p formed is

-- ---- begins

-- all is well before the turns of dumps, where these few are still to begin
record BeforeStarts (p : PoolPoint) : Type 0 where
  forms : HasPoolForms p
  room : (k : ℕ) → length (p.state.tape k) + left_on k p.jobs ≤ 4294967295

if_none : (b : Bool) → (if b then 0 else 0) ≤ 0
if_none true = omega arith
if_none false = omega arith

-- for a dump that begins nothing is left yet
fresh_room : (k : ℕ) (p : PoolPoint) (b : Start) → length (p.state.tape k) + left_on k p.jobs ≤ 4294967295 → length (p.state.tape k) + left_on k (start_event p b).jobs ≤ 4294967295
fresh_room k p b room =
    let r : PoolJob = record { job = job_in p.log b; steps = 0; end = None } in
    let none : left_by r.end r.job k ≤ 0 = if_none (k == r.job.reel.slot) in
    omega (arith, on_push k p.jobs r, none, room)

module _ (s : Scene) (scene : IsSceneForm s) where
  begin_before : (p : PoolPoint) (a : DumpCommand) (b : Start) → IsCommandForm a → dump_start (scene_at s p) a ≡ Ok b → BeforeStarts p → BeforeStarts (behind p (start_event p b))
  begin_before p a b command is before = record { forms = begin_formed s scene p a b command is before.forms; room = λ k. fresh_room k p b (before.room k) }

  started_short : (rest : PoolPoint → PoolCourse) → ((q : PoolPoint) → AreFormed q.jobs → HasTapeRoom q → AreShort (come (rest q).effects q.state).tape)
      → (held : List DumpCommand) (p : PoolPoint) → All IsCommandForm held → BeforeStarts p → length p.jobs + length (starts_of s p held) ≤ 16 → AreShort (come (started rest p (starts_of s p held)).effects p.state).tape
  started_short rest kept =
      by_held s IsCommandForm BeforeStarts (λ (p : PoolPoint) (starts : List Start). length p.jobs + length starts ≤ 16 → AreShort (come (started rest p starts).effects p.state).tape)
      (λ p before few. kept p before.forms.jobs (record { few = omega (arith, few); room = before.room })) begin_before
      (λ p a b starts command is before others few. (let long = length-append p.jobs ((record { job = job_in p.log b; steps = 0; end = None }) ∷ []) in others (omega (arith, long, few))))

  pub end_short : (g : GroupView) → All IsCommandForm g.held → length g.held ≤ 16 → AreShort s.state.tape → AreShort (come (group_answer s g).answer.effects s.state).tape
  unfolding group_answer
  end_short g commands few short =
      let kills : List PoolKill = kills_of (begins s (first_point s) g.held) g.kills in
      started_short (pool_course s kills g.schedule) (λ q formed is. pool_short s scene.cell kills g.schedule q formed is) g.held (first_point s) commands
      (record { forms = first_formed s scene; room = λ k. omega (arith, short k) }) (omega (arith, starts_few s g.held (first_point s), few))
