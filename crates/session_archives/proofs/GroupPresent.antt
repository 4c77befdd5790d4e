-- The effects of the end of a group are on tapes in slots that are here.
use Rattle.std.proofs.Common.{◌≡◌, ℕ, zero, suc, Option, Some, None, List, [], ◌∷◌, length, ◌-◌, refl, subst, IsTrue}
use Rattle.std.specs.Prelude.{All, slice_get, Result, Ok, Err}
use Rattle.std.proofs.lemmas.List.Elements.{All-nil, All-cons, All-head, All-tail, All-append}
use Rattle.plant_core.specs.Crashes.{State}
use Rattle.tape_config.specs.declared.port.PortFields.{PortFields}
use Rattle.backup_words.specs.declared.command.DumpCommand.{DumpCommand}
use Rattle.dump_job.specs.declared.fault.JobFault.{JobFault}
use Rattle.dump_job.specs.declared.first_tapes.FirstTape.{FirstTape}
use Rattle.dump_job.specs.declared.order.DumpOrder.{DumpOrder}
use Rattle.dump_job.specs.declared.fields.Filled.{Filled}
use Rattle.dump_job.specs.declared.fields.Phase.{Phase}
use Rattle.dump_job.specs.declared.fields.Phase.TheVariants as phase
use Rattle.dump_job.specs.Settling.{slot_in, last_cut_by}
use Rattle.dump_courses.specs.Scenes.{Scene, database_in, entries_in}
use Rattle.dump_courses.specs.Courses.{next_event}
use Rattle.dump_commands.specs.Orders.{asked_port, order_of}
use Rattle.dump_commands.specs.Refusals.{refusal_by, fault_of}
use Rattle.dump_commands.specs.Answers.{tape_for}
use Rattle.dump_commands.specs.Starts.{Start, start_on, start_or, port_start, dump_start}
use Rattle.job_pool.specs.declared.ends.JobEnd.{JobEnd}
use Rattle.job_pool.specs.declared.jobs.PoolJob.{PoolJob}
use Rattle.job_pool.specs.declared.turn.Turn.{Turn}
use Rattle.job_pool.specs.declared.turn.Turn.TheVariants.{Step, Kill}
use Rattle.job_pool.specs.declared.turn.Kill.{Kill as PoolKill}
use Rattle.job_pool.specs.Pools.{PoolPoint, PoolEvent, PoolCourse, point_of, with_job, stepped, killed, settling_at, step_event, kill_event, unless_ended, step_at, kill_at, turn_event, behind, interleaved}
use Rattle.job_pool.specs.PoolCourses.{scheduled, turns_left, pool_course}
use Rattle.group_commands.specs.Groups.{GroupView}
use Rattle.group_commands.specs.Begins.{job_in, start_event, started, scene_at, first_point, behind_begin, begins, before_starts, starts_of, kills_of}
use Rattle.group_commands.specs.Answers.{group_answer}
use Rattle.session_archives.proofs.Present.{TouchesHere, both, first_here, IsFilledHere, IsHere, event_here}

-- ---- one of a list

at_place : {A : Type 0} (P : A → Type 0) (xs : List A) (n : ℕ) (x : A) → slice_get xs n ≡ Some x → All P xs → P x
at_place P [] n x at all = absurd cc
at_place P (y ∷ xs) zero x at all = (let same : y ≡ x = cc in subst P same (All-head P y xs all))
at_place P (y ∷ xs) (suc n) x at all = at_place P xs n x at (All-tail P y xs all)

-- ---- the tape on which a dump begins

module _ (s : Scene) where
  -- a begin is on a tape that is here
  abbrev BeginsHere : Result Start (List ℕ) → Type 0
  BeginsHere r = (b : Start) → r ≡ Ok b → IsTrue (s.present b.tape.reel.slot)

  on_here : (o : DumpOrder) (r : Result FirstTape JobFault) → tape_for s o ≡ r → BeginsHere (start_on o r)
  on_here o (Ok t) found b is = (let same : t ≡ b.tape = cc in subst (λ (x : FirstTape). IsTrue (s.present x.reel.slot)) same (first_here s o t found))
  on_here o (Err f) found b is = absurd cc

  or_here : (text : Option (List ℕ)) (r : Result Start (List ℕ)) → BeginsHere r → BeginsHere (start_or text r)
  or_here None r here = here
  or_here (Some text) r here = λ b is. absurd cc

  port_here : (a : DumpCommand) (r : Result PortFields (List ℕ)) → BeginsHere (port_start s a r)
  port_here a (Ok port) =
      let o : DumpOrder = order_of s.config (database_in s) (entries_in s) s.time a port in
      or_here (refusal_by (entries_in s) o (fault_of (tape_for s o))) (start_on o (tape_for s o)) (on_here o (tape_for s o) refl)
  port_here a (Err text) = λ b is. absurd cc

  start_here : (a : DumpCommand) → BeginsHere (dump_start s a)
  unfolding dump_start
  start_here a = port_here a (asked_port s.config (database_in s) a)

module _ (s : Scene) where
  -- the tapes of each dump of a pool are in slots that are here
  abbrev IsJobHere : PoolJob → Type 0
  IsJobHere q = IsHere s.present q.job

  abbrev AreHere : List PoolJob → Type 0
  AreHere jobs = All IsJobHere jobs

  with_job_here : (n : ℕ) (q : PoolJob) (jobs : List PoolJob) → IsJobHere q → AreHere jobs → AreHere (with_job n q jobs)
  with_job_here n q [] here all = all
  with_job_here zero q (r ∷ jobs) here all = All-cons IsJobHere q jobs here (All-tail IsJobHere r jobs all)
  with_job_here (suc n) q (r ∷ jobs) here all = All-cons IsJobHere r (with_job n q jobs) (All-head IsJobHere r jobs all) (with_job_here n q jobs here (All-tail IsJobHere r jobs all))

  -- ---- turns

  part_here : (filled : List Filled) (o : Option Filled) → slice_get filled (length filled - 1) ≡ o → All (IsFilledHere s.present) filled → (t : State) → TouchesHere s.present (settling_at (slot_in o) t)
  part_here filled None at all t = tt
  part_here filled (Some f) at all t = (at_place (IsFilledHere s.present) filled (length filled - 1) f at all, tt)

  cut_here : (p : Phase) (filled : List Filled) (slot : ℕ) → IsTrue (s.present slot) → All (IsFilledHere s.present) filled → (t : State) → TouchesHere s.present (settling_at (last_cut_by p filled slot) t)
  cut_here phase.Tape filled slot here all t = part_here filled (slice_get filled (length filled - 1)) refl all t
  cut_here phase.Clone filled slot here all t = (here, tt)
  cut_here phase.Head filled slot here all t = (here, tt)
  cut_here phase.Piece filled slot here all t = (here, tt)
  cut_here phase.VolumeEnd filled slot here all t = (here, tt)
  cut_here phase.PartEnd filled slot here all t = (here, tt)
  cut_here phase.DumpEnd filled slot here all t = (here, tt)
  cut_here phase.Over filled slot here all t = (here, tt)

  -- a turn is on tapes that are here, and so are those of the dumps behind it
  abbrev StayHere : PoolEvent → Type 0
  StayHere e = TouchesHere s.present e.effects × AreHere e.jobs

  step_here : (p : PoolPoint) → AreHere p.jobs → (n : ℕ) (q : PoolJob) → IsJobHere q → StayHere (step_event s p n q)
  step_here p all n q here =
      let e = event_here s (point_of p q) here in
      (e.0, with_job_here n (stepped q (next_event s (point_of p q))) p.jobs e.1 all)

  kill_here : (p : PoolPoint) → AreHere p.jobs → (n : ℕ) (q : PoolJob) → IsJobHere q → StayHere (kill_event p n q)
  kill_here p all n q here = (cut_here q.job.phase q.job.filled q.job.reel.slot here.0 here.1 p.state, with_job_here n (killed q) p.jobs here all)

  unless_here : (p : PoolPoint) → AreHere p.jobs → (end : Option JobEnd) (e : PoolEvent) → StayHere e → StayHere (unless_ended end p e)
  unless_here p all None e here = here
  unless_here p all (Some end) e here = (tt, all)

  step_at_here : (p : PoolPoint) → AreHere p.jobs → (n : ℕ) (o : Option PoolJob) → slice_get p.jobs n ≡ o → StayHere (step_at s p n o)
  step_at_here p all n None at = (tt, all)
  step_at_here p all n (Some q) at = unless_here p all q.end (step_event s p n q) (step_here p all n q (at_place IsJobHere p.jobs n q at all))

  kill_at_here : (p : PoolPoint) → AreHere p.jobs → (n : ℕ) (o : Option PoolJob) → slice_get p.jobs n ≡ o → StayHere (kill_at p n o)
  kill_at_here p all n None at = (tt, all)
  kill_at_here p all n (Some q) at = unless_here p all q.end (kill_event p n q) (kill_here p all n q (at_place IsJobHere p.jobs n q at all))

  turn_here : (p : PoolPoint) → AreHere p.jobs → (t : Turn) → StayHere (turn_event s p t)
  turn_here p all (Step n) = step_at_here p all n (slice_get p.jobs n) refl
  turn_here p all (Kill n) = kill_at_here p all n (slice_get p.jobs n) refl

  interleaved_here : (turns : List Turn) (p : PoolPoint) → AreHere p.jobs → TouchesHere s.present (interleaved s p turns).effects
  interleaved_here [] p all = tt
  interleaved_here (t ∷ turns) p all =
      let e : PoolEvent = turn_event s p t in
      let here : StayHere e = turn_here p all t in
      both s.present e.effects (interleaved s (behind p e) turns).effects here.0 (interleaved_here turns (behind p e) here.1)

  pool_here : (kills : List PoolKill) (x : ℕ) (p : PoolPoint) → AreHere p.jobs → TouchesHere s.present (pool_course s kills x p).effects
  unfolding pool_course
  pool_here kills x p all = interleaved_here (scheduled (turns_left s.cell p.jobs) s kills x p) p all

  -- ---- begins

  module _ (rest : PoolPoint → PoolCourse) (rest_here : (p : PoolPoint) → AreHere p.jobs → TouchesHere s.present (rest p).effects) where
    begun : (p : PoolPoint) → AreHere p.jobs → (b : Start) → IsTrue (s.present b.tape.reel.slot) → AreHere (start_event p b).jobs
    begun p all b here =
        let q : PoolJob = record { job = job_in p.log b; steps = 0; end = None } in
        All-append IsJobHere p.jobs (q ∷ []) all (All-cons IsJobHere q [] (here, All-nil (IsFilledHere s.present)) (All-nil IsJobHere))

    held_here : (held : List DumpCommand) (p : PoolPoint) → AreHere p.jobs → TouchesHere s.present (started rest p (starts_of s p held)).effects
    held_here [] p all = rest_here p all
    held_here (a ∷ held) p all = by (dump_start (scene_at s p) a) refl (held_here held)
      where
        by : (r : Result Start (List ℕ)) → dump_start (scene_at s p) a ≡ r → ((q : PoolPoint) → AreHere q.jobs → TouchesHere s.present (started rest q (starts_of s q held)).effects)
            → TouchesHere s.present (started rest p (before_starts r (starts_of s (behind_begin p r) held))).effects
        by (Ok b) is further = further (behind p (start_event p b)) (begun p all b (start_here (scene_at s p) a b is))
        by (Err text) is further = further p all

pub group_here : (s : Scene) (g : GroupView) → TouchesHere s.present (group_answer s g).answer.effects
unfolding group_answer
group_here s g =
    let kills : List PoolKill = kills_of (begins s (first_point s) g.held) g.kills in
    held_here s (pool_course s kills g.schedule) (pool_here s kills g.schedule) g.held (first_point s) (All-nil (IsJobHere s))
