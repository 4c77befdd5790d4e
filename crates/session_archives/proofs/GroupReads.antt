-- What the end of a group makes of a scene doesn't ask what is settled: of two scenes of which reads give the same it is the same.
use Rattle.std.proofs.Common.{◌≡◌, zero, suc, ℕ, max, List, [], ◌∷◌, ◌++◌, length, refl, sym, ◌∙◌, ap, subst}
use Rattle.std.specs.Prelude.{Some, None, Option, Result, Ok, Err, slice_get}
use Rattle.plant_core.specs.Crashes.{State}
use Rattle.plant_core.specs.Records.{Record}
use Rattle.plant_core.specs.Effects.{commits, cuts}
use Rattle.tape_config.specs.declared.port.PortFields.{PortFields}
use Rattle.budb_changes.specs.declared.change.Change.{Change}
use Rattle.budb_changes.specs.Bytes.{encoded}
use Rattle.backup_words.specs.declared.command.DumpCommand.{DumpCommand}
use Rattle.backup_replies.specs.Texts.{ok_line}
use Rattle.dump_job.specs.declared.fault.JobFault.{JobFault}
use Rattle.dump_job.specs.declared.first_tapes.FirstTape.{FirstTape}
use Rattle.dump_job.specs.declared.order.DumpOrder.{DumpOrder}
use Rattle.dump_job.specs.Beginning.{begin_changes}
use Rattle.dump_job.specs.Settling.{last_cut}
use Rattle.dump_courses.specs.Scenes.{Scene, database_in, entries_in}
use Rattle.dump_commands.specs.Orders.{asked_port, order_of}
use Rattle.dump_commands.specs.Refusals.{refusal_by, fault_of}
use Rattle.dump_commands.specs.Answers.{Contents, contents_with}
use Rattle.dump_commands.specs.Starts.{Start, start_on, start_or, order_start, port_start, dump_start}
use Rattle.dump_laws.proofs.ReadLaws.{ReadsAlike, reads_come}
use Rattle.job_pool.specs.declared.ends.JobEnd.{JobEnd}
use Rattle.job_pool.specs.declared.jobs.PoolJob.{PoolJob}
use Rattle.job_pool.specs.declared.turn.Turn.{Turn}
use Rattle.job_pool.specs.declared.turn.Turn.TheVariants.{Step, Kill}
use Rattle.job_pool.specs.declared.turn.Kill.{Kill as PoolKill}
use Rattle.job_pool.specs.Pools.{PoolPoint, PoolEvent, point_of, with_job, stepped, killed, nothing_done, settling_at, step_event, kill_event, unless_ended, step_at, kill_at, turn_event, behind, interleaved}
use Rattle.job_pool.specs.Schedules.{next_number, next_turn}
use Rattle.job_pool.specs.PoolCourses.{and_then, scheduled, turns_left, pool_course}
use Rattle.group_commands.specs.declared.began.Began.{Began}
use Rattle.group_commands.specs.declared.began.Began.TheVariants.{Runs}
use Rattle.group_commands.specs.Groups.{GroupView}
use Rattle.group_commands.specs.Begins.{id_in, job_in, start_event, group_course, scene_at, first_point, behind_begin, began_as, begins, before_starts, starts_of, kills_of, time_behind, contents_behind}
use Rattle.group_commands.specs.Lines.{held_texts, told_jobs}
use Rattle.group_commands.specs.Answers.{ended_by, group_answer}
use Rattle.session_archives.proofs.DumpReads.{other, next_same, tape_same}

-- points that differ at most in what is settled
record AlikePools (p q : PoolPoint) : Type 0 where
  pub log : q.log ≡ p.log
  pub jobs : q.jobs ≡ p.jobs
  pub state : ReadsAlike p.state q.state

behind_alike : (p q : PoolPoint) (e : PoolEvent) → AlikePools p q → AlikePools (behind p e) (behind q e)
behind_alike p q e alike = record { log = ap (λ (l : List Change). l ++ e.changes) alike.log; jobs = refl; state = reads_come e.effects p.state q.state alike.state }

-- the same behind equal events
behind_both : (p q : PoolPoint) (d e : PoolEvent) → d ≡ e → AlikePools p q → AlikePools (behind p e) (behind q d)
behind_both p q d e same alike = subst (λ (x : PoolEvent). AlikePools (behind p e) (behind q x)) (sym same) (behind_alike p q e alike)

-- ---- what begins of a dump

module _ (s : Scene) (t : State) (alike : ReadsAlike s.state t) where
  order_same : (o : DumpOrder) → order_start (other s t) o ≡ order_start s o
  order_same o = ap (λ (r : Result FirstTape JobFault). start_or (refusal_by (entries_in s) o (fault_of r)) (start_on o r)) (tape_same s t alike o)

  port_same : (a : DumpCommand) (r : Result PortFields (List ℕ)) → port_start (other s t) a r ≡ port_start s a r
  port_same a (Ok port) = order_same (order_of s.config (database_in s) (entries_in s) s.time a port)
  port_same a (Err text) = refl

  dump_start_same : (a : DumpCommand) → dump_start (other s t) a ≡ dump_start s a
  unfolding dump_start
  dump_start_same a = port_same a (asked_port s.config (database_in s) a)

module _ (s : Scene) (t : State) where
  -- ---- turns

  step_same : (p q : PoolPoint) → AlikePools p q → (n : ℕ) (r : PoolJob) → step_event (other s t) q n r ≡ step_event s p n r
  step_same p q alike n r =
      let e = next_same s t (point_of p r) (point_of q r) (record { log = alike.log; job = refl; state = alike.state }) in
      λ i. record { effects = (e i).effects; changes = (e i).changes; jobs = with_job n (stepped r (e i)) (alike.jobs i) }

  settling_same : (p q : PoolPoint) → AlikePools p q → (o : Option ℕ) → settling_at o q.state ≡ settling_at o p.state
  settling_same p q alike None = refl
  settling_same p q alike (Some k) = ap (λ (f : ℕ → List Record). cuts k (length (f k)) ∷ []) alike.state.tape

  kill_same : (p q : PoolPoint) → AlikePools p q → (n : ℕ) (r : PoolJob) → kill_event q n r ≡ kill_event p n r
  kill_same p q alike n r =
      let es = settling_same p q alike (last_cut r.job) in
      λ i. record { effects = es i; changes = []; jobs = with_job n (killed r) (alike.jobs i) }

  nothing_same : (p q : PoolPoint) → AlikePools p q → nothing_done q ≡ nothing_done p
  nothing_same p q alike = λ i. record { effects = []; changes = []; jobs = alike.jobs i }

  unless_same : (p q : PoolPoint) → AlikePools p q → (end : Option JobEnd) (d e : PoolEvent) → d ≡ e → unless_ended end q d ≡ unless_ended end p e
  unless_same p q alike None d e same = same
  unless_same p q alike (Some end) d e same = nothing_same p q alike

  step_at_same : (p q : PoolPoint) → AlikePools p q → (n : ℕ) (o : Option PoolJob) → step_at (other s t) q n o ≡ step_at s p n o
  step_at_same p q alike n None = nothing_same p q alike
  step_at_same p q alike n (Some r) = unless_same p q alike r.end (step_event (other s t) q n r) (step_event s p n r) (step_same p q alike n r)

  kill_at_same : (p q : PoolPoint) → AlikePools p q → (n : ℕ) (o : Option PoolJob) → kill_at q n o ≡ kill_at p n o
  kill_at_same p q alike n None = nothing_same p q alike
  kill_at_same p q alike n (Some r) = unless_same p q alike r.end (kill_event q n r) (kill_event p n r) (kill_same p q alike n r)

  turn_same : (p q : PoolPoint) → AlikePools p q → (u : Turn) → turn_event (other s t) q u ≡ turn_event s p u
  turn_same p q alike (Step n) = ap (λ (jobs : List PoolJob). step_at (other s t) q n (slice_get jobs n)) alike.jobs ∙ step_at_same p q alike n (slice_get p.jobs n)
  turn_same p q alike (Kill n) = ap (λ (jobs : List PoolJob). kill_at q n (slice_get jobs n)) alike.jobs ∙ kill_at_same p q alike n (slice_get p.jobs n)

  interleaved_same : (turns : List Turn) (p q : PoolPoint) → AlikePools p q → interleaved (other s t) q turns ≡ interleaved s p turns
  interleaved_same [] p q alike = λ i. record { effects = []; log = alike.log i; jobs = alike.jobs i }
  interleaved_same (u ∷ turns) p q alike =
      let e : PoolEvent = turn_event s p u in
      let same = turn_same p q alike u in
      let rest = interleaved_same turns (behind p e) (behind q (turn_event (other s t) q u)) (behind_both p q (turn_event (other s t) q u) e same alike) in
      λ i. record { effects = (same i).effects ++ (rest i).effects; log = (rest i).log; jobs = (rest i).jobs }

  module _ (kills : List PoolKill) where
    then_same : (m x : ℕ) (p q : PoolPoint) → AlikePools p q → (o : Option Turn) → ((p q : PoolPoint) → AlikePools p q → scheduled m (other s t) kills x q ≡ scheduled m s kills x p)
        → and_then o (other s t) q (scheduled m (other s t) kills x) ≡ and_then o s p (scheduled m s kills x)
    then_same m x p q alike None rest = refl
    then_same m x p q alike (Some u) rest =
        ap (λ (l : List Turn). u ∷ l) (rest (behind p (turn_event s p u)) (behind q (turn_event (other s t) q u)) (behind_both p q (turn_event (other s t) q u) (turn_event s p u) (turn_same p q alike u) alike))

    scheduled_same : (m x : ℕ) (p q : PoolPoint) → AlikePools p q → scheduled m (other s t) kills x q ≡ scheduled m s kills x p
    scheduled_same zero x p q alike = refl
    scheduled_same (suc m) x p q alike =
        ap (λ (jobs : List PoolJob). and_then (next_turn kills x jobs) (other s t) q (scheduled m (other s t) kills (next_number x))) alike.jobs
        ∙ then_same m (next_number x) p q alike (next_turn kills x p.jobs) (scheduled_same m (next_number x))

    pool_same : (x : ℕ) (p q : PoolPoint) → AlikePools p q → pool_course (other s t) kills x q ≡ pool_course s kills x p
    unfolding pool_course
    pool_same x p q alike =
        ap (λ (jobs : List PoolJob). interleaved (other s t) q (scheduled (turns_left s.cell jobs) (other s t) kills x q)) alike.jobs
        ∙ ap (interleaved (other s t) q) (scheduled_same (turns_left s.cell p.jobs) x p q alike)
        ∙ interleaved_same (scheduled (turns_left s.cell p.jobs) s kills x p) p q alike

  -- ---- begins

  begin_same : (p q : PoolPoint) → AlikePools p q → (b : Start) → start_event q b ≡ start_event p b
  begin_same p q alike b = λ i. record {
    effects = commits (encoded (begin_changes (id_in (alike.log i) b) b.tape.take)) ∷ [];
    changes = begin_changes (id_in (alike.log i) b) b.tape.take;
    jobs = alike.jobs i ++ record { job = job_in (alike.log i) b; steps = 0; end = None } ∷ [];
  }

  begun_alike : (p q : PoolPoint) → AlikePools p q → (b : Start) → AlikePools (behind p (start_event p b)) (behind q (start_event q b))
  begun_alike p q alike b = behind_both p q (start_event q b) (start_event p b) (begin_same p q alike b) alike

  started_same : (kills : List PoolKill) (x : ℕ) (starts : List Start) (p q : PoolPoint) → AlikePools p q → group_course (other s t) kills x q starts ≡ group_course s kills x p starts
  started_same kills x [] p q alike = pool_same kills x p q alike
  started_same kills x (b ∷ starts) p q alike =
      let same = begin_same p q alike b in
      let rest = started_same kills x starts (behind p (start_event p b)) (behind q (start_event q b)) (begun_alike p q alike b) in
      λ i. record { effects = (same i).effects ++ (rest i).effects; log = (rest i).log; jobs = (rest i).jobs }

  start_same : (p q : PoolPoint) → AlikePools p q → (a : DumpCommand) → dump_start (scene_at (other s t) q) a ≡ dump_start (scene_at s p) a
  start_same p q alike a = ap (λ (l : List Change). dump_start (record s { log = l; state = q.state }) a) alike.log ∙ dump_start_same (scene_at s p) q.state alike.state a

  as_same : (p q : PoolPoint) → AlikePools p q → (r : Result Start (List ℕ)) → began_as q r ≡ began_as p r
  as_same p q alike (Ok b) = ap (λ (jobs : List PoolJob). Runs (length jobs)) alike.jobs
  as_same p q alike (Err text) = refl

  left_alike : (p q : PoolPoint) → AlikePools p q → (r : Result Start (List ℕ)) → AlikePools (behind_begin p r) (behind_begin q r)
  left_alike p q alike (Ok b) = begun_alike p q alike b
  left_alike p q alike (Err text) = alike

  begins_same : (held : List DumpCommand) (p q : PoolPoint) → AlikePools p q → begins (other s t) q held ≡ begins s p held
  begins_same [] p q alike = refl
  begins_same (a ∷ held) p q alike =
      let r : Result Start (List ℕ) = dump_start (scene_at s p) a in
      let first = as_same p q alike r in
      let rest = begins_same held (behind_begin p r) (behind_begin q r) (left_alike p q alike r) in
      ap (λ (x : Result Start (List ℕ)). began_as q x ∷ begins (other s t) (behind_begin q x) held) (start_same p q alike a) ∙ (λ i. first i ∷ rest i)

  starts_same : (held : List DumpCommand) (p q : PoolPoint) → AlikePools p q → starts_of (other s t) q held ≡ starts_of s p held
  starts_same [] p q alike = refl
  starts_same (a ∷ held) p q alike =
      let r : Result Start (List ℕ) = dump_start (scene_at s p) a in
      ap (λ (x : Result Start (List ℕ)). before_starts x (starts_of (other s t) (behind_begin q x) held)) (start_same p q alike a)
      ∙ ap (before_starts r) (starts_same held (behind_begin p r) (behind_begin q r) (left_alike p q alike r))

  -- ---- what is left

  time_same : (starts : List Start) (time : ℕ) (p q : PoolPoint) → AlikePools p q → time_behind time q starts ≡ time_behind time p starts
  time_same [] time p q alike = refl
  time_same (b ∷ starts) time p q alike =
      ap (λ (l : List Change). time_behind (max time (id_in l b)) (behind q (start_event q b)) starts) alike.log
      ∙ time_same starts (max time (id_in p.log b)) (behind p (start_event p b)) (behind q (start_event q b)) (begun_alike p q alike b)

  with_same : (p q : PoolPoint) → AlikePools p q → (o : DumpOrder) → contents_with (scene_at (other s t) q) o ≡ contents_with (scene_at s p) o
  with_same p q alike o = ap (λ (l : List Change). contents_with (record s { log = l }) o) alike.log

  contents_same : (starts : List Start) (contents : Contents) (p q : PoolPoint) → AlikePools p q → contents_behind (other s t) q starts contents ≡ contents_behind s p starts contents
  contents_same [] contents p q alike = refl
  contents_same (b ∷ starts) contents p q alike =
      ap (λ (f : Contents → Contents). contents_behind (other s t) (behind q (start_event q b)) starts (f contents)) (with_same p q alike b.order)
      ∙ contents_same starts (contents_with (scene_at s p) b.order contents) (behind p (start_event p b)) (behind q (start_event q b)) (begun_alike p q alike b)

  -- ---- the end

  module _ (alike : ReadsAlike s.state t) (g : GroupView) where
    at_first : AlikePools (first_point s) (first_point (other s t))
    at_first = record { log = refl; jobs = refl; state = alike }

    ended_same : (began : List Began) (starts : List Start) → ended_by (other s t) g began starts ≡ ended_by s g began starts
    ended_same began starts =
        let course = started_same (kills_of began g.kills) g.schedule starts (first_point s) (first_point (other s t)) at_first in
        let time = time_same starts s.time (first_point s) (first_point (other s t)) at_first in
        λ i. record {
          answer = record {
            effects = (course i).effects;
            reply = held_texts 1 g.held began (course i).jobs ++ ok_line;
            log = (course i).log;
            time = time i;
            contents = λ contents. contents_same starts contents (first_point s) (first_point (other s t)) at_first i;
          };
          jobs = told_jobs 1 began (course i).jobs;
        }

    pub group_same : group_answer (other s t) g ≡ group_answer s g
    unfolding group_answer
    group_same =
        ap (λ (began : List Began). ended_by (other s t) g began (starts_of (other s t) (first_point (other s t)) g.held)) (begins_same g.held (first_point s) (first_point (other s t)) at_first)
        ∙ ap (ended_by (other s t) g (begins s (first_point s) g.held)) (starts_same g.held (first_point s) (first_point (other s t)) at_first)
        ∙ ended_same (begins s (first_point s) g.held) (starts_of s (first_point s) g.held)
