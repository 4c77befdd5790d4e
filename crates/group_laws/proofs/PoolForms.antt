-- What dumps that begin and take turns commit has bytes: each of them has its forms, at each point on the way.
use Rattle.std.proofs.Common.{◌≡◌, ◌⊎◌, ℕ, zero, suc, Option, Some, None, List, [], ◌∷◌, ◌++◌, refl, subst, inl, inr, append-nil}
use Rattle.std.specs.Prelude.{All, Ok, slice_get}
use Rattle.std.proofs.lemmas.List.Elements.{All-append}
use Rattle.plant_core.specs.Crashes.{State}
use Rattle.cell_core.specs.Forms.{IsStoredForm}
use Rattle.budb_changes.specs.Forms.{IsChange, AreChanges}
use Rattle.dump_job.specs.Beginning.{begin_changes}
use Rattle.dump_job.specs.Settling.{last_cut}
use Rattle.dump_forms.specs.Forms.{HasForms}
use Rattle.dump_forms.specs.Journals.{IsJournalAfter}
use Rattle.dump_forms.proofs.JournalLaws.{journal_joined, event_journaled}
use Rattle.dump_courses.specs.Scenes.{Scene}
use Rattle.dump_courses.specs.Courses.{around, next_event}
use Rattle.backup_words.specs.declared.command.DumpCommand.{DumpCommand}
use Rattle.dump_commands.specs.Forms.{IsSceneForm, IsCommandForm}
use Rattle.dump_commands.specs.Starts.{Start, dump_start}
use Rattle.dump_commands.proofs.FormLaws.{next_forms}
use Rattle.job_pool.specs.declared.jobs.PoolJob.{PoolJob}
use Rattle.job_pool.specs.declared.turn.Turn.{Turn}
use Rattle.job_pool.specs.declared.turn.Kill.{Kill as PoolKill}
use Rattle.job_pool.specs.Pools.{PoolPoint, PoolEvent, PoolCourse, point_of, with_job, stepped, killed, settling_at, turn_event, behind, interleaved}
use Rattle.job_pool.specs.PoolCourses.{scheduled, turns_left, pool_course}
use Rattle.job_pool.proofs.Pooling.{with_get}
use Rattle.group_commands.specs.Groups.{GroupView}
use Rattle.group_commands.specs.Begins.{id_in, job_in, start_event, started, scene_at, first_point, starts_of, begins, kills_of}
use Rattle.group_commands.specs.Answers.{group_answer}
use Rattle.group_laws.proofs.HeldStarts.{by_held, scene_form_at, start_forms}
use Rattle.group_laws.proofs.PoolTurns.{by_turn}

-- ---- dumps

-- each dump that runs has its forms
abbrev pub AreFormed : List PoolJob → Type 0
AreFormed jobs = (n : ℕ) (q : PoolJob) → slice_get jobs n ≡ Some q → q.end ≡ None → HasForms q.job

with_formed : (n : ℕ) (r : PoolJob) (jobs : List PoolJob) → AreFormed jobs → (r.end ≡ None → HasForms r.job) → AreFormed (with_job n r jobs)
with_formed n r jobs formed new k q at runs = elim (with_get n r jobs k q at) [
  | inl here ↦ subst (λ (x : PoolJob). x.end ≡ None → HasForms x.job) here.1 new runs
  | inr other ↦ formed k q other.1 runs
]

pub push_get : (jobs : List PoolJob) (r : PoolJob) (k : ℕ) (q : PoolJob) → slice_get (jobs ++ r ∷ []) k ≡ Some q → (slice_get jobs k ≡ Some q) ⊎ (r ≡ q)
push_get [] r zero q at = (let same : r ≡ q = cc in inr same)
push_get [] r (suc k) q at = absurd (cc)
push_get (x ∷ jobs) r zero q at = inl at
push_get (x ∷ jobs) r (suc k) q at = push_get jobs r k q at

push_formed : (jobs : List PoolJob) (r : PoolJob) → AreFormed jobs → HasForms r.job → AreFormed (jobs ++ r ∷ [])
push_formed jobs r formed new k q at runs = elim (push_get jobs r k q at) [
  | inl old ↦ formed k q old runs
  | inr same ↦ subst (λ (x : PoolJob). HasForms x.job) same new
]

-- ---- turns

module _ (s : Scene) (cell : All IsStoredForm s.cell) where
  pub turn_formed : (p : PoolPoint) → AreFormed p.jobs → (t : Turn) → AreFormed (turn_event s p t).jobs
  turn_formed p formed =
      by_turn s p (λ (e : PoolEvent). AreFormed e.jobs) formed
      (λ n q run. with_formed n (stepped q (next_event s (point_of p q))) p.jobs formed (λ none. (next_forms s (point_of p q) cell (formed n q run.0 run.1)).job))
      (λ n q run. with_formed n (killed q) p.jobs formed (λ none. absurd (cc)))

  settled_journaled : (p : PoolPoint) (o : Option ℕ) (t : State) → IsJournalAfter p.log (settling_at o t) (p.log ++ [])
  settled_journaled p None t = append-nil p.log
  settled_journaled p (Some k) t = append-nil p.log

  turn_journaled : (p : PoolPoint) → AreFormed p.jobs → (t : Turn) → IsJournalAfter p.log (turn_event s p t).effects (p.log ++ (turn_event s p t).changes)
  turn_journaled p formed =
      by_turn s p (λ (e : PoolEvent). IsJournalAfter p.log e.effects (p.log ++ e.changes)) (append-nil p.log)
      (λ n q run. event_journaled p.log (around s (point_of p q)) q.job (next_forms s (point_of p q) cell (formed n q run.0 run.1)).changes)
      (λ n q run. settled_journaled p (last_cut q.job) p.state)

  turns_journaled : (turns : List Turn) (p : PoolPoint) → AreFormed p.jobs → IsJournalAfter p.log (interleaved s p turns).effects (interleaved s p turns).log
  turns_journaled [] p formed = refl
  turns_journaled (t ∷ turns) p formed =
      let e : PoolEvent = turn_event s p t in
      let rest : PoolCourse = interleaved s (behind p e) turns in
      journal_joined p.log (p.log ++ e.changes) rest.log e.effects rest.effects (turn_journaled p formed t) (turns_journaled turns (behind p e) (turn_formed p formed t))

  pub pool_journaled : (kills : List PoolKill) (x : ℕ) (p : PoolPoint) → AreFormed p.jobs → IsJournalAfter p.log (pool_course s kills x p).effects (pool_course s kills x p).log
  unfolding pool_course
  pool_journaled kills x p formed = turns_journaled (scheduled (turns_left s.cell p.jobs) s kills x p) p formed

-- ---- begins

-- the journal is of changes that can be written, and each dump has its forms
pub record HasPoolForms (p : PoolPoint) : Type 0 where
  pub log : AreChanges p.log
  pub jobs : AreFormed p.jobs

module _ (s : Scene) (scene : IsSceneForm s) where
  pub begin_formed : (p : PoolPoint) (a : DumpCommand) (b : Start) → IsCommandForm a → dump_start (scene_at s p) a ≡ Ok b → HasPoolForms p → HasPoolForms (behind p (start_event p b))
  begin_formed p a b command is forms =
      let new = start_forms (scene_at s p) a b (scene_form_at s p scene forms.log) command is in
      record {
        log = All-append IsChange p.log (begin_changes (id_in p.log b) b.tape.take) forms.log new.0;
        jobs = push_formed p.jobs (record { job = job_in p.log b; steps = 0; end = None }) forms.jobs new.1;
      }

  started_journaled : (rest : PoolPoint → PoolCourse) → ((q : PoolPoint) → AreFormed q.jobs → IsJournalAfter q.log (rest q).effects (rest q).log)
      → (held : List DumpCommand) (p : PoolPoint) → All IsCommandForm held → HasPoolForms p → IsJournalAfter p.log (started rest p (starts_of s p held)).effects (started rest p (starts_of s p held)).log
  started_journaled rest kept =
      by_held s IsCommandForm HasPoolForms (λ (p : PoolPoint) (starts : List Start). IsJournalAfter p.log (started rest p starts).effects (started rest p starts).log) (λ p forms. kept p forms.jobs) begin_formed
      (λ p a b starts command is forms others. (begin_changes (id_in p.log b) b.tape.take, record { form = (start_forms (scene_at s p) a b (scene_form_at s p scene forms.log) command is).0; is = refl }, others))

  pub first_formed : HasPoolForms (first_point s)
  first_formed = record { log = scene.log; jobs = λ n q at runs. absurd (cc) }

  pub end_journaled : (g : GroupView) → All IsCommandForm g.held → IsJournalAfter s.log (group_answer s g).answer.effects (group_answer s g).answer.log
  unfolding group_answer
  end_journaled g commands =
      started_journaled (pool_course s (kills_of (begins s (first_point s) g.held) g.kills) g.schedule) (λ q formed. pool_journaled s scene.cell (kills_of (begins s (first_point s) g.held) g.kills) g.schedule q formed) g.held (first_point s) commands first_formed
