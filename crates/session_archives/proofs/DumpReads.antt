-- What a dump makes of a scene doesn't ask what is settled: of two scenes of which reads give the same it is the same.
use Rattle.std.proofs.Common.{◌≡◌, zero, suc, ℕ, List, ◌++◌, length, ◌∙◌, ap, refl}
use Rattle.std.specs.Prelude.{Some, None, not, if◌then◌else◌, Option, Result, Ok, Err}
use Rattle.std.specs.List.{list_any}
use Rattle.plant_core.specs.Crashes.{State}
use Rattle.plant_core.specs.Records.{Record}
use Rattle.tape_config.specs.declared.port.PortFields.{PortFields}
use Rattle.tape_answers.specs.Slots.{slots_of}
use Rattle.budb_changes.specs.Bytes.{encoded}
use Rattle.budb_fold.specs.Database.{after}
use Rattle.dump_job.specs.declared.fault.JobFault.{JobFault}
use Rattle.dump_job.specs.declared.first_tapes.FirstTape.{FirstTape}
use Rattle.dump_job.specs.declared.order.DumpOrder.{DumpOrder}
use Rattle.dump_job.specs.Beginning.{first_tape}
use Rattle.dump_job.specs.Events.{Event, event}
use Rattle.dump_courses.specs.Scenes.{Scene, database_in, entries_in, is_bad}
use Rattle.dump_courses.specs.Courses.{Point, goes_on, next_event, behind, event_then, course_by, course_within, events_left, course}
use Rattle.backup_words.specs.declared.command.DumpCommand.{DumpCommand}
use Rattle.dump_commands.specs.Orders.{asked_port, order_of}
use Rattle.dump_commands.specs.Refusals.{refusal_by, trial_refusal, fault_of}
use Rattle.dump_commands.specs.Trials.{trial_text}
use Rattle.dump_commands.specs.Answers.{Answer, said, refused_or, commit_of, begun_point, ended, begun, begun_or, tape_for, real_answer, trial_answer, order_answer, port_answer, dump_answer}
use Rattle.dump_laws.proofs.ReadLaws.{ReadsAlike, reads_come}

module _ (s : Scene) (t : State) where
  -- the scene with the other state
  abbrev pub other : Scene
  other = record s { state = t }

  -- points that differ at most in what is settled
  pub record AlikePoints (p q : Point) : Type 0 where
    pub log : q.log ≡ p.log
    pub job : q.job ≡ p.job
    pub state : ReadsAlike p.state q.state

  pub next_same : (p q : Point) → AlikePoints p q → next_event other q ≡ next_event s p
  next_same p q alike = λ i. event (record { listed = (after (alike.log i)).listed; log_size = length (encoded (alike.log i)); slots = slots_of s.slots s.present (alike.state.tape i); cell = s.cell }) (alike.job i)

  behind_alike : (p q : Point) (e : Event) → AlikePoints p q → AlikePoints (behind p e) (behind q e)
  behind_alike p q e alike = record { log = ap (λ l. l ++ e.changes) alike.log; job = refl; state = reads_come e.effects p.state q.state alike.state }

  within_same : (n : ℕ) (p q : Point) → AlikePoints p q → course_within n other q ≡ course_within n s p
  within_same zero p q alike =
      let e = next_same p q alike in
      λ i. record { effects = (e i).effects; log = alike.log i ++ (e i).changes; answer = (e i).answer }
  within_same (suc n) p q alike =
      let e : Event = next_event s p in
      let rest = within_same n (behind p e) (behind q e) (behind_alike p q e alike) in
      ap (course_by (course_within n other) q) (next_same p q alike)
      ∙ (λ i. if goes_on e.answer then event_then e (rest i) else record { effects = e.effects; log = alike.log i ++ e.changes; answer = e.answer })

  course_same : (p q : Point) → AlikePoints p q → course other q ≡ course s p
  unfolding course
  course_same p q alike = ap (λ j. course_within (events_left s.cell j) other q) alike.job ∙ within_same (events_left s.cell p.job) p q alike

  module _ (alike : ReadsAlike s.state t) where
    begun_same : (o : DumpOrder) (u : FirstTape) → begun other o u ≡ begun s o u
    unfolding begun
    begun_same o u = ap (ended s o u) (course_same (begun_point s o u) (begun_point other o u) (record { log = refl; job = refl; state = reads_come (commit_of s o u) s.state t alike }))

    either_same : (text : Option (List ℕ)) (a b : Answer) → a ≡ b → refused_or other text a ≡ refused_or s text b
    either_same None a b same = same
    either_same (Some text) a b same = refl

    by_tape : (o : DumpOrder) (r : Result FirstTape JobFault) → begun_or other o r ≡ begun_or s o r
    by_tape o (Ok u) = begun_same o u
    by_tape o (Err f) = refl

    pub tape_same : (o : DumpOrder) → tape_for other o ≡ tape_for s o
    unfolding tape_for
    tape_same o = ap (λ (f : ℕ → List Record). first_tape (database_in s) (slots_of s.slots s.present f) (λ (k : ℕ). not (list_any is_bad (f k))) o (length (encoded s.log))) alike.tape

    real_same : (o : DumpOrder) → real_answer other o ≡ real_answer s o
    unfolding real_answer
    real_same o =
        ap (λ (r : Result FirstTape JobFault). refused_or other (refusal_by (entries_in s) o (fault_of r)) (begun_or other o r)) (tape_same o)
        ∙ either_same (refusal_by (entries_in s) o (fault_of (tape_for s o))) (begun_or other o (tape_for s o)) (begun_or s o (tape_for s o)) (by_tape o (tape_for s o))

    trial_same : (o : DumpOrder) → trial_answer other o ≡ trial_answer s o
    trial_same o = either_same (trial_refusal (entries_in s) o) (said other (trial_text (database_in s).listed s.cell o)) (said s (trial_text (database_in s).listed s.cell o)) refl

    order_same : (a : DumpCommand) (o : DumpOrder) → order_answer other a o ≡ order_answer s a o
    unfolding order_answer
    order_same a o = λ i. if a.trial then trial_same o i else real_same o i

    by_port : (a : DumpCommand) (r : Result PortFields (List ℕ)) → port_answer other a r ≡ port_answer s a r
    by_port a (Ok port) = order_same a (order_of s.config (database_in s) (entries_in s) s.time a port)
    by_port a (Err text) = refl

    pub dump_same : (a : DumpCommand) → dump_answer other a ≡ dump_answer s a
    unfolding dump_answer
    dump_same a = by_port a (asked_port s.config (database_in s) a)
