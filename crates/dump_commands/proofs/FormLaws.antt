-- What a dump commits has bytes: the journal behind its effects is that of its changes.
use Rattle.std.proofs.Common.{◌≡◌, ℕ, zero, suc, ◌≤◌, Bool, true, false, Option, Some, None, List, ◌++◌, length, refl, arith}
use Rattle.std.specs.Prelude.{All, ◌==◌, if◌then◌else◌, Result, Ok, Err}
use Rattle.vnode_model.specs.declared.listed.VolEntry.{VolEntry}
use Rattle.tape_config.specs.declared.port.PortFields.{PortFields}
use Rattle.tape_answers.specs.Slots.{slots_of}
use Rattle.budb_changes.specs.Forms.{AreChanges}
use Rattle.budb.proofs.FoldForms.{forms_after}
use Rattle.dump_job.specs.declared.fault.JobFault.{JobFault}
use Rattle.dump_job.specs.declared.order.DumpOrder.{DumpOrder}
use Rattle.dump_job.specs.declared.first_tapes.FirstTape.{FirstTape}
use Rattle.dump_job.specs.Events.{Event}
use Rattle.cell_core.specs.Forms.{IsStoredForm}
use Rattle.dump_forms.specs.Forms.{HasForms, AroundHasForms, EventHasForms}
use Rattle.dump_forms.specs.Begins.{IsOrderForm}
use Rattle.dump_forms.specs.Journals.{IsJournalAfter}
use Rattle.dump_forms.proofs.EventForms.{event_forms}
use Rattle.dump_forms.proofs.JournalLaws.{journal_joined, event_journaled}
use Rattle.dump_forms.proofs.SlotForms.{tapes_fit}
use Rattle.dump_forms.proofs.BeginForms.{frames_fit, begin_forms}
use Rattle.dump_courses.specs.Scenes.{Scene, database_in, slots_in, entries_in, whole_in}
use Rattle.dump_courses.specs.Courses.{Point, around, next_event, behind, Course, goes_on, last_event, event_then, course_within, events_left, course}
use Rattle.backup_words.specs.declared.command.DumpCommand.{DumpCommand}
use Rattle.dump_commands.specs.Orders.{asked_port, order_of}
use Rattle.dump_commands.specs.Refusals.{or_else, early_by, none_of, refusal_by, fault_of, trial_refusal}
use Rattle.dump_commands.specs.Trials.{trial_text}
use Rattle.dump_commands.specs.Answers.{said, begin_of, begun_point, begun, tape_for, begun_or, refused_or, real_answer, trial_answer, order_answer, port_answer, dump_answer}

-- ---- the course

around_forms : (s : Scene) (p : Point) → All IsStoredForm s.cell → AroundHasForms (around s p)
around_forms s p cell = record { labels = frames_fit (slots_of s.slots s.present p.state.tape) (tapes_fit s.slots s.present p.state.tape); cell = cell }

pub next_forms : (s : Scene) (p : Point) → All IsStoredForm s.cell → HasForms p.job → EventHasForms (next_event s p)
next_forms s p cell form = event_forms (around s p) p.job (around_forms s p cell) form

next_journaled : (s : Scene) (p : Point) → All IsStoredForm s.cell → HasForms p.job → IsJournalAfter p.log (next_event s p).effects (p.log ++ (next_event s p).changes)
next_journaled s p cell form = event_journaled p.log (around s p) p.job (next_forms s p cell form).changes

by_answer : (more : Bool) (p : Point) (e : Event) (rest : Course) → IsJournalAfter p.log e.effects (p.log ++ e.changes) → IsJournalAfter (p.log ++ e.changes) rest.effects rest.log
    → let c = if more then event_then e rest else last_event p e in IsJournalAfter p.log c.effects c.log
by_answer true p e rest first others = journal_joined p.log (p.log ++ e.changes) rest.log e.effects rest.effects first others
by_answer false p e rest first others = first

within_journaled : (n : ℕ) (s : Scene) (p : Point) → All IsStoredForm s.cell → HasForms p.job → IsJournalAfter p.log (course_within n s p).effects (course_within n s p).log
within_journaled zero s p cell form = next_journaled s p cell form
within_journaled (suc n) s p cell form =
    let e : Event = next_event s p in
    by_answer (goes_on e.answer) p e (course_within n s (behind p e)) (next_journaled s p cell form) (within_journaled n s (behind p e) cell (next_forms s p cell form).job)

pub course_journaled : (s : Scene) (p : Point) → All IsStoredForm s.cell → HasForms p.job → IsJournalAfter p.log (course s p).effects (course s p).log
unfolding course
course_journaled s p cell form = within_journaled (events_left s.cell p.job) s p cell form

-- ---- the command

both_none : (first other : Option (List ℕ)) → or_else first other ≡ None → (first ≡ None) × (other ≡ None)
both_none None other is = (refl, is)
both_none (Some text) other is = absurd (cc)

some_of : (n : ℕ) (text : List ℕ) → (if n == 0 then Some text else None) ≡ None → 1 ≤ n
some_of zero text is = absurd (cc)
some_of (suc n) text is = omega arith

-- what isn't refused has volumes
pub some_volumes : (cell : List VolEntry) (o : DumpOrder) (f : Option JobFault) → refusal_by cell o f ≡ None → 1 ≤ length o.volumes
some_volumes cell o f is =
    let late = both_none (early_by o f) _ is in
    some_of (length o.volumes) _ (both_none (none_of o) _ late.1).0

begun_kept : (s : Scene) (o : DumpOrder) (t : FirstTape) → AreChanges s.log → All IsStoredForm s.cell → IsOrderForm o → 1 ≤ length o.volumes → tape_for s o ≡ Ok t → IsJournalAfter s.log (begun s o t).effects (begun s o t).log
unfolding begun tape_for
begun_kept s o t log cell order some is =
    let forms = begin_forms o (database_in s) (slots_in s) (whole_in s) _ t order some (forms_after s.log log).listed (tapes_fit s.slots s.present s.state.tape) is in
    (begin_of s o t, record { form = forms.0; is = refl }, course_journaled s (begun_point s o t) cell forms.1)

by_tape : (s : Scene) (o : DumpOrder) (r : Result FirstTape JobFault) → AreChanges s.log → All IsStoredForm s.cell → IsOrderForm o → 1 ≤ length o.volumes → tape_for s o ≡ r → IsJournalAfter s.log (begun_or s o r).effects (begun_or s o r).log
by_tape s o (Ok t) log cell order some is = begun_kept s o t log cell order some is
by_tape s o (Err f) log cell order some is = refl

by_refusal : (s : Scene) (o : DumpOrder) (r : Option (List ℕ)) → AreChanges s.log → All IsStoredForm s.cell → IsOrderForm o → refusal_by (entries_in s) o (fault_of (tape_for s o)) ≡ r
    → let a = refused_or s r (begun_or s o (tape_for s o)) in IsJournalAfter s.log a.effects a.log
by_refusal s o (Some text) log cell order is = refl
by_refusal s o None log cell order is = by_tape s o (tape_for s o) log cell order (some_volumes (entries_in s) o (fault_of (tape_for s o)) is) refl

by_trial_refusal : (s : Scene) (r : Option (List ℕ)) (text : List ℕ) → let a = refused_or s r (said s text) in IsJournalAfter s.log a.effects a.log
by_trial_refusal s (Some line) text = refl
by_trial_refusal s None text = refl

by_trial : (s : Scene) (o : DumpOrder) (trial : Bool) → AreChanges s.log → All IsStoredForm s.cell → IsOrderForm o → let a = if trial then trial_answer s o else real_answer s o in IsJournalAfter s.log a.effects a.log
unfolding real_answer
by_trial s o true log cell order = by_trial_refusal s (trial_refusal (entries_in s) o) (trial_text (database_in s).listed s.cell o)
by_trial s o false log cell order = by_refusal s o (refusal_by (entries_in s) o (fault_of (tape_for s o))) log cell order refl

by_port : (s : Scene) (a : DumpCommand) (r : Result PortFields (List ℕ)) → AreChanges s.log → All IsStoredForm s.cell
    → ((port : PortFields) → r ≡ Ok port → IsOrderForm (order_of s.config (database_in s) (entries_in s) s.time a port)) → IsJournalAfter s.log (port_answer s a r).effects (port_answer s a r).log
unfolding order_answer
by_port s a (Err text) log cell order = refl
by_port s a (Ok port) log cell order = by_trial s (order_of s.config (database_in s) (entries_in s) s.time a port) a.trial log cell (order port refl)

pub answer_journaled : (s : Scene) (a : DumpCommand) → AreChanges s.log → All IsStoredForm s.cell
    → ((port : PortFields) → asked_port s.config (database_in s) a ≡ Ok port → IsOrderForm (order_of s.config (database_in s) (entries_in s) s.time a port))
    → IsJournalAfter s.log (dump_answer s a).effects (dump_answer s a).log
unfolding dump_answer
answer_journaled s a log cell order = by_port s a (asked_port s.config (database_in s) a) log cell order
