-- A held dump that begins has the order and the tape with which its command is carried out alone.
use Rattle.std.proofs.Common.{◌≡◌, ℕ, false, Option, Some, None, List, refl, sym, ap, subst, ◌∙◌}
use Rattle.std.specs.Prelude.{Result, Ok, Err}
use Rattle.tape_config.specs.declared.port.PortFields.{PortFields}
use Rattle.dump_job.specs.declared.fault.JobFault.{JobFault}
use Rattle.dump_job.specs.declared.first_tapes.FirstTape.{FirstTape}
use Rattle.dump_job.specs.declared.order.DumpOrder.{DumpOrder}
use Rattle.dump_courses.specs.Scenes.{Scene, database_in, entries_in}
use Rattle.backup_words.specs.declared.command.DumpCommand.{DumpCommand}
use Rattle.dump_commands.specs.Orders.{asked_port, order_of}
use Rattle.dump_commands.specs.Refusals.{fault_of, refusal_by}
use Rattle.dump_commands.specs.Answers.{begun, tape_for, begun_or, refused_or, real_answer, order_answer, port_answer, dump_answer}
use Rattle.dump_commands.specs.Starts.{Start, start_on, start_or, port_start, dump_start}

-- Its port is there, its order is that of the command, no refusal is told, and its tape is the one that is found.
pub record Passes (s : Scene) (a : DumpCommand) (b : Start) : Type 0 where
  pub port : PortFields
  pub asked : asked_port s.config (database_in s) a ≡ Ok port
  pub order : b.order ≡ order_of s.config (database_in s) (entries_in s) s.time a port
  pub none : refusal_by (entries_in s) b.order (fault_of (tape_for s b.order)) ≡ None
  pub tape : tape_for s b.order ≡ Ok b.tape

abbrev start_with : DumpOrder → FirstTape → Start
start_with o t = record { order = o; tape = t }

on_tape : (o : DumpOrder) (r : Result FirstTape JobFault) (b : Start) → start_on o r ≡ Ok b → (b.order ≡ o) × (r ≡ Ok b.tape)
on_tape o (Ok t) b is =
    let same : start_with o t ≡ b = cc in
    (ap (λ (x : Start). x.order) (sym same), ap (λ (x : Start). Ok x.tape) same)
on_tape o (Err f) b is = absurd (cc)

none_told : (r : Option (List ℕ)) (otherwise : Result Start (List ℕ)) (b : Start) → start_or r otherwise ≡ Ok b → (r ≡ None) × (otherwise ≡ Ok b)
none_told None otherwise b is = (refl, is)
none_told (Some text) otherwise b is = absurd (cc)

by_port : (s : Scene) (a : DumpCommand) (r : Result PortFields (List ℕ)) (b : Start) → asked_port s.config (database_in s) a ≡ r → port_start s a r ≡ Ok b → Passes s a b
by_port s a (Err text) b asked is = absurd (cc)
by_port s a (Ok port) b asked is =
    let o : DumpOrder = order_of s.config (database_in s) (entries_in s) s.time a port in
    let passed = none_told (refusal_by (entries_in s) o (fault_of (tape_for s o))) (start_on o (tape_for s o)) b is in
    let found = on_tape o (tape_for s o) b passed.1 in
    record {
      port = port;
      asked = asked;
      order = found.0;
      none = subst (λ (x : DumpOrder). refusal_by (entries_in s) x (fault_of (tape_for s x)) ≡ None) (sym found.0) passed.0;
      tape = subst (λ (x : DumpOrder). tape_for s x ≡ Ok b.tape) (sym found.0) found.1;
    }

pub start_passes : (s : Scene) (a : DumpCommand) (b : Start) → dump_start s a ≡ Ok b → Passes s a b
unfolding dump_start
start_passes s a b is = by_port s a (asked_port s.config (database_in s) a) b refl is

-- a command that is no trial
abbrev pub real : DumpCommand → DumpCommand
real a = record a { trial = false }

-- what comes of its command alone is what comes of this dump
pub start_answer : (s : Scene) (a : DumpCommand) (b : Start) → dump_start s a ≡ Ok b → dump_answer s (real a) ≡ begun s b.order b.tape
unfolding dump_answer order_answer real_answer
start_answer s a b is =
    let p : Passes s a b = start_passes s a b is in
    let o : DumpOrder = order_of s.config (database_in s) (entries_in s) s.time a p.port in
    let asked : dump_answer s (real a) ≡ real_answer s o = ap (port_answer s (real a)) p.asked in
    let ordered : real_answer s o ≡ real_answer s b.order = ap (real_answer s) (sym p.order) in
    let passed : real_answer s b.order ≡ begun_or s b.order (tape_for s b.order) = ap (λ (r : Option (List ℕ)). refused_or s r (begun_or s b.order (tape_for s b.order))) p.none in
    asked ∙ ordered ∙ passed ∙ ap (begun_or s b.order) p.tape
