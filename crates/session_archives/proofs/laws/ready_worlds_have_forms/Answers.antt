use Rattle.std.proofs.Common.{arith}
use Rattle.session_archives.proofs.DumpTurns.{ready_form}
use Rattle.session_archives.proofs.TurnLeads.{finds_of}
use Rattle.session_archives.proofs.ReadyScripts.{time_later}
use Rattle.session_archives.proofs.laws.ready_worlds_have_forms.Goals as goal

pub returns-clause-world : goal.returns-clause-world
returns-clause-world c = λ w held ready. ready_form w held.tapes (finds_of w held) held.group ready

pub returns-clause-lines : goal.returns-clause-lines
returns-clause-lines c = λ w moments lines held asked asks.
    let ready = (asked.dumps asks).0 in
    record {
      tapes = held.tapes;
      log = (finds_of w held).holds.1.seen.changes;
      cell = ready.order.form;
      contents = ready.order.fit.volumes;
      time = omega (arith, time_later w.time moments lines, ready.order.four);
      name = ready.name;
      ports = ready.ports;
      group = held.group;
    }
