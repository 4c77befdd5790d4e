use Rattle.std.proofs.Common.{◌≡◌, ◌≤◌, ◌+◌, Bool, Some, None, Ok, Err, true, refl, sym, ap, subst, ◌∙◌, arith}
use Rattle.std.specs.Prelude.{Option}
use Rattle.budb_changes.specs.declared.records.DumpRecordFields.{DumpRecordFields}
use Rattle.restore_chain.specs.declared.fault.LookFault.TheVariants.{Failed}
use Rattle.restore_chain.proofs.LoadLaws.{looks_err}
use Rattle.restore_chain.proofs.ReadLaws.{reads_look_so}
use Rattle.tape_scan.proofs.Looking.{looks_none, looks_after, slots_later}
use Rattle.mount_plan.specs.Courses.{IsHeldSo}
use Rattle.mount_plan.specs.Passes.{loads_by}
use Rattle.mount_plan.proofs.CourseLaws.{held_found, loaded_some}
use Rattle.mount_plan.proofs.meeting.meet_need.Goals as goal

pub returns-in-None-clause-looks : goal.returns-in-None-clause-looks
returns-in-None-clause-looks g c =
    looks_none g.P.Plant Failed c.args.plant.now _ c.requires.sound (λ told survives x left. g.met.P.Plant.left c.args.plant.now x told c.requires.sound survives left) (λ is. absurd (cc))

pub returns-in-Err-clause-looks : goal.returns-in-Err-clause-looks
returns-in-Err-clause-looks g c = looks_err g.P.Plant Failed c.in-Err.fault c.args.plant.now c.holder_of.new.plant c.in-Err.ensures.looks

pub meet_each-requires-clause-loaded : goal.meet_each-requires-clause-loaded
meet_each-requires-clause-loaded g c = λ is. loaded_some g.P.Plant c.holder_of.new.plant c.in-Ok.found c.in-Ok.ensures.loaded (sym c.is_some.ensures ∙ is)

pub returns-in-Ok-clause-goes : goal.returns-in-Ok-clause-goes
returns-in-Ok-clause-goes g c = λ told slots before names has are.
    let P = g.P.Plant in
    let old = c.args.plant.now in
    let mid = c.holder_of.new.plant in
    let e = c.in-Ok.ensures in
    let later = slots_later P slots old mid (e.looks.done (λ is. absurd (cc))) e.looks.stays told has in
    let held = held_found P slots c.in-Some.dump.now c.args.need.now.tape mid c.in-Ok.found (e.holder told slots has) e.loaded in
    c.meet_each.ensures.goes told slots c.args.budb.now.database.listed before names later
    (subst (IsHeldSo P slots c.in-Some.dump.now c.args.need.now.tape mid) (sym c.is_some.ensures) held)
    (sym c.in-Some.ensures) are

pub returns-in-Ok-clause-looks : goal.returns-in-Ok-clause-looks
returns-in-Ok-clause-looks g c =
    let P = g.P.Plant in
    let old = c.args.plant.now in
    let mid = c.holder_of.new.plant in
    let e = c.in-Ok.ensures.looks in
    looks_after P Failed old mid c.meet_each.new.plant c.meet_each.result (e.done (λ is. absurd (cc))) e.stays (e.cause.stays (λ is. absurd (cc)))
    (reads_look_so P Failed mid c.meet_each.new.plant c.meet_each.result c.meet_each.ensures.reads)

pub returns-in-Ok-clause-loads : goal.returns-in-Ok-clause-loads
returns-in-Ok-clause-loads g c = λ told slots has.
    let n = c.args.need.now in
    let same = ap (loads_by slots n.tape) c.in-Some.ensures in
    omega (arith, same, c.meet_each.ensures.reads.loads, c.in-Ok.ensures.loads told slots has)

pub returns-in-Err-clause-loads : goal.returns-in-Err-clause-loads
returns-in-Err-clause-loads g c = λ told slots has.
    let n = c.args.need.now in
    let same = ap (loads_by slots n.tape) c.in-Some.ensures in
    omega (arith, same, c.in-Err.ensures.loads told slots has)
