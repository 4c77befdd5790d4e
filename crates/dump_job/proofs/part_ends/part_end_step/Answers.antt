use Rattle.std.proofs.Common.{◌≡◌, ℕ, ◌+◌, ◌≤◌, Bool, false, List, [], length, Option, None, Some, sym, ◌∙◌, ap, subst}
use Rattle.std.specs.Prelude.{IfSome, IsTrue, Err}
use Rattle.crash_moments.specs.Moments.{Rose}
use Rattle.plant_effects.specs.Runs.{Done, SameNumbers}
use Rattle.plant_effects.proofs.Joining.{leaves_more}
use Rattle.budb_changes.specs.declared.records.DumpRecordFields.{DumpRecordFields}
use Rattle.tape_choice.specs.declared.choosing.Chosen.{Chosen}
use Rattle.tape_choice.specs.declared.fault.ChoiceFault.{ChoiceFault}
use Rattle.tape_choice.specs.Scene.{UnlessFailed}
use Rattle.tape_choice.specs.Choice.{is_used}
use Rattle.dump_job.specs.Ending.{part_end_items}
use Rattle.dump_job.specs.Passing.{next_choice, next_wanting, closing_of}
use Rattle.dump_job.proofs.Closings.{makes_none}
use Rattle.dump_job.proofs.Passings.{ends_by, ends_failed, ends_memory, leaves_by, ready_by}
use Rattle.dump_job.proofs.part_ends.part_end_step.Goals as goal

pub returns-in-Some-clause-ended : goal.returns-in-Some-clause-ended
returns-in-Some-clause-ended g c =
    let P = g.P.Plant in
    let old = c.args.plant.now in
    let j = c.args.job.now in
    let s = c.in-Ok.ensures in
    let e = c.end_and_pass.ensures in
    let listed : c.as_slice.result.now ≡ c.args.budb.now.database.listed = search in
    let parts = subst (λ (o : Option Chosen). IfSome o (λ x. length j.filled + 1 ≤ 65534)) c.in-Some.is s.parts in
    let here = subst (λ (o : Option Chosen). IfSome o (λ x. IsTrue ((P.view old).present x.slot))) c.in-Some.is s.here in
    let first = subst (λ (o : Option Chosen). IfSome o (λ x. j.port.first ≤ x.slot)) c.in-Some.is s.first in
    let last = subst (λ (o : Option Chosen). IfSome o (λ x. x.slot ≤ j.port.last)) c.in-Some.is s.last in
    let unused = subst (λ (o : Option Chosen). IfSome o (λ x. is_used (next_wanting c.as_slice.result.now j) x.slot ≡ false)) c.in-Some.is s.unused in
    ends_by P c.args.cut c.end_and_pass.result c.args.budb.now c.end_and_pass.new.budb old c.choose_next.new.plant c.end_and_pass.new.plant
    j c.end_and_pass.new.job (Some c.in-Some.chosen) (λ tells slots has. subst (λ (ds : List DumpRecordFields). next_choice ds slots j ≡ Some c.in-Some.chosen) listed (sym (s.chosen tells slots has) ∙ c.in-Some.is)) parts here first last
    (subst (λ (ds : List DumpRecordFields). is_used (next_wanting ds j) c.in-Some.chosen.slot ≡ false) listed unused)
    s.done s.leaves s.numbers s.stays (s.cause.stays (λ is. absurd (cc))) e.goes e.moved e.plant e.database

pub returns-in-Some-clause-ready : goal.returns-in-Some-clause-ready
returns-in-Some-clause-ready g c = λ is.
    let P = g.P.Plant in
    let s = c.in-Ok.ensures in
    let e = c.end_and_pass.ensures in
    let here = subst (λ (o : Option Chosen). IfSome o (λ x. IsTrue ((P.view c.args.plant.now).present x.slot))) c.in-Some.is s.here in
    ready_by P c.args.cut c.end_and_pass.result c.in-Some.chosen c.args.job.now c.end_and_pass.new.job c.choose_next.new.plant c.end_and_pass.new.plant
    (subst (λ (p : ℕ → Bool). IsTrue (p c.in-Some.chosen.slot)) (sym s.stays.stays.present) here) is e.moved e.plant

pub returns-in-Some-clause-leaves : goal.returns-in-Some-clause-leaves
returns-in-Some-clause-leaves g c = λ tells slots has.
    let s = c.in-Ok.ensures in
    let e = c.end_and_pass.ensures in
    let listed : c.as_slice.result.now ≡ c.args.budb.now.database.listed = search in
    leaves_by g.P.Plant c.args.job.now (Some c.in-Some.chosen) (next_choice c.args.budb.now.database.listed slots c.args.job.now) c.end_and_pass.result c.args.plant.now c.choose_next.new.plant c.end_and_pass.new.plant
    (subst (λ (ds : List DumpRecordFields). next_choice ds slots c.args.job.now ≡ Some c.in-Some.chosen) listed (sym (s.chosen tells slots has) ∙ c.in-Some.is))
    s.done s.leaves s.numbers s.stays (s.cause.stays (λ is. absurd (cc))) e.plant

pub returns-in-None-clause-ended : goal.returns-in-None-clause-ended
returns-in-None-clause-ended g c =
    let P = g.P.Plant in
    let j = c.args.job.now in
    let s = c.in-Ok.ensures in
    let e = c.end_and_refuse.ensures in
    let mid = c.choose_next.new.plant in
    let listed : c.as_slice.result.now ≡ c.args.budb.now.database.listed = search in
    ends_by P c.args.cut c.end_and_refuse.result c.args.budb.now c.args.budb.now c.args.plant.now mid c.end_and_refuse.new.plant
    j c.end_and_refuse.new.job None (λ tells slots has. subst (λ (ds : List DumpRecordFields). next_choice ds slots j ≡ None) listed (sym (s.chosen tells slots has) ∙ c.in-None.is)) tt tt tt tt tt
    s.done s.leaves s.numbers s.stays (s.cause.stays (λ is. absurd (cc))) e.goes (e.moved c.args.cut) e.plant
    (makes_none P j.reel.slot (part_end_items 1 j) (closing_of c.end_and_refuse.result) c.args.budb.now mid c.end_and_refuse.new.plant e.plant c.requires.nothing)

pub returns-in-None-clause-leaves : goal.returns-in-None-clause-leaves
returns-in-None-clause-leaves g c = λ tells slots has.
    let s = c.in-Ok.ensures in
    let e = c.end_and_refuse.ensures in
    let listed : c.as_slice.result.now ≡ c.args.budb.now.database.listed = search in
    leaves_by g.P.Plant c.args.job.now None (next_choice c.args.budb.now.database.listed slots c.args.job.now) c.end_and_refuse.result c.args.plant.now c.choose_next.new.plant c.end_and_refuse.new.plant
    (subst (λ (ds : List DumpRecordFields). next_choice ds slots c.args.job.now ≡ None) listed (sym (s.chosen tells slots has) ∙ c.in-None.is))
    s.done s.leaves s.numbers s.stays (s.cause.stays (λ is. absurd (cc))) e.plant

pub returns-in-Err-Failed-clause-ended : goal.returns-in-Err-Failed-clause-ended
returns-in-Err-Failed-clause-ended g c =
    let P = g.P.Plant in
    let s = c.choose_next.ensures in
    let rose : Rose (P.view c.args.plant.now).faults (P.view c.choose_next.new.plant).faults = c.in-Err-Failed.ensures.cause.failed (ap (λ (e : ChoiceFault). Err e) c.in-Err-Failed.field-0-is) in
    ends_failed P c.args.cut c.args.budb.now c.args.plant.now c.choose_next.new.plant c.args.job.now s.leaves s.stays rose c.requires.nothing

pub returns-in-Err-Failed-clause-leaves : goal.returns-in-Err-Failed-clause-leaves
returns-in-Err-Failed-clause-leaves g c = λ tells slots has. leaves_more g.P.Plant [] _ c.args.plant.now c.choose_next.new.plant c.choose_next.ensures.leaves

pub returns-in-Err-Memory-clause-ended : goal.returns-in-Err-Memory-clause-ended
returns-in-Err-Memory-clause-ended g c =
    let P = g.P.Plant in
    let old = c.args.plant.now in
    let new = c.choose_next.new.plant in
    let s = c.choose_next.ensures in
    let done : Done P [] old new = subst (λ (e : ChoiceFault). UnlessFailed {T = Option Chosen} (Err e) (Done P [] old new)) c.in-Err-Memory.field-0-is c.in-Err-Memory.ensures.done in
    let numbers : SameNumbers P old new = subst (λ (e : ChoiceFault). UnlessFailed {T = Option Chosen} (Err e) (SameNumbers P old new)) c.in-Err-Memory.field-0-is c.in-Err-Memory.ensures.numbers in
    let same : (P.view new).faults ≡ (P.view old).faults = c.in-Err-Memory.ensures.cause.stays (λ is. absurd (cc)) in
    ends_memory P c.args.cut c.args.budb.now old new c.args.job.now done s.leaves numbers s.stays same
    (λ told survives image left. g.met.P.Plant.left new image told done.sound survives left) c.requires.nothing

pub returns-in-Err-Memory-clause-leaves : goal.returns-in-Err-Memory-clause-leaves
returns-in-Err-Memory-clause-leaves g c = λ tells slots has. leaves_more g.P.Plant [] _ c.args.plant.now c.choose_next.new.plant c.choose_next.ensures.leaves
