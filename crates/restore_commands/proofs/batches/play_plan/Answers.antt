use Rattle.std.proofs.Common.{ℕ, List, None, Ok, Err, sym, ap, ◌∙◌, subst}
use Rattle.budb_changes.specs.declared.records.DumpRecordFields.{DumpRecordFields}
use Rattle.archive_model.specs.Archives.{listed_of}
use Rattle.mount_plan.specs.Outcomes.{AnswersNames}
use Rattle.mount_plan.specs.Passes.{most_loads}
use Rattle.restore_commands.specs.Batches.{names_in}
use Rattle.restore_commands.proofs.BatchLaws.{names_found, counted_by}
use Rattle.restore_commands.proofs.Idle.{played_looks}
use Rattle.restore_commands.proofs.batches.play_plan.Goals as goal

pub returns-in-Ok-clause-found : goal.returns-in-Ok-clause-found
returns-in-Ok-clause-found g c = λ told a is.
    let listed = c.args.budb.now.database.listed in
    let batch = c.args.batch.now in
    let e = c.in-Ok.ensures in
    names_found a is.stock is.records is.holds batch c.in-Ok.played
    (subst (λ (names : List (List ℕ)). AnswersNames a.slots (listed_of a) None names c.in-Ok.played) c.requires.names
    (subst (λ (l : List DumpRecordFields). AnswersNames a.slots l None c.args.plan.now.names c.in-Ok.played) (sym is.lists) (e.answers told a.slots is.slots)))
    c.requires.latest e.only

pub returns-in-Ok-clause-looks : goal.returns-in-Ok-clause-looks
returns-in-Ok-clause-looks g c =
    let e = c.in-Ok.ensures in
    played_looks g.P.Plant c.args.plant.now c.play_all.new.plant (Ok c.in-Ok.played) _ (λ is. absurd (cc)) (λ is. absurd (cc)) e.done e.leaves e.stays e.cause

pub returns-in-Ok-clause-loads : goal.returns-in-Ok-clause-loads
returns-in-Ok-clause-loads g c = λ told slots has needs.
    counted_by slots c.args.budb.now.database.listed c.args.batch.now (g.P.Plant.view c.args.plant.now).loads (g.P.Plant.view c.play_all.new.plant).loads c.args.plan.now.needs needs (c.in-Ok.ensures.loads told slots has)

pub returns-in-Err-clause-looks : goal.returns-in-Err-clause-looks
returns-in-Err-clause-looks g c =
    let e = c.in-Err.ensures in
    played_looks g.P.Plant c.args.plant.now c.play_all.new.plant (Err c.in-Err.fault) _ (λ is. ap Err (c.stop_of.ensures.only_plant (cc))) (λ is. ap Err (c.stop_of.ensures.plant (cc))) e.done e.leaves e.stays e.cause

pub returns-in-Err-clause-loads : goal.returns-in-Err-clause-loads
returns-in-Err-clause-loads g c = λ told slots has needs.
    counted_by slots c.args.budb.now.database.listed c.args.batch.now (g.P.Plant.view c.args.plant.now).loads (g.P.Plant.view c.play_all.new.plant).loads c.args.plan.now.needs needs (c.in-Err.ensures.loads told slots has)

pub returns-in-Err-clause-never : goal.returns-in-Err-clause-never
returns-in-Err-clause-never g c = λ is. c.stop_of.ensures.never (cc)
