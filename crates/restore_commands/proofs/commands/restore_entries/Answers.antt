use Rattle.std.proofs.Common.{List, ◌+◌, ◌≤◌, sym, ◌∙◌, subst, arith}
use Rattle.std.specs.Prelude.{All}
use Rattle.backup_words.specs.declared.command.Wanted.{Wanted}
use Rattle.restore_commands.specs.Choices.{set_choices}
use Rattle.restore_commands.specs.Answers.{all_answer}
use Rattle.restore_commands.specs.Leaving.{OnTheWay}
use Rattle.restore_commands.specs.Steps.{IsLatest}
use Rattle.restore_commands.specs.Batches.{batch_loads}
use Rattle.restore_commands.proofs.BatchLaws.{set_latest}
use Rattle.restore_commands.proofs.EachLaws.{none_put}
use Rattle.restore_commands.proofs.Idle.{plant_idle}
use Rattle.restore_commands.proofs.commands.restore_entries.Goals as goal

pub returns-in-Ok-clause-left : goal.returns-in-Ok-clause-left
returns-in-Ok-clause-left g c = λ told seen a is.
    let C = g.C.Cell in
    let old = C.list c.args.cell.now in
    let new = C.list c.restore_all.new.cell in
    subst (λ (cs : List Wanted). OnTheWay old (all_answer a old c.args.manner.now cs).cells new)
    (c.as_slice.ensures ∙ c.in-Ok.ensures)
    (c.restore_all.ensures.left told seen a is)

pub returns-in-Err-clause-may : goal.returns-in-Err-clause-may
returns-in-Err-clause-may g c = λ seen. none_put c.args.manner.now (set_choices c.args.budb.now.database.listed c.args.entries.now) (g.C.Cell.list c.args.cell.now)

pub returns-in-Err-clause-looks : goal.returns-in-Err-clause-looks
returns-in-Err-clause-looks g c = plant_idle g.P.Plant c.args.plant.now _ c.requires (λ told survives x left. g.met.P.Plant.left c.args.plant.now x told c.requires survives left) (λ is. absurd (cc))

pub restore_all-requires-clause-latest : goal.restore_all-requires-clause-latest
restore_all-requires-clause-latest g c = subst (All IsLatest) (sym (c.as_slice.ensures ∙ c.in-Ok.ensures)) (set_latest c.args.budb.now.database.listed c.args.entries.now)

pub returns-in-Ok-clause-loads : goal.returns-in-Ok-clause-loads
returns-in-Ok-clause-loads g c = λ told real low slots has.
    let P = g.P.Plant in
    subst (λ (cs : List Wanted). (P.view c.restore_all.new.plant).loads ≤ (P.view c.args.plant.now).loads + batch_loads slots c.args.budb.now.database.listed cs) (c.as_slice.ensures ∙ c.in-Ok.ensures) (c.restore_all.ensures.loads told real low slots has)

pub returns-in-Err-clause-loads : goal.returns-in-Err-clause-loads
returns-in-Err-clause-loads g c = λ told real low slots has. omega arith
