use Rattle.std.proofs.Common.{List, ◌+◌, ◌≤◌, sym, ◌∙◌, ap, subst, arith}
use Rattle.std.specs.Prelude.{All}
use Rattle.budb_changes.specs.declared.records.DumpRecordFields.{DumpRecordFields}
use Rattle.tape_scan.proofs.Looking.{loads_none, leaves_loads}
use Rattle.backup_words.specs.declared.command.Wanted.{Wanted}
use Rattle.restore_commands.specs.Choices.{disk_choices}
use Rattle.restore_commands.specs.Answers.{all_answer}
use Rattle.restore_commands.specs.Leaving.{OnTheWay}
use Rattle.restore_commands.specs.Steps.{IsLatest}
use Rattle.restore_commands.specs.Batches.{batch_loads}
use Rattle.restore_commands.proofs.BatchLaws.{disk_latest}
use Rattle.restore_commands.proofs.EachLaws.{none_put}
use Rattle.restore_commands.proofs.commands.restore_disk.Goals as goal

pub returns-in-Ok-clause-left : goal.returns-in-Ok-clause-left
returns-in-Ok-clause-left g c = λ told seen a is.
    let C = g.C.Cell in
    let old = C.list c.args.cell.now in
    let new = C.list c.restore_all.new.cell in
    let disk = c.args.disk.now in
    let listed = sym is.lists in
    subst (λ (cs : List Wanted). OnTheWay old (all_answer a old c.args.manner.now cs).cells new)
    (c.as_slice.ensures ∙ c.in-Ok.ensures ∙ ap (λ (l : List DumpRecordFields). disk_choices l disk) listed)
    (c.restore_all.ensures.left told seen a is)

pub returns-in-Err-clause-may : goal.returns-in-Err-clause-may
returns-in-Err-clause-may g c = λ seen. none_put c.args.manner.now (disk_choices c.args.budb.now.database.listed c.args.disk.now) (g.C.Cell.list c.args.cell.now)

pub returns-in-Err-clause-done : goal.returns-in-Err-clause-done
returns-in-Err-clause-done g c = λ _. loads_none g.P.Plant c.args.plant.now c.requires (λ told survives x left. g.met.P.Plant.left c.args.plant.now x told c.requires survives left)

pub returns-in-Err-clause-leaves : goal.returns-in-Err-clause-leaves
returns-in-Err-clause-leaves g c =
    let s = c.args.plant.now in
    leaves_loads g.P.Plant s s (loads_none g.P.Plant s c.requires (λ told survives x left. g.met.P.Plant.left s x told c.requires survives left))

pub restore_all-requires-clause-latest : goal.restore_all-requires-clause-latest
restore_all-requires-clause-latest g c = subst (All IsLatest) (sym (c.as_slice.ensures ∙ c.in-Ok.ensures)) (disk_latest c.args.budb.now.database.listed c.args.disk.now)

pub returns-in-Ok-clause-loads : goal.returns-in-Ok-clause-loads
returns-in-Ok-clause-loads g c = λ told real low slots has.
    let P = g.P.Plant in
    subst (λ (cs : List Wanted). (P.view c.restore_all.new.plant).loads ≤ (P.view c.args.plant.now).loads + batch_loads slots c.args.budb.now.database.listed cs) (c.as_slice.ensures ∙ c.in-Ok.ensures) (c.restore_all.ensures.loads told real low slots has)

pub returns-in-Err-clause-loads : goal.returns-in-Err-clause-loads
returns-in-Err-clause-loads g c = λ told real low slots has. omega arith
