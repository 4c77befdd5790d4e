use Rattle.std.proofs.Common.{Option, List, ◌+◌, ◌≤◌, arith, sym, ◌∙◌, ap, subst}
use Rattle.volume_sets.specs.declared.sets.SetEntry.{SetEntry}
use Rattle.volume_sets.specs.Sets.{entries_of}
use Rattle.budb_changes.specs.declared.records.DumpRecordFields.{DumpRecordFields}
use Rattle.budb_fold.specs.declared.database.Database.{Database}
use Rattle.tape_scan.proofs.Looking.{loads_none, leaves_loads}
use Rattle.restore_commands.specs.Choices.{set_choices}
use Rattle.restore_commands.specs.Answers.{all_answer, entries_answer}
use Rattle.restore_commands.specs.Leaving.{OnTheWay}
use Rattle.restore_commands.specs.Batches.{entries_loads}
use Rattle.restore_commands.proofs.commands.restore_set.Goals as goal

pub returns-in-Some-clause-left : goal.returns-in-Some-clause-left
returns-in-Some-clause-left g c = λ told seen a is.
    let C = g.C.Cell in
    let old = C.list c.args.cell.now in
    let new = C.list c.restore_entries.new.cell in
    let name = c.args.name.now in
    let manner = c.args.manner.now in
    subst (λ (o : Option (List SetEntry)). OnTheWay old (entries_answer a old manner name o).cells new)
    (sym (ap (λ (d : Database). entries_of name d.sets) (sym c.database.ensures) ∙ c.in-Some.ensures.entries))
    (subst (λ (l : List DumpRecordFields). OnTheWay old (all_answer a old manner (set_choices l c.in-Some.entries.now)).cells new) (sym is.lists) (c.restore_entries.ensures.left told seen a is))

pub returns-in-Ok-clause-done : goal.returns-in-Ok-clause-done
returns-in-Ok-clause-done g c = λ _. loads_none g.P.Plant c.args.plant.now c.requires (λ told survives x left. g.met.P.Plant.left c.args.plant.now x told c.requires survives left)

pub returns-in-Ok-clause-leaves : goal.returns-in-Ok-clause-leaves
returns-in-Ok-clause-leaves g c =
    let s = c.args.plant.now in
    leaves_loads g.P.Plant s s (loads_none g.P.Plant s c.requires (λ told survives x left. g.met.P.Plant.left s x told c.requires survives left))

pub returns-in-Err-clause-done : goal.returns-in-Err-clause-done
returns-in-Err-clause-done g c = λ _. loads_none g.P.Plant c.args.plant.now c.requires (λ told survives x left. g.met.P.Plant.left c.args.plant.now x told c.requires survives left)

pub returns-in-Err-clause-leaves : goal.returns-in-Err-clause-leaves
returns-in-Err-clause-leaves g c =
    let s = c.args.plant.now in
    leaves_loads g.P.Plant s s (loads_none g.P.Plant s c.requires (λ told survives x left. g.met.P.Plant.left s x told c.requires survives left))

pub returns-in-Some-clause-loads : goal.returns-in-Some-clause-loads
returns-in-Some-clause-loads g c = λ told real low slots has.
    let P = g.P.Plant in
    subst (λ (o : Option (List SetEntry)). (P.view c.restore_entries.new.plant).loads ≤ (P.view c.args.plant.now).loads + entries_loads slots c.args.budb.now.database.listed o)
    (sym (ap (λ (d : Database). entries_of c.args.name.now d.sets) (sym c.database.ensures) ∙ c.in-Some.ensures.entries)) (c.restore_entries.ensures.loads told real low slots has)

pub returns-in-Ok-clause-loads : goal.returns-in-Ok-clause-loads
returns-in-Ok-clause-loads g c = λ told real low slots has. omega arith

pub returns-in-Err-clause-loads : goal.returns-in-Err-clause-loads
returns-in-Err-clause-loads g c = λ told real low slots has. omega arith
