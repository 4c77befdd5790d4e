use Rattle.std.proofs.Common.{subst}
use Rattle.std.specs.Prelude.{IfOk}
use Rattle.restore_commands.specs.Answers.{RestoreAnswer}
use Rattle.restore_commands.specs.Leaving.{IsAnswer, OnTheWay}
use Rattle.backup_session.proofs.RestoreLaws.{volumes_are, may_volumes}
use Rattle.backup_session.proofs.LoadLaws.{loads_by}
use Rattle.backup_session.proofs.restoring.restored.Goals as goal

pub returns-in-One-clause-answer : goal.returns-in-One-clause-answer
returns-in-One-clause-answer g c = λ told seen a is.
    let old = g.C.Cell.list c.args.cell.now in
    let new = g.C.Cell.list c.restore_volume.new.cell in
    subst (λ (x : RestoreAnswer). IfOk c.restore_volume.result (λ reply. IsAnswer x reply old new))
    (volumes_are a c.args.budb.now.database.sets old c.args.time c.args.command.now _ c.manner_at-manner.result c.in-One.is c.manner_at-manner.ensures) (c.restore_volume.ensures.answer told seen a is)

pub returns-in-One-clause-left : goal.returns-in-One-clause-left
returns-in-One-clause-left g c = λ told seen a is.
    let old = g.C.Cell.list c.args.cell.now in
    let new = g.C.Cell.list c.restore_volume.new.cell in
    subst (λ (x : RestoreAnswer). OnTheWay old x.cells new)
    (volumes_are a c.args.budb.now.database.sets old c.args.time c.args.command.now _ c.manner_at-manner.result c.in-One.is c.manner_at-manner.ensures) (c.restore_volume.ensures.left told seen a is)

pub returns-in-One-clause-may : goal.returns-in-One-clause-may
returns-in-One-clause-may g c = λ seen.
    may_volumes c.args.budb.now.database c.args.time c.args.command.now _ c.manner_at-manner.result (g.C.Cell.list c.args.cell.now) (g.C.Cell.list c.restore_volume.new.cell) c.in-One.is c.manner_at-manner.ensures (c.restore_volume.ensures.may seen)

pub returns-in-OfDisk-clause-answer : goal.returns-in-OfDisk-clause-answer
returns-in-OfDisk-clause-answer g c = λ told seen a is.
    let old = g.C.Cell.list c.args.cell.now in
    let new = g.C.Cell.list c.restore_disk.new.cell in
    subst (λ (x : RestoreAnswer). IfOk c.restore_disk.result (λ reply. IsAnswer x reply old new))
    (volumes_are a c.args.budb.now.database.sets old c.args.time c.args.command.now _ c.manner_at-manner.result c.in-OfDisk.is c.manner_at-manner.ensures) (c.restore_disk.ensures.answer told seen a is)

pub returns-in-OfDisk-clause-left : goal.returns-in-OfDisk-clause-left
returns-in-OfDisk-clause-left g c = λ told seen a is.
    let old = g.C.Cell.list c.args.cell.now in
    let new = g.C.Cell.list c.restore_disk.new.cell in
    subst (λ (x : RestoreAnswer). OnTheWay old x.cells new)
    (volumes_are a c.args.budb.now.database.sets old c.args.time c.args.command.now _ c.manner_at-manner.result c.in-OfDisk.is c.manner_at-manner.ensures) (c.restore_disk.ensures.left told seen a is)

pub returns-in-OfDisk-clause-may : goal.returns-in-OfDisk-clause-may
returns-in-OfDisk-clause-may g c = λ seen.
    may_volumes c.args.budb.now.database c.args.time c.args.command.now _ c.manner_at-manner.result (g.C.Cell.list c.args.cell.now) (g.C.Cell.list c.restore_disk.new.cell) c.in-OfDisk.is c.manner_at-manner.ensures (c.restore_disk.ensures.may seen)

pub returns-in-OfSet-clause-answer : goal.returns-in-OfSet-clause-answer
returns-in-OfSet-clause-answer g c = λ told seen a is.
    let old = g.C.Cell.list c.args.cell.now in
    let new = g.C.Cell.list c.restore_set.new.cell in
    subst (λ (x : RestoreAnswer). IfOk c.restore_set.result (λ reply. IsAnswer x reply old new))
    (volumes_are a c.args.budb.now.database.sets old c.args.time c.args.command.now _ c.manner_at-manner.result c.in-OfSet.is c.manner_at-manner.ensures) (c.restore_set.ensures.answer told seen a is)

pub returns-in-OfSet-clause-left : goal.returns-in-OfSet-clause-left
returns-in-OfSet-clause-left g c = λ told seen a is.
    let old = g.C.Cell.list c.args.cell.now in
    let new = g.C.Cell.list c.restore_set.new.cell in
    subst (λ (x : RestoreAnswer). OnTheWay old x.cells new)
    (volumes_are a c.args.budb.now.database.sets old c.args.time c.args.command.now _ c.manner_at-manner.result c.in-OfSet.is c.manner_at-manner.ensures) (c.restore_set.ensures.left told seen a is)

pub returns-in-OfSet-clause-may : goal.returns-in-OfSet-clause-may
returns-in-OfSet-clause-may g c = λ seen.
    may_volumes c.args.budb.now.database c.args.time c.args.command.now _ c.manner_at-manner.result (g.C.Cell.list c.args.cell.now) (g.C.Cell.list c.restore_set.new.cell) c.in-OfSet.is c.manner_at-manner.ensures (c.restore_set.ensures.may seen)

pub returns-in-One-clause-loads : goal.returns-in-One-clause-loads
returns-in-One-clause-loads g c = λ told low slots has.
    loads_by slots c.args.budb.now.database c.args.time c.args.command.now _ c.manner_at-manner.result (g.P.Plant.view c.args.plant.now).loads (g.P.Plant.view c.restore_volume.new.plant).loads c.in-One.is c.manner_at-manner.ensures (λ real. tt)

pub returns-in-OfDisk-clause-loads : goal.returns-in-OfDisk-clause-loads
returns-in-OfDisk-clause-loads g c = λ told low slots has.
    loads_by slots c.args.budb.now.database c.args.time c.args.command.now _ c.manner_at-manner.result (g.P.Plant.view c.args.plant.now).loads (g.P.Plant.view c.restore_disk.new.plant).loads c.in-OfDisk.is c.manner_at-manner.ensures (λ real. c.restore_disk.ensures.loads told real low slots has)

pub returns-in-OfSet-clause-loads : goal.returns-in-OfSet-clause-loads
returns-in-OfSet-clause-loads g c = λ told low slots has.
    loads_by slots c.args.budb.now.database c.args.time c.args.command.now _ c.manner_at-manner.result (g.P.Plant.view c.args.plant.now).loads (g.P.Plant.view c.restore_set.new.plant).loads c.in-OfSet.is c.manner_at-manner.ensures (λ real. c.restore_set.ensures.loads told real low slots has)
