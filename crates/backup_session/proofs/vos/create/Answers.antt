use Rattle.cell_core.specs.Calls.{after_create}
use Rattle.backup_session.specs.Cells.{created, without_id}
use Rattle.backup_session.proofs.CellLaws.{on_the_way, creates}
use Rattle.backup_session.proofs.vos.create.Goals as goal

pub returns-clause-left : goal.returns-clause-left
returns-clause-left g c = λ told.
    let C = g.C.Cell in
    let old = C.list c.args.cell.now in
    let new = C.list c.create.new.self in
    let due = after_create old c.args.server.now c.args.partition.now c.args.name.now c.args.now in
    on_the_way c.args.name.now 0 (created due) old new (without_id c.create.result) (creates due old new c.create.result (c.create.ensures.answer told))
