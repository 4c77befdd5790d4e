use Rattle.std.proofs.Common.{ap, []}
use Rattle.backup_session.specs.Views.{SessionView}
use Rattle.backup_session.specs.Worlds.{archive_of}
use Rattle.backup_session.proofs.RestoreLaws.{restore_leaves, some_restore, restored_somehow, archive_stands, restore_turned, may_here, restore_way}
use Rattle.backup_session.proofs.LoadLaws.{slots_stand, parents_below, loads_here}
use Rattle.tape_answers.specs.Slots.{slots_of}
use Rattle.backup_session.specs.declared.stops.Stop.TheVariants as stops
use Rattle.restore_commands.specs.declared.stops.RestoreStop.TheVariants as restore_stops
use Rattle.tape_scan.specs.Looking.{Loads}
use Rattle.dump_courses.proofs.Stopping.{handed_as, left_loads}
use Rattle.backup_session.proofs.session.Session.on_archive.Goals as goal

pub returns-in-Ok-clause-turned : goal.returns-in-Ok-clause-turned
returns-in-Ok-clause-turned g c = λ told ctold w fits held.
    let P = g.P.Plant in
    let C = g.C.Cell in
    let old = c.args.plant.now in
    let site = c.args.cell.now in
    let s = c.args.self.now in
    let budb = ap (λ (x : SessionView). x.budb) c.self.view_is in
    let time = ap (λ (x : SessionView). x.time) c.self.view_is in
    let read = c.the_slots_are_read.ensures in
    let stands = archive_stands P C w old site s fits c.self.inside.budb budb held (read.count w.setting.slots w.setting.present w.state.tape) (read.here w.setting.slots w.setting.present w.state.tape) (read.items w.setting.slots w.setting.present w.state.tape) in
    restore_turned P C w old site s fits c.self.inside.budb c.self.inside.time c.args.command.now budb time c.restored.new.plant c.restored.new.cell c.in-Ok.text c.new.result told
    (c.restored.ensures.done (λ is. absurd (cc))) c.restored.ensures.stays.stays c.new.ensures (c.in-Ok.ensures.answer told ctold (archive_of w) stands)

pub returns-in-Ok-clause-some_turn : goal.returns-in-Ok-clause-some_turn
returns-in-Ok-clause-some_turn g c = λ told ctold w fits.
    restored_somehow g.P.Plant g.C.Cell w c.args.plant.now c.args.cell.now c.args.self.now fits c.restored.new.plant c.restored.new.cell c.new.result told (c.restored.ensures.done (λ is. absurd (cc))) c.restored.ensures.stays.stays

pub returns-in-Ok-clause-leaves : goal.returns-in-Ok-clause-leaves
returns-in-Ok-clause-leaves g c = λ told ctold w fits. restore_leaves g.P.Plant g.C.Cell w c.args.plant.now c.args.cell.now c.args.self.now fits c.restored.new.plant c.restored.ensures.leaves

pub returns-in-Err-clause-leaves : goal.returns-in-Err-clause-leaves
returns-in-Err-clause-leaves g c = λ told ctold w fits. restore_leaves g.P.Plant g.C.Cell w c.args.plant.now c.args.cell.now c.args.self.now fits c.restored.new.plant c.restored.ensures.leaves

pub returns-in-Ok-clause-cells : goal.returns-in-Ok-clause-cells
returns-in-Ok-clause-cells g c = λ told ctold w fits held.
    let P = g.P.Plant in
    let C = g.C.Cell in
    let old = c.args.plant.now in
    let site = c.args.cell.now in
    let s = c.args.self.now in
    let budb = ap (λ (x : SessionView). x.budb) c.self.view_is in
    let time = ap (λ (x : SessionView). x.time) c.self.view_is in
    let read = c.the_slots_are_read.ensures in
    let stands = archive_stands P C w old site s fits c.self.inside.budb budb held (read.count w.setting.slots w.setting.present w.state.tape) (read.here w.setting.slots w.setting.present w.state.tape) (read.items w.setting.slots w.setting.present w.state.tape) in
    restore_way P C w old site s fits c.self.inside.budb c.self.inside.time c.args.command.now budb time (C.list c.restored.new.cell) (c.restored.ensures.left told ctold (archive_of w) stands)

pub returns-in-Err-clause-cells : goal.returns-in-Err-clause-cells
returns-in-Err-clause-cells g c = λ told ctold w fits held.
    let P = g.P.Plant in
    let C = g.C.Cell in
    let old = c.args.plant.now in
    let site = c.args.cell.now in
    let s = c.args.self.now in
    let budb = ap (λ (x : SessionView). x.budb) c.self.view_is in
    let time = ap (λ (x : SessionView). x.time) c.self.view_is in
    let read = c.the_slots_are_read.ensures in
    let stands = archive_stands P C w old site s fits c.self.inside.budb budb held (read.count w.setting.slots w.setting.present w.state.tape) (read.here w.setting.slots w.setting.present w.state.tape) (read.items w.setting.slots w.setting.present w.state.tape) in
    restore_way P C w old site s fits c.self.inside.budb c.self.inside.time c.args.command.now budb time (C.list c.restored.new.cell) (c.restored.ensures.left told ctold (archive_of w) stands)

pub returns-in-Ok-clause-some_restore : goal.returns-in-Ok-clause-some_restore
returns-in-Ok-clause-some_restore g c = λ told ctold w fits.
    some_restore g.P.Plant g.C.Cell w c.args.plant.now c.args.cell.now c.args.self.now fits c.restored.new.plant c.restored.new.cell c.new.result told (c.restored.ensures.done (λ is. absurd (cc))) c.restored.ensures.stays.stays

pub returns-in-Ok-clause-may : goal.returns-in-Ok-clause-may
returns-in-Ok-clause-may g c = λ told ctold w fits.
    may_here g.P.Plant g.C.Cell w c.args.plant.now c.args.cell.now c.args.self.now fits c.self.inside.budb c.self.inside.time c.args.command.now (ap (λ (x : SessionView). x.budb) c.self.view_is) (ap (λ (x : SessionView). x.time) c.self.view_is)
    (g.C.Cell.list c.restored.new.cell) (c.restored.ensures.may ctold)

pub returns-in-Err-clause-may : goal.returns-in-Err-clause-may
returns-in-Err-clause-may g c = λ told ctold w fits.
    may_here g.P.Plant g.C.Cell w c.args.plant.now c.args.cell.now c.args.self.now fits c.self.inside.budb c.self.inside.time c.args.command.now (ap (λ (x : SessionView). x.budb) c.self.view_is) (ap (λ (x : SessionView). x.time) c.self.view_is)
    (g.C.Cell.list c.restored.new.cell) (c.restored.ensures.may ctold)

pub returns-in-Err-clause-unfailed : goal.returns-in-Err-clause-unfailed
returns-in-Err-clause-unfailed g c = λ other.
    (handed_as restore_stops.Plant c.in-Err.stop stops.Plant c.stop_of.result (Loads g.P.Plant c.args.plant.now c.restored.new.plant) c.stop_of.ensures.only_plant c.in-Err.ensures.done other).done.sound

pub returns-in-Err-clause-stopped : goal.returns-in-Err-clause-stopped
returns-in-Err-clause-stopped g c = λ told ctold w fits other.
    left_loads g.P.Plant [] c.args.plant.now c.restored.new.plant w.state (λ _. fits.state)
    (handed_as restore_stops.Plant c.in-Err.stop stops.Plant c.stop_of.result (Loads g.P.Plant c.args.plant.now c.restored.new.plant) c.stop_of.ensures.only_plant c.in-Err.ensures.done other)

pub returns-in-Ok-clause-loads : goal.returns-in-Ok-clause-loads
returns-in-Ok-clause-loads g c = λ told w fits.
    let P = g.P.Plant in
    let C = g.C.Cell in
    let old = c.args.plant.now in
    let site = c.args.cell.now in
    let s = c.args.self.now in
    let budb = ap (λ (x : SessionView). x.budb) c.self.view_is in
    let slots = slots_of w.setting.slots w.setting.present w.state.tape in
    let read = c.the_slots_are_read.ensures in
    let has = slots_stand P C w old site s fits (read.count w.setting.slots w.setting.present w.state.tape) (read.here w.setting.slots w.setting.present w.state.tape) (read.items w.setting.slots w.setting.present w.state.tape) in
    loads_here P C w old site s fits c.self.inside.budb budb c.args.command.now (P.view old).loads (P.view c.restored.new.plant).loads
    (c.restored.ensures.loads told (parents_below P C w old site s fits c.self.inside.budb budb) slots has)

pub returns-in-Err-clause-loads : goal.returns-in-Err-clause-loads
returns-in-Err-clause-loads g c = λ told w fits.
    let P = g.P.Plant in
    let C = g.C.Cell in
    let old = c.args.plant.now in
    let site = c.args.cell.now in
    let s = c.args.self.now in
    let budb = ap (λ (x : SessionView). x.budb) c.self.view_is in
    let slots = slots_of w.setting.slots w.setting.present w.state.tape in
    let read = c.the_slots_are_read.ensures in
    let has = slots_stand P C w old site s fits (read.count w.setting.slots w.setting.present w.state.tape) (read.here w.setting.slots w.setting.present w.state.tape) (read.items w.setting.slots w.setting.present w.state.tape) in
    loads_here P C w old site s fits c.self.inside.budb budb c.args.command.now (P.view old).loads (P.view c.restored.new.plant).loads
    (c.restored.ensures.loads told (parents_below P C w old site s fits c.self.inside.budb budb) slots has)
