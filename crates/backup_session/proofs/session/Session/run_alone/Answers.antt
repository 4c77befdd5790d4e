use Rattle.std.proofs.Common.{◌≡◌, true, false, refl, sym, ◌∙◌, ap, subst, IfOk, ◌≢◌}
use Rattle.std.specs.Prelude.{Err, OnErr}
use Rattle.budb_fold.specs.Database.{after}
use Rattle.plant_effects.specs.Runs.{Leaves}
use Rattle.plant_effects.proofs.Joining.{nothing_left}
use Rattle.backup_words.specs.declared.command.Command.{Command}
use Rattle.backup_words.specs.declared.command.Command.TheVariants.{Restore}
use Rattle.backup_words.specs.declared.command.RestoreCommand.{RestoreCommand}
use Rattle.backup_session.specs.declared.stops.Stop.TheVariants as stops
use Rattle.backup_session.specs.Views.{SessionView}
use Rattle.backup_session.specs.Asks.{asks_archive}
use Rattle.backup_session.specs.Held.{HeldFor}
use Rattle.backup_session.specs.Verdicts.{verdict}
use Rattle.backup_session.specs.Cells.{cell_answer}
use Rattle.backup_session.specs.Tapes.{tape_turn}
use Rattle.backup_session.specs.Dumps.{dump_turn}
use Rattle.backup_session.specs.Restores.{MayRestore}
use Rattle.backup_session.specs.Machine.{carried, on_cell, alone}
use Rattle.backup_session.specs.Fitting.{Stands, TurnDone, OnTheWay}
use Rattle.dump_courses.specs.Ahead.{LeftAhead}
use Rattle.dump_courses.proofs.Stopping.{on_stop, left_standing}
use Rattle.backup_session.proofs.Carrying.{carried_cells, tape_cells, fits_plant, list_stays, turned_by, turned_cell, cell_way, in_ok}
use Rattle.backup_session.specs.Groups.{group_alone}
use Rattle.backup_session.proofs.Silent.{carried_silent, tape_silent, dump_silent, group_alone_silent, somehow}
use Rattle.backup_session.proofs.GroupLaws.{groups_turned, alone_told, groups_ask_none, tapes_ask_none}
use Rattle.backup_session.proofs.LoadLaws.{Within}
use Rattle.backup_session.specs.Loading.{restore_loads}
use Rattle.backup_session.proofs.session.Session.run_alone.Goals as goal

pub returns-in-Database-clause-turned : goal.returns-in-Database-clause-turned
returns-in-Database-clause-turned g c = λ told seen w fits held.
    let P = g.P.Plant in
    let C = g.C.Cell in
    let old = c.args.plant.now in
    let new = c.on_database.new.plant in
    subst (λ (x : Command). IfOk c.on_database.result (λ reply. TurnDone P C w (alone w x) old new c.args.cell.now c.on_database.new.self reply)) (sym c.in-Database.is)
    (in_ok c.on_database.result _ _ (λ reply turned. turned_by P C w old c.args.cell.now c.args.self.now fits (carried w (verdict (after w.log) c.in-Database.asked)) new c.on_database.new.self reply (carried_cells w (verdict (after w.log) c.in-Database.asked)) turned)
    (c.on_database.ensures.turned told w (fits_plant P C w old c.args.cell.now c.args.self.now fits)))

pub returns-in-Database-clause-some_turn : goal.returns-in-Database-clause-some_turn
returns-in-Database-clause-some_turn g c = λ told seen w fits.
    let P = g.P.Plant in
    let C = g.C.Cell in
    let old = c.args.plant.now in
    let new = c.on_database.new.plant in
    somehow P C w (carried w (verdict (after w.log) c.in-Database.asked)) old new c.args.cell.now c.on_database.new.self c.on_database.result (carried_silent w (verdict (after w.log) c.in-Database.asked))
    (in_ok c.on_database.result _ _ (λ reply turned. turned_by P C w old c.args.cell.now c.args.self.now fits (carried w (verdict (after w.log) c.in-Database.asked)) new c.on_database.new.self reply (carried_cells w (verdict (after w.log) c.in-Database.asked)) turned)
    (c.on_database.ensures.turned told w (fits_plant P C w old c.args.cell.now c.args.self.now fits)))

pub returns-in-Database-clause-leaves : goal.returns-in-Database-clause-leaves
returns-in-Database-clause-leaves g c = λ told seen w fits.
    subst (λ (x : Command). Leaves g.P.Plant (alone w x).effects c.args.plant.now c.on_database.new.plant) (sym c.in-Database.is)
    (c.on_database.ensures.leaves told w (fits_plant g.P.Plant g.C.Cell w c.args.plant.now c.args.cell.now c.args.self.now fits))

pub returns-in-Database-clause-stopped : goal.returns-in-Database-clause-stopped
returns-in-Database-clause-stopped g c = λ told seen w fits.
    subst (λ (x : Command). OnErr c.on_database.result (c.on_database.result ≢ Err stops.Plant → LeftAhead g.P.Plant (alone w x).effects c.args.plant.now c.on_database.new.plant)) (sym c.in-Database.is)
    (c.on_database.ensures.stopped told w (fits_plant g.P.Plant g.C.Cell w c.args.plant.now c.args.cell.now c.args.self.now fits))

pub returns-in-Database-clause-cells : goal.returns-in-Database-clause-cells
returns-in-Database-clause-cells g c = λ told seen w fits held.
    list_stays g.P.Plant g.C.Cell w c.args.plant.now c.args.cell.now c.args.self.now fits (alone w c.args.command.now).cells (g.C.Cell.list c.args.cell.now) refl

pub returns-in-Tape-clause-turned : goal.returns-in-Tape-clause-turned
returns-in-Tape-clause-turned g c = λ told seen w fits held.
    let P = g.P.Plant in
    let C = g.C.Cell in
    let old = c.args.plant.now in
    let new = c.on_tape.new.plant in
    subst (λ (x : Command). IfOk c.on_tape.result (λ reply. TurnDone P C w (alone w x) old new c.args.cell.now c.on_tape.new.self reply)) (sym c.in-Tape.is)
    (in_ok c.on_tape.result _ _ (λ reply turned. turned_by P C w old c.args.cell.now c.args.self.now fits (tape_turn w c.in-Tape.asked) new c.on_tape.new.self reply (tape_cells w c.in-Tape.asked) turned)
    (c.on_tape.ensures.turned told w (fits_plant P C w old c.args.cell.now c.args.self.now fits)))

pub returns-in-Tape-clause-some_turn : goal.returns-in-Tape-clause-some_turn
returns-in-Tape-clause-some_turn g c = λ told seen w fits.
    let P = g.P.Plant in
    let C = g.C.Cell in
    let old = c.args.plant.now in
    let new = c.on_tape.new.plant in
    somehow P C w (tape_turn w c.in-Tape.asked) old new c.args.cell.now c.on_tape.new.self c.on_tape.result (tape_silent w c.in-Tape.asked)
    (in_ok c.on_tape.result _ _ (λ reply turned. turned_by P C w old c.args.cell.now c.args.self.now fits (tape_turn w c.in-Tape.asked) new c.on_tape.new.self reply (tape_cells w c.in-Tape.asked) turned)
    (c.on_tape.ensures.turned told w (fits_plant P C w old c.args.cell.now c.args.self.now fits)))

pub returns-in-Tape-clause-leaves : goal.returns-in-Tape-clause-leaves
returns-in-Tape-clause-leaves g c = λ told seen w fits.
    subst (λ (x : Command). Leaves g.P.Plant (alone w x).effects c.args.plant.now c.on_tape.new.plant) (sym c.in-Tape.is)
    (c.on_tape.ensures.leaves told w (fits_plant g.P.Plant g.C.Cell w c.args.plant.now c.args.cell.now c.args.self.now fits))

pub returns-in-Tape-clause-stopped : goal.returns-in-Tape-clause-stopped
returns-in-Tape-clause-stopped g c = λ told seen w fits.
    subst (λ (x : Command). OnErr c.on_tape.result (c.on_tape.result ≢ Err stops.Plant → LeftAhead g.P.Plant (alone w x).effects c.args.plant.now c.on_tape.new.plant)) (sym c.in-Tape.is)
    (c.on_tape.ensures.stopped told w (fits_plant g.P.Plant g.C.Cell w c.args.plant.now c.args.cell.now c.args.self.now fits))

pub returns-in-Tape-clause-cells : goal.returns-in-Tape-clause-cells
returns-in-Tape-clause-cells g c = λ told seen w fits held.
    list_stays g.P.Plant g.C.Cell w c.args.plant.now c.args.cell.now c.args.self.now fits (alone w c.args.command.now).cells (g.C.Cell.list c.args.cell.now) refl

pub returns-in-Cell-clause-turned : goal.returns-in-Cell-clause-turned
returns-in-Cell-clause-turned g c = λ told seen w fits held.
    let P = g.P.Plant in
    let C = g.C.Cell in
    let old = c.args.plant.now in
    let asked = c.in-Cell.asked in
    let here : SessionView = record { config = c.self.inside.config; budb = c.self.inside.budb; time = c.self.inside.time; groups = c.self.inside.groups } in
    let there : Stands P C w old c.args.cell.now here = subst (λ (s : SessionView). Stands P C w old c.args.cell.now s) (sym c.self.view_is) fits in
    subst (λ (x : Command). IfOk c.on_cell.result (λ reply. TurnDone P C w (alone w x) old old c.on_cell.new.cell c.args.self.now reply)) (sym c.in-Cell.is)
    (in_ok c.on_cell.result _ _
    (λ reply answer. subst (λ (s : SessionView). TurnDone P C w (on_cell w (cell_answer w.cell w.time asked)) old old c.on_cell.new.cell s reply) c.self.view_is (turned_cell P C w old c.args.cell.now here there c.on_cell.new.cell reply asked c.requires answer)) (c.on_cell.ensures.answer seen))

pub returns-in-Cell-clause-some_turn : goal.returns-in-Cell-clause-some_turn
returns-in-Cell-clause-some_turn g c = λ told seen w fits.
    let P = g.P.Plant in
    let C = g.C.Cell in
    let old = c.args.plant.now in
    let asked = c.in-Cell.asked in
    let here : SessionView = record { config = c.self.inside.config; budb = c.self.inside.budb; time = c.self.inside.time; groups = c.self.inside.groups } in
    let there : Stands P C w old c.args.cell.now here = subst (λ (s : SessionView). Stands P C w old c.args.cell.now s) (sym c.self.view_is) fits in
    let t = on_cell w (cell_answer w.cell w.time asked) in
    somehow P C w t old old c.on_cell.new.cell c.args.self.now c.on_cell.result refl
    (in_ok c.on_cell.result _ _
    (λ reply answer. subst (λ (s : SessionView). TurnDone P C w t old old c.on_cell.new.cell s reply) c.self.view_is (turned_cell P C w old c.args.cell.now here there c.on_cell.new.cell reply asked c.requires answer)) (c.on_cell.ensures.answer seen))

pub returns-in-Cell-clause-leaves : goal.returns-in-Cell-clause-leaves
returns-in-Cell-clause-leaves g c = λ told seen w fits.
    let old = c.args.plant.now in
    nothing_left g.P.Plant (alone w c.args.command.now).effects old (λ told survives image left. g.met.P.Plant.left old image told c.requires survives left)

pub returns-in-Cell-clause-stopped : goal.returns-in-Cell-clause-stopped
returns-in-Cell-clause-stopped g c = λ told seen w fits.
    on_stop stops.Plant c.on_cell.result _ (λ other. left_standing g.P.Plant (alone w c.args.command.now).effects c.args.plant.now w.state c.requires (λ _. fits.state))

pub returns-in-Cell-clause-cells : goal.returns-in-Cell-clause-cells
returns-in-Cell-clause-cells g c = λ told seen w fits held.
    let P = g.P.Plant in
    let C = g.C.Cell in
    let old = c.args.plant.now in
    let here : SessionView = record { config = c.self.inside.config; budb = c.self.inside.budb; time = c.self.inside.time; groups = c.self.inside.groups } in
    let there : Stands P C w old c.args.cell.now here = subst (λ (s : SessionView). Stands P C w old c.args.cell.now s) (sym c.self.view_is) fits in
    subst (λ (x : Command). OnTheWay w.cell (alone w x).cells (C.list c.on_cell.new.cell)) (sym c.in-Cell.is)
    (cell_way P C w old c.args.cell.now here there (C.list c.on_cell.new.cell) c.in-Cell.asked (c.on_cell.ensures.left seen))

pub returns-in-Dump-clause-turned : goal.returns-in-Dump-clause-turned
returns-in-Dump-clause-turned g c = λ told seen w fits held.
    let P = g.P.Plant in
    let C = g.C.Cell in
    subst (λ (x : Command). IfOk c.make_dump.result (λ reply. TurnDone P C w (alone w x) c.args.plant.now c.make_dump.new.plant c.make_dump.new.cell c.make_dump.new.self reply)) (sym c.in-Dump.is) (c.make_dump.ensures.turned told seen w fits)

pub returns-in-Dump-clause-some_turn : goal.returns-in-Dump-clause-some_turn
returns-in-Dump-clause-some_turn g c = λ told seen w fits.
    somehow g.P.Plant g.C.Cell w (dump_turn w c.in-Dump.asked) c.args.plant.now c.make_dump.new.plant c.make_dump.new.cell c.make_dump.new.self c.make_dump.result (dump_silent w c.in-Dump.asked) (c.make_dump.ensures.turned told seen w fits)

pub returns-in-Dump-clause-leaves : goal.returns-in-Dump-clause-leaves
returns-in-Dump-clause-leaves g c = λ told seen w fits.
    subst (λ (x : Command). Leaves g.P.Plant (alone w x).effects c.args.plant.now c.make_dump.new.plant) (sym c.in-Dump.is) (c.make_dump.ensures.leaves told seen w fits)

pub returns-in-Dump-clause-stopped : goal.returns-in-Dump-clause-stopped
returns-in-Dump-clause-stopped g c = λ told seen w fits.
    subst (λ (x : Command). OnErr c.make_dump.result (c.make_dump.result ≢ Err stops.Plant → LeftAhead g.P.Plant (alone w x).effects c.args.plant.now c.make_dump.new.plant)) (sym c.in-Dump.is) (c.make_dump.ensures.stopped told seen w fits)

pub returns-in-Dump-clause-cells : goal.returns-in-Dump-clause-cells
returns-in-Dump-clause-cells g c = λ told seen w fits held.
    list_stays g.P.Plant g.C.Cell w c.args.plant.now c.args.cell.now c.args.self.now fits (alone w c.args.command.now).cells (g.C.Cell.list c.make_dump.new.cell) (c.make_dump.ensures.list seen)

pub returns-in-Restore-clause-turned : goal.returns-in-Restore-clause-turned
returns-in-Restore-clause-turned g c = λ told seen w fits held.
    let P = g.P.Plant in
    let C = g.C.Cell in
    let holds = subst (λ (x : Command). HeldFor w x) c.in-Restore.is held in
    subst (λ (x : Command). IfOk c.on_archive.result (λ reply. TurnDone P C w (alone w x) c.args.plant.now c.on_archive.new.plant c.on_archive.new.cell c.args.self.now reply)) (sym c.in-Restore.is) (c.on_archive.ensures.turned told seen w fits holds)

pub returns-in-Restore-clause-some_turn : goal.returns-in-Restore-clause-some_turn
returns-in-Restore-clause-some_turn g c = λ told seen w fits. c.on_archive.ensures.some_turn told seen w fits

pub returns-in-Restore-clause-some_restore : goal.returns-in-Restore-clause-some_restore
returns-in-Restore-clause-some_restore g c = λ told seen w fits is. c.on_archive.ensures.some_restore told seen w fits

pub returns-in-Restore-clause-may : goal.returns-in-Restore-clause-may
returns-in-Restore-clause-may g c = λ told seen w fits asked is.
    let same : c.in-Restore.asked ≡ asked = (let both : Restore c.in-Restore.asked ≡ Restore asked = sym c.in-Restore.is ∙ is in cc) in
    subst (λ (x : RestoreCommand). MayRestore (after w.log) w.time x w.cell (g.C.Cell.list c.on_archive.new.cell)) same (c.on_archive.ensures.may told seen w fits)

pub returns-in-Restore-clause-leaves : goal.returns-in-Restore-clause-leaves
returns-in-Restore-clause-leaves g c = λ told seen w fits.
    subst (λ (x : Command). Leaves g.P.Plant (alone w x).effects c.args.plant.now c.on_archive.new.plant) (sym c.in-Restore.is) (c.on_archive.ensures.leaves told seen w fits)

pub returns-in-Restore-clause-stopped : goal.returns-in-Restore-clause-stopped
returns-in-Restore-clause-stopped g c = λ told seen w fits.
    subst (λ (x : Command). OnErr c.on_archive.result (c.on_archive.result ≢ Err stops.Plant → LeftAhead g.P.Plant (alone w x).effects c.args.plant.now c.on_archive.new.plant)) (sym c.in-Restore.is) (c.on_archive.ensures.stopped told seen w fits)

pub returns-in-Restore-clause-cells : goal.returns-in-Restore-clause-cells
returns-in-Restore-clause-cells g c = λ told seen w fits held.
    let holds = subst (λ (x : Command). HeldFor w x) c.in-Restore.is held in
    subst (λ (x : Command). OnTheWay w.cell (alone w x).cells (g.C.Cell.list c.on_archive.new.cell)) (sym c.in-Restore.is) (c.on_archive.ensures.cells told seen w fits holds)

pub returns-in-Database-clause-some_restore : goal.returns-in-Database-clause-some_restore
returns-in-Database-clause-some_restore g c = λ told seen w fits is. (let both : false ≡ true = sym (ap asks_archive c.in-Database.is) ∙ is in absurd (cc))

pub returns-in-Database-clause-may : goal.returns-in-Database-clause-may
returns-in-Database-clause-may g c = λ told seen w fits asked is. (let both = sym c.in-Database.is ∙ is in absurd (cc))

pub returns-in-Tape-clause-some_restore : goal.returns-in-Tape-clause-some_restore
returns-in-Tape-clause-some_restore g c = λ told seen w fits is. (let both : false ≡ true = sym (tapes_ask_none c.in-Tape.asked) ∙ sym (ap asks_archive c.in-Tape.is) ∙ is in absurd (cc))

pub returns-in-Tape-clause-may : goal.returns-in-Tape-clause-may
returns-in-Tape-clause-may g c = λ told seen w fits asked is. (let both = sym c.in-Tape.is ∙ is in absurd (cc))

pub returns-in-Cell-clause-some_restore : goal.returns-in-Cell-clause-some_restore
returns-in-Cell-clause-some_restore g c = λ told seen w fits is. (let both : false ≡ true = sym (ap asks_archive c.in-Cell.is) ∙ is in absurd (cc))

pub returns-in-Cell-clause-may : goal.returns-in-Cell-clause-may
returns-in-Cell-clause-may g c = λ told seen w fits asked is. (let both = sym c.in-Cell.is ∙ is in absurd (cc))

pub returns-in-Dump-clause-some_restore : goal.returns-in-Dump-clause-some_restore
returns-in-Dump-clause-some_restore g c = λ told seen w fits is. (let both : false ≡ true = sym (ap asks_archive c.in-Dump.is) ∙ is in absurd (cc))

pub returns-in-Dump-clause-may : goal.returns-in-Dump-clause-may
returns-in-Dump-clause-may g c = λ told seen w fits asked is. (let both = sym c.in-Dump.is ∙ is in absurd (cc))

pub returns-in-Group-clause-turned : goal.returns-in-Group-clause-turned
returns-in-Group-clause-turned g c = λ told seen w fits held.
    let P = g.P.Plant in
    let C = g.C.Cell in
    let old = c.args.plant.now in
    let site = c.args.cell.now in
    subst (λ (x : Command). IfOk c.on_groups_alone.result (λ reply. TurnDone P C w (alone w x) old old site c.on_groups_alone.new.self reply)) (sym c.in-Group.is)
    (in_ok c.on_groups_alone.result _ _ (λ reply on. groups_turned P C w (group_alone w c.in-Group.asked) old site c.args.self.now c.on_groups_alone.new.self reply fits c.requires (alone_told w c.in-Group.asked) on) (c.on_groups_alone.ensures.turned w fits.groups))

pub returns-in-Group-clause-some_turn : goal.returns-in-Group-clause-some_turn
returns-in-Group-clause-some_turn g c = λ told seen w fits.
    let P = g.P.Plant in
    let C = g.C.Cell in
    let old = c.args.plant.now in
    let site = c.args.cell.now in
    somehow P C w (group_alone w c.in-Group.asked) old old site c.on_groups_alone.new.self c.on_groups_alone.result (group_alone_silent w c.in-Group.asked)
    (in_ok c.on_groups_alone.result _ _ (λ reply on. groups_turned P C w (group_alone w c.in-Group.asked) old site c.args.self.now c.on_groups_alone.new.self reply fits c.requires (alone_told w c.in-Group.asked) on) (c.on_groups_alone.ensures.turned w fits.groups))

pub returns-in-Group-clause-leaves : goal.returns-in-Group-clause-leaves
returns-in-Group-clause-leaves g c = λ told seen w fits.
    let old = c.args.plant.now in
    nothing_left g.P.Plant (alone w c.args.command.now).effects old (λ told survives image left. g.met.P.Plant.left old image told c.requires survives left)

pub returns-in-Group-clause-stopped : goal.returns-in-Group-clause-stopped
returns-in-Group-clause-stopped g c = λ told seen w fits.
    on_stop stops.Plant c.on_groups_alone.result _ (λ other. left_standing g.P.Plant (alone w c.args.command.now).effects c.args.plant.now w.state c.requires (λ _. fits.state))

pub returns-in-Group-clause-cells : goal.returns-in-Group-clause-cells
returns-in-Group-clause-cells g c = λ told seen w fits held.
    list_stays g.P.Plant g.C.Cell w c.args.plant.now c.args.cell.now c.args.self.now fits (alone w c.args.command.now).cells (g.C.Cell.list c.args.cell.now) refl

pub returns-in-Group-clause-some_restore : goal.returns-in-Group-clause-some_restore
returns-in-Group-clause-some_restore g c = λ told seen w fits is. (let both : false ≡ true = sym (groups_ask_none c.in-Group.asked) ∙ sym (ap asks_archive c.in-Group.is) ∙ is in absurd (cc))

pub returns-in-Group-clause-may : goal.returns-in-Group-clause-may
returns-in-Group-clause-may g c = λ told seen w fits asked is. (let both = sym c.in-Group.is ∙ is in absurd (cc))

pub returns-in-Database-clause-loads : goal.returns-in-Database-clause-loads
returns-in-Database-clause-loads g c = λ told w fits asked is. (let both = sym c.in-Database.is ∙ is in absurd (cc))

pub returns-in-Tape-clause-loads : goal.returns-in-Tape-clause-loads
returns-in-Tape-clause-loads g c = λ told w fits asked is. (let both = sym c.in-Tape.is ∙ is in absurd (cc))

pub returns-in-Cell-clause-loads : goal.returns-in-Cell-clause-loads
returns-in-Cell-clause-loads g c = λ told w fits asked is. (let both = sym c.in-Cell.is ∙ is in absurd (cc))

pub returns-in-Dump-clause-loads : goal.returns-in-Dump-clause-loads
returns-in-Dump-clause-loads g c = λ told w fits asked is. (let both = sym c.in-Dump.is ∙ is in absurd (cc))

pub returns-in-Group-clause-loads : goal.returns-in-Group-clause-loads
returns-in-Group-clause-loads g c = λ told w fits asked is. (let both = sym c.in-Group.is ∙ is in absurd (cc))

pub returns-in-Restore-clause-loads : goal.returns-in-Restore-clause-loads
returns-in-Restore-clause-loads g c = λ told w fits asked is.
    let P = g.P.Plant in
    let same : c.in-Restore.asked ≡ asked = (let both : Restore c.in-Restore.asked ≡ Restore asked = sym c.in-Restore.is ∙ is in cc) in
    subst (λ (x : RestoreCommand). Within (P.view c.args.plant.now).loads (P.view c.on_archive.new.plant).loads (restore_loads w x)) same (c.on_archive.ensures.loads told w fits)
