use Rattle.std.proofs.Common.{refl, sym, subst}
use Rattle.dump_courses.specs.declared.stop.DumpStop.TheVariants as dump_stops
use Rattle.dump_courses.specs.Ahead.{LeftAhead}
use Rattle.dump_courses.proofs.Stopping.{handed_as}
use Rattle.dump_commands.specs.Answers.{dump_answer}
use Rattle.backup_session.specs.Views.{SessionView}
use Rattle.backup_session.specs.Dumps.{scene_of}
use Rattle.backup_session.specs.Fitting.{Stands}
use Rattle.backup_session.proofs.DumpLaws.{dump_finds, dump_turned}
use Rattle.backup_session.specs.declared.stops.Stop.TheVariants as stops
use Rattle.backup_session.proofs.session.Session.make_dump.Goals as goal

pub returns-in-Ok-clause-turned : goal.returns-in-Ok-clause-turned
returns-in-Ok-clause-turned g c = λ told seen w fits.
    let P = g.P.Plant in
    let C = g.C.Cell in
    let old = c.args.plant.now in
    let site = c.args.cell.now in
    let here : SessionView = record { config = c.self.inside.config; budb = c.self.inside.budb; time = c.self.inside.time; groups = c.self.inside.groups } in
    let there : Stands P C w old site here = subst (λ (s : SessionView). Stands P C w old site s) (sym c.self.view_is) fits in
    dump_turned P C w old site here there (dump_answer (scene_of w) c.args.asked.now) w.groups c.dump.new.budb c.dump.new.plant c.dump.new.cell c.in-Ok.dumped _ c.new.result
    (c.in-Ok.ensures.answered told seen (scene_of w) (dump_finds P C w old site here there)) c.dump.ensures.stays.stays (c.dump.ensures.list seen) refl refl refl there.groups c.new.ensures

pub returns-in-Ok-clause-leaves : goal.returns-in-Ok-clause-leaves
returns-in-Ok-clause-leaves g c = λ told seen w fits.
    let P = g.P.Plant in
    let C = g.C.Cell in
    let old = c.args.plant.now in
    let site = c.args.cell.now in
    let here : SessionView = record { config = c.self.inside.config; budb = c.self.inside.budb; time = c.self.inside.time; groups = c.self.inside.groups } in
    let there : Stands P C w old site here = subst (λ (s : SessionView). Stands P C w old site s) (sym c.self.view_is) fits in
    c.dump.ensures.leaves told seen (scene_of w) (dump_finds P C w old site here there)

pub returns-in-Err-clause-leaves : goal.returns-in-Err-clause-leaves
returns-in-Err-clause-leaves g c = λ told seen w fits.
    let P = g.P.Plant in
    let C = g.C.Cell in
    let old = c.args.plant.now in
    let site = c.args.cell.now in
    let here : SessionView = record { config = c.self.inside.config; budb = c.self.inside.budb; time = c.self.inside.time; groups = c.self.inside.groups } in
    let there : Stands P C w old site here = subst (λ (s : SessionView). Stands P C w old site s) (sym c.self.view_is) fits in
    c.dump.ensures.leaves told seen (scene_of w) (dump_finds P C w old site here there)

pub returns-in-Err-clause-unfailed : goal.returns-in-Err-clause-unfailed
returns-in-Err-clause-unfailed g c = λ other.
    handed_as dump_stops.Plant c.in-Err.stop stops.Plant c.stop_of.result (g.P.Plant.sound c.dump.new.plant) c.stop_of.ensures.only_plant c.in-Err.ensures.unfailed other

pub returns-in-Err-clause-stopped : goal.returns-in-Err-clause-stopped
returns-in-Err-clause-stopped g c = λ told seen w fits other.
    let P = g.P.Plant in
    let C = g.C.Cell in
    let old = c.args.plant.now in
    let site = c.args.cell.now in
    let here : SessionView = record { config = c.self.inside.config; budb = c.self.inside.budb; time = c.self.inside.time; groups = c.self.inside.groups } in
    let there : Stands P C w old site here = subst (λ (s : SessionView). Stands P C w old site s) (sym c.self.view_is) fits in
    handed_as dump_stops.Plant c.in-Err.stop stops.Plant c.stop_of.result (LeftAhead P (dump_answer (scene_of w) c.args.asked.now).effects old c.dump.new.plant) c.stop_of.ensures.only_plant
    (c.in-Err.ensures.stopped told seen (scene_of w) (dump_finds P C w old site here there)) other
