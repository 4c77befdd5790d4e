use Rattle.std.proofs.Common.{◌≡◌, Some, refl, sym, ◌∙◌, ap, subst}
use Rattle.std.specs.Prelude.{None}
use Rattle.dump_courses.specs.declared.stop.DumpStop.TheVariants as dump_stops
use Rattle.dump_courses.specs.Ahead.{LeftAhead}
use Rattle.dump_courses.proofs.Stopping.{handed_as}
use Rattle.group_commands.specs.Answers.{group_answer}
use Rattle.backup_session.specs.declared.groups.Groups.{Groups}
use Rattle.backup_session.specs.Views.{SessionView}
use Rattle.backup_session.specs.Dumps.{scene_of}
use Rattle.backup_session.specs.Fitting.{Stands}
use Rattle.backup_session.proofs.DumpLaws.{dump_finds, dump_turned}
use Rattle.backup_session.specs.declared.stops.Stop.TheVariants as stops
use Rattle.backup_session.proofs.session.Session.end_open.Goals as goal

pub returns-in-Ok-clause-turned : goal.returns-in-Ok-clause-turned
returns-in-Ok-clause-turned g c = λ told seen w v fits opened.
    let P = g.P.Plant in
    let C = g.C.Cell in
    let old = c.args.plant.now in
    let site = c.args.cell.now in
    let here : SessionView = record { config = c.self.inside.config; budb = c.self.inside.budb; time = c.self.inside.time; groups = c.self.inside.groups } in
    let there : Stands P C w old site here = subst (λ (s : SessionView). Stands P C w old site s) (sym c.self.view_is) fits in
    let is : c.self.inside.groups.open ≡ Some v = ap (λ (all : Groups). all.open) there.groups ∙ opened in
    let ended = c.in-Ok.ended in
    let all : Groups = record { «open» = None; jobs = (group_answer (scene_of w) v).jobs } in
    dump_turned P C w old site here there (group_answer (scene_of w) v).answer all c.end_in.new.budb c.end_in.new.plant c.end_in.new.cell (record { text = ended.text; time = ended.time }) _ c.new.result
    (c.in-Ok.ensures.answered told seen (scene_of w) v (dump_finds P C w old site here there) is) c.end_in.ensures.stays.stays (c.end_in.ensures.list seen) refl refl refl
    (c.end.ensures ∙ ap (λ jobs. record { «open» = None; jobs = jobs }) (c.in-Ok.ensures.jobs told seen (scene_of w) v (dump_finds P C w old site here there) is)) c.new.ensures

pub returns-in-Ok-clause-leaves : goal.returns-in-Ok-clause-leaves
returns-in-Ok-clause-leaves g c = λ told seen w v fits opened.
    let P = g.P.Plant in
    let C = g.C.Cell in
    let old = c.args.plant.now in
    let site = c.args.cell.now in
    let here : SessionView = record { config = c.self.inside.config; budb = c.self.inside.budb; time = c.self.inside.time; groups = c.self.inside.groups } in
    let there : Stands P C w old site here = subst (λ (s : SessionView). Stands P C w old site s) (sym c.self.view_is) fits in
    let is : c.self.inside.groups.open ≡ Some v = ap (λ (all : Groups). all.open) there.groups ∙ opened in
    c.end_in.ensures.leaves told seen (scene_of w) v (dump_finds P C w old site here there) is

pub returns-in-Err-clause-leaves : goal.returns-in-Err-clause-leaves
returns-in-Err-clause-leaves g c = λ told seen w v fits opened.
    let P = g.P.Plant in
    let C = g.C.Cell in
    let old = c.args.plant.now in
    let site = c.args.cell.now in
    let here : SessionView = record { config = c.self.inside.config; budb = c.self.inside.budb; time = c.self.inside.time; groups = c.self.inside.groups } in
    let there : Stands P C w old site here = subst (λ (s : SessionView). Stands P C w old site s) (sym c.self.view_is) fits in
    let is : c.self.inside.groups.open ≡ Some v = ap (λ (all : Groups). all.open) there.groups ∙ opened in
    c.end_in.ensures.leaves told seen (scene_of w) v (dump_finds P C w old site here there) is

pub returns-in-Err-clause-unfailed : goal.returns-in-Err-clause-unfailed
returns-in-Err-clause-unfailed g c = λ other.
    handed_as dump_stops.Plant c.in-Err.stop stops.Plant c.stop_of.result (g.P.Plant.sound c.end_in.new.plant) c.stop_of.ensures.only_plant c.in-Err.ensures.unfailed other

pub returns-in-Err-clause-stopped : goal.returns-in-Err-clause-stopped
returns-in-Err-clause-stopped g c = λ told seen w v fits opened other.
    let P = g.P.Plant in
    let C = g.C.Cell in
    let old = c.args.plant.now in
    let site = c.args.cell.now in
    let here : SessionView = record { config = c.self.inside.config; budb = c.self.inside.budb; time = c.self.inside.time; groups = c.self.inside.groups } in
    let there : Stands P C w old site here = subst (λ (s : SessionView). Stands P C w old site s) (sym c.self.view_is) fits in
    let is : c.self.inside.groups.open ≡ Some v = ap (λ (all : Groups). all.open) there.groups ∙ opened in
    handed_as dump_stops.Plant c.in-Err.stop stops.Plant c.stop_of.result (LeftAhead P (group_answer (scene_of w) v).answer.effects old c.end_in.new.plant) c.stop_of.ensures.only_plant
    (c.in-Err.ensures.stopped told seen (scene_of w) v (dump_finds P C w old site here there) is) other
