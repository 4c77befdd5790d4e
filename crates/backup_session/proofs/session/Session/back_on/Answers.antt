use Rattle.std.proofs.Common.{◌≡◌, refl, ◌∙◌, ap, sym}
use Rattle.std.specs.Prelude.{max, Ok}
use Rattle.tape_config.specs.declared.port.PortFields.{PortFields}
use Rattle.tape_scan.specs.Looking.{HasSlots}
use Rattle.budb.specs.Views.{BudbView}
use Rattle.budb_fold.specs.declared.database.Database.{Database}
use Rattle.budb_fold.specs.Database.{after}
use Rattle.dump_courses.proofs.Stopping.{on_stop, left_loads, left_whole}
use Rattle.dump_courses.proofs.Ways.{SlotLaws}
use Rattle.backup_session.specs.declared.stops.Stop.TheVariants as stops
use Rattle.backup_session.specs.Views.{SessionView}
use Rattle.backup_session.specs.Worlds.{archive_of}
use Rattle.backup_session.specs.Opening.{database_time}
use Rattle.backup_session.specs.Saves.{back_turn, back_text}
use Rattle.backup_session.specs.Fitting.{TurnedPlant}
use Rattle.backup_session.proofs.SaveTurns.{slots_of_world}
use Rattle.backup_session.proofs.BackTurns.{BackLaws, err_is, back_left, back_refused, back_done, back_turned, stands_for, told_refusal}
use Rattle.backup_session.proofs.session.Session.back_on.Goals as goal

pub returns-in_err-back_lines-in-Ok-clause-leaves : goal.returns-in_err-back_lines-in-Ok-clause-leaves
returns-in_err-back_lines-in-Ok-clause-leaves g c = λ told w fits.
    let P = g.P.Plant in
    let old = c.args.plant.now in
    let new = c.load_back.new.plant in
    let session = c.args.self.now in
    let port = c.args.port.now in
    let was = c.self.inside.budb in
    let is : was.database ≡ after w.log = ap (λ (s : SessionView). s.budb.database) c.self.view_is ∙ fits.keeps.fold in
    let laws : SlotLaws = record { count = c.the_slots_are_read.ensures.count; here = c.the_slots_are_read.ensures.here; items = c.the_slots_are_read.ensures.items } in
    let has : HasSlots P (archive_of w).slots old = slots_of_world P w old session laws fits in
    let log_told = g.met.P.Plant.log_told old told c.requires in
    back_left P w old new session fits c.requires told port log_told has was is (λ told survives image left. g.met.P.Plant.left old image told c.requires survives left) (c.load_back.ensures.away told (archive_of w).slots has)

pub returns-in_ok-back_lines-in-Ok-clause-leaves : goal.returns-in_ok-back_lines-in-Ok-clause-leaves
returns-in_ok-back_lines-in-Ok-clause-leaves g c = λ told w fits.
    let P = g.P.Plant in
    let old = c.args.plant.now in
    let new = c.load_back.new.plant in
    let session = c.args.self.now in
    let port = c.args.port.now in
    let was = c.self.inside.budb in
    let is : was.database ≡ after w.log = ap (λ (s : SessionView). s.budb.database) c.self.view_is ∙ fits.keeps.fold in
    let laws : SlotLaws = record { count = c.the_slots_are_read.ensures.count; here = c.the_slots_are_read.ensures.here; items = c.the_slots_are_read.ensures.items } in
    let has : HasSlots P (archive_of w).slots old = slots_of_world P w old session laws fits in
    let log_told = g.met.P.Plant.log_told old told c.requires in
    back_left P w old new session fits c.requires told port log_told has was is (λ told survives image left. g.met.P.Plant.left old image told c.requires survives left) (c.load_back.ensures.away told (archive_of w).slots has)

pub returns-in-Err-clause-leaves : goal.returns-in-Err-clause-leaves
returns-in-Err-clause-leaves g c = λ told w fits.
    let P = g.P.Plant in
    let old = c.args.plant.now in
    let new = c.load_back.new.plant in
    let session = c.args.self.now in
    let port = c.args.port.now in
    let was = c.self.inside.budb in
    let is : was.database ≡ after w.log = ap (λ (s : SessionView). s.budb.database) c.self.view_is ∙ fits.keeps.fold in
    let laws : SlotLaws = record { count = c.the_slots_are_read.ensures.count; here = c.the_slots_are_read.ensures.here; items = c.the_slots_are_read.ensures.items } in
    let has : HasSlots P (archive_of w).slots old = slots_of_world P w old session laws fits in
    let log_told = g.met.P.Plant.log_told old told c.requires in
    back_left P w old new session fits c.requires told port log_told has was is (λ told survives image left. g.met.P.Plant.left old image told c.requires survives left) (c.load_back.ensures.away told (archive_of w).slots has)

pub returns-in_err-back_lines-in-Ok-clause-stopped : goal.returns-in_err-back_lines-in-Ok-clause-stopped
returns-in_err-back_lines-in-Ok-clause-stopped g c = λ told w fits.
    let P = g.P.Plant in
    let old = c.args.plant.now in
    let new = c.load_back.new.plant in
    let session = c.args.self.now in
    let port = c.args.port.now in
    let was = c.self.inside.budb in
    let is : was.database ≡ after w.log = ap (λ (s : SessionView). s.budb.database) c.self.view_is ∙ fits.keeps.fold in
    let laws : SlotLaws = record { count = c.the_slots_are_read.ensures.count; here = c.the_slots_are_read.ensures.here; items = c.the_slots_are_read.ensures.items } in
    let has : HasSlots P (archive_of w).slots old = slots_of_world P w old session laws fits in
    let log_told = g.met.P.Plant.log_told old told c.requires in
    let back : BackLaws = record { changes = c.a_save_is_read_in_one_way.ensures.changes; unused = c.an_unused_database_is_told.ensures.only } in
    on_stop stops.Plant c.from_residual.result _ (λ other. left_whole P (back_turn w (Ok port)).effects old new (back_done P w old new session fits c.requires told port log_told has back was c.load_back.new.budb is c.in-Ok.dumps c.in-Ok.ensures.back))

pub returns-in_ok-back_lines-in-Ok-clause-turned : goal.returns-in_ok-back_lines-in-Ok-clause-turned
returns-in_ok-back_lines-in-Ok-clause-turned g c = λ told w fits.
    let P = g.P.Plant in
    let old = c.args.plant.now in
    let new = c.load_back.new.plant in
    let session = c.args.self.now in
    let port = c.args.port.now in
    let was = c.self.inside.budb in
    let is : was.database ≡ after w.log = ap (λ (s : SessionView). s.budb.database) c.self.view_is ∙ fits.keeps.fold in
    let laws : SlotLaws = record { count = c.the_slots_are_read.ensures.count; here = c.the_slots_are_read.ensures.here; items = c.the_slots_are_read.ensures.items } in
    let has : HasSlots P (archive_of w).slots old = slots_of_world P w old session laws fits in
    let log_told = g.met.P.Plant.log_told old told c.requires in
    let back : BackLaws = record { changes = c.a_save_is_read_in_one_way.ensures.changes; unused = c.an_unused_database_is_told.ensures.only } in
    let now = c.load_back.new.budb in
    let later : SessionView = record { config = c.self.inside.config; budb = now; time = c.max-self-inside.result; groups = c.self.inside.groups } in
    let time : later.time ≡ max session.time (database_time now.database) =
    c.max-self-inside.ensures ∙ ap (λ (s : SessionView). max s.time c.database_time.result) c.self.view_is
    ∙ ap (max session.time) (c.database_time.ensures ∙ ap (λ (d : Database). database_time d) c.database.ensures) in
    back_turned P w old new session fits c.requires told port log_told has back was now is c.in-Ok.dumps c.in-Ok.ensures.back c.load_back.ensures.stays.stays later refl time
    (ap (λ (s : SessionView). s.config) c.self.view_is) (ap (λ (s : SessionView). s.groups) c.self.view_is) c.new.result (c.new.ensures ∙ c.in_ok-back_lines-in-Ok.ensures)

pub returns-in-Err-clause-turned : goal.returns-in-Err-clause-turned
returns-in-Err-clause-turned g c = λ told w fits.
    let P = g.P.Plant in
    let old = c.args.plant.now in
    let new = c.load_back.new.plant in
    let session = c.args.self.now in
    let port = c.args.port.now in
    let was = c.self.inside.budb in
    let is : was.database ≡ after w.log = ap (λ (s : SessionView). s.budb.database) c.self.view_is ∙ fits.keeps.fold in
    let laws : SlotLaws = record { count = c.the_slots_are_read.ensures.count; here = c.the_slots_are_read.ensures.here; items = c.the_slots_are_read.ensures.items } in
    let has : HasSlots P (archive_of w).slots old = slots_of_world P w old session laws fits in
    let log_told = g.met.P.Plant.log_told old told c.requires in
    let e = c.in-Err.ensures in
    let fault = c.in-Err.fault in
    let later : SessionView = record { config = c.self.inside.config; budb = c.load_back.new.budb; time = c.self.inside.time; groups = c.self.inside.groups } in
    let same : later ≡ session = ap (λ (b : BudbView). record { config = c.self.inside.config; budb = b; time = c.self.inside.time; groups = c.self.inside.groups }) e.same ∙ c.self.view_is in
    let r = c.refusal_reply.ensures in
    told_refusal c.fields-offset.result.offset fault c.refusal_reply.result (λ reply. TurnedPlant P w (back_turn w (Ok port)) old new later reply) r.text r.failed r.memory
    (λ reply text one two.
    back_refused P w old new session fits c.requires told port log_told has was is fault (sym (stands_for fault (e.answer told (archive_of w).slots has) one two)) (e.looked (λ f. one (err_is fault _ f)))
    c.load_back.ensures.stays.stays later same reply (text ∙ ap (λ (f : PortFields). back_text f.offset fault) c.fields-offset.ensures.value))

pub returns-in-Err-clause-stopped : goal.returns-in-Err-clause-stopped
returns-in-Err-clause-stopped g c = λ told w fits.
    let fault = c.in-Err.fault in
    on_stop stops.Plant c.refusal_reply.result _ (λ other.
    left_loads g.P.Plant (back_turn w (Ok c.args.port.now)).effects c.args.plant.now c.load_back.new.plant w.state (λ _. fits.state)
    (c.in-Err.ensures.looked (λ f. other (c.refusal_reply.ensures.failed (err_is fault _ f)))))
