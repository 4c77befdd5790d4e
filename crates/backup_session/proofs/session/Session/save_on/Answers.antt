use Rattle.std.proofs.Common.{◌≡◌, [], ◌∙◌, ap, subst}
use Rattle.std.specs.Prelude.{Ok}
use Rattle.plant_effects.specs.Runs.{loaded_of, Leaves}
use Rattle.tape_config.specs.declared.port.PortFields.{PortFields}
use Rattle.tape_scan.specs.Looking.{HasSlots}
use Rattle.budb_fold.specs.declared.database.Database.{Database}
use Rattle.budb_fold.specs.Database.{after}
use Rattle.budb_save.specs.Saving.{saved_bytes, save_pick}
use Rattle.dump_courses.specs.Ahead.{LeftAhead}
use Rattle.dump_courses.proofs.Stopping.{on_stop}
use Rattle.dump_courses.proofs.Ways.{SlotLaws}
use Rattle.backup_session.specs.declared.stops.Stop.TheVariants as stops
use Rattle.backup_session.specs.Views.{SessionView}
use Rattle.backup_session.specs.Worlds.{archive_of}
use Rattle.backup_session.specs.Saves.{saved_on, saved_turn, save_text}
use Rattle.backup_session.specs.Fitting.{TurnedPlant}
use Rattle.backup_session.proofs.Settling.{done_ahead}
use Rattle.backup_session.proofs.SaveTurns.{save_done, save_left, save_turned, not_failed, unless_map, stands_unless, sound_unless, left_unless, told_answer, at_ok, cause_of, slots_of_world}
use Rattle.backup_session.proofs.session.Session.save_on.Goals as goal

pub returns-clause-sound : goal.returns-clause-sound
returns-clause-sound g c =
    let saved = c.save-saved.result in
    at_ok c.save_reply.result _ (λ other. sound_unless g.P.Plant c.args.plant.now c.save-saved.new.plant saved c.save-saved.ensures.sound c.save-saved.ensures.refused (not_failed saved c.save_reply.result c.save_reply.ensures.failed other))

pub returns-clause-unfailed : goal.returns-clause-unfailed
returns-clause-unfailed g c = λ other.
    let saved = c.save-saved.result in
    sound_unless g.P.Plant c.args.plant.now c.save-saved.new.plant saved c.save-saved.ensures.sound c.save-saved.ensures.refused (not_failed saved c.save_reply.result c.save_reply.ensures.failed other)

pub returns-clause-cause : goal.returns-clause-cause
returns-clause-cause g c = cause_of c.save-saved.result c.save_reply.result _ _ c.save_reply.ensures.plant c.save_reply.ensures.failed c.save-saved.ensures.cause

pub returns-clause-turned : goal.returns-clause-turned
returns-clause-turned g c = λ told w fits.
    let P = g.P.Plant in
    let old = c.args.plant.now in
    let new = c.save-saved.new.plant in
    let session = c.args.self.now in
    let port = c.args.port.now in
    let e = c.save-saved.ensures in
    let db = c.self.inside.budb.database in
    let is : db ≡ after w.log = ap (λ (s : SessionView). s.budb.database) c.self.view_is ∙ fits.keeps.fold in
    let laws : SlotLaws = record { count = c.the_slots_are_read.ensures.count; here = c.the_slots_are_read.ensures.here; items = c.the_slots_are_read.ensures.items } in
    let slots = (archive_of w).slots in
    let has : HasSlots P slots old = slots_of_world P w old session laws fits in
    let pick = save_pick port slots in
    told_answer c.fields-offset.result.offset c.save-saved.result c.save_reply.result (λ reply. TurnedPlant P w (saved_turn w (Ok port)) old new session reply) c.save_reply.ensures.text c.save_reply.ensures.failed c.save_reply.ensures.memory
    (λ reply text one two.
    let answer = stands_unless c.save-saved.result _ (e.answer told slots has) one two in
    subst (λ (d : Database). TurnedPlant P w (saved_on w port (saved_bytes d) pick) old new session reply) is
    (save_turned P w old new session fits c.requires told port c.fields-offset.ensures.within.capacity (loaded_of P old) (saved_bytes db) e.stays.stays pick
    (stands_unless c.save-saved.result _ (e.done told slots has) one two) reply (text ∙ ap (λ (f : PortFields). save_text f.offset c.save-saved.result) c.fields-offset.ensures.value ∙ ap (save_text port.offset) answer)))

pub returns-clause-leaves : goal.returns-clause-leaves
returns-clause-leaves g c = λ told w fits.
    let P = g.P.Plant in
    let old = c.args.plant.now in
    let new = c.save-saved.new.plant in
    let session = c.args.self.now in
    let port = c.args.port.now in
    let e = c.save-saved.ensures in
    let db = c.self.inside.budb.database in
    let is : db ≡ after w.log = ap (λ (s : SessionView). s.budb.database) c.self.view_is ∙ fits.keeps.fold in
    let laws : SlotLaws = record { count = c.the_slots_are_read.ensures.count; here = c.the_slots_are_read.ensures.here; items = c.the_slots_are_read.ensures.items } in
    let slots = (archive_of w).slots in
    let has : HasSlots P slots old = slots_of_world P w old session laws fits in
    let pick = save_pick port slots in
    subst (λ (d : Database). Leaves P (saved_on w port (saved_bytes d) pick).effects old new) is
    (save_left P w old new session fits c.requires told port c.fields-offset.ensures.within.capacity (loaded_of P old) (saved_bytes db)
    (λ told survives image left. g.met.P.Plant.left old image told c.requires survives left) pick (e.leaves told slots has))

pub returns-clause-stopped : goal.returns-clause-stopped
returns-clause-stopped g c = λ told w fits.
    let P = g.P.Plant in
    let old = c.args.plant.now in
    let new = c.save-saved.new.plant in
    let session = c.args.self.now in
    let port = c.args.port.now in
    let e = c.save-saved.ensures in
    let saved = c.save-saved.result in
    let db = c.self.inside.budb.database in
    let is : db ≡ after w.log = ap (λ (s : SessionView). s.budb.database) c.self.view_is ∙ fits.keeps.fold in
    let laws : SlotLaws = record { count = c.the_slots_are_read.ensures.count; here = c.the_slots_are_read.ensures.here; items = c.the_slots_are_read.ensures.items } in
    let slots = (archive_of w).slots in
    let has : HasSlots P slots old = slots_of_world P w old session laws fits in
    let pick = save_pick port slots in
    let t = saved_on w port (saved_bytes db) pick in
    on_stop stops.Plant c.save_reply.result _ (λ other.
    subst (λ (d : Database). LeftAhead P (saved_on w port (saved_bytes d) pick).effects old new) is
    (left_unless P t.effects old new saved (done_ahead P [] old new w.state fits.state)
    (unless_map saved (save_done P w old new session fits c.requires told port c.fields-offset.ensures.within.capacity (loaded_of P old) (saved_bytes db) pick) (e.done told slots has))
    e.refused (not_failed saved c.save_reply.result c.save_reply.ensures.failed other)))
