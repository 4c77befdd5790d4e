use Rattle.std.proofs.Common.{sym, subst}
use Rattle.cell_core.specs.declared.stored.Stored.{Stored}
use Rattle.dump_job.specs.declared.answer.StepAnswer.{StepAnswer}
use Rattle.dump_job.specs.declared.fields.Phase.{Phase}
use Rattle.dump_job.specs.declared.fields.Phase.TheVariants as phase
use Rattle.cell_core.specs.declared.stored.Stored.{Stored}
use Rattle.std.specs.Prelude.{List}
use Rattle.dump_job.specs.Events.{Event, clone_event}
use Rattle.dump_job.specs.Stepping.{IsPlantAround, Does, TakesMemory, Steps}
use Rattle.dump_job.proofs.Turns.{event_at, clone_due, few_frags, part_due, sound_job, does_clone, steps_clone}
use Rattle.budb.specs.Views.{BudbView}
use Rattle.dump_job.specs.Events.{Around}
use Rattle.dump_job.specs.Elsewhere.{LeavesOthers}
use Rattle.dump_job.proofs.Elsewhere.{leaves_others, clone_leaves}
use Rattle.std.proofs.Common.{refl}
use Rattle.std.specs.Prelude.{[]}
use Rattle.dump_job.proofs.stepping.step_fields.Goals as goal

pub clone_step-requires : goal.clone_step-requires
clone_step-requires g c =
    let j = c.args.job.now in
    let job = c.requires.fit.job in
    record {
      next = (clone_due j c.in-Clone.is job).left;
      few = job.few_volumes;
      frags = few_frags j j.hand job.hand job.few_parts;
      within = c.requires.places.within;
      good = c.requires.places.good;
    }

pub part_end_turn-requires : goal.part_end_turn-requires
part_end_turn-requires g c =
    let j = c.args.job.now in
    record {
      at = part_due j c.in-PartEnd.is c.requires.fit.job;
      taking = subst (λ (p : Phase). TakesMemory p j) (sym c.in-PartEnd.is) tt;
      fit = c.requires.fit;
      nothing = c.requires.nothing;
    }

pub returns-in-Tape-clause-does : goal.returns-in-Tape-clause-does
returns-in-Tape-clause-does g c = λ around a.
    subst (λ (e : Event). Does g.P.Plant e c.tape_turn.result c.args.budb.now c.args.budb.now c.args.plant.now c.tape_turn.new.plant c.tape_turn.new.job) (sym (event_at around c.args.job.now phase.Tape c.in-Tape.is))
    (c.tape_turn.ensures.does around c.args.budb.now a.near)

pub returns-in-Head-clause-does : goal.returns-in-Head-clause-does
returns-in-Head-clause-does g c = λ around a.
    subst (λ (e : Event). Does g.P.Plant e c.head_turn.result c.args.budb.now c.head_turn.new.budb c.args.plant.now c.head_turn.new.plant c.head_turn.new.job) (sym (event_at around c.args.job.now phase.Head c.in-Head.is))
    (c.head_turn.ensures.does around a.near)

pub returns-in-Piece-clause-does : goal.returns-in-Piece-clause-does
returns-in-Piece-clause-does g c = λ around a.
    subst (λ (e : Event). Does g.P.Plant e c.piece_turn.result c.args.budb.now c.args.budb.now c.args.plant.now c.piece_turn.new.plant c.piece_turn.new.job) (sym (event_at around c.args.job.now phase.Piece c.in-Piece.is))
    (c.piece_turn.ensures.does around c.args.budb.now a.near)

pub returns-in-VolumeEnd-clause-does : goal.returns-in-VolumeEnd-clause-does
returns-in-VolumeEnd-clause-does g c = λ around a.
    subst (λ (e : Event). Does g.P.Plant e c.volume_end_turn.result c.args.budb.now c.args.budb.now c.args.plant.now c.volume_end_turn.new.plant c.volume_end_turn.new.job) (sym (event_at around c.args.job.now phase.VolumeEnd c.in-VolumeEnd.is))
    (c.volume_end_turn.ensures.does around c.args.budb.now a.near)

pub returns-in-PartEnd-clause-does : goal.returns-in-PartEnd-clause-does
returns-in-PartEnd-clause-does g c = λ around a.
    subst (λ (e : Event). Does g.P.Plant e c.part_end_turn.result c.args.budb.now c.part_end_turn.new.budb c.args.plant.now c.part_end_turn.new.plant c.part_end_turn.new.job) (sym (event_at around c.args.job.now phase.PartEnd c.in-PartEnd.is))
    (c.part_end_turn.ensures.does around a.near)

pub returns-in-DumpEnd-clause-does : goal.returns-in-DumpEnd-clause-does
returns-in-DumpEnd-clause-does g c = λ around a.
    subst (λ (e : Event). Does g.P.Plant e c.dump_end_turn.result c.args.budb.now c.dump_end_turn.new.budb c.args.plant.now c.dump_end_turn.new.plant c.dump_end_turn.new.job) (sym (event_at around c.args.job.now phase.DumpEnd c.in-DumpEnd.is))
    (c.dump_end_turn.ensures.does around a.near)

pub returns-in-Clone-clause-does : goal.returns-in-Clone-clause-does
returns-in-Clone-clause-does g c = λ around a.
    let P = g.P.Plant in
    let C = g.C.Cell in
    let j = c.args.job.now in
    let k = c.clone_step.new.job in
    let plant = c.args.plant.now in
    let budb = c.args.budb.now in
    let sound = sound_job P j plant c.requires.fit in
    let does = does_clone P C.tells (C.list c.args.cell.now) c.clone_step.result budb plant j k a.tells sound (λ told survives image left. g.met.P.Plant.left plant image told sound survives left) c.clone_step.ensures.cloned in
    subst (λ (e : Event). Does P e c.clone_answer.result budb budb plant plant k) (sym (event_at around j phase.Clone c.in-Clone.is))
    (subst (λ (l : List Stored). Does P (clone_event l j) c.clone_answer.result budb budb plant plant k) (sym a.volumes)
    (subst (λ (x : StepAnswer). Does P (clone_event (C.list c.args.cell.now) j) x budb budb plant plant k) (sym c.clone_answer.ensures) does))

pub returns-in-Clone-clause-steps : goal.returns-in-Clone-clause-steps
returns-in-Clone-clause-steps g c =
    let P = g.P.Plant in
    let C = g.C.Cell in
    let j = c.args.job.now in
    let k = c.clone_step.new.job in
    let plant = c.args.plant.now in
    let budb = c.args.budb.now in
    let sound = sound_job P j plant c.requires.fit in
    subst (λ (x : StepAnswer). Steps P x budb budb plant plant j k) (sym c.clone_answer.ensures)
    (steps_clone P C.tells (C.list c.args.cell.now) c.clone_step.result budb plant j k c.in-Clone.is sound (λ told survives image left. g.met.P.Plant.left plant image told sound survives left)
    c.requires.fit c.requires.nothing c.clone_step.ensures.cloned c.clone_step.ensures.short c.clone_step.ensures.err)

pub returns-in-Tape-clause-steps : goal.returns-in-Tape-clause-steps
returns-in-Tape-clause-steps g c = c.tape_turn.ensures.steps c.args.budb.now c.requires.nothing

pub returns-in-Piece-clause-steps : goal.returns-in-Piece-clause-steps
returns-in-Piece-clause-steps g c = c.piece_turn.ensures.steps c.args.budb.now c.requires.nothing

pub returns-in-VolumeEnd-clause-steps : goal.returns-in-VolumeEnd-clause-steps
returns-in-VolumeEnd-clause-steps g c = c.volume_end_turn.ensures.steps c.args.budb.now c.requires.nothing

pub returns-in-Head-clause-steps : goal.returns-in-Head-clause-steps
returns-in-Head-clause-steps g c = c.head_turn.ensures.steps

pub returns-in-PartEnd-clause-steps : goal.returns-in-PartEnd-clause-steps
returns-in-PartEnd-clause-steps g c = c.part_end_turn.ensures.steps

pub returns-in-DumpEnd-clause-steps : goal.returns-in-DumpEnd-clause-steps
returns-in-DumpEnd-clause-steps g c = c.dump_end_turn.ensures.steps

pub returns-in-Tape-clause-elsewhere : goal.returns-in-Tape-clause-elsewhere
returns-in-Tape-clause-elsewhere g c = λ told slots has unfailed.
    let around : Around = record { listed = c.args.budb.now.database.listed; log_size = (g.P.Plant.view c.args.plant.now).log_size; slots = slots; cell = [] } in
    let near : IsPlantAround g.P.Plant around c.args.budb.now c.args.plant.now = record { tells = told; listed = refl; log_size = refl; slots = has } in
    let does = subst (λ (e : Event). Does g.P.Plant e c.tape_turn.result c.args.budb.now c.args.budb.now c.args.plant.now c.tape_turn.new.plant c.tape_turn.new.job) (sym (event_at around c.args.job.now phase.Tape c.in-Tape.is)) (c.tape_turn.ensures.does around c.args.budb.now near) in
    leaves_others g.P.Plant told around c.args.budb.now c.args.budb.now c.args.plant.now c.tape_turn.new.plant c.args.job.now c.tape_turn.new.job c.tape_turn.result does (c.tape_turn.ensures.steps c.args.budb.now c.requires.nothing).same_job (c.tape_turn.ensures.steps c.args.budb.now c.requires.nothing).loads unfailed

pub returns-in-Head-clause-elsewhere : goal.returns-in-Head-clause-elsewhere
returns-in-Head-clause-elsewhere g c = λ told slots has unfailed.
    let around : Around = record { listed = c.args.budb.now.database.listed; log_size = (g.P.Plant.view c.args.plant.now).log_size; slots = slots; cell = [] } in
    let near : IsPlantAround g.P.Plant around c.args.budb.now c.args.plant.now = record { tells = told; listed = refl; log_size = refl; slots = has } in
    let does = subst (λ (e : Event). Does g.P.Plant e c.head_turn.result c.args.budb.now c.head_turn.new.budb c.args.plant.now c.head_turn.new.plant c.head_turn.new.job) (sym (event_at around c.args.job.now phase.Head c.in-Head.is)) (c.head_turn.ensures.does around near) in
    leaves_others g.P.Plant told around c.args.budb.now c.head_turn.new.budb c.args.plant.now c.head_turn.new.plant c.args.job.now c.head_turn.new.job c.head_turn.result does c.head_turn.ensures.steps.same_job c.head_turn.ensures.steps.loads unfailed

pub returns-in-Piece-clause-elsewhere : goal.returns-in-Piece-clause-elsewhere
returns-in-Piece-clause-elsewhere g c = λ told slots has unfailed.
    let around : Around = record { listed = c.args.budb.now.database.listed; log_size = (g.P.Plant.view c.args.plant.now).log_size; slots = slots; cell = [] } in
    let near : IsPlantAround g.P.Plant around c.args.budb.now c.args.plant.now = record { tells = told; listed = refl; log_size = refl; slots = has } in
    let does = subst (λ (e : Event). Does g.P.Plant e c.piece_turn.result c.args.budb.now c.args.budb.now c.args.plant.now c.piece_turn.new.plant c.piece_turn.new.job) (sym (event_at around c.args.job.now phase.Piece c.in-Piece.is)) (c.piece_turn.ensures.does around c.args.budb.now near) in
    leaves_others g.P.Plant told around c.args.budb.now c.args.budb.now c.args.plant.now c.piece_turn.new.plant c.args.job.now c.piece_turn.new.job c.piece_turn.result does (c.piece_turn.ensures.steps c.args.budb.now c.requires.nothing).same_job (c.piece_turn.ensures.steps c.args.budb.now c.requires.nothing).loads unfailed

pub returns-in-VolumeEnd-clause-elsewhere : goal.returns-in-VolumeEnd-clause-elsewhere
returns-in-VolumeEnd-clause-elsewhere g c = λ told slots has unfailed.
    let around : Around = record { listed = c.args.budb.now.database.listed; log_size = (g.P.Plant.view c.args.plant.now).log_size; slots = slots; cell = [] } in
    let near : IsPlantAround g.P.Plant around c.args.budb.now c.args.plant.now = record { tells = told; listed = refl; log_size = refl; slots = has } in
    let does = subst (λ (e : Event). Does g.P.Plant e c.volume_end_turn.result c.args.budb.now c.args.budb.now c.args.plant.now c.volume_end_turn.new.plant c.volume_end_turn.new.job) (sym (event_at around c.args.job.now phase.VolumeEnd c.in-VolumeEnd.is)) (c.volume_end_turn.ensures.does around c.args.budb.now near) in
    leaves_others g.P.Plant told around c.args.budb.now c.args.budb.now c.args.plant.now c.volume_end_turn.new.plant c.args.job.now c.volume_end_turn.new.job c.volume_end_turn.result does (c.volume_end_turn.ensures.steps c.args.budb.now c.requires.nothing).same_job (c.volume_end_turn.ensures.steps c.args.budb.now c.requires.nothing).loads unfailed

pub returns-in-PartEnd-clause-elsewhere : goal.returns-in-PartEnd-clause-elsewhere
returns-in-PartEnd-clause-elsewhere g c = λ told slots has unfailed.
    let around : Around = record { listed = c.args.budb.now.database.listed; log_size = (g.P.Plant.view c.args.plant.now).log_size; slots = slots; cell = [] } in
    let near : IsPlantAround g.P.Plant around c.args.budb.now c.args.plant.now = record { tells = told; listed = refl; log_size = refl; slots = has } in
    let does = subst (λ (e : Event). Does g.P.Plant e c.part_end_turn.result c.args.budb.now c.part_end_turn.new.budb c.args.plant.now c.part_end_turn.new.plant c.part_end_turn.new.job) (sym (event_at around c.args.job.now phase.PartEnd c.in-PartEnd.is)) (c.part_end_turn.ensures.does around near) in
    leaves_others g.P.Plant told around c.args.budb.now c.part_end_turn.new.budb c.args.plant.now c.part_end_turn.new.plant c.args.job.now c.part_end_turn.new.job c.part_end_turn.result does c.part_end_turn.ensures.steps.same_job c.part_end_turn.ensures.steps.loads unfailed

pub returns-in-DumpEnd-clause-elsewhere : goal.returns-in-DumpEnd-clause-elsewhere
returns-in-DumpEnd-clause-elsewhere g c = λ told slots has unfailed.
    let around : Around = record { listed = c.args.budb.now.database.listed; log_size = (g.P.Plant.view c.args.plant.now).log_size; slots = slots; cell = [] } in
    let near : IsPlantAround g.P.Plant around c.args.budb.now c.args.plant.now = record { tells = told; listed = refl; log_size = refl; slots = has } in
    let does = subst (λ (e : Event). Does g.P.Plant e c.dump_end_turn.result c.args.budb.now c.dump_end_turn.new.budb c.args.plant.now c.dump_end_turn.new.plant c.dump_end_turn.new.job) (sym (event_at around c.args.job.now phase.DumpEnd c.in-DumpEnd.is)) (c.dump_end_turn.ensures.does around near) in
    leaves_others g.P.Plant told around c.args.budb.now c.dump_end_turn.new.budb c.args.plant.now c.dump_end_turn.new.plant c.args.job.now c.dump_end_turn.new.job c.dump_end_turn.result does c.dump_end_turn.ensures.steps.same_job c.dump_end_turn.ensures.steps.loads unfailed

pub returns-in-Clone-clause-elsewhere : goal.returns-in-Clone-clause-elsewhere
returns-in-Clone-clause-elsewhere g c = λ told slots has unfailed.
    clone_leaves g.P.Plant g.C.Cell.tells (g.C.Cell.list c.args.cell.now) c.clone_step.result c.args.plant.now c.args.job.now c.clone_step.new.job c.clone_step.ensures.cloned c.clone_step.ensures.err

pub returns-in-Over-clause-elsewhere : goal.returns-in-Over-clause-elsewhere
returns-in-Over-clause-elsewhere g c = λ told slots has unfailed. absurd (c.requires.going c.in-Over.is)
