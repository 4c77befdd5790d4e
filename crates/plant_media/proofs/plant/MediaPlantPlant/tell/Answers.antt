use Rattle.std.proofs.Common.{ℕ, List, ◌++◌, length, take, refl, sym, ◌∙◌, ap, subst}
use Rattle.std.proofs.lemmas.List.{take_all}
use Rattle.std.proofs.Math.Nat.{le_refl}
use Rattle.crash_moments.specs.Moments.{Leads}
use Rattle.plant_core.specs.Steps.{TellsTo}
use Rattle.plant_media.specs.State.{moments_of}
use Rattle.plant_media.specs.Slotting.{shown_told}
use Rattle.plant_media.proofs.Lifting.{lift_tell}
use Rattle.plant_media.proofs.Keeping.{tell_alike}
use Rattle.plant_media.proofs.Calling.{tell_sound, tell_suits}
use Rattle.plant_media.proofs.plant.MediaPlantPlant.tell.Goals as goal

pub returns-in-Ok-clause-only : goal.returns-in-Ok-clause-only
returns-in-Ok-clause-only g c =
    let p = c.args.self.now in
    let seen = g.M.Media.seen in
    record {
      state = λ told. tell_alike p.journal p.tape (seen p.media) (seen c.tell.new.self) (take c.in-Ok.n c.args.piece.now) (c.in-Ok.ensures.files told) (c.in-Ok.ensures.told told);
      loaded = refl;
      records = refl;
      log_size = refl;
    }

pub returns-in-Ok-clause-sound : goal.returns-in-Ok-clause-sound
returns-in-Ok-clause-sound g c =
    let m = g.M.Media in
    let e = c.in-Ok.ensures in
    tell_sound m.tells m.seen m.present c.args.self.now c.requires.sound c.tell.new.self e.present (take c.in-Ok.n c.args.piece.now) e.files e.told

pub returns-in-Ok-clause-survives : goal.returns-in-Ok-clause-survives
returns-in-Ok-clause-survives g c = λ told survives.
    let m = g.M.Media in
    let e = c.in-Ok.ensures in
    tell_suits m.tells m.time m.seen m.present c.args.self.now survives c.tell.new.self (take c.in-Ok.n c.args.piece.now) e.present (λ told. (e.crash told).now) e.files e.told

pub returns-in-Ok-clause-crash : goal.returns-in-Ok-clause-crash
returns-in-Ok-clause-crash g c = λ told.
    let m = g.M.Media in
    let p = c.args.self.now in
    let part = take c.in-Ok.n c.args.piece.now in
    subst (λ (l : List ℕ). Leads (moments_of m.time) p (record { media = c.tell.new.self; journal = p.journal; tape = p.tape; loads = p.loads }) (TellsTo (l ++ part))) (sym (shown_told p.journal p.tape (m.seen p.media)))
    (lift_tell m.time p _ (m.seen p.media).told part part (length part, sym (take_all (length part) part (le_refl (length part)))) (λ i was. g.met.M.Media.told_left p.media i told was) (c.in-Ok.ensures.crash told))

pub returns-in-Err-clause-part : goal.returns-in-Err-clause-part
returns-in-Err-clause-part g c = λ told.
    let p = c.args.self.now in
    let seen = g.M.Media.seen in
    let part = c.in-Err.ensures.part told in
    (part.0, shown_told p.journal p.tape (seen c.tell.new.self) ∙ part.1 ∙ ap (λ (l : List ℕ). l ++ take part.0 c.args.piece.now) (sym (shown_told p.journal p.tape (seen p.media))))

pub returns-in-Err-clause-crash : goal.returns-in-Err-clause-crash
returns-in-Err-clause-crash g c = λ told.
    let m = g.M.Media in
    let p = c.args.self.now in
    let part = c.args.piece.now in
    subst (λ (l : List ℕ). Leads (moments_of m.time) p (record { media = c.tell.new.self; journal = p.journal; tape = p.tape; loads = p.loads }) (TellsTo (l ++ part))) (sym (shown_told p.journal p.tape (m.seen p.media)))
    (lift_tell m.time p _ (m.seen p.media).told part part (length part, sym (take_all (length part) part (le_refl (length part)))) (λ i was. g.met.M.Media.told_left p.media i told was) (c.in-Err.ensures.crash told))
