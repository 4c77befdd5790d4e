use Rattle.std.proofs.Common.{length, take, refl, sym, ap, ◌∙◌}
use Rattle.std.proofs.lemmas.List.{take_all}
use Rattle.std.proofs.Math.Nat.{le_refl}
use Rattle.plant_core.proofs.Keeping.{count_same, tell_state}
use Rattle.plant_core.proofs.Leading.{tell_leads, tell_stays}
use Rattle.plant_core.proofs.mem.MemPlantPlant.tell.Goals as goal

pub invariant_of-self : goal.invariant_of-self
invariant_of-self c =
    let m = c.args.self.now in
    let a = tell_state m.past.items c.keep_tell.new.past.items c.args.piece.now c.args.piece.now refl c.in-Ok.ensures.past in
    record {
      tapes_kept = λ k. m.tapes_kept k ∙ sym (a.tape k);
      log_kept = m.log_kept ∙ sym a.log;
      log_short = m.log_short;
      few_slots = m.few_slots;
      short = m.short;
      loaded_here = m.loaded_here;
      others_settled = λ k other. a.settled k ∙ m.others_settled k other ∙ ap length (sym (a.tape k));
    }

pub returns-in-Ok-clause-only : goal.returns-in-Ok-clause-only
returns-in-Ok-clause-only c =
    let m = c.args.self.now in
    let a = tell_state m.past.items c.keep_tell.new.past.items c.args.piece.now (take (length c.args.piece.now) c.args.piece.now) (take_all (length c.args.piece.now) c.args.piece.now (le_refl (length c.args.piece.now))) c.in-Ok.ensures.past in
    record { state = λ told. a; loaded = refl; records = count_same m.loaded _ _ a.tape; log_size = ap length a.log }

pub returns-in-Ok-clause-crash : goal.returns-in-Ok-clause-crash
returns-in-Ok-clause-crash c = λ told. tell_leads c.args.self.now _ _ _ (take_all (length c.args.piece.now) c.args.piece.now (le_refl (length c.args.piece.now))) c.in-Ok.ensures.past

pub returns-in-Err-clause-crash : goal.returns-in-Err-clause-crash
returns-in-Err-clause-crash c = λ told. tell_stays c.args.self.now _ _ c.in-Err.ensures.past_err
