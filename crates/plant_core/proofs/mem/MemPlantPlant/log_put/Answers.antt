use Rattle.std.proofs.Common.{ℕ, List, ◌++◌, length, refl, sym, ap, ◌∙◌, arith, length-append}
use Rattle.plant_core.specs.Shown.{state_of}
use Rattle.plant_core.proofs.Keeping.{count_same, log_put_state}
use Rattle.plant_core.proofs.Leading.{log_put_leads}
use Rattle.plant_core.proofs.mem.MemPlantPlant.log_put.Goals as goal

pub invariant_of-self : goal.invariant_of-self
invariant_of-self c =
    let m = c.args.self.now in
    let a = log_put_state m.past.items c.keep_log_put.new.past.items c.args.piece.now c.in-Ok.ensures.past in
    record {
      tapes_kept = λ k. m.tapes_kept k ∙ sym (a.tape k);
      log_kept = c.in-Ok.ensures.ok ∙ ap (λ (l : List ℕ). l ++ c.args.piece.now) m.log_kept ∙ sym a.log;
      log_short = omega (arith, ap length c.in-Ok.ensures.ok, length-append m.log.items c.args.piece.now, m.log_short);
      few_slots = m.few_slots;
      short = m.short;
      loaded_here = m.loaded_here;
      others_settled = λ k other. a.settled k ∙ m.others_settled k other ∙ ap length (sym (a.tape k));
    }

pub returns-in-Ok-clause-only : goal.returns-in-Ok-clause-only
returns-in-Ok-clause-only c =
    let m = c.args.self.now in
    let a = log_put_state m.past.items c.keep_log_put.new.past.items c.args.piece.now c.in-Ok.ensures.past in
    record { state = λ told. a; loaded = refl; records = count_same m.loaded _ _ a.tape; log_size = ap length a.log ∙ length-append (state_of m).log c.args.piece.now }

pub returns-in-Ok-clause-crash : goal.returns-in-Ok-clause-crash
returns-in-Ok-clause-crash c = λ told survives. log_put_leads c.args.self.now _ _ c.in-Ok.ensures.past

pub returns-in-Ok-clause-stays : goal.returns-in-Ok-clause-stays
returns-in-Ok-clause-stays c = record { slots = refl; present = refl; loads = refl; tell_faults = refl; output = λ told. (log_put_state c.args.self.now.past.items c.keep_log_put.new.past.items c.args.piece.now c.in-Ok.ensures.past).told }
