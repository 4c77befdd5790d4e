use Rattle.std.proofs.Common.{sym, ◌∙◌}
use Rattle.plant_core.proofs.Keeping.{settle_state, settle_all}
use Rattle.plant_core.proofs.mem.MemPlant.settle.Goals as goal

pub invariant_of-self : goal.invariant_of-self
invariant_of-self c =
    let m = c.args.self.now in
    let a = settle_state m.past.items c.keep.new.past.items c.args.slot c.in-Ok.ensures.ok in
    record {
      tapes_kept = λ k. m.tapes_kept k ∙ sym (a.tape k);
      log_kept = m.log_kept ∙ sym a.log;
      log_short = m.log_short;
      few_slots = m.few_slots;
      short = m.short;
      loaded_here = m.loaded_here;
      others_settled = λ k other. settle_all m.past.items c.keep.new.past.items m.loaded c.args.slot c.requires c.in-Ok.ensures.ok m.others_settled k;
    }

pub returns-in-Ok-clause-all : goal.returns-in-Ok-clause-all
returns-in-Ok-clause-all c =
    let m = c.args.self.now in
    settle_all m.past.items c.keep.new.past.items m.loaded c.args.slot c.requires c.in-Ok.ensures.ok m.others_settled
