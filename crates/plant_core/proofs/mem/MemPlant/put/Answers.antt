use Rattle.std.proofs.Common.{◌++◌, ◌∷◌, [], List, sym, ◌∙◌, arith}
use Rattle.plant_core.specs.Crashes.{blank}
use Rattle.plant_core.specs.Past.{after}
use Rattle.plant_core.specs.Records.{Record}
use Rattle.plant_core.specs.Shown.{state_of}
use Rattle.plant_core.specs.Tapes.{record_of}
use Rattle.plant_core.proofs.Keeping.{put_state, tapes_follow, others_follow, short_follow, one_longer}
use Rattle.plant_core.proofs.mem.MemPlant.put.Goals as goal

pub invariant_of-self : goal.invariant_of-self
invariant_of-self c =
    let m = c.args.self.now in
    let k = c.args.slot in
    let r = record_of c.args.stored in
    let f = λ (l : List Record). l ++ r ∷ [] in
    let a = put_state m.past.items c.keep_put.new.past.items k c.args.kept r c.requires.same c.in-Ok.ensures.past in
    record {
      tapes_kept = tapes_follow k f (state_of m) (after c.keep_put.new.past.items blank) a.tape m.tapes.items c.keep_put.new.tapes.items m.tapes_kept c.in-Ok.ensures.ok;
      log_kept = m.log_kept ∙ sym a.log;
      log_short = m.log_short;
      few_slots = omega (arith, c.in-Ok.ensures.count, m.few_slots);
      short = short_follow k f m.tapes.items c.keep_put.new.tapes.items m.short c.in-Ok.ensures.ok (one_longer r m.tapes.items k ((state_of m).tape k) (m.tapes_kept k) c.requires.room);
      loaded_here = λ j here. omega (arith, c.in-Ok.ensures.count, m.loaded_here j here);
      others_settled = others_follow k f (state_of m) (after c.keep_put.new.past.items blank) a.tape (λ j other. a.settled j) m.loaded c.requires.loaded m.others_settled;
    }
