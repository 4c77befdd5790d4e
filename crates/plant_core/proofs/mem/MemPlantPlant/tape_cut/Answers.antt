use Rattle.std.specs.Prelude.{nat_lt}
use Rattle.std.proofs.Common.{◌≡◌, ℕ, ◌≤◌, Option, take, refl, sym, ap, subst, ◌∙◌, arith, length}
use Rattle.plant_core.specs.Crashes.{Alike, blank}
use Rattle.plant_core.specs.Effects.{cuts, comes}
use Rattle.plant_core.specs.Past.{after}
use Rattle.plant_core.specs.Shown.{state_of, count_at}
use Rattle.plant_core.proofs.Calls.{cut_crash}
use Rattle.plant_core.proofs.Keeping.{cut_state, cut_count, tapes_follow, others_follow, short_follow, cut_short}
use Rattle.plant_core.proofs.Leading.{if_other, same_slot}
use Rattle.plant_core.proofs.mem.MemPlantPlant.tape_cut.Goals as goal

pub invariant_of-self : goal.invariant_of-self
invariant_of-self c =
    let m = c.args.self.now in
    let k = c.in-Some.slot in
    let n = c.args.n in
    let a = cut_state m.past.items c.keep.new.past.items k n c.in-Ok.ensures.ok in
    record {
      tapes_kept = tapes_follow k (take n) (state_of m) (after c.keep.new.past.items blank) a.tape m.tapes.items c.cut_in.new.tapes.items m.tapes_kept c.cut_in.ensures.cut;
      log_kept = m.log_kept ∙ sym a.log;
      log_short = m.log_short;
      few_slots = omega (arith, c.cut_in.ensures.count, m.few_slots);
      short = short_follow k (take n) m.tapes.items c.cut_in.new.tapes.items m.short c.cut_in.ensures.cut (cut_short n m.tapes.items k (m.short k));
      loaded_here = λ j here. omega (arith, c.cut_in.ensures.count, m.loaded_here j here);
      others_settled = others_follow k (take n) (state_of m) (after c.keep.new.past.items blank) a.tape (λ j other. a.settled j ∙ if_other j k (length (take n ((state_of m).tape j))) ((state_of m).settled j) other) m.loaded c.in-Some.is m.others_settled;
    }

pub returns-in-Ok-clause-only : goal.returns-in-Ok-clause-only
returns-in-Ok-clause-only c = λ k at.
    let m = c.args.self.now in
    let a = cut_state m.past.items c.keep.new.past.items c.in-Some.slot c.args.n c.in-Ok.ensures.ok in
    record {
      state = λ told. subst (λ (i : ℕ). Alike (comes (cuts i c.args.n) (state_of m)) (after c.keep.new.past.items blank)) (same_slot m.loaded c.in-Some.slot k at c.in-Some.is) a;
      loaded = refl;
      log_size = ap length a.log;
    }

pub returns-in-Ok-clause-records : goal.returns-in-Ok-clause-records
returns-in-Ok-clause-records c =
    let m = c.args.self.now in
    let slot = c.in-Some.slot in
    let now = after c.keep.new.past.items blank in
    let before = ap (λ (l : Option ℕ). count_at l (state_of m)) c.in-Some.is in
    ap (λ (l : Option ℕ). count_at l now) c.in-Some.is
    ∙ cut_count slot c.args.n (state_of m) now (subst (λ (size : ℕ). c.args.n ≤ size) before c.requires.within) (cut_state m.past.items c.keep.new.past.items slot c.args.n c.in-Ok.ensures.ok)

pub returns-in-Ok-clause-crash : goal.returns-in-Ok-clause-crash
returns-in-Ok-clause-crash c = λ told survives k at. cut_crash c.args.self.now _ c.in-Some.slot k c.in-Some.is at c.args.n c.in-Ok.ensures.ok

pub returns-in-Ok-clause-stays : goal.returns-in-Ok-clause-stays
returns-in-Ok-clause-stays c =
    let slots : length c.cut_in.new.tapes.items ≡ length c.args.self.now.tapes.items = omega (arith, c.cut_in.ensures.count) in
    record {
      slots = slots;
      present = ap (λ (n : ℕ). λ (j : ℕ). nat_lt j n) slots;
      loads = refl;
      tell_faults = refl;
      output = λ told. (cut_state c.args.self.now.past.items c.keep.new.past.items c.in-Some.slot c.args.n c.in-Ok.ensures.ok).told;
    }
