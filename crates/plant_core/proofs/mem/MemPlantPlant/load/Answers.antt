use Rattle.std.specs.Prelude.{nat_lt}
use Rattle.std.proofs.Common.{◌≡◌, ◌≢◌, ◌≤◌, ◌+◌, ℕ, arith, inr, length, refl, ap, ◌∙◌, rules}
use Rattle.plant_core.proofs.Keeping.{load_state, settle_state}
use Rattle.plant_core.proofs.Leading.{same_slot, settles_leads}
use Rattle.plant_core.proofs.mem.MemPlantPlant.load.Goals as goal

pub returns-in_ok-settle-in-Some-2-clause-only : goal.returns-in_ok-settle-in-Some-2-clause-only
returns-in_ok-settle-in-Some-2-clause-only c =
    let m = c.args.self.now in
    let ne : c.in-Some-2.other ≢ c.args.slot = λ same. c.if-other-slot.false (same_slot m.loaded c.in-Some.other c.in-Some-2.other c.in-Some-2.is c.in-Some.is ∙ same) in
    record {
      state = λ told. load_state m.past.items c.settle.new.self.past.items m.loaded c.in-Some-2.other c.args.slot c.in-Some-2.is ne c.in_ok-settle-in-Some-2.ensures.ok;
      loaded = refl;
      log_size = ap length (settle_state m.past.items c.settle.new.self.past.items c.in-Some-2.other c.in_ok-settle-in-Some-2.ensures.ok).log;
    }

pub returns-in_ok-settle-in-Some-2-clause-crash : goal.returns-in_ok-settle-in-Some-2-clause-crash
returns-in_ok-settle-in-Some-2-clause-crash c =
    let m = c.args.self.now in
    let ne : c.in-Some-2.other ≢ c.args.slot = λ same. c.if-other-slot.false (same_slot m.loaded c.in-Some.other c.in-Some-2.other c.in-Some-2.is c.in-Some.is ∙ same) in
    λ told survives. settles_leads m _ m.loaded c.in-Some-2.other c.args.slot c.in-Some-2.is ne (inr c.in_ok-settle-in-Some-2.ensures.ok)

pub returns-in_ok-settle-in-Some-2-clause-stays : goal.returns-in_ok-settle-in-Some-2-clause-stays
returns-in_ok-settle-in-Some-2-clause-stays c =
    let e = c.in_ok-settle-in-Some-2.ensures in
    let loads : c.args.self.now.loads ≤ c.raised-self-in-Some-2.result = search rules in
    let more : c.raised-self-in-Some-2.result ≤ c.args.self.now.loads + 1 = search rules in
    let slots : length c.settle.new.self.tapes.items ≡ length c.args.self.now.tapes.items = omega (arith, e.slots) in
    record {
      slots = slots;
      present = ap (λ (n : ℕ). λ (j : ℕ). nat_lt j n) slots;
      loads = loads;
      more = more;
      tell_faults = e.tell_faults;
      output = λ told. (settle_state c.args.self.now.past.items c.settle.new.self.past.items c.in-Some-2.other e.ok).told;
    }
