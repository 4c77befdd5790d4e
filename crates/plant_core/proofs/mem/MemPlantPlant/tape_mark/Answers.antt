use Rattle.std.proofs.Common.{refl, ◌∙◌}
use Rattle.plant_core.specs.declared.stored.Stored.TheVariants.{Mark}
use Rattle.plant_core.specs.Records.{mark}
use Rattle.plant_core.proofs.Calls.{put_crash, mark_only, mark_crash, mark_records, only_faults, put_untold}
use Rattle.plant_core.proofs.Keeping.{settle_state}
use Rattle.plant_core.proofs.Leading.{put_stays}
use Rattle.plant_core.proofs.mem.MemPlantPlant.tape_mark.Goals as goal

pub returns-in_err-put-in-Some-clause-crash : goal.returns-in_err-put-in-Some-clause-crash
returns-in_err-put-in-Some-clause-crash c = λ told survives k at. put_stays c.args.self.now c.put.new.self k mark c.in_err-put-in-Some.ensures.err

pub returns-in_err-settle-in-Some-clause-crash : goal.returns-in_err-settle-in-Some-clause-crash
returns-in_err-settle-in-Some-clause-crash c = λ told survives k at. put_crash c.args.self.now c.settle.new.self c.in-Some.slot k c.in-Some.is at Mark mark refl (c.in_err-settle-in-Some.ensures.err ∙ c.in_ok-put-in-Some.ensures.ok)

pub returns-clause-only : goal.returns-clause-only
returns-clause-only c = λ k at. mark_only c.args.self.now c.settle.new.self c.in-Some.slot k c.in-Some.is at _ (c.settle.ensures.loaded ∙ c.put.ensures.loaded) c.in_ok-put-in-Some.ensures.ok c.in_ok-settle-in-Some.ensures.ok

pub returns-clause-records : goal.returns-clause-records
returns-clause-records c = λ room. mark_records c.args.self.now c.settle.new.self c.in-Some.slot c.in-Some.is (c.settle.ensures.loaded ∙ c.put.ensures.loaded) _ c.in_ok-put-in-Some.ensures.ok c.in_ok-settle-in-Some.ensures.ok

pub returns-clause-crash : goal.returns-clause-crash
returns-clause-crash c = λ told survives k at. mark_crash c.args.self.now c.settle.new.self c.in-Some.slot k c.in-Some.is at _ c.in_ok-put-in-Some.ensures.ok c.in_ok-settle-in-Some.ensures.ok

pub returns-in_err-settle-in-Some-clause-stays : goal.returns-in_err-settle-in-Some-clause-stays
returns-in_err-settle-in-Some-clause-stays c = only_faults c.args.self.now c.settle.new.self (c.settle.ensures.slots ∙ c.put.ensures.slots) (c.settle.ensures.loads ∙ c.put.ensures.loads) (c.settle.ensures.tell_faults ∙ c.put.ensures.tell_faults)
    (put_untold c.args.self.now c.settle.new.self c.in-Some.slot Mark (c.in_err-settle-in-Some.ensures.err ∙ c.in_ok-put-in-Some.ensures.ok))

pub returns-clause-stays : goal.returns-clause-stays
returns-clause-stays c = only_faults c.args.self.now c.settle.new.self (c.settle.ensures.slots ∙ c.put.ensures.slots) (c.settle.ensures.loads ∙ c.put.ensures.loads) (c.settle.ensures.tell_faults ∙ c.put.ensures.tell_faults)
    ((settle_state c.put.new.self.past.items c.settle.new.self.past.items c.in-Some.slot c.in_ok-settle-in-Some.ensures.ok).told ∙ put_untold c.args.self.now c.put.new.self c.in-Some.slot Mark c.in_ok-put-in-Some.ensures.ok)
