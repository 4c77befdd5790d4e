use Rattle.plant_core.specs.Records.{block_with}
use Rattle.plant_core.proofs.Calls.{of_ok, of_either, put_only, put_crash, put_records, only_faults, put_untold, same_untold}
use Rattle.plant_core.proofs.Leading.{put_stays}
use Rattle.plant_core.proofs.mem.MemPlantPlant.tape_put.Goals as goal

pub returns-in-Ok-clause-only : goal.returns-in-Ok-clause-only
returns-in-Ok-clause-only c = λ k at. of_ok _ _ c.put.result (put_only c.args.self.now c.put.new.self c.in-Some.slot k c.in-Some.is at c.in-Ok.both.1 (block_with c.args.block.now) c.put.ensures.loaded c.in-Ok.ensures.1) c.put.ensures.ok

pub returns-in-Ok-clause-records : goal.returns-in-Ok-clause-records
returns-in-Ok-clause-records c = λ room. of_ok _ _ c.put.result (put_records c.args.self.now c.put.new.self c.in-Some.slot c.in-Some.is c.put.ensures.loaded c.in-Ok.both.1 (block_with c.args.block.now) c.in-Ok.ensures.1) c.put.ensures.ok

pub returns-in-Ok-clause-crash : goal.returns-in-Ok-clause-crash
returns-in-Ok-clause-crash c = λ told survives k at. of_either _ _ _ c.put.result
    (put_crash c.args.self.now c.put.new.self c.in-Some.slot k c.in-Some.is at c.in-Ok.both.1 (block_with c.args.block.now) c.in-Ok.ensures.1)
    (put_stays c.args.self.now c.put.new.self k (block_with c.args.block.now)) c.put.ensures.ok c.put.ensures.err

pub returns-in-Ok-clause-stays : goal.returns-in-Ok-clause-stays
returns-in-Ok-clause-stays c = only_faults c.args.self.now c.put.new.self c.put.ensures.slots c.put.ensures.loads c.put.ensures.tell_faults
    (of_either _ _ _ c.put.result (put_untold c.args.self.now c.put.new.self c.in-Some.slot c.in-Ok.both.1) (same_untold c.args.self.now c.put.new.self) c.put.ensures.ok c.put.ensures.err)
