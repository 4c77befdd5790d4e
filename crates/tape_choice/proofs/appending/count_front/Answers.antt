use Rattle.std.proofs.Common.{[]}
use Rattle.plant_effects.proofs.Joining.{leaves_both}
use Rattle.tape_choice.proofs.appending.count_front.Goals as goal

pub returns-in_err-seen-clause-leaves : goal.returns-in_err-seen-clause-leaves
returns-in_err-seen-clause-leaves g c =
    leaves_both g.P.Plant [] [] c.args.plant.now c.is_whole.new.plant c.count_records.new.plant c.in_ok-is_whole.ensures.done c.is_whole.ensures.leaves c.count_records.ensures.leaves

pub returns-then-seen-marks-clause-leaves : goal.returns-then-seen-marks-clause-leaves
returns-then-seen-marks-clause-leaves g c =
    leaves_both g.P.Plant [] [] c.args.plant.now c.is_whole.new.plant c.count_records.new.plant c.in_ok-is_whole.ensures.done c.is_whole.ensures.leaves c.count_records.ensures.leaves

pub returns-else-seen-marks-clause-leaves : goal.returns-else-seen-marks-clause-leaves
returns-else-seen-marks-clause-leaves g c =
    leaves_both g.P.Plant [] [] c.args.plant.now c.is_whole.new.plant c.count_records.new.plant c.in_ok-is_whole.ensures.done c.is_whole.ensures.leaves c.count_records.ensures.leaves
