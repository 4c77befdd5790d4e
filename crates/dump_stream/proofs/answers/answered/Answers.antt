use Rattle.std.proofs.Common.{◌≡◌, [], take, subst}
use Rattle.dump_stream.specs.declared.machine.Ran.{Ran}
use Rattle.dump_stream.specs.declared.machine.Ran.TheVariants as ran
use Rattle.dump_stream.specs.Stream.{Spells}
use Rattle.dump_stream.specs.Reads.{Runs}
use Rattle.dump_stream.proofs.ReadLaws.{whole_more, stopped_bad, one_end_says}
use Rattle.dump_stream.proofs.answers.answered.Goals as goal

pub returns-in-More : goal.returns-in-More
returns-in-More c = λ bytes runs. whole_more bytes c.args.machine.now (subst (λ (r : Ran). Runs [] bytes r c.args.machine.now) c.in-More.is runs)

pub returns-in-Stopped : goal.returns-in-Stopped
returns-in-Stopped c = λ bytes runs. stopped_bad bytes c.in-Stopped.at c.args.machine.now (subst (λ (r : Ran). Runs [] bytes r c.args.machine.now) c.in-Stopped.is runs)

pub returns-in-Ended : goal.returns-in-Ended
returns-in-Ended c = λ bytes runs.
    let m = c.args.machine.now in
    let h : Runs [] bytes (ran.Ended c.in-Ended.used) m = subst (λ (r : Ran). Runs [] bytes r m) c.in-Ended.is runs in
    let same : h.1 ≡ c.take_increment.result = one_end_says m h.1 c.take_increment.result h.3 c.take_increment.ensures in
    (h.0, subst (Spells (take c.in-Ended.used bytes)) same h.2)
