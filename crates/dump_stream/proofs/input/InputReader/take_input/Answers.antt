use Rattle.std.proofs.Common.{subst, arith}
use Rattle.dump_stream.specs.Inputs.{HoldsAt}
use Rattle.dump_stream.proofs.InputLaws.{going_cut, followed, whole}
use Rattle.dump_stream.proofs.input.InputReader.take_input.Goals as goal

pub returns-in-Going : goal.returns-in-Going
returns-in-Going c = λ bytes held.
    let going = subst (HoldsAt bytes c.args.self.now.reader) c.in-Going.is held.1 in
    (going_cut bytes c.args.self.now.reader going.0 going.2, held.0)

pub returns-then-at-self : goal.returns-then-at-self
returns-then-at-self c = λ bytes held. followed bytes c.args.self.now.reader c.in-Ended.at (omega (arith, held.0, c.if-at-self.true)) (subst (HoldsAt bytes c.args.self.now.reader) c.in-Ended.is held.1)

pub returns-else-at-self : goal.returns-else-at-self
returns-else-at-self c = λ bytes held. whole bytes c.args.self.now.reader c.in-Ended.at c.take_increment.result (omega (arith, held.0, c.if-at-self.false)) (subst (HoldsAt bytes c.args.self.now.reader) c.in-Ended.is held.1) c.take_increment.ensures
