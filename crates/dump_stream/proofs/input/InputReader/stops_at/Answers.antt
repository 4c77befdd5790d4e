use Rattle.std.proofs.Common.{inl, inr, subst, arith}
use Rattle.dump_stream.specs.Inputs.{HoldsAt}
use Rattle.dump_stream.proofs.InputLaws.{followed, going_begins, ended_begins}
use Rattle.dump_stream.proofs.input.InputReader.stops_at.Goals as goal

pub returns-in-Going : goal.returns-in-Going
returns-in-Going c = λ bytes held.
    let h = subst (HoldsAt bytes c.args.self.now.reader) c.in-Going.is held.1 in
    going_begins bytes c.args.self.now.reader h.0 h.2

pub returns-in-Bad : goal.returns-in-Bad
returns-in-Bad c = λ bytes held. inl (subst (HoldsAt bytes c.args.self.now.reader) c.in-Bad.is held.1)

pub returns-then-at-self : goal.returns-then-at-self
returns-then-at-self c = λ bytes held. inr (followed bytes c.args.self.now.reader c.in-Ended.at (omega (arith, held.0, c.if-at-self.true)) (subst (HoldsAt bytes c.args.self.now.reader) c.in-Ended.is held.1))

pub returns-else-at-self : goal.returns-else-at-self
returns-else-at-self c = λ bytes held. ended_begins bytes c.args.self.now.reader c.in-Ended.at (omega (arith, held.0, c.if-at-self.false)) (subst (HoldsAt bytes c.args.self.now.reader) c.in-Ended.is held.1)
