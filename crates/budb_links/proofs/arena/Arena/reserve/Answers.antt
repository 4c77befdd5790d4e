use Rattle.budb_links.proofs.Growing.{grown_from, not_grown, blank_ends}
use Rattle.budb_links.proofs.arena.Arena.reserve.Goals as goal

pub invariant_of-self : goal.invariant_of-self
invariant_of-self c =
    let made = grown_from c.self.inside.rows.items c.grow.new.items.items c.self.inside.ends.items c.self.inside.ends.items c.self.invariant c.grow.ensures.grown (not_grown blank_ends c.self.inside.ends.items) in
    made.keeps

pub returns-in_err-grow-clause-chains : goal.returns-in_err-grow-clause-chains
returns-in_err-grow-clause-chains c = λ family head.
    let made = grown_from c.self.inside.rows.items c.grow.new.items.items c.self.inside.ends.items c.self.inside.ends.items c.self.invariant c.grow.ensures.grown (not_grown blank_ends c.self.inside.ends.items) in
    rw (← c.self.view_is) (made.same family head)

pub invariant_of-self-2 : goal.invariant_of-self-2
invariant_of-self-2 c =
    let made = grown_from c.self.inside.rows.items c.grow.new.items.items c.self.inside.ends.items c.grow-2.new.items.items c.self.invariant c.grow.ensures.grown c.grow-2.ensures.grown in
    made.keeps

pub returns-clause-chains : goal.returns-clause-chains
returns-clause-chains c = λ family head.
    let made = grown_from c.self.inside.rows.items c.grow.new.items.items c.self.inside.ends.items c.grow-2.new.items.items c.self.invariant c.grow.ensures.grown c.grow-2.ensures.grown in
    rw (← c.self.view_is) (made.same family head)
