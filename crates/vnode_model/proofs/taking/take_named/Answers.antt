use Rattle.std.proofs.Common.{sym, ◌∙◌}
use Rattle.vnode_model.proofs.TakingLaws.{ordered_less, find_not}
use Rattle.vnode_model.proofs.taking.take_named.Goals as goal

pub returns-then-begins_named-clause-ordered : goal.returns-then-begins_named-clause-ordered
returns-then-begins_named-clause-ordered c =
    ordered_less c.skip_before.new.rest.items c.pop_front.new.self.items c.pop_front.ensures.rest c.skip_before.ensures.ordered

pub returns-else-begins_named-clause-found : goal.returns-else-begins_named-clause-found
returns-else-begins_named-clause-found c =
    sym (find_not c.skip_before.new.rest.items c.args.number c.args.uniq c.skip_before.ensures.ordered c.skip_before.ensures.front (sym c.begins_named.ensures ∙ c.if-begins_named.false))
    ∙ c.skip_before.ensures.here c.args.uniq
