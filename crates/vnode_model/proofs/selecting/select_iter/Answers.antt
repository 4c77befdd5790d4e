use Rattle.vnode_model.proofs.IncrementLaws.{fit_entries}
use Rattle.vnode_model.proofs.selecting.select_iter.Goals as goal

pub returns-clause-form : goal.returns-clause-form
returns-clause-form c = rw c.vnodes.ensures.value (fit_entries c.args.from c.args.volume.now.vnodes c.vnodes.ensures.form)
