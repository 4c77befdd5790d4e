use Rattle.std.proofs.Common.{sym, subst}
use Rattle.std.proofs.lemmas.List.{take_all}
use Rattle.std.proofs.lemmas.List.Elements.{All-more, All-same}
use Rattle.cell_core.specs.Forms.{IsStoredForm}
use Rattle.cell_core.proofs.forms.all_are_formed.Goals as goal

pub loop-stored-preserved : goal.loop-stored-preserved
loop-stored-preserved c = All-more IsStoredForm c.args.cell.now c.loop-stored.stored-index c.stored-item.result c.loop-stored-test.true c.loop-stored.invariant (subst IsStoredForm c.stored-item.is c.stored_is_formed.ensures)

pub returns : goal.returns
returns c = All-same IsStoredForm _ _ (sym (take_all c.loop-stored.stored-index c.args.cell.now c.loop-stored-test.false)) c.loop-stored.invariant
