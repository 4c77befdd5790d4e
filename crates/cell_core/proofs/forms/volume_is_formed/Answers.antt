use Rattle.cell_core.proofs.FormLaws.{whole_is_formed}
use Rattle.cell_core.proofs.forms.volume_is_formed.Goals as goal

pub returns : goal.returns
returns c = whole_is_formed c.args.volume.now c.volume_is_allowed.ensures c.vnodes-vnodes.ensures.form
