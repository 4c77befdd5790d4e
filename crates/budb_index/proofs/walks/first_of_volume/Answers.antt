use Rattle.std.proofs.Common.{refl}
use Rattle.budb_index.proofs.SetLeft.{volume_begins}
use Rattle.budb_index.proofs.walks.first_of_volume.Goals as goal

pub returns-clause-stands : goal.returns-clause-stands
returns-clause-stands g c = (0, c.walk_volume.ensures.first refl)

pub returns-clause-whole : goal.returns-clause-whole
returns-clause-whole g c = volume_begins c.args.key.now c.args.links.now c.walk_volume.result c.walk_volume.ensures.whole (c.walk_volume.ensures.first refl)
