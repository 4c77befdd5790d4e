use Rattle.std.proofs.Common.{refl}
use Rattle.budb_index.proofs.SetLeft.{set_begins}
use Rattle.budb_index.proofs.walks.first_of_set.Goals as goal

pub returns-clause-stands : goal.returns-clause-stands
returns-clause-stands g c = (0, c.walk_set.ensures.first refl)

pub returns-clause-whole : goal.returns-clause-whole
returns-clause-whole g c = set_begins c.args.key.now c.args.links.now c.walk_set.result (c.walk_set.ensures.first refl)
