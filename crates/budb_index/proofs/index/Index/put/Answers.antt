use Rattle.std.proofs.Common.{sym, ◌∙◌}
use Rattle.budb_index.proofs.Taking.{fits_fresh}
use Rattle.budb_index.proofs.index.Index.put.Goals as goal

pub insert-requires-clause-fresh : goal.insert-requires-clause-fresh
insert-requires-clause-fresh g c =
    fits_fresh c.args.dump c.args.self.now.listed (sym c.fits.ensures ∙ c.if-fits.true)
