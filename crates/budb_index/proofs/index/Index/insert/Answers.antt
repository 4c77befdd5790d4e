use Rattle.std.proofs.Common.{◌∙◌, ap, ◌++◌, ◌∷◌, []}
use Rattle.budb_fold.specs.Lookups.{record_of}
use Rattle.budb_index.specs.Indexed.{Indexed}
use Rattle.budb_index.proofs.Once.{listed_more, kept_more}
use Rattle.budb_index.proofs.index.Index.insert.Goals as goal

pub invariant_of-self : goal.invariant_of-self
invariant_of-self g c =
    kept_more c.self.inside.links c.insert.new.self c.args.dump c.self.invariant (ap (λ (x : Indexed). record_of x.listed c.args.dump.id) c.self.view_is ∙ c.requires.fresh) c.have_frags.ensures c.insert.ensures.entries

pub returns-clause-listed : goal.returns-clause-listed
returns-clause-listed g c =
    listed_more c.self.inside.links c.insert.new.self c.args.dump c.insert.ensures.entries ∙ ap (λ (x : Indexed). x.listed ++ c.args.dump ∷ []) c.self.view_is
