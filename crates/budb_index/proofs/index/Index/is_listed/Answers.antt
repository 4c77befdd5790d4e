use Rattle.std.proofs.Common.{sym, ◌∙◌, ap}
use Rattle.std.specs.Prelude.{is_some}
use Rattle.budb_index.proofs.Taking.{some_copied, found_any}
use Rattle.budb_index.proofs.index.Index.is_listed.Goals as goal

pub returns : goal.returns
returns g c =
    c.is_some.ensures ∙ sym (some_copied c.find.result) ∙ ap is_some c.find.ensures.record ∙ found_any c.args.id c.args.self.now.listed
