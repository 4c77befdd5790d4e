use Rattle.std.proofs.Common.{sym, ◌∙◌, ap, subst}
use Rattle.std.specs.Prelude.{not}
use Rattle.budb_changes.specs.declared.records.DumpRecordFields.{DumpRecordFields}
use Rattle.budb_links.specs.Entries.{dumps_of}
use Rattle.budb_links.specs.Linked.{listed}
use Rattle.budb_fold.specs.Database.{is_dump, without}
use Rattle.budb_index.specs.Indexed.{Indexed}
use Rattle.budb_index.specs.Kept.{KeepsIndex}
use Rattle.budb_index.proofs.Once.{kept_filter}
use Rattle.budb_index.proofs.Initials.{listed_without}
use Rattle.budb_index.proofs.index.Index.unlink.Goals as goal

pub invariant_of-self : goal.invariant_of-self
invariant_of-self g c =
    let links = c.self.inside.links in
    subst KeepsIndex (sym (ap dumps_of c.unlink.ensures.entries ∙ listed_without c.args.id links.entries)) (kept_filter (λ (d : DumpRecordFields). not (is_dump c.args.id d)) (listed links) c.self.invariant)

pub returns-clause-listed : goal.returns-clause-listed
returns-clause-listed g c =
    ap dumps_of c.unlink.ensures.entries ∙ listed_without c.args.id c.self.inside.links.entries ∙ ap (λ (x : Indexed). without (is_dump c.args.id) x.listed) c.self.view_is
