use Rattle.std.proofs.Common.{◌∙◌, ap, subst}
use Rattle.budb_links.specs.Chained.{chain_of}
use Rattle.budb_links.specs.Entries.{Recorded, places_of, record_at}
use Rattle.budb_links.specs.Stored.{entries_of}
use Rattle.budb_links.specs.Keyed.{Differ}
use Rattle.budb_links.proofs.Storing.{record_at_slot}
use Rattle.budb_links.proofs.Apart.{places_apart}
use Rattle.budb_links.proofs.records.Records.record_at.Goals as goal

pub returns-clause-record : goal.returns-clause-record
returns-clause-record g c =
    let arena = c.self.inside.arena in
    let slots = c.self.inside.shelf in
    let here = record_at_slot arena slots c.self.inside.ids.spare (entries_of slots (chain_of arena 0 0)) c.args.at c.self.invariant.0 in
    c.get.ensures.value ∙ here ∙ ap (λ (l : Recorded). record_at c.args.at l.entries) c.self.view_is

pub returns-clause-apart : goal.returns-clause-apart
returns-clause-apart g c =
    let arena = c.self.inside.arena in
    let slots = c.self.inside.shelf in
    let kept = c.self.invariant.0 in
    subst (λ (l : Recorded). Differ (places_of l.entries)) c.self.view_is (places_apart slots (entries_of slots (chain_of arena 0 0)) kept.holds kept.ids)
