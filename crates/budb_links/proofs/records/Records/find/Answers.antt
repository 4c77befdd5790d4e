use Rattle.std.proofs.Common.{length, sym, ◌∙◌, ap}
use Rattle.budb_links.specs.Chained.{chain_of}
use Rattle.budb_links.specs.Entries.{Recorded, dumps_of, record_of}
use Rattle.budb_links.specs.Stored.{entries_of}
use Rattle.budb_links.proofs.Storing.{slot_of, found_record}
use Rattle.budb_links.proofs.records.Records.find.Goals as goal

pub returns-in-None-clause-record : goal.returns-in-None-clause-record
returns-in-None-clause-record g c =
    let slots = c.self.inside.shelf in
    let stores = c.self.invariant.0 in
    let found = found_record c.self.inside.ids slots (length slots) (entries_of slots (chain_of c.self.inside.arena 0 0)) c.args.id c.find.ensures.small c.self.invariant.1 stores.holds in
    ap (slot_of slots) (sym c.in-None.is ∙ c.find.ensures.place) ∙ found ∙ ap (λ (l : Recorded). record_of c.args.id (dumps_of l.entries)) c.self.view_is

pub returns-in-Some-clause-record : goal.returns-in-Some-clause-record
returns-in-Some-clause-record g c =
    let slots = c.self.inside.shelf in
    let stores = c.self.invariant.0 in
    let found = found_record c.self.inside.ids slots (length slots) (entries_of slots (chain_of c.self.inside.arena 0 0)) c.args.id c.find.ensures.small c.self.invariant.1 stores.holds in
    c.get.ensures.value ∙ ap (slot_of slots) (sym c.in-Some.is ∙ c.find.ensures.place) ∙ found ∙ ap (λ (l : Recorded). record_of c.args.id (dumps_of l.entries)) c.self.view_is
