use Rattle.std.proofs.Common.{◌≡◌, ◌+◌, Some, sym, ◌∙◌, ap}
use Rattle.std.specs.Prelude.{slice_get}
use Rattle.budb_links.specs.Chained.{chain_of}
use Rattle.budb_links.specs.Entries.{Recorded, places_of}
use Rattle.budb_links.specs.Stored.{entries_of}
use Rattle.budb_links.proofs.Walks.{first_in, behind_in}
use Rattle.budb_links.proofs.records.Records.walk_all.Goals as goal

pub returns-in-None-clause-first : goal.returns-in-None-clause-first
returns-in-None-clause-first g c = λ none.
    let arena = c.self.inside.arena in
    let slots = c.self.inside.shelf in
    let es = entries_of slots (chain_of arena 0 0) in
    c.first.ensures ∙ first_in arena slots c.self.inside.ids.spare es c.self.invariant.0 ∙ ap (λ (l : Recorded). slice_get (places_of l.entries) 0) c.self.view_is

pub returns-in-Some-clause-behind : goal.returns-in-Some-clause-behind
returns-in-Some-clause-behind g c = λ index place at stands.
    let arena = c.self.inside.arena in
    let slots = c.self.inside.shelf in
    let es = entries_of slots (chain_of arena 0 0) in
    let same : c.in-Some.place ≡ place = cc (c.in-Some.is, at) in
    let mine = ap (λ (l : Recorded). slice_get (places_of l.entries) index) c.self.view_is ∙ stands ∙ ap Some (sym same) in
    behind_in arena slots c.self.inside.ids.spare es c.in-Some.place index c.after.result c.self.invariant.0 (c.after.ensures.distinct 0) (c.after.ensures.behind 0) mine
    ∙ ap (λ (l : Recorded). slice_get (places_of l.entries) (index + 1)) c.self.view_is
