use Rattle.std.proofs.Common.{◌≡◌, ◌+◌, ℕ, List, Some, length, sym, ◌∙◌, ap, arith}
use Rattle.std.specs.Prelude.{slice_get}
use Rattle.budb_links.specs.Chained.{chain_of}
use Rattle.budb_links.specs.Entries.{Recorded, places_of, of_set}
use Rattle.budb_links.specs.Stored.{entries_of}
use Rattle.budb_links.specs.Keyed.{filed_records}
use Rattle.budb_links.proofs.KeyedStoring.{first_by, behind_by, filed_filter}
use Rattle.budb_links.proofs.records.Records.walk_set.Goals as goal

pub returns-in-None-clause-first : goal.returns-in-None-clause-first
returns-in-None-clause-first g c = λ none.
    let slots = c.self.inside.shelf in
    let es = entries_of slots (chain_of c.self.inside.arena 0 0) in
    c.first_of_name.ensures
    ∙ first_by c.self.inside.keys (length slots) (filed_records es) c.self.invariant.2 0 (omega arith) c.args.key.now
    ∙ ap (λ (l : List ℕ). slice_get l 0) (filed_filter 0 c.args.key.now es)
    ∙ ap (λ (l : Recorded). slice_get (places_of (of_set c.args.key.now l.entries)) 0) c.self.view_is

pub returns-in-Some-clause-behind : goal.returns-in-Some-clause-behind
returns-in-Some-clause-behind g c = λ index place at stands.
    let slots = c.self.inside.shelf in
    let es = entries_of slots (chain_of c.self.inside.arena 0 0) in
    let same : c.in-Some.place ≡ place = cc (c.in-Some.is, at) in
    let filed = filed_filter 0 c.args.key.now es in
    let mine = ap (λ (l : List ℕ). slice_get l index) filed ∙ ap (λ (l : Recorded). slice_get (places_of (of_set c.args.key.now l.entries)) index) c.self.view_is ∙ stands ∙ ap Some (sym same) in
    behind_by c.self.inside.keys (length slots) (filed_records es) c.self.invariant.2 0 (omega arith) c.args.key.now c.in-Some.place index c.after.result c.after.ensures.distinct c.after.ensures.behind mine
    ∙ ap (λ (l : List ℕ). slice_get l (index + 1)) filed
    ∙ ap (λ (l : Recorded). slice_get (places_of (of_set c.args.key.now l.entries)) (index + 1)) c.self.view_is
