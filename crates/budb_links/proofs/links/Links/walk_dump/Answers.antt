use Rattle.std.proofs.Common.{◌≡◌, ◌+◌, ℕ, List, Some, length, sym, ◌∙◌, ap, arith}
use Rattle.std.specs.Prelude.{slice_get}
use Rattle.budb_links.specs.Frags.{frag_places, of_dump}
use Rattle.budb_links.specs.Linked.{Linked}
use Rattle.budb_links.specs.Filing.{filed_frags, frags_in}
use Rattle.budb_links.proofs.KeyedStoring.{first_by, behind_by}
use Rattle.budb_links.proofs.FragRecords.{frag_filter}
use Rattle.budb_links.proofs.links.Links.walk_dump.Goals as goal

pub returns-in-None-clause-first : goal.returns-in-None-clause-first
returns-in-None-clause-first g c = λ none.
    let frags = c.self.inside.frags in
    let ps = frags_in frags.keys c.self.inside.records.entries in
    let f = c.self.invariant.files in
    c.first_of_dump.ensures
    ∙ first_by frags.keys (length frags.marks.items) (filed_frags ps) f.keyed 1 (omega arith) c.args.key.now
    ∙ ap (λ (l : List ℕ). slice_get l 0) (frag_filter 1 c.args.key.now ps)
    ∙ ap (λ (l : Linked). slice_get (frag_places (of_dump c.args.key.now l.frags)) 0) c.self.view_is

pub returns-in-Some-clause-behind : goal.returns-in-Some-clause-behind
returns-in-Some-clause-behind g c = λ index place at stands.
    let frags = c.self.inside.frags in
    let ps = frags_in frags.keys c.self.inside.records.entries in
    let f = c.self.invariant.files in
    let same : c.in-Some.place ≡ place = cc (c.in-Some.is, at) in
    let filed = frag_filter 1 c.args.key.now ps in
    let mine = ap (λ (l : List ℕ). slice_get l index) filed ∙ ap (λ (l : Linked). slice_get (frag_places (of_dump c.args.key.now l.frags)) index) c.self.view_is ∙ stands ∙ ap Some (sym same) in
    behind_by frags.keys (length frags.marks.items) (filed_frags ps) f.keyed 1 (omega arith) c.args.key.now c.in-Some.place index c.after_in_dump.result c.after_in_dump.ensures.distinct c.after_in_dump.ensures.behind mine
    ∙ ap (λ (l : List ℕ). slice_get l (index + 1)) filed
    ∙ ap (λ (l : Linked). slice_get (frag_places (of_dump c.args.key.now l.frags)) (index + 1)) c.self.view_is
