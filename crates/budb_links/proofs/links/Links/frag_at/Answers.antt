use Rattle.std.proofs.Common.{◌∙◌, ap, subst}
use Rattle.budb_links.specs.Frags.{frag_places, frag_at}
use Rattle.budb_links.specs.Linked.{Linked}
use Rattle.budb_links.specs.Filing.{frags_in}
use Rattle.budb_links.specs.Keyed.{Differ}
use Rattle.budb_links.proofs.FragStoring.{mark_is}
use Rattle.budb_links.proofs.links.Links.frag_at.Goals as goal

pub returns-clause-frag : goal.returns-clause-frag
returns-clause-frag g c =
    c.mark.ensures
    ∙ mark_is c.self.inside.frags (frags_in c.self.inside.frags.keys c.self.inside.records.entries) c.args.at c.self.invariant.files
    ∙ ap (λ (l : Linked). frag_at c.args.at l.frags) c.self.view_is

pub returns-clause-apart : goal.returns-clause-apart
returns-clause-apart g c =
    subst (λ (l : Linked). Differ (frag_places l.frags)) c.self.view_is c.self.invariant.files.distinct
