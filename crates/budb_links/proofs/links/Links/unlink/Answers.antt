use Rattle.std.proofs.Common.{sym, ◌∙◌, ap}
use Rattle.budb_links.specs.Entries.{dumps_of}
use Rattle.budb_links.specs.Frags.{without_dump}
use Rattle.budb_links.specs.Linked.{Linked}
use Rattle.budb_links.specs.Filing.{frags_in}
use Rattle.budb_links.proofs.FragRecords.{Kept, taken_whole, found_id, taken_frags}
use Rattle.budb_links.proofs.links.Links.unlink.Given as given
use Rattle.budb_links.proofs.links.Links.unlink.Goals as goal

pub unlink_taken-requires : goal.unlink_taken-requires
unlink_taken-requires g c =
    let frags = c.self.inside.frags in
    let es = c.self.inside.records.entries in
    record {
      files = (
        frags_in frags.keys es,
        c.self.invariant.files,
        λ dump is.
            let found = sym c.unlink-taken.ensures.record ∙ is in
            taken_whole frags es c.args.id dump c.self.invariant found (found_id c.args.id (dumps_of es) dump found),
      );
    }

kept : (g : given.Over) (c : goal.After-unlink_taken g) → Kept c.unlink_taken.new.frags (without_dump c.args.id (frags_in c.self.inside.frags.keys c.self.inside.records.entries)) c.unlink-taken.new.self.entries
kept g c =
    taken_frags c.self.inside.frags c.unlink_taken.new.frags c.self.inside.records.entries c.unlink-taken.new.self.entries c.args.id c.unlink-taken.result c.self.invariant c.unlink-taken.ensures.record c.unlink_taken.ensures.none c.unlink_taken.ensures.files c.unlink-taken.ensures.entries

pub invariant_of-self : goal.invariant_of-self
invariant_of-self g c = let k = kept g c in k.keeps

pub returns-clause-frags : goal.returns-clause-frags
returns-clause-frags g c = let k = kept g c in k.same ∙ ap (λ (l : Linked). without_dump c.args.id l.frags) c.self.view_is
