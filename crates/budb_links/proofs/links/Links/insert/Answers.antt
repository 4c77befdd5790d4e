use Rattle.std.proofs.Common.{◌≡◌, ◌<◌, ◌^◌, ◌++◌, List, ◌∙◌, ap, subst}
use Rattle.budb_changes.specs.declared.records.DumpRecordFields.{DumpRecordFields}
use Rattle.budb_links.specs.Entries.{record_of}
use Rattle.budb_links.specs.Frags.{Placed, dump_frags}
use Rattle.budb_links.specs.Linked.{Linked, listed}
use Rattle.budb_links.specs.Filing.{frags_in}
use Rattle.budb_links.proofs.FragRecords.{Kept, inserted_frags}
use Rattle.budb_links.proofs.links.Links.insert.Given as given
use Rattle.budb_links.proofs.links.Links.insert.Goals as goal

-- the record's own fragments, and what is kept with them
record Inserted (g : given.Over) (c : goal.After-insert g) : Type 0 where
  more : List Placed
  told : Rattle.budb_links.specs.Frags.fragments more ≡ dump_frags c.args.dump
  kept : Kept c.link_dump.new.frags (frags_in c.self.inside.frags.keys c.self.inside.records.entries ++ more) c.insert.new.self.entries

inserted : (g : given.Over) (c : goal.After-insert g) → Inserted g c
inserted g c =
    let frags = c.self.inside.frags in
    let es = c.self.inside.records.entries in
    let value = c.fields-fields.ensures.value in
    let fresh = ap (λ (l : Linked). record_of c.args.dump.id (listed l)) c.self.view_is ∙ c.requires.fresh in
    let small = subst (λ (d : DumpRecordFields). d.id < 2 ^ 32) value c.link_dump.ensures.small in
    let files = c.link_dump.ensures.files (frags_in frags.keys es) c.self.invariant.files in
    let told = files.2 ∙ ap dump_frags value in
    let place = c.insert.ensures.entries in
    record {
      more = files.0;
      told = told;
      kept = inserted_frags frags c.link_dump.new.frags es c.insert.new.self.entries place.0 c.args.dump files.0 c.self.invariant fresh small files.1 told place.1;
    }

pub invariant_of-self : goal.invariant_of-self
invariant_of-self g c = let i = inserted g c in i.kept.keeps

pub returns-clause-frags : goal.returns-clause-frags
returns-clause-frags g c =
    let i = inserted g c in
    (i.more, i.told, i.kept.same ∙ ap (λ (l : Linked). l.frags ++ i.more) c.self.view_is)
