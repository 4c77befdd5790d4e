use Rattle.std.proofs.Common.{ℕ, List, ◌∙◌, ap}
use Rattle.std.specs.List.{filter, filter_map}
use Rattle.budb_changes.specs.declared.records.DumpRecordFields.{DumpRecordFields}
use Rattle.budb_fold.specs.Lookups.{VolumeDump, is_before}
use Rattle.budb_fold.specs.Chains.{dump_of}
use Rattle.budb_index.specs.Holders.{holders}
use Rattle.budb_index.specs.Latest.{best_of}
use Rattle.budb_index.proofs.Pairs.{pairs_are}
use Rattle.budb_index.proofs.index.Index.best_of_name.Goals as goal

pub returns-clause-best : goal.returns-clause-best
returns-clause-best g c =
    let listed = c.args.self.now.listed in
    let of = c.args.of.now in
    let name = c.args.name.now in
    let early = is_before c.args.before in
    let ids = c.as_slice.ensures ∙ c.in_ok-ids.ensures.ids ∙ ap (λ (l : List DumpRecordFields). holders l of) c.links.ensures.listed in
    c.best_of_ids.ensures
    ∙ ap (λ (l : List ℕ). best_of name c.args.best (filter early (filter_map (dump_of listed of) l))) ids
    ∙ ap (λ (l : List VolumeDump). best_of name c.args.best (filter early l)) (pairs_are listed c.links.ensures.keeps.once of)
