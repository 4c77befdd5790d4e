use Rattle.std.proofs.Common.{◌≡◌, drop}
use Rattle.std.specs.List.{filter, filter_map}
use Rattle.budb_fold.specs.Lookups.{is_before}
use Rattle.budb_fold.specs.Chains.{dump_of}
use Rattle.budb_index.specs.Latest.{best_of}
use Rattle.budb_index.proofs.index.Index.best_of_ids.Given as goal

abbrev pub invariant-loop-id : goal.invariant-loop-id
invariant-loop-id g l =
    best_of l.name l.found (filter (is_before l.before) (filter_map (dump_of l.self.listed l.of) (drop l.id-index l.ids))) ≡ best_of l.name l.fn.best (filter (is_before l.before) (filter_map (dump_of l.self.listed l.of) l.ids))
