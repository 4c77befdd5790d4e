use Rattle.std.proofs.Common.{◌≡◌, ◌≤◌, length}
use Rattle.budb_fold.specs.Database.{is_initial, without}
use Rattle.budb_index.proofs.index.Index.drop_set.Given as goal

abbrev pub invariant-loop-id : goal.invariant-loop-id
invariant-loop-id g l = record {
  listed : without (is_initial l.initial_id) l.self.listed ≡ without (is_initial l.initial_id) l.fn.self.listed;
  records : l.fn.self.spare_records ≤ l.self.spare_records;
  frags : l.fn.self.spare_frags ≤ l.self.spare_frags;
}

abbrev pub decreases-loop-id : goal.decreases-loop-id
decreases-loop-id g l = length l.self.listed
