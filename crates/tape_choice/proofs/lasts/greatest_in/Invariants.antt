use Rattle.std.proofs.Common.{◌≡◌, drop}
use Rattle.std.specs.List.{filter}
use Rattle.budb_fold.specs.Database.{is_initial}
use Rattle.budb_fold.specs.Lookups.{greatest_id}
use Rattle.tape_choice.specs.Surveys.{joined}
use Rattle.tape_choice.proofs.lasts.greatest_in.Given as goal

abbrev pub invariant-loop-dump : goal.invariant-loop-dump
invariant-loop-dump l = joined l.greatest (greatest_id (filter (is_initial l.fn.initial) (drop l.dump-index l.listed))) ≡ greatest_id (filter (is_initial l.fn.initial) l.listed)
