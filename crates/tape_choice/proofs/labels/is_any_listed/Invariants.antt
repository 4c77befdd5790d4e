use Rattle.std.proofs.Common.{◌≡◌, take, false}
use Rattle.std.specs.List.{list_any}
use Rattle.budb_fold.specs.Database.{is_initial}
use Rattle.tape_choice.proofs.labels.is_any_listed.Given as goal

abbrev pub invariant-loop-dump : goal.invariant-loop-dump
invariant-loop-dump l = list_any (is_initial l.fn.initial) (take l.dump-index l.listed) ≡ false
