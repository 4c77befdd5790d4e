use Rattle.std.proofs.Common.{◌≡◌, drop}
use Rattle.std.specs.Prelude.{not}
use Rattle.std.specs.List.{find, list_any}
use Rattle.budb_fold.specs.Lookups.{beats}
use Rattle.budb_fold.proofs.latest_dumps.first_unbeaten.Given as goal

abbrev pub invariant-loop-one : goal.invariant-loop-one
invariant-loop-one l = find (λ one. not (list_any (λ other. beats l.name other one) l.dumps)) l.dumps ≡ find (λ one. not (list_any (λ other. beats l.name other one) l.dumps)) (drop l.one-index l.dumps)
