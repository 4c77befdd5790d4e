use Rattle.std.proofs.Common.{ℕ, List, ◌≡◌, take}
use Rattle.std.specs.Prelude.{None}
use Rattle.std.specs.List.{flat_map}
use Rattle.budb_fold.specs.Lookups.{latest}
use Rattle.restore_commands.specs.Choices.{set_choice}
use Rattle.restore_commands.proofs.choosing.set_choices.Given as goal

abbrev pub invariant-loop-name : goal.invariant-loop-name
invariant-loop-name l = l.choices ≡ flat_map (λ (name : List ℕ). set_choice l.entries name (latest l.budb.database.listed name None)) (take l.name-index l.name-items)
