use Rattle.std.proofs.Common.{◌<◌, ◌≤◌, ℕ, List, length, sym, subst}
use Rattle.std.specs.Prelude.{All}
use Rattle.volume_sets.specs.Sets.{entries_under}
use Rattle.dump_commands.specs.Orders.{volumes_of}
use Rattle.dump_commands.proofs.ExpandingLaws.{expansion_is}
use Rattle.dump_commands.proofs.EntryLaws.{expansion_within, expansion_few}
use Rattle.dump_commands.proofs.entries.volumes_of.Goals as goal

pub returns-in-Ok-clause-is : goal.returns-in-Ok-clause-is
returns-in-Ok-clause-is c =
    c.one_expansion.ensures (entries_under c.args.set.now c.args.sets.now) c.args.cell.now c.in-Ok.places (volumes_of c.args.sets.now c.args.set.now c.args.cell.now) c.in-Ok.ensures.1 (expansion_is (entries_under c.args.set.now c.args.sets.now) c.args.cell.now)

pub returns-in-Ok-clause-few : goal.returns-in-Ok-clause-few
returns-in-Ok-clause-few c =
    subst (λ (l : List ℕ). length l ≤ length c.args.cell.now) (sym (returns-in-Ok-clause-is c)) (expansion_few (entries_under c.args.set.now c.args.sets.now) c.args.cell.now)

pub returns-in-Ok-clause-within : goal.returns-in-Ok-clause-within
returns-in-Ok-clause-within c =
    subst (λ (l : List ℕ). All (λ place. place < length c.args.cell.now) l) (sym (returns-in-Ok-clause-is c)) (expansion_within (entries_under c.args.set.now c.args.sets.now) c.args.cell.now)
