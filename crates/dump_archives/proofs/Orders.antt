-- THE ORDER OF A COMMAND: its parent is listed, and its volumes are good ones, in order.
use Rattle.std.proofs.Common.{◌≡◌, ◌⊎◌, ℕ, zero, suc, ◌<◌, ◌≤◌, max, Option, Some, None, Ok, List, [], ◌∷◌, length, refl, arith, inl, inr}
use Rattle.std.specs.Prelude.{Contains, slice_get, ◌&&◌}
use Rattle.std.specs.Option.{unwrap_or}
use Rattle.std.proofs.lemmas.List.{length-map}
use Rattle.bk_text.specs.Blanks.{is_same_text}
use Rattle.tape_config.specs.declared.port.PortFields.{PortFields}
use Rattle.cell_core.specs.Calls.{entry_of_stored}
use Rattle.volume_sets.specs.Sets.{entries_under}
use Rattle.dump_levels.specs.Elements.{paths_above}
use Rattle.budb_changes.specs.declared.records.DumpRecordFields.{DumpRecordFields}
use Rattle.budb_fold.specs.Lookups.{dumps_at, greatest_id, greatest_at, parent_at}
use Rattle.tape_scan.proofs.ListLaws.{of_filter}
use Rattle.dump_job.specs.declared.order.DumpOrder.{DumpOrder}
use Rattle.dump_forms.specs.Begins.{IsOrderForm}
use Rattle.dump_laws.specs.Beginning.{HasParent}
use Rattle.dump_courses.specs.Scenes.{Scene, database_in, entries_in}
use Rattle.backup_words.specs.declared.command.DumpCommand.{DumpCommand}
use Rattle.dump_commands.specs.Forms.{IsSceneForm, IsCommandForm}
use Rattle.dump_commands.specs.Orders.{asked_port, order_of}
use Rattle.dump_commands.specs.Refusals.{first_bad}
use Rattle.dump_commands.proofs.OrderForms.{order_form}
use Rattle.dump_archives.proofs.Clones.{AreUp, expansion_up, expansion_within, good_places, HasGoodPlaces}

-- ---- its parent

pub two_cases : (a b : ℕ) → (a ≤ b) ⊎ (b < a)
two_cases zero b = inl (omega arith)
two_cases (suc a) zero = inr (omega arith)
two_cases (suc a) (suc b) = elim (two_cases a b) [
  | inl le ↦ inl (omega (arith, le))
  | inr lt ↦ inr (omega (arith, lt))
]

-- a dump of this id is among these
abbrev HasId : List DumpRecordFields → ℕ → Type 0
HasId ds g = (p : DumpRecordFields) × Contains ds p × (p.id ≡ g)

one_more_id : (d : DumpRecordFields) (ds : List DumpRecordFields) (g : ℕ) → HasId ds g → HasId (d ∷ ds) g
one_more_id d ds g has = (has.0, (suc has.1.0, omega (arith, has.1.1), has.1.2), has.2)

greater_there : (d : DumpRecordFields) (ds : List DumpRecordFields) (g n : ℕ) → HasId ds n → max d.id n ≡ g → HasId (d ∷ ds) g
greater_there d ds g n has same = elim (two_cases d.id n) [
  | inl le ↦ one_more_id d ds g (has.0, has.1, (let id = has.2 in omega (arith, le, same, id)))
  | inr lt ↦ (d, (0, omega arith, refl), omega (arith, lt, same))
]

greatest_by : (d : DumpRecordFields) (ds : List DumpRecordFields) (g : ℕ) (o : Option ℕ) → ((n : ℕ) → o ≡ Some n → HasId ds n) → max d.id (unwrap_or o 0) ≡ g → HasId (d ∷ ds) g
greatest_by d ds g None each same = (d, (0, omega arith, refl), omega (arith, same))
greatest_by d ds g (Some n) each same = greater_there d ds g n (each n refl) same

greatest_there : (ds : List DumpRecordFields) (g : ℕ) → greatest_id ds ≡ Some g → HasId ds g
greatest_there [] g is = absurd (cc)
greatest_there (d ∷ ds) g is = (let same : max d.id (unwrap_or (greatest_id ds) 0) ≡ g = cc in greatest_by d ds g (greatest_id ds) (λ n some. greatest_there ds n some) same)

level_parent : (listed : List DumpRecordFields) (set level : List ℕ) (o : Option ℕ) (rest : ℕ) → greatest_at listed set level ≡ o → HasParent listed rest → HasParent listed (unwrap_or o rest)
level_parent listed set level None rest is has = has
level_parent listed set level (Some g) rest is has =
    let p = greatest_there (dumps_at listed set level) g is in
    inr (p.0, (of_filter (λ (d : DumpRecordFields). is_same_text d.set set && is_same_text d.level level) listed p.0 p.1).0, p.2)

has_parent_at : (listed : List DumpRecordFields) (set : List ℕ) (levels : List (List ℕ)) → HasParent listed (parent_at listed set levels)
has_parent_at listed set [] = inl refl
has_parent_at listed set (level ∷ levels) = level_parent listed set level (greatest_at listed set level) (parent_at listed set levels) refl (has_parent_at listed set levels)

-- ---- the order

-- its fields have their forms, its parent is listed, and its places are those of the cell's list, in order
pub record IsOrder (s : Scene) (o : DumpOrder) : Type 0 where
  pub form : IsOrderForm o
  pub time : o.time ≡ s.time
  pub parent : HasParent (database_in s).listed o.parent
  pub up : AreUp 0 o.volumes
  pub within : (n p : ℕ) → slice_get o.volumes n ≡ Some p → p < length s.cell

pub is_order : (s : Scene) → IsSceneForm s → (a : DumpCommand) (port : PortFields) → IsCommandForm a → asked_port s.config (database_in s) a ≡ Ok port → IsOrder s (order_of s.config (database_in s) (entries_in s) s.time a port)
is_order s scene a port command is =
    let db = database_in s in
    let entries = entries_under a.set db.sets in
    record {
      form = order_form s a port scene command is;
      time = refl;
      parent = has_parent_at db.listed a.set (paths_above a.level);
      up = expansion_up entries (entries_in s);
      within = λ n p at. (let less = expansion_within entries (entries_in s) n p at in omega (arith, less, length-map s.cell entry_of_stored));
    }

-- an order that isn't refused has good volumes
pub good_order : (s : Scene) (o : DumpOrder) → IsOrder s o → first_bad (entries_in s) o.volumes ≡ None → HasGoodPlaces s.cell o.volumes
good_order s o order good = record { up = order.up; good = good_places s.cell o.volumes good order.within }
