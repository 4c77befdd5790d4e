-- The order that a command makes of a scene has its forms.
use Rattle.std.proofs.Common.{◌≡◌, ℕ, ◌+◌, ◌≤◌, Bool, true, false, Option, Some, None, List, [], ◌∷◌, length, inl, inr, arith}
use Rattle.std.specs.Prelude.{All, ◌&&◌, if◌then◌else◌, min, Result, Ok, Err}
use Rattle.std.specs.Option.{unwrap_or}
use Rattle.std.proofs.lemmas.Bool.{cases_Bool}
use Rattle.std.proofs.lemmas.List.{length-map}
use Rattle.std.proofs.lemmas.List.Elements.{All-head, All-tail, All-filter}
use Rattle.bk_text.specs.Blanks.{is_same_text}
use Rattle.bk_text.specs.declared.expiry.Expiry.{Expiry}
use Rattle.bk_text.specs.declared.expiry.Expiry.TheVariants.{Unset, Never, At, In}
use Rattle.byte_formats.specs.Forms.{IsFour}
use Rattle.vnode_model.specs.declared.listed.VolEntry.{VolEntry}
use Rattle.cell_core.specs.Calls.{entry_of_stored}
use Rattle.volume_sets.specs.declared.sets.SetEntry.{SetEntry}
use Rattle.volume_sets.specs.Sets.{has_set, entries_under}
use Rattle.dump_levels.specs.declared.levels.LevelFault.TheVariants.{NoSuchLevel}
use Rattle.dump_levels.specs.Elements.{paths_above}
use Rattle.dump_levels.specs.Spans.{second_after, expires_at, expiry_in}
use Rattle.dump_levels.specs.Trees.{has_level}
use Rattle.tape_config.specs.declared.port.PortFields.{PortFields}
use Rattle.tape_config.specs.Configs.{Settings, port_in}
use Rattle.budb_changes.specs.declared.records.DumpRecordFields.{DumpRecordFields}
use Rattle.budb_changes.specs.Forms.{IsDumpRecord}
use Rattle.budb_fold.specs.declared.database.Database.{Database}
use Rattle.budb_fold.specs.Database.{has_port}
use Rattle.budb_fold.specs.Lookups.{dumps_at, greatest_id, greatest_at, parent_at}
use Rattle.budb.proofs.FoldForms.{forms_after}
use Rattle.dump_job.specs.Beginning.{new_id}
use Rattle.dump_forms.specs.Begins.{IsOrderForm}
use Rattle.dump_courses.specs.Scenes.{Scene, database_in, entries_in}
use Rattle.backup_words.specs.declared.command.DumpCommand.{DumpCommand}
use Rattle.dump_commands.specs.Expanding.{some_suits, places_from, expansion}
use Rattle.dump_commands.specs.Orders.{port_at, asked_port, expires_or_none, order_of}
use Rattle.dump_commands.specs.Forms.{IsSceneForm, IsCommandForm}

-- ---- when it expires

at_most : (n : ℕ) → IsFour (min n 2145916799)
at_most n = omega arith

expires_form : (created : ℕ) (e : Expiry) → IsFour (expires_at created e)
expires_form created Unset = omega arith
expires_form created Never = omega arith
expires_form created (At second) = at_most second
expires_form created (In years months days) = at_most (second_after created years months days)

result_form : (created : ℕ) (o : Option Expiry) → IsFour (expires_or_none (elim o [ None ↦ Err NoSuchLevel | Some expiry ↦ Ok (expires_at created expiry) ]))
result_form created None = omega arith
result_form created (Some e) = expires_form created e

-- ---- its parent

greatest_form : (ds : List DumpRecordFields) → All IsDumpRecord ds → IsFour (unwrap_or (greatest_id ds) 0)
greatest_form [] all = omega arith
greatest_form (d ∷ ds) all = omega (arith, (All-head IsDumpRecord d ds all).id, greatest_form ds (All-tail IsDumpRecord d ds all))

or_form : (o : Option ℕ) (n : ℕ) → IsFour (unwrap_or o 0) → IsFour n → IsFour (unwrap_or o n)
or_form None n first other = other
or_form (Some m) n first other = first

parent_form : (listed : List DumpRecordFields) (set : List ℕ) (levels : List (List ℕ)) → All IsDumpRecord listed → IsFour (parent_at listed set levels)
parent_form listed set [] all = omega arith
parent_form listed set (level ∷ levels) all =
    or_form (greatest_at listed set level) (parent_at listed set levels)
    (greatest_form (dumps_at listed set level) (All-filter (λ dump. is_same_text dump.set set && is_same_text dump.level level) IsDumpRecord listed all)) (parent_form listed set levels all)

-- ---- its volumes and its port

few_places : (such : VolEntry → Bool) (at : ℕ) (cell : List VolEntry) → length (places_from such at cell) ≤ length cell
few_places such at [] = omega arith
few_places such at (v ∷ cell) = elim (cases_Bool (such v)) [
  | inl hit ↦ rw hit (omega (arith, few_places such (at + 1) cell))
  | inr miss ↦ rw miss (omega (arith, few_places such (at + 1) cell))
]

few_volumes : (entries : List SetEntry) (cell : List VolEntry) → length (expansion entries cell) ≤ length cell
unfolding expansion
few_volumes entries cell = few_places (some_suits entries) 0 cell

by_test : (b : Bool) (r : Result PortFields (List ℕ)) (text : List ℕ) (port : PortFields) → (if b then r else Err text) ≡ Ok port → r ≡ Ok port
by_test true r text port is = is
by_test false r text port is = absurd (cc)

at_port : (offset : ℕ) (o : Option PortFields) (port : PortFields) → port_at offset o ≡ Ok port → o ≡ Some port
at_port offset None port is = absurd (cc)
at_port offset (Some p) port is = cc

pub asked : (config : Settings) (db : Database) (a : DumpCommand) (port : PortFields) → asked_port config db a ≡ Ok port → port_in a.offset config.entries ≡ Some port
asked config db a port is =
    let level = by_test (has_set a.set db.sets) _ _ port is in
    let host = by_test (has_level db.levels a.level) _ _ port level in
    at_port a.offset (port_in a.offset config.entries) port (by_test (has_port db.hosts a.offset) _ _ port host)

pub order_form : (s : Scene) (a : DumpCommand) (port : PortFields) → IsSceneForm s → IsCommandForm a → asked_port s.config (database_in s) a ≡ Ok port → IsOrderForm (order_of s.config (database_in s) (entries_in s) s.time a port)
order_form s a port scene command is =
    let db : Database = database_in s in
    let entries = entries_under a.set db.sets in
    record {
      set = command.set;
      level = command.level;
      expires = result_form (new_id s.time db.greatest) (expiry_in db.levels a.level);
      parent = parent_form db.listed a.set (paths_above a.level) (forms_after s.log scene.log).listed;
      capacity = scene.ports a.offset port (asked s.config db a port is);
      few = omega (arith, few_volumes entries (entries_in s), length-map s.cell entry_of_stored, scene.few);
      time = scene.time;
      cell = scene.name;
    }
