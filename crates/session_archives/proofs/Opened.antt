-- A world in which a session begins has the forms of its configuration, its journal and its cell.
use Rattle.std.proofs.Common.{◌≡◌, ℕ, ◌≤◌, max, List, [], ◌∷◌, map, Some, None, arith, inl, inr, sym, subst, refl}
use Rattle.std.specs.Prelude.{All, Option, IfSome, Ok}
use Rattle.std.specs.List.{fold}
use Rattle.std.proofs.lemmas.List.Elements.{All-nil, All-cons, All-head, All-tail}
use Rattle.bk_text.specs.Alphabets.{IsHost}
use Rattle.byte_formats.specs.Forms.{IsFour, IsMaybe}
use Rattle.vnode_model.specs.declared.vnodes.Vnode.{Vnode}
use Rattle.vnode_model.specs.declared.volumes.VolumeFields.{VolumeFields}
use Rattle.vnode_model.specs.Volumes.{latest_of}
use Rattle.dump_stream.specs.Allowed.{AllowedVnode}
use Rattle.cell_core.specs.declared.stored.Stored.{Stored}
use Rattle.cell_core.specs.declared.stored.Image.{Image}
use Rattle.cell_core.specs.declared.stored.Image.TheVariants.{Good, Bad}
use Rattle.cell_core.specs.Forms.{IsVolumeForm, IsImageForm, IsStoredForm}
use Rattle.cell_core.specs.Calls.{state_of}
use Rattle.cell_core.specs.Fairness.{IsNotMadeAfter, NoneIsMadeAfter}
use Rattle.cell_forms.specs.Forms.{IsCellForm}
use Rattle.tape_config.specs.declared.port.PortFields.{PortFields}
use Rattle.tape_config.specs.Configs.{Settings, config_of, port_in, name_or_nothing}
use Rattle.tape_config.specs.Ports.{IsWithinLimits}
use Rattle.group_laws.specs.Forms.{ArePortsApart}
use Rattle.budb_changes.specs.declared.records.VolRecordFields.{VolRecordFields}
use Rattle.budb_changes.specs.declared.records.DumpRecordFields.{DumpRecordFields}
use Rattle.budb_changes.specs.declared.change.Change.{Change}
use Rattle.budb_changes.specs.Forms.{IsVolRecord, IsDumpRecord, AreChanges}
use Rattle.budb_fold.specs.Database.{after}
use Rattle.budb.proofs.FoldForms.{forms_after}
use Rattle.dump_commands.specs.Forms.{AreVolumes}
use Rattle.backup_session.specs.Worlds.{World}
use Rattle.backup_session.specs.Opening.{with_clone, with_clones, database_time, with_state, with_stored, first_time}
use Rattle.backup_session.specs.Bounded.{HasTapes}
use Rattle.script_journals.specs.Worlds.{HasGroupForm, IsWorldForm}
use Rattle.session_archives.specs.Ready.{IsFitWorld, IsReady, time_at_first, at_first}
use Rattle.session_archives.proofs.Orders.{none_made_later}
use Rattle.session_archives.proofs.ReadyScripts.{time_later, time_four}

-- ---- the time

max_four : (a b : ℕ) → IsFour a → IsFour b → IsFour (max a b)
max_four a b is_a is_b = omega (arith, is_a, is_b)

clones_four : (vs : List VolRecordFields) (time : ℕ) → All IsVolRecord vs → IsFour time → IsFour (fold with_clone time vs)
clones_four [] time all four = four
clones_four (v ∷ vs) time all four = clones_four vs (max time v.clone) (All-tail IsVolRecord v vs all) (max_four time v.clone four (All-head IsVolRecord v vs all).clone)

dumps_four : (ds : List DumpRecordFields) (time : ℕ) → All IsDumpRecord ds → IsFour time → IsFour (fold with_clones time ds)
dumps_four [] time all four = four
dumps_four (d ∷ ds) time all four = dumps_four ds (with_clones time d) (All-tail IsDumpRecord d ds all) (clones_four d.volumes time (All-head IsDumpRecord d ds all).each_volume four)

vnodes_four : (vs : List Vnode) (time : ℕ) → All AllowedVnode vs → IsFour time → IsFour (fold max time (map (λ v. v.server_modified) vs))
vnodes_four [] time all four = four
vnodes_four (v ∷ vs) time all four = vnodes_four vs (max time v.server_modified) (All-tail AllowedVnode v vs all) (max_four time v.server_modified four (omega (arith, (All-head AllowedVnode v vs all).server_modified)))

latest_four : (v : VolumeFields) → IsVolumeForm v → IsFour (latest_of v)
latest_four v form = vnodes_four v.vnodes v.header.created form.vnodes (omega (arith, form.header.created))

image_four : (time : ℕ) (i : Image) → IsImageForm i → IsFour time → IsFour (with_state time (state_of i))
image_four time (Good v) form four = max_four time (latest_of v) four (latest_four v form)
image_four time (Bad at) form four = four

cell_four : (cell : List Stored) (time : ℕ) → All IsStoredForm cell → IsFour time → IsFour (fold with_stored time cell)
cell_four [] time all four = four
cell_four (s ∷ cell) time all four = cell_four cell (with_stored time s) (All-tail IsStoredForm s cell all) (image_four time s.image (All-head IsStoredForm s cell all).image four)

first_four : (log : List Change) (cell : List Stored) → AreChanges log → All IsStoredForm cell → IsFour (first_time log cell)
first_four log cell changes all =
    let forms = forms_after log changes in
    cell_four cell (database_time (after log)) all (dumps_four (after log).listed (after log).greatest forms.listed forms.greatest)

-- no volume is made later than the latest of all entries

max_later : (a b : ℕ) → a ≤ max a b
max_later a b = omega arith

trans_le : (a b c : ℕ) → a ≤ b → b ≤ c → a ≤ c
trans_le a b c ab bc = omega (arith, ab, bc)

under_max : (a b c now : ℕ) → max a b ≤ now → c ≤ b → c ≤ now
under_max a b c now le within = omega (arith, le, within)

above : (vs : List Vnode) (time : ℕ) → time ≤ fold max time (map (λ v. v.server_modified) vs)
above [] time = omega arith
above (v ∷ vs) time =
    trans_le time (max time v.server_modified) (fold max (max time v.server_modified) (map (λ (u : Vnode). u.server_modified) vs)) (max_later time v.server_modified) (above vs (max time v.server_modified))

image_above : (time : ℕ) (i : Image) → time ≤ with_state time (state_of i)
image_above time (Good v) = max_later time (latest_of v)
image_above time (Bad at) = omega arith

cell_above : (cell : List Stored) (time : ℕ) → time ≤ fold with_stored time cell
cell_above [] time = omega arith
cell_above (s ∷ cell) time = trans_le time (with_stored time s) (fold with_stored (with_stored time s) cell) (image_above time s.image) (cell_above cell (with_stored time s))

image_made : (time now : ℕ) (i : Image) → with_state time (state_of i) ≤ now → IsNotMadeAfter now i
image_made time now (Good v) le = under_max time (latest_of v) v.header.created now le (above v.vnodes v.header.created)
image_made time now (Bad at) le = tt

none_made : (cell : List Stored) (time : ℕ) → NoneIsMadeAfter (fold with_stored time cell) cell
none_made [] time = All-nil (λ (s : Stored). IsNotMadeAfter time s.image)
none_made (s ∷ cell) time =
    let end = fold with_stored (with_stored time s) cell in
    All-cons (λ (t : Stored). IsNotMadeAfter end t.image) s cell (image_made time end s.image (cell_above cell (with_stored time s))) (none_made cell (with_stored time s))

-- ---- the cell's name

name_form : (cell : Option (List ℕ)) → IfSome cell IsHost → IsMaybe IsHost (name_or_nothing cell)
name_form (Some name) host = inl host
name_form None host = inr refl

-- ---- the world

-- what is so of each configuration
pub record Configured : Type 0 where
  pub ports : (bytes : List ℕ) (settings : Settings) → config_of bytes ≡ Ok settings → (offset : ℕ) (port : PortFields) → port_in offset settings.entries ≡ Some port → IsWithinLimits port
  pub cell : (bytes : List ℕ) (settings : Settings) → config_of bytes ≡ Ok settings → IfSome settings.cell IsHost
  pub apart : (bytes : List ℕ) (settings : Settings) → config_of bytes ≡ Ok settings → ArePortsApart settings.entries

module _ (laws : Configured) (w : World) (bytes : List ℕ) (says : config_of bytes ≡ Ok w.setting.config) (changes : AreChanges w.log) (cell : IsCellForm w.cell) (begins : w.time ≡ first_time w.log w.cell) where
  opened_four : IsFour w.time
  opened_four = subst IsFour (sym begins) (first_four w.log w.cell changes cell.volumes)

  opened_made : NoneIsMadeAfter w.time w.cell
  opened_made = subst (λ (time : ℕ). NoneIsMadeAfter time w.cell) (sym begins) (none_made w.cell (database_time (after w.log)))

  pub opened_formed : HasTapes w → HasGroupForm w.groups.open → AreVolumes w.contents → IsWorldForm w
  opened_formed has group volumes = record {
    tapes = has;
    log = changes;
    cell = cell;
    contents = volumes;
    time = opened_four;
    name = name_form w.setting.config.cell (laws.cell bytes w.setting.config says);
    ports = λ offset port is. (laws.ports bytes w.setting.config says offset port is).capacity;
    group = group;
  }

  pub opened_ready : (ms : List ℕ) (these : List (List ℕ)) → IsFitWorld (at_first w ms these) → IsReady (at_first w ms these)
  opened_ready ms these fit = record {
    order = record {
      form = cell;
      four = time_four w.time ms these opened_four;
      made = none_made_later w.cell w.time (time_at_first w.time ms these) (time_later w.time ms these) opened_made;
      fit = fit;
    };
    name = name_form w.setting.config.cell (laws.cell bytes w.setting.config says);
    ports = λ offset port is. (laws.ports bytes w.setting.config says offset port is).capacity;
    apart = laws.apart bytes w.setting.config says;
  }
