-- Each call of a cell keeps the form of its list.
use Rattle.std.proofs.Common.{zero, suc, ◌≡◌, ◌^◌, ◌<◌, ◌≤◌, ℕ, Bool, true, false, cond, List, [], ◌∷◌, length, refl, sym, ◌∙◌, ap, subst, arith}
use Rattle.std.specs.Prelude.{◌==◌, ◌↔◌, nat_lt, if◌then◌else◌, IsTrue, All, Contains, Option, Some, None, is_none, Result, Ok, Err}
use Rattle.std.specs.Cmp.Lexicographic.{nat_list_cmp_total}
use Rattle.std.proofs.lemmas.Bool.{leb-false, ltb-false}
use Rattle.std.proofs.lemmas.List.Elements.{All-append, All-contains}
use Rattle.bk_text.specs.Alphabets.{IsNameByte, IsName, IsHost}
use Rattle.bk_text.specs.Bases.{backup_ending}
use Rattle.bk_text.specs.Tests.{name_test}
use Rattle.byte_formats.specs.Forms.{IsFour}
use Rattle.vnode_model.specs.declared.volumes.VolumeFields.{VolumeFields}
use Rattle.cell_core.specs.declared.fault.CellFault.{CellFault}
use Rattle.cell_core.specs.declared.fault.CellFault.TheVariants.{NoVolume, TooLarge}
use Rattle.cell_core.specs.declared.stored.Stored.{Stored}
use Rattle.cell_core.specs.declared.stored.Image.{Image}
use Rattle.cell_core.specs.declared.stored.Image.TheVariants.{Good, Bad}
use Rattle.cell_core.specs.Volumes.{new_volume, backup_name, backup_copy, with_backup_date}
use Rattle.cell_core.specs.Listings.{name_order, most_volumes, is_full, free_id, id_over as id_of_copy, backup_id_where, has_kind}
use Rattle.cell_core.specs.Cells.{name_of, stored_as, with_stored, without_stored, IsImageOf, standing_of_image, standing_of, id_for_new}
use Rattle.cell_core.specs.Calls.{Creation, creation_with, creation_where, after_create, stored_volume, put_over, put_where, after_put, with_volume, with_outcome, image_after, put_back, after_change_where, after_change, backup_id, backup_of, after_backup_of, after_backup_where, after_backup, is_of_kind, without_backup, without_both, after_remove_where, after_remove}
use Rattle.cell_core.proofs.OrderLaws.{placed_all, without_all}
use Rattle.cell_core.proofs.LookupLaws.{key_found, found_beside}
use Rattle.cell_core.proofs.CellLaws.{same_name, is_cell_with, is_cell_without}
use Rattle.cell_core.proofs.CallLaws.{backup_apart}
use Rattle.cell_core.proofs.IdLaws.{id_fits}
use Rattle.cell_core.specs.Forms.{IsVolumeForm, IsImageForm, IsStoredForm}
use Rattle.restore_target.specs.Targets.{standing_there, id_over, id_at, restored_as, put_with, after_restore}
use Rattle.cell_forms.specs.Forms.{IsCellForm}
use Rattle.cell_forms.proofs.Lists.{placed_more, placed_over}
use Rattle.cell_forms.proofs.Volumes.{new_form, copied_form, dated_form, restored_form, KeepsForm}

-- ---- one more under its name, and one less

with_form : (s : Stored) (cell : List Stored) → IsCellForm cell → IsImageOf s.name s.image → IsStoredForm s → length (with_stored s cell) ≤ most_volumes → IsCellForm (with_stored s cell)
with_form s cell form image stored few = record {
  list = is_cell_with s cell form.list image few;
  volumes = placed_all name_order name_of nat_list_cmp_total IsStoredForm s cell stored form.volumes;
}

without_form : (name : List ℕ) (cell : List Stored) → IsCellForm cell → IsCellForm (without_stored name cell)
without_form name cell form = record {
  list = is_cell_without name cell form.list;
  volumes = without_all name_order name_of nat_list_cmp_total IsStoredForm name cell form.volumes;
}

-- in place of what has the name
over_form : (s old : Stored) (cell : List Stored) → IsCellForm cell → IsImageOf s.name s.image → IsStoredForm s → stored_as s.name cell ≡ Some old → IsCellForm (with_stored s cell)
over_form s old cell form image stored there = with_form s cell form image stored (omega (arith, form.list.few, placed_over name_order name_of s old cell there))

-- where a volume is free
room_of : (cell : List Stored) (id : ℕ) → id_for_new cell ≡ Some id → (length cell < most_volumes) × (id < 2 ^ 32)
room_of cell id h = by (is_full cell) refl h
  where
    by : (b : Bool) → is_full cell ≡ b → cond b None (free_id standing_of cell) ≡ Some id → (length cell < most_volumes) × (id < 2 ^ 32)
    by true is g = absurd cc
    by false is g = (leb-false most_volumes (length cell) is, id_fits cell id g)

beside_form : (s : Stored) (cell : List Stored) → IsCellForm cell → IsImageOf s.name s.image → IsStoredForm s → length cell < most_volumes → IsCellForm (with_stored s cell)
beside_form s cell form image stored room = with_form s cell form image stored (omega (arith, room, placed_more name_order name_of s cell))

-- what is found under a name
record IsFound (name : List ℕ) (cell : List Stored) (s : Stored) : Type 0 where
  there : Contains cell s
  named : s.name ≡ name
  again : stored_as s.name cell ≡ Some s
  image : IsImageOf s.name s.image
  form : IsStoredForm s

found : (name : List ℕ) (cell : List Stored) (s : Stored) → IsCellForm cell → stored_as name cell ≡ Some s → IsFound name cell s
found name cell s form h =
    let k = key_found name_order name_of nat_list_cmp_total name cell s h in
    let named = same_name s.name name k.1 in
    record {
      there = k.0;
      named = named;
      again = ap (λ (n : List ℕ). stored_as n cell) named ∙ h;
      image = All-contains (λ (t : Stored). IsImageOf t.name t.image) cell s form.list.images k.0;
      form = All-contains IsStoredForm cell s form.volumes k.0;
    }

-- a volume at the place of another one
at_place : (s : Stored) (v : VolumeFields) → IsStoredForm s → IsVolumeForm v → IsStoredForm (with_volume s v)
at_place s v form volume = record { name = form.name; server = form.server; partition = form.partition; image = volume }

-- ---- create

module _ (cell : List Stored) (server partition name : List ℕ) (now : ℕ) (host : IsHost server) (part : IsName partition) (named : IsName name) (time : IsFour now) (form : IsCellForm cell) where
  created_with : (o : Option ℕ) (made : Creation) → id_for_new cell ≡ o → creation_with o cell server partition name now ≡ Ok made → IsCellForm made.list
  created_with None made is h = absurd cc
  created_with (Some id) made is h =
      let room = room_of cell id is in
      let e : ◌≡◌ {A = Creation} (record { id = id; list = with_stored (record { name = name; server = server; partition = partition; image = Good (new_volume id name now) }) cell }) made = cc in
      let volume : IsVolumeForm (new_volume id name now) = new_form id name now room.1 named time in
      subst (λ (m : Creation). IsCellForm m.list) e
      (beside_form (record { name = name; server = server; partition = partition; image = Good (new_volume id name now) }) cell form (refl, volume.fit) (record { name = named; server = host; partition = part; image = volume }) room.0)

  pub created_form : (made : Creation) → after_create cell server partition name now ≡ Ok made → IsCellForm made.list
  created_form made h = by (stored_as name cell) h
    where
      by : (o : Option Stored) → creation_where o cell server partition name now ≡ Ok made → IsCellForm made.list
      by (Some s) g = absurd cc
      by None g = created_with (id_for_new cell) made refl g

-- ---- put

abbrev list_ok : List Stored → Result (List Stored) CellFault
list_ok l = Ok l

ok_same : (a b : List Stored) → list_ok a ≡ Ok b → a ≡ b
ok_same a b h = cc

module _ (cell : List Stored) (server partition : List ℕ) (volume : VolumeFields) (host : IsHost server) (part : IsName partition) (v : IsVolumeForm volume) (form : IsCellForm cell) where
  stored_form : IsStoredForm (stored_volume server partition volume)
  stored_form = record { name = v.header.name; server = host; partition = part; image = v }

  put_over_form : (old : Stored) (i : Image) (new : List Stored) → stored_as volume.header.name cell ≡ Some old → put_over i cell (stored_volume server partition volume) ≡ Ok new → IsCellForm new
  put_over_form old (Good u) new there h =
      let e : with_stored (stored_volume server partition volume) cell ≡ new = cc in
      subst IsCellForm e (over_form (stored_volume server partition volume) old cell form (refl, v.fit) stored_form there)
  put_over_form old (Bad at) new there h = absurd cc

  put_new_form : (o : Option ℕ) (new : List Stored) → id_for_new cell ≡ o → (if is_none o then Err TooLarge else list_ok (with_stored (stored_volume server partition volume) cell)) ≡ Ok new → IsCellForm new
  put_new_form None new is h = absurd cc
  put_new_form (Some id) new is h =
      let e : with_stored (stored_volume server partition volume) cell ≡ new = ok_same (with_stored (stored_volume server partition volume) cell) new h in
      subst IsCellForm e (beside_form (stored_volume server partition volume) cell form (refl, v.fit) stored_form (room_of cell id is).0)

  pub put_form : (new : List Stored) → after_put cell server partition volume ≡ Ok new → IsCellForm new
  put_form new h = by (stored_as volume.header.name cell) refl h
    where
      by : (o : Option Stored) → stored_as volume.header.name cell ≡ o → put_where o cell (stored_volume server partition volume) ≡ Ok new → IsCellForm new
      by (Some old) there g = put_over_form old old.image new there g
      by None there g = put_new_form (id_for_new cell) new refl g

-- ---- changes of a volume

module _ (cell : List Stored) (name : List ℕ) (change : VolumeFields → Result VolumeFields CellFault) (keeps : KeepsForm change) (form : IsCellForm cell) (new : List Stored) where
  changed_as : (s : Stored) (v w : VolumeFields) → stored_as name cell ≡ Some s → s.image ≡ Good v → change v ≡ Ok w → with_stored (with_volume s w) cell ≡ new → IsCellForm new
  changed_as s v w there is outcome e =
      let f = found name cell s form there in
      let image : IsImageOf s.name (Good v) = subst (IsImageOf s.name) is f.image in
      let k = keeps v w outcome (subst IsImageForm is f.form.image) in
      subst IsCellForm e (over_form (with_volume s w) s cell form (k.0 ∙ image.0, k.1.fit) (at_place s w f.form k.1) f.again)

  changed_to : (s : Stored) (v : VolumeFields) (o : Result VolumeFields CellFault) → stored_as name cell ≡ Some s → s.image ≡ Good v → change v ≡ o → put_back cell (with_outcome s o) ≡ Ok new → IsCellForm new
  changed_to s v (Ok w) there is outcome h = changed_as s v w there is outcome cc
  changed_to s v (Err fault) there is outcome h = absurd cc

  changed_if : (s : Stored) (v : VolumeFields) (b : Bool) → stored_as name cell ≡ Some s → s.image ≡ Good v → put_back cell (if b then with_outcome s (change v) else Err NoVolume) ≡ Ok new → IsCellForm new
  changed_if s v true there is h = changed_to s v (change v) there is refl h
  changed_if s v false there is h = absurd cc

  changed_image : (s : Stored) (i : Image) → stored_as name cell ≡ Some s → s.image ≡ i → put_back cell (image_after i s change) ≡ Ok new → IsCellForm new
  changed_image s (Good v) there is h = changed_if s v (v.header.kind == 0) there is h
  changed_image s (Bad at) there is h = absurd cc

  pub changed_form : after_change cell name change ≡ Ok new → IsCellForm new
  changed_form h = by (stored_as name cell) refl h
    where
      by : (o : Option Stored) → stored_as name cell ≡ o → after_change_where o cell change ≡ Ok new → IsCellForm new
      by None there g = absurd cc
      by (Some s) there g = changed_image s s.image there refl g

-- ---- a backup volume

ending_bytes : All IsNameByte backup_ending
ending_bytes zero d lt = (omega arith, omega arith, λ e. omega (arith, e))
ending_bytes (suc zero) d lt = (omega arith, omega arith, λ e. omega (arith, e))
ending_bytes (suc (suc zero)) d lt = (omega arith, omega arith, λ e. omega (arith, e))
ending_bytes (suc (suc (suc zero))) d lt = (omega arith, omega arith, λ e. omega (arith, e))
ending_bytes (suc (suc (suc (suc zero)))) d lt = (omega arith, omega arith, λ e. omega (arith, e))
ending_bytes (suc (suc (suc (suc (suc zero))))) d lt = (omega arith, omega arith, λ e. omega (arith, e))
ending_bytes (suc (suc (suc (suc (suc (suc zero)))))) d lt = (omega arith, omega arith, λ e. omega (arith, e))
ending_bytes (suc (suc (suc (suc (suc (suc (suc n))))))) d lt = absurd (omega (arith, lt))

backup_named : (name : List ℕ) → IsName name → length (backup_name name) ≤ 31 → IsName (backup_name name)
backup_named [] is short = absurd (omega (arith, is.some))
backup_named (b ∷ name) is short = record { some = omega arith; short = short; first = is.first; each = All-append IsNameByte (b ∷ name) backup_ending is.each ending_bytes }

-- the id of a backup volume, and where it stands
record IsCopyId (cell : List Stored) (name : List ℕ) (id : ℕ) : Type 0 where
  short : length name ≤ 31
  fits : id < 2 ^ 32
  room : stored_as name cell ≡ None → length cell < most_volumes

id_of_old : (i : Image) (id : ℕ) (old : Stored) (cell : List Stored) → old.image ≡ i → IsImageForm i → backup_id_where standing_of (Some old) cell ≡ Some id → id < 2 ^ 32
id_of_old (Good v) id old cell is form h =
    let e : Some v.header.id ≡ Some id = subst (λ (j : Image). id_of_copy standing_of (standing_of_image j) cell ≡ Some id) is h in
    let same : v.header.id ≡ id = cc in
    subst (λ (n : ℕ). n < 2 ^ 32) same form.header.id
id_of_old (Bad at) id old cell is form h = id_fits cell id (subst (λ (j : Image). id_of_copy standing_of (standing_of_image j) cell ≡ Some id) is h)

copy_id : (cell : List Stored) (name : List ℕ) (id : ℕ) → IsCellForm cell → backup_id cell name ≡ Some id → IsCopyId cell name id
copy_id cell name id form h = by (nat_lt 31 (length name)) refl h
  where
    known : (o : Option Stored) → stored_as name cell ≡ o → length name ≤ 31 → backup_id_where standing_of o cell ≡ Some id → IsCopyId cell name id
    known (Some old) there short g = record { short = short; fits = id_of_old old.image id old cell refl (found name cell old form there).form.image g; room = λ none. absurd (let e : ◌≡◌ {A = Option Stored} (Some old) None = sym there ∙ none in cc) }
    known None there short g = let r = room_of cell id g in record { short = short; fits = r.1; room = λ none. r.0 }

    by : (b : Bool) → nat_lt 31 (length name) ≡ b → (if b then None else backup_id_where standing_of (stored_as name cell) cell) ≡ Some id → IsCopyId cell name id
    by true is g = absurd cc
    by false is g = known (stored_as name cell) refl (ltb-false 31 (length name) is) g

module _ (cell : List Stored) (name : List ℕ) (now : ℕ) (time : IsFour now) (form : IsCellForm cell) (new : List Stored) where
  -- the copy, and then the volume with its date
  backed_up_as : (s : Stored) (v : VolumeFields) (id : ℕ) → stored_as name cell ≡ Some s → s.image ≡ Good v → backup_id cell (backup_name name) ≡ Some id
      → with_stored (with_volume s (with_backup_date now v)) (with_stored (backup_of s id now v) cell) ≡ new → IsCellForm new
  backed_up_as s v id there is h e =
      let f = found name cell s form there in
      let image : IsImageOf s.name (Good v) = subst (IsImageOf s.name) is f.image in
      let volume : IsVolumeForm v = subst IsImageForm is f.form.image in
      let c = copy_id cell (backup_name name) id form h in
      let stands : backup_name name ≡ backup_name s.name = ap backup_name (sym f.named) in
      let named : IsName (backup_name s.name) = backup_named s.name f.form.name (subst (λ (n : List ℕ). length n ≤ 31) stands c.short) in
      let copy : IsVolumeForm (backup_copy id now v) = copied_form id now v volume c.fits (subst (λ (n : List ℕ). IsName (backup_name n)) (sym image.0) named) time in
      let stored : IsStoredForm (backup_of s id now v) = record { name = named; server = f.form.server; partition = f.form.partition; image = copy } in
      let copied : IsImageOf (backup_name s.name) (Good (backup_copy id now v)) = (ap backup_name image.0, copy.fit) in
      let dated : IsVolumeForm (with_backup_date now v) = dated_form now v volume time in
      let first : IsCellForm (with_stored (backup_of s id now v) cell) = by (stored_as (backup_name s.name) cell) refl stored copied (λ none. c.room (ap (λ (n : List ℕ). stored_as n cell) stands ∙ none)) in
      subst IsCellForm e
      (over_form (with_volume s (with_backup_date now v)) s (with_stored (backup_of s id now v) cell) first (image.0, dated.fit) (at_place s (with_backup_date now v) f.form dated)
      (found_beside name_order name_of nat_list_cmp_total s.name (backup_of s id now v) (backup_apart s.name) cell ∙ f.again))
    where
      by : (o : Option Stored) → stored_as (backup_name s.name) cell ≡ o → IsStoredForm (backup_of s id now v) → IsImageOf (backup_name s.name) (Good (backup_copy id now v)) → (stored_as (backup_name s.name) cell ≡ None → length cell < most_volumes)
          → IsCellForm (with_stored (backup_of s id now v) cell)
      by (Some old) at stored copied room = over_form (backup_of s id now v) old cell form copied stored at
      by None at stored copied room = beside_form (backup_of s id now v) cell form copied stored (room at)

  no_copy : (b : Bool) → ◌≡◌ {A = Result (List Stored) CellFault} (if b then Err TooLarge else Err NoVolume) (Ok new) → ⊥
  no_copy true h = cc
  no_copy false h = cc

  backed_up_if : (s : Stored) (v : VolumeFields) (id : ℕ) (b : Bool) → stored_as name cell ≡ Some s → s.image ≡ Good v → backup_id cell (backup_name name) ≡ Some id
      → (if b then list_ok (with_stored (with_volume s (with_backup_date now v)) (with_stored (backup_of s id now v) cell)) else Err NoVolume) ≡ Ok new → IsCellForm new
  backed_up_if s v id true there is h g = backed_up_as s v id there is h (ok_same (with_stored (with_volume s (with_backup_date now v)) (with_stored (backup_of s id now v) cell)) new g)
  backed_up_if s v id false there is h g = absurd cc

  backed_up_image : (s : Stored) (i : Image) (o : Option ℕ) → stored_as name cell ≡ Some s → s.image ≡ i → backup_id cell (backup_name name) ≡ o → after_backup_of i o cell s now ≡ Ok new → IsCellForm new
  backed_up_image s (Good v) (Some id) there is h g = backed_up_if s v id (v.header.kind == 0) there is h g
  backed_up_image s (Good v) None there is h g = absurd (no_copy (v.header.kind == 0) g)
  backed_up_image s (Bad at) (Some id) there is h g = absurd cc
  backed_up_image s (Bad at) None there is h g = absurd cc

  pub backed_up_form : after_backup cell name now ≡ Ok new → IsCellForm new
  backed_up_form h = by (stored_as name cell) refl h
    where
      by : (o : Option Stored) → stored_as name cell ≡ o → after_backup_where o cell name now ≡ Ok new → IsCellForm new
      by (Some s) there g = backed_up_image s s.image (backup_id cell (backup_name name)) there refl refl g
      by None there g = absurd cc

-- ---- a removal

without_backup_form : (name : List ℕ) (cell : List Stored) → IsCellForm cell → IsCellForm (without_backup name cell)
without_backup_form name cell form = elim (is_of_kind 2 (stored_as name cell)) as (λ b. IsCellForm (cond b (without_stored name cell) cell)) [ true ↦ without_form name cell form | false ↦ form ]

without_both_form : (b : Bool) (name : List ℕ) (cell : List Stored) → IsCellForm cell → IsCellForm (without_both b name cell)
without_both_form true name cell form = without_backup_form (backup_name name) (without_stored name cell) (without_form name cell form)
without_both_form false name cell form = without_form name cell form

pub removed_form : (cell : List Stored) (name : List ℕ) (new : List Stored) → IsCellForm cell → after_remove cell name ≡ Ok new → IsCellForm new
removed_form cell name new form h = by (stored_as name cell) h
  where
    by : (o : Option Stored) → after_remove_where o name cell ≡ Ok new → IsCellForm new
    by (Some s) g = let e : without_both (has_kind 0 (standing_of s)) name cell ≡ new = cc in subst IsCellForm e (without_both_form (has_kind 0 (standing_of s)) name cell form)
    by None g = absurd cc

-- ---- a restored volume

-- what a restore leaves is what a put of the volume leaves that is restored under the name
pub record IsRestored (cell : List Stored) (server partition name : List ℕ) (now : ℕ) (volume : VolumeFields) (new : List Stored) : Type 0 where
  pub id : ℕ
  pub fits : IsCellForm cell → id < 2 ^ 32
  pub named : name_test name ≡ true
  pub put : after_put cell server partition (restored_as name id now volume) ≡ Ok new

module _ (cell : List Stored) (server partition name : List ℕ) (now : ℕ) (volume : VolumeFields) (new : List Stored) where
  put_done : (id : ℕ) → put_with cell server partition name now volume (Ok id) ≡ Ok new → list_ok (with_stored (stored_volume server partition (restored_as name id now volume)) cell) ≡ Ok new
  put_done id h = h

  restored_over : (old : Stored) (i : Image) → stored_as name cell ≡ Some old → old.image ≡ i → name_test name ≡ true → put_with cell server partition name now volume (id_over (Some (standing_of_image i)) (id_for_new cell)) ≡ Ok new
      → IsRestored cell server partition name now volume new
  restored_over old (Good u) there is named h = record {
    id = u.header.id;
    fits = λ form. (let w : IsVolumeForm u = subst IsImageForm is (found name cell old form there).form.image in w.header.id);
    named = named;
    put = let s = stored_volume server partition (restored_as name u.header.id now volume) in
        ap (λ (o : Option Stored). put_where o cell s) there ∙ ap (λ (i : Image). put_over i cell s) is ∙ put_done u.header.id h;
  }
  restored_over old (Bad at) there is named h = absurd cc

  restored_free : (o : Option ℕ) → id_for_new cell ≡ o → stored_as name cell ≡ None → name_test name ≡ true → put_with cell server partition name now volume (id_over None o) ≡ Ok new → IsRestored cell server partition name now volume new
  restored_free None is there named h = absurd cc
  restored_free (Some id) is there named h = record {
    id = id;
    fits = λ form. (room_of cell id is).1;
    named = named;
    put = let s = stored_volume server partition (restored_as name id now volume) in
        ap (λ (o : Option Stored). put_where o cell s) there ∙ ap (λ (o : Option ℕ). if is_none o then Err TooLarge else list_ok (with_stored s cell)) is ∙ put_done id h;
  }

  restored_there : (o : Option Stored) → stored_as name cell ≡ o → name_test name ≡ true → put_with cell server partition name now volume (id_over (standing_there o) (id_for_new cell)) ≡ Ok new → IsRestored cell server partition name now volume new
  restored_there (Some old) there named h = restored_over old old.image there refl named h
  restored_there None there named h = restored_free (id_for_new cell) refl there named h

  pub restored_put : after_restore cell server partition name now volume ≡ Ok new → IsRestored cell server partition name now volume new
  restored_put h = by (name_test name) refl h
    where
      by : (b : Bool) → name_test name ≡ b → put_with cell server partition name now volume (if b then id_at cell name else Err TooLarge) ≡ Ok new → IsRestored cell server partition name now volume new
      by true is g = restored_there (stored_as name cell) refl is g
      by false is g = absurd cc

pub put_restored_form : (tests : (text : List ℕ) → IsTrue (name_test text) ↔ IsName text) (cell : List Stored) (server partition name : List ℕ) (now : ℕ) (volume : VolumeFields) (host : IsHost server) (part : IsName partition) (time : IsFour now) (v : IsVolumeForm volume) (form : IsCellForm cell) (new : List Stored)
    → after_restore cell server partition name now volume ≡ Ok new → IsCellForm new
put_restored_form tests cell server partition name now volume host part time v form new h =
    let r = restored_put cell server partition name now volume new h in
    put_form cell server partition (restored_as name r.id now volume) host part (restored_form name r.id now volume v (r.fits form) ((tests name).0 r.named) time) form new r.put
