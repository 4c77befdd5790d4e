-- What the calls make of a cell, by the place of a name.
use Rattle.std.proofs.Common.{◌≡◌, ◌≢◌, ℕ, ◌<◌, Bool, true, false, cond, List, length, get_or, set, refl, sym, ◌∙◌, ap, subst, arith, length-append}
use Rattle.std.specs.Prelude.{Option, Some, None, Result, Ok, Err, nat_lt, ◌==◌}
use Rattle.std.specs.declared.cmp.Ordering.TheVariants.{Equal}
use Rattle.std.proofs.lemmas.Bool.{cond-true, leb-false, not-false}
use Rattle.std.specs.Cmp.Lexicographic.{nat_list_cmp_total}
use Rattle.bk_text.specs.Bases.{backup_ending}
use Rattle.cell_core.specs.Volumes.{backup_name, with_backup_date}
use Rattle.cell_core.specs.declared.stored.Image.{Image}
use Rattle.cell_core.specs.declared.stored.Image.TheVariants.{Good, Bad}
use Rattle.cell_core.specs.Backups.{copy_of_image, copy_of, image_with_date, stored_with_date}
use Rattle.cell_core.proofs.LookupLaws.{found_beside}
use Rattle.std.proofs.lemmas.List.{set-get_or}
use Rattle.vnode_model.specs.declared.volumes.VolumeFields.{VolumeFields}
use Rattle.cell_core.specs.declared.fault.CellFault.{CellFault}
use Rattle.cell_core.specs.declared.fault.CellFault.TheVariants.{Failed, NoVolume, VolumeExists, NoVnode, TooLarge, BadImage, Memory}
use Rattle.cell_core.specs.declared.stored.Stored.{Stored}
use Rattle.cell_core.specs.Places.{FoundAt}
use Rattle.cell_core.specs.Listings.{name_order, most_volumes, is_full, free_id, backup_id_where, is_not_read_write}
use Rattle.cell_core.specs.Cells.{name_of, standing_of_image, standing_of, stored_as, with_stored, IsImageOf, IsCell}
use Rattle.cell_core.specs.Calls.{stored_after, put_back, after_change_where, after_change, with_volume, backup_of, backup_id, after_backup_of, after_backup_where, after_backup}
use Rattle.cell_core.specs.Changing.{Settles}
use Rattle.cell_core.proofs.CellLaws.{same_name, with_found, is_cell_set, found_name, found_stored}

module _ (cell : List Stored) (name : List ℕ) (at : ℕ) (s s' : Stored) where
  refused : (f : CellFault) (change : VolumeFields → Result VolumeFields CellFault) → FoundAt name_order name_of name cell at → s ≡ get_or cell at s → (stored_after s change ≡ Err f) × (s' ≡ s) → (after_change cell name change ≡ Err f) × (set cell at s' ≡ cell)
  refused f change found is h = (
    ap (λ o. after_change_where o cell change) (found_stored name cell at s found is) ∙ ap (put_back cell) h.0,
    ap (λ (t : Stored). set cell at t) (h.1 ∙ is) ∙ set-get_or cell at s,
  )

  pub settled_in_place : (change : VolumeFields → Result VolumeFields CellFault) (r : Result (Unit {0}) CellFault) → FoundAt name_order name_of name cell at → s ≡ get_or cell at s → s'.name ≡ s.name → Settles (stored_after s change) s r s' → Settles (after_change cell name change) cell r (set cell at s')
  settled_in_place change (Ok done) found is same h =
      ap (λ o. after_change_where o cell change) (found_stored name cell at s found is) ∙ (ap (put_back cell) h ∙ ap Ok (with_found name cell at s' (same ∙ found_name name cell at s found is) found))
  settled_in_place change (Err Failed) found is same h = absurd h.0
  settled_in_place change (Err Memory) found is same h = ap (λ (t : Stored). set cell at t) (h ∙ is) ∙ set-get_or cell at s
  settled_in_place change (Err NoVolume) found is same h = refused NoVolume change found is h
  settled_in_place change (Err VolumeExists) found is same h = refused VolumeExists change found is h
  settled_in_place change (Err NoVnode) found is same h = refused NoVnode change found is h
  settled_in_place change (Err TooLarge) found is same h = refused TooLarge change found is h
  settled_in_place change (Err (BadImage place)) found is same h = refused (BadImage place) change found is h

  pub is_cell_changed : IsCell cell → FoundAt name_order name_of name cell at → s ≡ get_or cell at s → s'.name ≡ s.name → (IsImageOf s.name s.image → IsImageOf s.name s'.image) → IsCell (set cell at s')
  is_cell_changed is_cell found is same form =
      let there : IsImageOf s.name s.image = subst (λ (t : Stored). IsImageOf t.name t.image) (sym is) (is_cell.images at s found.within) in
      is_cell_set name cell at s' (same ∙ found_name name cell at s found is) is_cell (subst (λ (n : List ℕ). IsImageOf n s'.image) (sym same) (form there)) found

-- ---- backup volumes

-- ".backup" behind a name makes another name
pub backup_apart : (name : List ℕ) → name_order name (backup_name name) ≢ Equal
backup_apart name h = let same : name ≡ backup_name name = same_name name (backup_name name) h in omega (arith, ap length same, length-append name backup_ending)

copied_name : (image : Image) (s : Stored) (id now : ℕ) (copy : Stored) → copy_of_image image s id now ≡ Ok copy → copy.name ≡ backup_name s.name
copied_name (Good volume) s id now copy h = let e : backup_of s id now volume ≡ copy = cc in ap (λ (t : Stored). t.name) (sym e)
copied_name (Bad at) s id now copy h = absurd cc

pub copy_named : (s : Stored) (id now : ℕ) (copy : Stored) → copy_of s id now ≡ Ok copy → copy.name ≡ backup_name s.name
copy_named s id now copy h = copied_name s.image s id now copy h

-- where there is an id for a new name, there is room
pub room_for_copy : (cell : List Stored) (name : List ℕ) (id : ℕ) → backup_id cell name ≡ Some id → stored_as name cell ≡ None → length cell < most_volumes
room_for_copy cell name id h none =
    elim (nat_lt 31 (length name)) as (λ b. cond b None (backup_id_where standing_of (stored_as name cell) cell) ≡ Some id → length cell < most_volumes) [
      | true ↦ λ g. absurd cc
      | false ↦ λ g. room (is_full cell) refl (sym (ap (λ (o : Option Stored). backup_id_where standing_of o cell) none) ∙ g)
    ] h
  where
    room : (b : Bool) → is_full cell ≡ b → cond b None (free_id standing_of cell) ≡ Some id → length cell < most_volumes
    room true e g = absurd cc
    room false e g = leb-false most_volumes (length cell) e

abbrev done_with : List Stored → Result (List Stored) CellFault
done_with l = Ok l

done_image : (image : Image) (cell : List Stored) (s : Stored) (id now : ℕ) (copy : Stored) → is_not_read_write (standing_of_image image) ≡ false → copy_of_image image s id now ≡ Ok copy
    → after_backup_of image (Some id) cell s now ≡ Ok (with_stored (image_with_date image s now) (with_stored copy cell))
done_image (Good volume) cell s id now copy source h =
    let e : backup_of s id now volume ≡ copy = cc in
    cond-true (volume.header.kind == 0) (Ok (with_stored (with_volume s (with_backup_date now volume)) (with_stored (backup_of s id now volume) cell))) (Err NoVolume) (not-false (volume.header.kind == 0) source)
    ∙ ap (λ (t : Stored). done_with (with_stored (with_volume s (with_backup_date now volume)) (with_stored t cell))) e
done_image (Bad at) cell s id now copy source h = absurd cc

pub backed_up_done : (cell new1 new2 : List Stored) (name : List ℕ) (s : Stored) (id now : ℕ) (copy : Stored) → stored_as name cell ≡ Some s → s.name ≡ name → backup_id cell (backup_name name) ≡ Some id → is_not_read_write (standing_of s) ≡ false → copy_of s id now ≡ Ok copy
    → new1 ≡ with_stored copy cell → ((t : Stored) → stored_as name new1 ≡ Some t → new2 ≡ with_stored (stored_with_date t now) new1) → after_backup cell name now ≡ Ok new2
backed_up_done cell new1 new2 name s id now copy there named id_is source h first second =
    let copy_name : copy.name ≡ backup_name name = copy_named s id now copy h ∙ ap backup_name named in
    let apart : name_order name copy.name ≢ Equal = λ e. backup_apart name (ap (λ (n : List ℕ). name_order name n) (sym copy_name) ∙ e) in
    let still : stored_as name new1 ≡ Some s = ap (stored_as name) first ∙ (found_beside name_order name_of nat_list_cmp_total name copy apart cell ∙ there) in
    ap (λ (o : Option Stored). after_backup_where o cell name now) there
    ∙ (ap (λ (o : Option ℕ). after_backup_of s.image o cell s now) id_is
    ∙ (done_image s.image cell s id now copy source h
    ∙ (ap (λ (l : List Stored). done_with (with_stored (stored_with_date s now) l)) (sym first) ∙ ap done_with (sym (second s still)))))
