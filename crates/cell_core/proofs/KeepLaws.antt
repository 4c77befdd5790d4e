-- What the calls keep: a cell that is fair, and that no volume is made after its time.
use Rattle.std.proofs.Common.{◌≡◌, ℕ, ◌+◌, ◌≤◌, Bool, true, false, cond, List, [], refl, sym, ◌∙◌, ap, subst, inl, inr, arith}
use Rattle.std.specs.Prelude.{Option, Some, None, is_none, Result, Ok, Err, Contains, ◌==◌}
use Rattle.std.specs.declared.cmp.Ordering.TheVariants.{Equal}
use Rattle.std.specs.Cmp.Lexicographic.{nat_list_cmp_total}
use Rattle.std.proofs.lemmas.Bool.{eqb-true}
use Rattle.std.proofs.lemmas.Cmp.{tied_itself}
use Rattle.std.proofs.lemmas.List.Elements.{All-contains}
use Rattle.vnode_model.specs.declared.vnodes.Vnode.{Vnode}
use Rattle.vnode_model.specs.declared.volumes.VolumeFields.{VolumeFields}
use Rattle.cell_core.specs.declared.fault.CellFault.{CellFault}
use Rattle.cell_core.specs.declared.fault.CellFault.TheVariants.{NoVolume, TooLarge}
use Rattle.cell_core.specs.declared.stored.Stored.{Stored}
use Rattle.cell_core.specs.declared.stored.Image.{Image}
use Rattle.cell_core.specs.declared.stored.Image.TheVariants.{Good, Bad}
use Rattle.cell_core.specs.Vnodes.{number_order, number_of_vnode, vnode_of, with_vnode, without_vnode, made_vnode, rewritten_vnode}
use Rattle.cell_core.specs.Volumes.{within_limits, updated_volume, written_over, written_volume, removed_where, volume_without, new_volume, backup_name, backup_copy, with_backup_date}
use Rattle.cell_core.specs.Listings.{name_order, has_kind}
use Rattle.cell_core.specs.Cells.{IsCell, IsImageOf, name_of, standing_of, id_for_new, stored_as, with_stored, without_stored, birth_of}
use Rattle.cell_core.specs.Calls.{Creation, creation_with, creation_where, after_create, stored_volume, put_over, put_where, after_put, with_volume, with_outcome, image_after, put_back, after_change_where, after_change, backup_id, backup_of, after_backup_of, after_backup_where, after_backup, is_of_kind, without_backup, without_both, after_remove_where, after_remove}
use Rattle.cell_core.specs.Fairness.{Dumped, Fair, IsNotMadeAfter, NoneIsMadeAfter, IsNoSourceUnder, NoSourceHasBackupName}
use Rattle.cell_core.proofs.OrderLaws.{placed_all, without_all}
use Rattle.cell_core.proofs.LookupLaws.{contains_placed, contains_without, key_found, found_beside, alone}
use Rattle.cell_core.proofs.VnodeLaws.{number_order_total}
use Rattle.cell_core.proofs.CellLaws.{same_name}
use Rattle.cell_core.proofs.CallLaws.{backup_apart}
use Rattle.cell_core.proofs.FairLaws.{ChangedBy, fair_later, changed_fair, made_fair, copied_fair, less_fair, found_less}

-- ---- what a change makes of a volume

abbrev volume_done : VolumeFields → Result VolumeFields CellFault
volume_done volume = Ok volume

in_limits : (body : List ℕ) (volume w : VolumeFields) → within_limits body volume ≡ Ok w → volume ≡ w
in_limits body volume w h = by _ h
  where
    by : (b : Bool) → cond b (volume_done volume) (Err TooLarge) ≡ Ok w → volume ≡ w
    by true g = cc
    by false g = absurd cc

with_one : (x : Vnode) (uniq now : ℕ) (v : VolumeFields) → x.server_modified ≡ now → ChangedBy now v (updated_volume (with_vnode x v.vnodes) uniq now v)
with_one x uniq now v is = record {
  kind = refl;
  created = refl;
  vnodes = λ y there. elim (contains_placed number_order number_of_vnode number_order_total x v.vnodes y there) [
    | inl same ↦ inr (ap (λ (z : Vnode). z.server_modified) (sym same) ∙ is)
    | inr o ↦ inl o.0
  ];
}

written_by : (o : Option Vnode) (number : ℕ) (body : List ℕ) (now : ℕ) (v w : VolumeFields) → written_over o v number body now ≡ Ok w → ChangedBy now v w
written_by (Some x) number body now v w h =
    subst (ChangedBy now v) (in_limits body (updated_volume (with_vnode (rewritten_vnode body now x) v.vnodes) v.header.uniq now v) w h) (with_one (rewritten_vnode body now x) v.header.uniq now v refl)
written_by None number body now v w h = by (v.header.uniq == 4294967295) h
  where
    by : (b : Bool) → cond b (Err TooLarge) (within_limits body (updated_volume (with_vnode (made_vnode number v.header.uniq body now) v.vnodes) (v.header.uniq + 1) now v)) ≡ Ok w → ChangedBy now v w
    by true g = absurd cc
    by false g = subst (ChangedBy now v) (in_limits body (updated_volume (with_vnode (made_vnode number v.header.uniq body now) v.vnodes) (v.header.uniq + 1) now v) w g) (with_one (made_vnode number v.header.uniq body now) (v.header.uniq + 1) now v refl)

removed_by : (o : Option Vnode) (number now : ℕ) (v w : VolumeFields) → removed_where o number now v ≡ Ok w → ChangedBy now v w
removed_by None number now v w h = absurd cc
removed_by (Some x) number now v w h =
    let is : updated_volume (without_vnode number v.vnodes) v.header.uniq now v ≡ w = cc in
    subst (ChangedBy now v) is (record { kind = refl; created = refl; vnodes = λ y there. inl (contains_without number_order number_of_vnode number_order_total number v.vnodes y there).0 })

-- a change that leaves of each volume one that is changed so
abbrev pub Changed : ℕ → (VolumeFields → Result VolumeFields CellFault) → Type 0
Changed now change = (v w : VolumeFields) → change v ≡ Ok w → ChangedBy now v w

pub write_changes : (number : ℕ) (body : List ℕ) (now : ℕ) → Changed now (written_volume number body now)
write_changes number body now v w h = by (number == 0) h
  where
    by : (b : Bool) → cond b (Err TooLarge) (written_over (vnode_of number v.vnodes) v number body now) ≡ Ok w → ChangedBy now v w
    by true g = absurd cc
    by false g = written_by (vnode_of number v.vnodes) number body now v w g

pub removal_changes : (number now : ℕ) → Changed now (volume_without number now)
removal_changes number now v w h = removed_by (vnode_of number v.vnodes) number now v w h

-- ---- a changed volume in its cell

record ChangedAt (cell : List Stored) (name : List ℕ) (f : VolumeFields → Result VolumeFields CellFault) (new : List Stored) : Type 0 where
  s : Stored
  v : VolumeFields
  w : VolumeFields
  there : stored_as name cell ≡ Some s
  is : s.image ≡ Good v
  kind : v.header.kind ≡ 0
  outcome : f v ≡ Ok w
  list : with_stored (with_volume s w) cell ≡ new

changed_at : (cell : List Stored) (name : List ℕ) (f : VolumeFields → Result VolumeFields CellFault) (new : List Stored) → after_change cell name f ≡ Ok new → ChangedAt cell name f new
changed_at cell name f new h = at (stored_as name cell) refl h
  where
    by : (s : Stored) (v : VolumeFields) (o : Result VolumeFields CellFault) → stored_as name cell ≡ Some s → s.image ≡ Good v → v.header.kind ≡ 0 → f v ≡ o → put_back cell (with_outcome s o) ≡ Ok new → ChangedAt cell name f new
    by s v (Ok w) there is kind outcome g = let e : with_stored (with_volume s w) cell ≡ new = cc in record { s = s; v = v; w = w; there = there; is = is; kind = kind; outcome = outcome; list = e }
    by s v (Err x) there is kind outcome g = absurd cc

    tested : (s : Stored) (v : VolumeFields) (b : Bool) → stored_as name cell ≡ Some s → s.image ≡ Good v → (v.header.kind == 0) ≡ b → put_back cell (cond b (with_outcome s (f v)) (Err NoVolume)) ≡ Ok new → ChangedAt cell name f new
    tested s v true there is kind g = by s v (f v) there is (eqb-true v.header.kind 0 kind) refl g
    tested s v false there is kind g = absurd cc

    image : (s : Stored) (i : Image) → stored_as name cell ≡ Some s → s.image ≡ i → put_back cell (image_after i s f) ≡ Ok new → ChangedAt cell name f new
    image s (Good v) there is g = tested s v (v.header.kind == 0) there is refl g
    image s (Bad p) there is g = absurd cc

    at : (o : Option Stored) → stored_as name cell ≡ o → after_change_where o cell f ≡ Ok new → ChangedAt cell name f new
    at None there g = absurd cc
    at (Some s) there g = image s s.image there refl g

module _ (cell : List Stored) (dumped : List Dumped) (time now : ℕ) where
  found_here : (name : List ℕ) (s : Stored) → stored_as name cell ≡ Some s → Contains cell s × (s.name ≡ name)
  found_here name s there = let k = key_found name_order name_of nat_list_cmp_total name cell s there in (k.0, same_name s.name name k.1)

  pub changed_keeps : (name : List ℕ) (change : VolumeFields → Result VolumeFields CellFault) (new : List Stored) → Changed now change → Fair cell dumped time → time ≤ now → after_change cell name change ≡ Ok new → Fair new dumped now
  changed_keeps name change new by fair le h =
      let at = changed_at cell name change new h in
      let here = found_here name at.s at.there in
      subst (λ (l : List Stored). Fair l dumped now) at.list
      (changed_fair cell dumped time now fair le at.s (with_volume at.s at.w) at.v at.w here.0 at.is at.kind refl refl (ap (λ (n : List ℕ). stored_as n cell) here.1 ∙ at.there) (by at.v at.w at.outcome))

  pub changed_made : (name : List ℕ) (change : VolumeFields → Result VolumeFields CellFault) (new : List Stored) → Changed now change → NoneIsMadeAfter time cell → after_change cell name change ≡ Ok new → NoneIsMadeAfter time new
  changed_made name change new by made h =
      let at = changed_at cell name change new h in
      let here = found_here name at.s at.there in
      let old : at.v.header.created ≤ time = subst (IsNotMadeAfter time) at.is (All-contains (λ (s : Stored). IsNotMadeAfter time s.image) cell at.s made here.0) in
      subst (NoneIsMadeAfter time) at.list
      (placed_all name_order name_of nat_list_cmp_total (λ (s : Stored). IsNotMadeAfter time s.image) (with_volume at.s at.w) cell (omega (arith, (by at.v at.w at.outcome).created, old)) made)

  -- ---- new volumes

  record CreatedAt (server partition name : List ℕ) (made : Creation) : Type 0 where
    id : ℕ
    list : with_stored (record { name = name; server = server; partition = partition; image = Good (new_volume id name now) }) cell ≡ made.list

  created_at : (server partition name : List ℕ) (made : Creation) → after_create cell server partition name now ≡ Ok made → CreatedAt server partition name made
  created_at server partition name made h = at (stored_as name cell) h
    where
      from_id : (o : Option ℕ) → creation_with o cell server partition name now ≡ Ok made → CreatedAt server partition name made
      from_id None g = absurd cc
      from_id (Some id) g =
          let e : ◌≡◌ {A = Creation} (record { id = id; list = with_stored (record { name = name; server = server; partition = partition; image = Good (new_volume id name now) }) cell }) made = cc in
          record { id = id; list = ap (λ (m : Creation). m.list) e }

      at : (o : Option Stored) → creation_where o cell server partition name now ≡ Ok made → CreatedAt server partition name made
      at (Some s) g = absurd cc
      at None g = from_id (id_for_new cell) g

  pub created_keeps : (server partition name : List ℕ) (made : Creation) → Fair cell dumped time → time ≤ now → NoneIsMadeAfter now cell → after_create cell server partition name now ≡ Ok made → Fair made.list dumped now
  created_keeps server partition name made fair le before h =
      let at = created_at server partition name made h in
      subst (λ (l : List Stored). Fair l dumped now) at.list
      (made_fair cell dumped time now fair le (record { name = name; server = server; partition = partition; image = Good (new_volume at.id name now) }) (new_volume at.id name now) refl refl refl before)

  pub created_made : (server partition name : List ℕ) (made : Creation) → NoneIsMadeAfter time cell → now ≤ time → after_create cell server partition name now ≡ Ok made → NoneIsMadeAfter time made.list
  created_made server partition name made before le h =
      let at = created_at server partition name made h in
      subst (NoneIsMadeAfter time) at.list
      (placed_all name_order name_of nat_list_cmp_total (λ (s : Stored). IsNotMadeAfter time s.image) (record { name = name; server = server; partition = partition; image = Good (new_volume at.id name now) }) cell le before)

-- ---- a volume that is put in

abbrev list_done : List Stored → Result (List Stored) CellFault
list_done l = Ok l

put_is : (cell : List Stored) (server partition : List ℕ) (volume : VolumeFields) (new : List Stored) → after_put cell server partition volume ≡ Ok new → with_stored (stored_volume server partition volume) cell ≡ new
put_is cell server partition volume new h = at (stored_as volume.header.name cell) h
  where
    over : (i : Image) → put_over i cell (stored_volume server partition volume) ≡ Ok new → with_stored (stored_volume server partition volume) cell ≡ new
    over (Good old) g = cc
    over (Bad p) g = absurd cc

    tested : (b : Bool) → cond b (Err TooLarge) (list_done (with_stored (stored_volume server partition volume) cell)) ≡ Ok new → with_stored (stored_volume server partition volume) cell ≡ new
    tested true g = absurd cc
    tested false g = cc

    at : (o : Option Stored) → put_where o cell (stored_volume server partition volume) ≡ Ok new → with_stored (stored_volume server partition volume) cell ≡ new
    at (Some old) g = over old.image g
    at None g = tested (is_none (id_for_new cell)) g

pub put_keeps : (cell : List Stored) (dumped : List Dumped) (time : ℕ) (server partition : List ℕ) (volume : VolumeFields) (new : List Stored) → Fair cell dumped time → time ≤ volume.header.created → volume.header.kind ≡ 0 → NoneIsMadeAfter volume.header.created cell → after_put cell server partition volume ≡ Ok new → Fair new dumped volume.header.created
put_keeps cell dumped time server partition volume new fair le kind before h =
    subst (λ (l : List Stored). Fair l dumped volume.header.created) (put_is cell server partition volume new h)
    (made_fair cell dumped time volume.header.created fair le (stored_volume server partition volume) volume refl kind refl before)

pub put_made : (cell : List Stored) (time : ℕ) (server partition : List ℕ) (volume : VolumeFields) (new : List Stored) → NoneIsMadeAfter time cell → volume.header.created ≤ time → after_put cell server partition volume ≡ Ok new → NoneIsMadeAfter time new
put_made cell time server partition volume new before le h =
    subst (NoneIsMadeAfter time) (put_is cell server partition volume new h)
    (placed_all name_order name_of nat_list_cmp_total (λ (s : Stored). IsNotMadeAfter time s.image) (stored_volume server partition volume) cell le before)

-- ---- a backup volume

record BackedUpAt (cell : List Stored) (name : List ℕ) (now : ℕ) (new : List Stored) : Type 0 where
  s : Stored
  v : VolumeFields
  id : ℕ
  there : stored_as name cell ≡ Some s
  is : s.image ≡ Good v
  kind : v.header.kind ≡ 0
  list : with_stored (with_volume s (with_backup_date now v)) (with_stored (backup_of s id now v) cell) ≡ new

backed_up_at : (cell : List Stored) (name : List ℕ) (now : ℕ) (new : List Stored) → after_backup cell name now ≡ Ok new → BackedUpAt cell name now new
backed_up_at cell name now new h = at (stored_as name cell) refl h
  where
    tested : (s : Stored) (v : VolumeFields) (id : ℕ) (b : Bool) → stored_as name cell ≡ Some s → s.image ≡ Good v → (v.header.kind == 0) ≡ b
        → cond b (list_done (with_stored (with_volume s (with_backup_date now v)) (with_stored (backup_of s id now v) cell))) (Err NoVolume) ≡ Ok new → BackedUpAt cell name now new
    tested s v id true there is kind g =
        let e : with_stored (with_volume s (with_backup_date now v)) (with_stored (backup_of s id now v) cell) ≡ new = cc in
        record { s = s; v = v; id = id; there = there; is = is; kind = eqb-true v.header.kind 0 kind; list = e }
    tested s v id false there is kind g = absurd cc

    no_id : (b : Bool) → ◌≡◌ {A = Result (List Stored) CellFault} (cond b (Err TooLarge) (Err NoVolume)) (Ok new) → ⊥
    no_id true g = cc
    no_id false g = cc

    image : (s : Stored) (i : Image) (o : Option ℕ) → stored_as name cell ≡ Some s → s.image ≡ i → after_backup_of i o cell s now ≡ Ok new → BackedUpAt cell name now new
    image s (Good v) (Some id) there is g = tested s v id (v.header.kind == 0) there is refl g
    image s (Good v) None there is g = absurd (no_id (v.header.kind == 0) g)
    image s (Bad p) (Some id) there is g = absurd cc
    image s (Bad p) None there is g = absurd cc

    at : (o : Option Stored) → stored_as name cell ≡ o → after_backup_where o cell name now ≡ Ok new → BackedUpAt cell name now new
    at (Some s) there g = image s s.image (backup_id cell (backup_name name)) there refl g
    at None there g = absurd cc

module _ (cell : List Stored) (dumped : List Dumped) (time now : ℕ) (is_cell : IsCell cell) where
  pub backed_up_keeps : (name : List ℕ) (new : List Stored) → Fair cell dumped time → time ≤ now → now ≤ 4294967295 → after_backup cell name now ≡ Ok new → Fair new dumped now
  backed_up_keeps name new fair le fits h =
      let at = backed_up_at cell name now new h in
      let here = found_here cell dumped time now name at.s at.there in
      let copy : Stored = backup_of at.s at.id now at.v in
      let found : stored_as at.s.name cell ≡ Some at.s = ap (λ (n : List ℕ). stored_as n cell) here.1 ∙ at.there in
      let image : IsImageOf at.s.name (Good at.v) = subst (IsImageOf at.s.name) at.is (All-contains (λ (t : Stored). IsImageOf t.name t.image) cell at.s is_cell.images here.0) in
      let first : Fair (with_stored copy cell) dumped now = copied_fair cell dumped time now fair le at.s copy at.v (backup_copy at.id now at.v) here.0 at.is at.kind found
      (λ t there same. alone name_order name_of nat_list_cmp_total cell t at.s is_cell.ordered there here.0 (subst (λ (n : List ℕ). name_order n at.s.name ≡ Equal) (sym same) (tied_itself nat_list_cmp_total at.s.name)))
      refl refl refl refl (ap backup_name image.0) refl fits in
      let still : stored_as at.s.name (with_stored copy cell) ≡ Some at.s = found_beside name_order name_of nat_list_cmp_total at.s.name copy (backup_apart at.s.name) cell ∙ found in
      let inside = key_found name_order name_of nat_list_cmp_total at.s.name (with_stored copy cell) at.s still in
      subst (λ (l : List Stored). Fair l dumped now) at.list
      (changed_fair (with_stored copy cell) dumped now now first (omega arith) at.s (with_volume at.s (with_backup_date now at.v)) at.v (with_backup_date now at.v) inside.0 at.is at.kind refl refl still
      (record { kind = refl; created = refl; vnodes = λ x there. inl there }))

module _ (cell : List Stored) (dumped : List Dumped) (time now : ℕ) where
  pub backed_up_made : (name : List ℕ) (new : List Stored) → NoneIsMadeAfter time cell → now ≤ time → after_backup cell name now ≡ Ok new → NoneIsMadeAfter time new
  backed_up_made name new made le h =
      let at = backed_up_at cell name now new h in
      let here = found_here cell dumped time now name at.s at.there in
      let P : Stored → Type 0 = λ (s : Stored). IsNotMadeAfter time s.image in
      let old : at.v.header.created ≤ time = subst (IsNotMadeAfter time) at.is (All-contains P cell at.s made here.0) in
      subst (NoneIsMadeAfter time) at.list
      (placed_all name_order name_of nat_list_cmp_total P (with_volume at.s (with_backup_date now at.v)) (with_stored (backup_of at.s at.id now at.v) cell) old
      (placed_all name_order name_of nat_list_cmp_total P (backup_of at.s at.id now at.v) cell le made))

-- ---- a removal

module _ (cell : List Stored) (dumped : List Dumped) (time now : ℕ) where
  without_keeps : (name : List ℕ) → Fair cell dumped time → time ≤ now → now ≤ 4294967295 → Fair (without_stored name cell) dumped now
  without_keeps name fair le fits =
      less_fair cell dumped time now fair le (without_stored name cell) (λ t there. (contains_without name_order name_of nat_list_cmp_total name cell t there).0)
      (λ n. elim (found_less name cell n) [ inl none ↦ inr (ap birth_of none) | inr same ↦ inl (ap birth_of same) ]) fits

  backup_less_keeps : (name : List ℕ) → Fair cell dumped time → time ≤ now → now ≤ 4294967295 → Fair (without_backup name cell) dumped now
  backup_less_keeps name fair le fits =
      elim (is_of_kind 2 (stored_as name cell)) as (λ b. Fair (cond b (without_stored name cell) cell) dumped now) [ true ↦ without_keeps name fair le fits | false ↦ fair_later cell dumped time now fair le ]

  backup_less_made : (name : List ℕ) → NoneIsMadeAfter time cell → NoneIsMadeAfter time (without_backup name cell)
  backup_less_made name made =
      elim (is_of_kind 2 (stored_as name cell)) as (λ b. NoneIsMadeAfter time (cond b (without_stored name cell) cell)) [
        | true ↦ without_all name_order name_of nat_list_cmp_total (λ (s : Stored). IsNotMadeAfter time s.image) name cell made
        | false ↦ made
      ]

removed_is : (cell : List Stored) (name : List ℕ) (new : List Stored) → after_remove cell name ≡ Ok new → (b : Bool) × (without_both b name cell ≡ new)
removed_is cell name new h = at (stored_as name cell) h
  where
    at : (o : Option Stored) → after_remove_where o name cell ≡ Ok new → (b : Bool) × (without_both b name cell ≡ new)
    at None g = absurd cc
    at (Some s) g = (has_kind 0 (standing_of s), cc)

module _ (cell : List Stored) (dumped : List Dumped) (time now : ℕ) where
  pub removed_keeps : (name : List ℕ) (new : List Stored) → Fair cell dumped time → time ≤ now → now ≤ 4294967295 → after_remove cell name ≡ Ok new → Fair new dumped now
  removed_keeps name new fair le fits h =
      let r = removed_is cell name new h in
      let first = without_keeps cell dumped time now name fair le fits in
      subst (λ (l : List Stored). Fair l dumped now) r.1 (by r.0 first)
    where
      by : (b : Bool) → Fair (without_stored name cell) dumped now → Fair (without_both b name cell) dumped now
      by true first = backup_less_keeps (without_stored name cell) dumped now now (backup_name name) first (omega arith) fits
      by false first = first

  pub removed_made : (name : List ℕ) (new : List Stored) → NoneIsMadeAfter time cell → after_remove cell name ≡ Ok new → NoneIsMadeAfter time new
  removed_made name new made h =
      let r = removed_is cell name new h in
      let first : NoneIsMadeAfter time (without_stored name cell) = without_all name_order name_of nat_list_cmp_total (λ (s : Stored). IsNotMadeAfter time s.image) name cell made in
      subst (NoneIsMadeAfter time) r.1 (by r.0 first)
    where
      by : (b : Bool) → NoneIsMadeAfter time (without_stored name cell) → NoneIsMadeAfter time (without_both b name cell)
      by true first = backup_less_made (without_stored name cell) dumped time now (backup_name name) first
      by false first = first

-- ---- no read/write volume's name ends in `.backup`

abbrev NoSource : Stored → Type 0
NoSource s = IsNoSourceUnder s.name s.image

good_same : (v w : VolumeFields) → Good v ≡ Good w → v ≡ w
good_same v w h = cc

-- under the same name, of the same type
source_same : (name : List ℕ) (v w : VolumeFields) → w.header.kind ≡ v.header.kind → IsNoSourceUnder name (Good v) → IsNoSourceUnder name (Good w)
source_same name v w kind none base u named is zero =
    none base v named refl (sym kind ∙ (ap (λ (x : VolumeFields). x.header.kind) (good_same w u is) ∙ zero))

-- a volume that isn't read/write
no_source : (name : List ℕ) (v : VolumeFields) → (v.header.kind ≡ 0 → ⊥) → IsNoSourceUnder name (Good v)
no_source name v other base u named is zero = other (ap (λ (x : VolumeFields). x.header.kind) (good_same v u is) ∙ zero)

at_source : (cell : List Stored) (s : Stored) (v : VolumeFields) → NoSourceHasBackupName cell → Contains cell s → s.image ≡ Good v → IsNoSourceUnder s.name (Good v)
at_source cell s v none there is = subst (IsNoSourceUnder s.name) is (All-contains NoSource cell s none there)

pub put_sources : (cell : List Stored) (server partition : List ℕ) (volume : VolumeFields) (new : List Stored) → NoSourceHasBackupName cell → IsNoSourceUnder volume.header.name (Good volume) → after_put cell server partition volume ≡ Ok new → NoSourceHasBackupName new
put_sources cell server partition volume new none here h =
    subst NoSourceHasBackupName (put_is cell server partition volume new h) (placed_all name_order name_of nat_list_cmp_total NoSource (stored_volume server partition volume) cell here none)

module _ (cell : List Stored) (now : ℕ) where
  pub changed_sources : (name : List ℕ) (change : VolumeFields → Result VolumeFields CellFault) (new : List Stored) → Changed now change → NoSourceHasBackupName cell → after_change cell name change ≡ Ok new → NoSourceHasBackupName new
  changed_sources name change new by none h =
      let at = changed_at cell name change new h in
      let here = found_here cell [] now now name at.s at.there in
      subst NoSourceHasBackupName at.list
      (placed_all name_order name_of nat_list_cmp_total NoSource (with_volume at.s at.w) cell (source_same at.s.name at.v at.w (by at.v at.w at.outcome).kind (at_source cell at.s at.v none here.0 at.is)) none)

  pub created_sources : (server partition name : List ℕ) (made : Creation) → NoSourceHasBackupName cell → ((base : List ℕ) → name ≡ backup_name base → ⊥) → after_create cell server partition name now ≡ Ok made → NoSourceHasBackupName made.list
  created_sources server partition name made none apart h =
      let at = created_at cell [] now now server partition name made h in
      let s : Stored = record { name = name; server = server; partition = partition; image = Good (new_volume at.id name now) } in
      subst NoSourceHasBackupName at.list (placed_all name_order name_of nat_list_cmp_total NoSource s cell (λ base u named is zero. apart base named) none)

  pub backed_up_sources : (name : List ℕ) (new : List Stored) → NoSourceHasBackupName cell → after_backup cell name now ≡ Ok new → NoSourceHasBackupName new
  backed_up_sources name new none h =
      let at = backed_up_at cell name now new h in
      let here = found_here cell [] now now name at.s at.there in
      subst NoSourceHasBackupName at.list
      (placed_all name_order name_of nat_list_cmp_total NoSource (with_volume at.s (with_backup_date now at.v)) (with_stored (backup_of at.s at.id now at.v) cell) (source_same at.s.name at.v (with_backup_date now at.v) refl (at_source cell at.s at.v none here.0 at.is))
      (placed_all name_order name_of nat_list_cmp_total NoSource (backup_of at.s at.id now at.v) cell (no_source (backup_name at.s.name) (backup_copy at.id now at.v) (λ e. omega (arith, e))) none))

pub removed_sources : (cell : List Stored) (name : List ℕ) (new : List Stored) → NoSourceHasBackupName cell → after_remove cell name ≡ Ok new → NoSourceHasBackupName new
removed_sources cell name new none h =
    let r = removed_is cell name new h in
    let first : NoSourceHasBackupName (without_stored name cell) = without_all name_order name_of nat_list_cmp_total NoSource name cell none in
    subst NoSourceHasBackupName r.1 (by r.0 first)
  where
    less : (b : Bool) (l : List Stored) (other : List ℕ) → NoSourceHasBackupName l → NoSourceHasBackupName (cond b (without_stored other l) l)
    less true l other all = without_all name_order name_of nat_list_cmp_total NoSource other l all
    less false l other all = all

    by : (b : Bool) → NoSourceHasBackupName (without_stored name cell) → NoSourceHasBackupName (without_both b name cell)
    by true first = less (is_of_kind 2 (stored_as (backup_name name) (without_stored name cell))) (without_stored name cell) (backup_name name) first
    by false first = first
