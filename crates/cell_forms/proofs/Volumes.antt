-- What a change of a volume keeps of its form.
use Rattle.std.proofs.Common.{◌≡◌, ◌+◌, ◌/◌, ◌^◌, ◌<◌, ◌≤◌, ℕ, Bool, true, false, List, [], ◌∷◌, length, refl, sym, subst, ap, arith}
use Rattle.std.specs.Prelude.{◌==◌, ◌&&◌, nat_le, if◌then◌else◌, All, Option, Some, None, Result, Ok, Err}
use Rattle.std.proofs.lemmas.Bool.{and_parts, leb-true, eqb-false}
use Rattle.std.proofs.lemmas.List.Elements.{All-nil, All-cons, All-replicate, All-contains}
use Rattle.std.proofs.lemmas.List.Sums.{sum_by-cons}
use Rattle.bk_text.specs.Alphabets.{IsName}
use Rattle.byte_formats.specs.Forms.{IsFour}
use Rattle.vnode_model.specs.declared.vnodes.Vnode.{Vnode}
use Rattle.vnode_model.specs.declared.volumes.VolumeFields.{VolumeFields}
use Rattle.vnode_model.specs.Headers.{IsMessage}
use Rattle.vnode_model.specs.Limits.{most_vnodes, most_data, all_data, IsFitVnode, AreVolume}
use Rattle.vnode_model.specs.Increments.{data_of}
use Rattle.dump_stream.specs.Forms.{IsBytes}
use Rattle.dump_stream.specs.Allowed.{AllowedHeader, AllowedVnode}
use Rattle.cell_core.specs.declared.fault.CellFault.{CellFault}
use Rattle.cell_core.specs.declared.fault.CellFault.TheVariants.{TooLarge}
use Rattle.cell_core.specs.Vnodes.{number_order, number_of_vnode, vnode_of, with_vnode, without_vnode, first_directory, made_vnode, rewritten_vnode, kib_of}
use Rattle.cell_core.specs.Volumes.{new_volume, updated_volume, within_limits, written_over, written_volume, removed_where, volume_without, backup_name, backup_copy, with_backup_date}
use Rattle.cell_core.proofs.OrderLaws.{placed_all, without_all}
use Rattle.cell_core.proofs.LookupLaws.{key_found}
use Rattle.cell_core.proofs.VnodeLaws.{AreKept, kept_in, kept_out, number_order_total, volume_with, volume_less}
use Rattle.cell_core.proofs.ChangeLaws.{fit_made}
use Rattle.cell_core.specs.Forms.{IsVolumeForm}
use Rattle.restore_target.specs.Targets.{restored_as}

-- ---- what vnodes use of a disk

kib_small : (vs : List Vnode) → kib_of vs ≤ data_of vs + length vs
kib_small [] = omega arith
kib_small (v ∷ vs) = omega (arith, kib_small vs, sum_by-cons (λ (w : Vnode). (length w.body + 1023) / 1024) v vs, sum_by-cons (λ (w : Vnode). length w.body) v vs)

-- ---- a new volume

no_bytes : IsBytes []
no_bytes = All-nil (λ (b : ℕ). b < 256)

no_message : IsMessage []
no_message = record { short = omega arith; each = All-nil (λ (b : ℕ). b ≡ 0 → ⊥) }

pub new_form : (id : ℕ) (name : List ℕ) (now : ℕ) → id < 2 ^ 32 → IsName name → IsFour now → IsVolumeForm (new_volume id name now)
new_form id name now fits named time =
    let n : now < 2 ^ 32 = omega (arith, time) in
    let z : 0 < 2 ^ 32 = omega arith in
    record {
      header = record {
        id = fits;
        stamp = z;
        name = named;
        in_service = omega arith;
        blessed = omega arith;
        uniq = omega arith;
        parent = z;
        clone_id = z;
        max_quota = z;
        min_quota = z;
        disk_used = z;
        file_count = z;
        account = z;
        owner = z;
        created = n;
        accessed = n;
        updated = n;
        expires = n;
        backed_up = n;
        offline = no_bytes;
        message = no_bytes;
        week = All-replicate (λ (x : ℕ). x < 2 ^ 32) 7 0 z;
        days = refl;
        day_date = n;
        day_use = z;
        updates = tt;
        limits = record { kind = omega arith; offline = no_message; message = no_message };
      };
      vnodes = All-cons AllowedVnode (first_directory now) [] (record {
        number = omega arith;
        uniq = omega arith;
        links = omega arith;
        data_version = z;
        modified = n;
        author = z;
        owner = z;
        group = z;
        mode = omega arith;
        parent = z;
        server_modified = n;
        access = All-replicate (λ (x : ℕ). x < 256) 192 0 (omega arith);
        access_len = refl;
        body = no_bytes;
      }) (All-nil AllowedVnode);
      fit = kept_out (first_directory now ∷ []) (record {
        few = omega arith;
        numbered = All-cons (λ (w : Vnode). 1 ≤ w.number) (first_directory now) [] (omega arith) (All-nil (λ (w : Vnode). 1 ≤ w.number));
        ascending = λ i j d lt within. absurd (omega (arith, lt, within));
        each = All-cons IsFitVnode (first_directory now) [] (record { kind = refl; access = tt; body = omega arith }) (All-nil IsFitVnode);
        small = omega arith;
      });
    }

-- ---- a header with other numbers

header_updated : (vs : List Vnode) (uniq now : ℕ) (v : VolumeFields) → AllowedHeader v.header → AreVolume vs → uniq < 2 ^ 32 → IsFour now → AllowedHeader (updated_volume vs uniq now v).header
header_updated vs uniq now v h fit next time =
    let kept : AreKept vs = kept_in vs fit in
    record {
      id = h.id;
      stamp = h.stamp;
      name = h.name;
      in_service = h.in_service;
      blessed = h.blessed;
      uniq = next;
      parent = h.parent;
      clone_id = h.clone_id;
      max_quota = h.max_quota;
      min_quota = h.min_quota;
      disk_used = omega (arith, kib_small vs, kept.few, kept.small);
      file_count = omega (arith, kept.few);
      account = h.account;
      owner = h.owner;
      created = h.created;
      accessed = h.accessed;
      updated = omega (arith, time);
      expires = h.expires;
      backed_up = h.backed_up;
      offline = h.offline;
      message = h.message;
      week = h.week;
      days = h.days;
      day_date = h.day_date;
      day_use = h.day_use;
      updates = h.updates;
      limits = record { kind = h.limits.kind; offline = h.limits.offline; message = h.limits.message };
    }

header_copied : (id now : ℕ) (v : VolumeFields) → AllowedHeader v.header → id < 2 ^ 32 → IsName (backup_name v.header.name) → IsFour now → AllowedHeader (backup_copy id now v).header
header_copied id now v h fits named time = record {
  id = fits;
  stamp = h.stamp;
  name = named;
  in_service = h.in_service;
  blessed = h.blessed;
  uniq = h.uniq;
  parent = h.id;
  clone_id = h.clone_id;
  max_quota = h.max_quota;
  min_quota = h.min_quota;
  disk_used = h.disk_used;
  file_count = h.file_count;
  account = h.account;
  owner = h.owner;
  created = omega (arith, time);
  accessed = h.accessed;
  updated = h.updated;
  expires = h.expires;
  backed_up = h.backed_up;
  offline = h.offline;
  message = h.message;
  week = h.week;
  days = h.days;
  day_date = h.day_date;
  day_use = h.day_use;
  updates = h.updates;
  limits = record { kind = omega arith; offline = h.limits.offline; message = h.limits.message };
}

header_dated : (now : ℕ) (v : VolumeFields) → AllowedHeader v.header → IsFour now → AllowedHeader (with_backup_date now v).header
header_dated now v h time = record {
  id = h.id;
  stamp = h.stamp;
  name = h.name;
  in_service = h.in_service;
  blessed = h.blessed;
  uniq = h.uniq;
  parent = h.parent;
  clone_id = h.clone_id;
  max_quota = h.max_quota;
  min_quota = h.min_quota;
  disk_used = h.disk_used;
  file_count = h.file_count;
  account = h.account;
  owner = h.owner;
  created = h.created;
  accessed = h.accessed;
  updated = h.updated;
  expires = h.expires;
  backed_up = omega (arith, time);
  offline = h.offline;
  message = h.message;
  week = h.week;
  days = h.days;
  day_date = h.day_date;
  day_use = h.day_use;
  updates = h.updates;
  limits = record { kind = h.limits.kind; offline = h.limits.offline; message = h.limits.message };
}

header_restored : (name : List ℕ) (id now : ℕ) (v : VolumeFields) → AllowedHeader v.header → id < 2 ^ 32 → IsName name → IsFour now → AllowedHeader (restored_as name id now v).header
header_restored name id now v h fits named time = record {
  id = fits;
  stamp = h.stamp;
  name = named;
  in_service = h.in_service;
  blessed = h.blessed;
  uniq = h.uniq;
  parent = h.parent;
  clone_id = h.clone_id;
  max_quota = h.max_quota;
  min_quota = h.min_quota;
  disk_used = h.disk_used;
  file_count = h.file_count;
  account = h.account;
  owner = h.owner;
  created = omega (arith, time);
  accessed = h.accessed;
  updated = h.updated;
  expires = h.expires;
  backed_up = h.backed_up;
  offline = h.offline;
  message = h.message;
  week = h.week;
  days = h.days;
  day_date = h.day_date;
  day_use = h.day_use;
  updates = h.updates;
  limits = record { kind = omega arith; offline = h.limits.offline; message = h.limits.message };
}

pub copied_form : (id now : ℕ) (v : VolumeFields) → IsVolumeForm v → id < 2 ^ 32 → IsName (backup_name v.header.name) → IsFour now → IsVolumeForm (backup_copy id now v)
copied_form id now v form fits named time = record { header = header_copied id now v form.header fits named time; vnodes = form.vnodes; fit = form.fit }

pub dated_form : (now : ℕ) (v : VolumeFields) → IsVolumeForm v → IsFour now → IsVolumeForm (with_backup_date now v)
dated_form now v form time = record { header = header_dated now v form.header time; vnodes = form.vnodes; fit = form.fit }

pub restored_form : (name : List ℕ) (id now : ℕ) (v : VolumeFields) → IsVolumeForm v → id < 2 ^ 32 → IsName name → IsFour now → IsVolumeForm (restored_as name id now v)
restored_form name id now v form fits named time = record { header = header_restored name id now v form.header fits named time; vnodes = form.vnodes; fit = form.fit }

updated_form : (vs : List Vnode) (uniq now : ℕ) (v : VolumeFields) → IsVolumeForm v → All AllowedVnode vs → AreVolume vs → uniq < 2 ^ 32 → IsFour now → IsVolumeForm (updated_volume vs uniq now v)
updated_form vs uniq now v form each fit next time = record { header = header_updated vs uniq now v form.header fit next time; vnodes = each; fit = fit }

-- ---- vnodes

rewritten_allowed : (body : List ℕ) (now : ℕ) (x : Vnode) → AllowedVnode x → IsBytes body → IsFour now → AllowedVnode (rewritten_vnode body now x)
rewritten_allowed body now x a bytes time = record {
  number = a.number;
  uniq = a.uniq;
  links = a.links;
  data_version = omega arith;
  modified = omega (arith, time);
  author = a.author;
  owner = a.owner;
  group = a.group;
  mode = a.mode;
  parent = a.parent;
  server_modified = omega (arith, time);
  access = a.access;
  access_len = a.access_len;
  body = bytes;
}

made_allowed : (number uniq : ℕ) (body : List ℕ) (now : ℕ) → number < 2 ^ 32 → uniq < 2 ^ 32 → IsBytes body → IsFour now → AllowedVnode (made_vnode number uniq body now)
made_allowed number uniq body now fits next bytes time = record {
  number = fits;
  uniq = next;
  links = omega arith;
  data_version = omega arith;
  modified = omega (arith, time);
  author = omega arith;
  owner = omega arith;
  group = omega arith;
  mode = omega arith;
  parent = omega arith;
  server_modified = omega (arith, time);
  access = All-replicate (λ (x : ℕ). x < 256) 192 0 (omega arith);
  access_len = refl;
  body = bytes;
}

-- ---- changes

record IsLimited (body : List ℕ) (volume w : VolumeFields) : Type 0 where
  is : volume ≡ w
  short : length body ≤ most_data
  few : length volume.vnodes ≤ most_vnodes
  small : data_of volume.vnodes ≤ all_data

limited : (body : List ℕ) (volume w : VolumeFields) → within_limits body volume ≡ Ok w → IsLimited body volume w
limited body volume w h = by (nat_le (length body) most_data && (nat_le (length volume.vnodes) most_vnodes && nat_le (data_of volume.vnodes) all_data)) refl h
  where
    by : (b : Bool) → (nat_le (length body) most_data && (nat_le (length volume.vnodes) most_vnodes && nat_le (data_of volume.vnodes) all_data)) ≡ b → (if b then Ok volume else Err TooLarge) ≡ Ok w → IsLimited body volume w
    by true is g =
        let outer = and_parts (nat_le (length body) most_data) (nat_le (length volume.vnodes) most_vnodes && nat_le (data_of volume.vnodes) all_data) is in
        let inner = and_parts (nat_le (length volume.vnodes) most_vnodes) (nat_le (data_of volume.vnodes) all_data) outer.1 in
        record { is = cc; short = leb-true (length body) most_data outer.0; few = leb-true (length volume.vnodes) most_vnodes inner.0; small = leb-true (data_of volume.vnodes) all_data inner.1 }
    by false is g = absurd cc

-- a change under which a volume keeps its name and its form
abbrev pub KeepsForm : (VolumeFields → Result VolumeFields CellFault) → Type 0
KeepsForm change = (v w : VolumeFields) → change v ≡ Ok w → IsVolumeForm v → (w.header.name ≡ v.header.name) × IsVolumeForm w

with_one : (x : Vnode) (body : List ℕ) (uniq now : ℕ) (v w : VolumeFields) → within_limits body (updated_volume (with_vnode x v.vnodes) uniq now v) ≡ Ok w → IsVolumeForm v → (length body ≤ most_data → IsFitVnode x) → 1 ≤ x.number → AllowedVnode x → uniq < 2 ^ 32 → IsFour now
    → (w.header.name ≡ v.header.name) × IsVolumeForm w
with_one x body uniq now v w h form fit numbered allowed next time =
    let l = limited body (updated_volume (with_vnode x v.vnodes) uniq now v) w h in (
      ap (λ (u : VolumeFields). u.header.name) (sym l.is),
      subst IsVolumeForm l.is
          (updated_form (with_vnode x v.vnodes) uniq now v form
          (placed_all number_order number_of_vnode number_order_total AllowedVnode x v.vnodes allowed form.vnodes)
          (volume_with x v.vnodes form.fit (fit l.short) numbered l.few l.small) next time),
    )

module _ (number : ℕ) (body : List ℕ) (now : ℕ) (fits : IsFour number) (bytes : IsBytes body) (time : IsFour now) where
  written_there : (o : Option Vnode) (v w : VolumeFields) → vnode_of number v.vnodes ≡ o → 1 ≤ number → written_over o v number body now ≡ Ok w → IsVolumeForm v → (w.header.name ≡ v.header.name) × IsVolumeForm w
  written_there (Some x) v w there one h form =
      let here = key_found number_order number_of_vnode number_order_total number v.vnodes x there in
      let kept = kept_in v.vnodes form.fit in
      let fit = All-contains IsFitVnode v.vnodes x kept.each here.0 in
      with_one (rewritten_vnode body now x) body v.header.uniq now v w h form (λ short. record { kind = fit.kind; access = fit.access; body = short })
      (All-contains (λ (y : Vnode). 1 ≤ y.number) v.vnodes x kept.numbered here.0) (rewritten_allowed body now x (All-contains AllowedVnode v.vnodes x form.vnodes here.0) bytes time) form.header.uniq time
  written_there None v w there one h form = by (v.header.uniq == 4294967295) refl h
    where
      by : (b : Bool) → (v.header.uniq == 4294967295) ≡ b → (if b then Err TooLarge else within_limits body (updated_volume (with_vnode (made_vnode number v.header.uniq body now) v.vnodes) (v.header.uniq + 1) now v)) ≡ Ok w
          → (w.header.name ≡ v.header.name) × IsVolumeForm w
      by true is g = absurd cc
      by false is g =
          let next : v.header.uniq + 1 < 2 ^ 32 = omega (arith, form.header.uniq, eqb-false v.header.uniq 4294967295 is) in
          with_one (made_vnode number v.header.uniq body now) body (v.header.uniq + 1) now v w g form (λ short. fit_made number v.header.uniq body now short) one (made_allowed number v.header.uniq body now (omega (arith, fits)) form.header.uniq bytes time) next time

  pub write_keeps : KeepsForm (written_volume number body now)
  write_keeps v w h form = by (number == 0) refl h
    where
      by : (b : Bool) → (number == 0) ≡ b → (if b then Err TooLarge else written_over (vnode_of number v.vnodes) v number body now) ≡ Ok w → (w.header.name ≡ v.header.name) × IsVolumeForm w
      by true is g = absurd cc
      by false is g = written_there (vnode_of number v.vnodes) v w refl (omega (arith, eqb-false number 0 is)) g form

removed_there : (o : Option Vnode) (number now : ℕ) (v w : VolumeFields) → IsFour now → removed_where o number now v ≡ Ok w → IsVolumeForm v → (w.header.name ≡ v.header.name) × IsVolumeForm w
removed_there None number now v w time h form = absurd cc
removed_there (Some x) number now v w time h form =
    let is : updated_volume (without_vnode number v.vnodes) v.header.uniq now v ≡ w = cc in (
      ap (λ (u : VolumeFields). u.header.name) (sym is),
      subst IsVolumeForm is
          (updated_form (without_vnode number v.vnodes) v.header.uniq now v form (without_all number_order number_of_vnode number_order_total AllowedVnode number v.vnodes form.vnodes) (volume_less number v.vnodes form.fit) form.header.uniq time),
    )

pub removal_keeps : (number now : ℕ) → IsFour now → KeepsForm (volume_without number now)
removal_keeps number now time v w h form = removed_there (vnode_of number v.vnodes) number now v w time h form
