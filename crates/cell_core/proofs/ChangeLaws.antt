-- What a volume is after a change of its vnodes.
use Rattle.std.proofs.Common.{◌≡◌, ℕ, ◌+◌, ◌/◌, ◌%◌, ◌<◌, ◌≤◌, true, false, cond, eqb, List, ◌∷◌, length, take, drop, get_or, set, refl, sym, ◌∙◌, ap, subst, arith}
use Rattle.std.specs.Prelude.{◌&&◌, nat_le, Option, Some, Ok, Err, replicate}
use Rattle.std.specs.List.{insert, remove}
use Rattle.std.proofs.lemmas.Bool.{cond-true, cond-false, eqb-true, eqb-false, and_from, and_left, and_right, le-leb, lt-leb}
use Rattle.std.proofs.lemmas.Bool.Decides.{nat_tests}
use Rattle.std.proofs.lemmas.Cmp.{tied_itself}
use Rattle.std.proofs.lemmas.List.{get_or_default, length-set}
use Rattle.std.proofs.lemmas.List.Edits.{length-insert}
use Rattle.std.proofs.lemmas.List.Sums.{sum_by-set, sum_by-append, sum_by-cons, sum_by_more, sum_by-take-drop}
use Rattle.std.specs.declared.cmp.Ordering.TheVariants.{Equal}
use Rattle.vnode_model.specs.declared.vnodes.Vnode.{Vnode}
use Rattle.vnode_model.specs.declared.headers.HeaderFields.{HeaderFields}
use Rattle.vnode_model.specs.declared.volumes.VolumeFields.{VolumeFields}
use Rattle.std.specs.Int.{div_ceil}
use Rattle.vnode_model.specs.declared.vnodes.VnodeKind.TheVariants.{File, Directory}
use Rattle.vnode_model.specs.Limits.{KindFits, AccessFits, IsFitVnode, AreVolume, most_vnodes, most_data, all_data}
use Rattle.vnode_model.specs.Increments.{data_of}
use Rattle.cell_core.specs.declared.fault.CellFault.TheVariants.{TooLarge}
use Rattle.cell_core.specs.Places.{FoundAt, FreeAt}
use Rattle.cell_core.specs.Vnodes.{number_order, number_of_vnode, vnode_of, with_vnode, kind_of_number, made_vnode, rewritten_vnode, kib_of}
use Rattle.cell_core.specs.Volumes.{within_limits, updated_header, updated_volume, written_over}
use Rattle.cell_core.specs.Changing.{volume_from}
use Rattle.cell_core.proofs.OrderLaws.{found_at, placed_found, placed_free}
use Rattle.cell_core.proofs.VnodeLaws.{kept_in, number_order_total, equal_same, volume_with, volume_less, are_ascending}

-- ---- limits

pub limits_ok : (body : List ℕ) (volume : VolumeFields) → length body ≤ most_data → length volume.vnodes ≤ most_vnodes → data_of volume.vnodes ≤ all_data → within_limits body volume ≡ Ok volume
limits_ok body volume short few small =
    cond-true (nat_le (length body) most_data && (nat_le (length volume.vnodes) most_vnodes && nat_le (data_of volume.vnodes) all_data)) (Ok volume) (Err TooLarge)
    (and_from (nat_le (length body) most_data) (nat_le (length volume.vnodes) most_vnodes && nat_le (data_of volume.vnodes) all_data) (le-leb (length body) most_data short)
    (and_from (nat_le (length volume.vnodes) most_vnodes) (nat_le (data_of volume.vnodes) all_data) (le-leb (length volume.vnodes) most_vnodes few) (le-leb (data_of volume.vnodes) all_data small)))

pub limits_body : (body : List ℕ) (volume : VolumeFields) → most_data < length body → within_limits body volume ≡ Err TooLarge
limits_body body volume long =
    cond-false (nat_le (length body) most_data && (nat_le (length volume.vnodes) most_vnodes && nat_le (data_of volume.vnodes) all_data)) (Ok volume) (Err TooLarge)
    (and_left (nat_le (length body) most_data) (nat_le (length volume.vnodes) most_vnodes && nat_le (data_of volume.vnodes) all_data) (lt-leb (length body) most_data long))

pub limits_count : (body : List ℕ) (volume : VolumeFields) → most_vnodes < length volume.vnodes → within_limits body volume ≡ Err TooLarge
limits_count body volume many =
    cond-false (nat_le (length body) most_data && (nat_le (length volume.vnodes) most_vnodes && nat_le (data_of volume.vnodes) all_data)) (Ok volume) (Err TooLarge)
    (and_right (nat_le (length body) most_data) (nat_le (length volume.vnodes) most_vnodes && nat_le (data_of volume.vnodes) all_data)
    (and_left (nat_le (length volume.vnodes) most_vnodes) (nat_le (data_of volume.vnodes) all_data) (lt-leb (length volume.vnodes) most_vnodes many)))

pub limits_data : (body : List ℕ) (volume : VolumeFields) → all_data < data_of volume.vnodes → within_limits body volume ≡ Err TooLarge
limits_data body volume large =
    cond-false (nat_le (length body) most_data && (nat_le (length volume.vnodes) most_vnodes && nat_le (data_of volume.vnodes) all_data)) (Ok volume) (Err TooLarge)
    (and_right (nat_le (length body) most_data) (nat_le (length volume.vnodes) most_vnodes && nat_le (data_of volume.vnodes) all_data)
    (and_right (nat_le (length volume.vnodes) most_vnodes) (nat_le (data_of volume.vnodes) all_data) (lt-leb (data_of volume.vnodes) all_data large)))

-- ---- a vnode that is there

module _ (vs : List Vnode) (at : ℕ) (v : Vnode) (body : List ℕ) (now : ℕ) (fit : AreVolume vs) (within : at < length vs) (v_is : v ≡ get_or vs at v) where
  -- the data of all, with the new data in place of the old
  data_there : data_of (set vs at (rewritten_vnode body now v)) + length v.body ≡ data_of vs + length body
  data_there = ap (λ (x : Vnode). data_of (set vs at (rewritten_vnode body now v)) + length x.body) v_is ∙ sum_by-set (λ (x : Vnode). length x.body) vs at (rewritten_vnode body now v) v within

  found_there : FoundAt number_order number_of_vnode v.number vs at
  found_there =
      found_at number_order number_of_vnode number_order_total v.number vs at (are_ascending vs fit.ordered) within
      (λ d. subst (λ (x : Vnode). number_order x.number v.number ≡ Equal) (v_is ∙ get_or_default vs at v d within) (tied_itself number_order_total v.number))

  here : with_vnode (rewritten_vnode body now v) vs ≡ set vs at (rewritten_vnode body now v)
  here = placed_found number_order number_of_vnode v.number vs at (rewritten_vnode body now v) found_there refl

  fit_there : IsFitVnode v
  fit_there = subst IsFitVnode (sym v_is) ((kept_in vs fit).each at v within)

  pub volume_there : length body ≤ most_data → data_of vs + length body ≤ all_data + length v.body → AreVolume (set vs at (rewritten_vnode body now v))
  volume_there short small =
      let fit_v = fit_there in
      let numbered : 1 ≤ v.number = subst (λ (x : Vnode). 1 ≤ x.number) (sym v_is) ((kept_in vs fit).numbered at v within) in
      subst AreVolume here
      (volume_with (rewritten_vnode body now v) vs fit (record { kind = fit_v.kind; access = fit_v.access; body = short }) numbered
      (rw here (omega (arith, length-set vs at (rewritten_vnode body now v), (kept_in vs fit).few)))
      (rw here (omega (arith, data_there, small))))

  module _ (k : ℕ) (found : FoundAt number_order number_of_vnode k vs at) where
    there : vnode_of k vs ≡ Some v
    there = found.there v ∙ ap Some (sym v_is)

    pub long_there : (header : HeaderFields) → most_data < length body → written_over (vnode_of k vs) (volume_from header vs) k body now ≡ Err TooLarge
    long_there header long =
        ap (λ (o : Option Vnode). written_over o (volume_from header vs) k body now) there
        ∙ limits_body body (updated_volume (with_vnode (rewritten_vnode body now v) vs) header.uniq now (volume_from header vs)) long

    pub large_there : (header : HeaderFields) → all_data + length v.body < data_of vs + length body → written_over (vnode_of k vs) (volume_from header vs) k body now ≡ Err TooLarge
    large_there header large =
        ap (λ (o : Option Vnode). written_over o (volume_from header vs) k body now) there
        ∙ limits_data body (updated_volume (with_vnode (rewritten_vnode body now v) vs) header.uniq now (volume_from header vs)) (rw here (omega (arith, data_there, large)))

    pub written_there : (header : HeaderFields) → length body ≤ most_data → data_of vs + length body ≤ all_data + length v.body
        → written_over (vnode_of k vs) (volume_from header vs) k body now ≡ Ok (volume_from (updated_header (set vs at (rewritten_vnode body now v)) now header) (set vs at (rewritten_vnode body now v)))
    written_there header short small =
        let kept = kept_in (set vs at (rewritten_vnode body now v)) (volume_there short small) in
        ap (λ (o : Option Vnode). written_over o (volume_from header vs) k body now) there
        ∙ (ap (λ (l : List Vnode). within_limits body (updated_volume l header.uniq now (volume_from header vs))) here
        ∙ limits_ok body (updated_volume (set vs at (rewritten_vnode body now v)) header.uniq now (volume_from header vs)) short kept.few kept.small)

-- ---- a vnode that is made

kind_fits : (number : ℕ) → KindFits (kind_of_number number) number
kind_fits number =
    elim (eqb (number % 2) 1) as (λ b. eqb (number % 2) 1 ≡ b → KindFits (cond b Directory File) number) [
      | true ↦ λ e. eqb-true (number % 2) 1 e
      | false ↦ λ e. omega (arith, eqb-false (number % 2) 1 e)
    ] refl

access_fits : (number : ℕ) → AccessFits (kind_of_number number) (replicate 192 0)
access_fits number = elim (eqb (number % 2) 1) as (λ b. AccessFits (cond b Directory File) (replicate 192 0)) [ true ↦ tt | false ↦ refl ]

data_inserted : (ws : List Vnode) (i : ℕ) (x : Vnode) → data_of (insert ws i x) ≡ data_of ws + length x.body
data_inserted ws i x =
    let f : Vnode → ℕ = λ (v : Vnode). length v.body in
    omega (arith, sum_by-append f (take i ws) (x ∷ drop i ws), sum_by-cons f x (drop i ws), sum_by-take-drop f ws i)

pub fit_made : (number uniq : ℕ) (body : List ℕ) (now : ℕ) → length body ≤ most_data → IsFitVnode (made_vnode number uniq body now)
fit_made number uniq body now short = record { kind = kind_fits number; access = access_fits number; body = short }

pub volume_made : (vs : List Vnode) (at number uniq : ℕ) (body : List ℕ) (now : ℕ) → AreVolume vs → FreeAt number_order number_of_vnode number vs at → 1 ≤ number → length vs < most_vnodes → length body ≤ most_data → data_of vs + length body ≤ all_data → AreVolume (insert vs at (made_vnode number uniq body now))
volume_made vs at number uniq body now fit free numbered few short small =
    let v : Vnode = made_vnode number uniq body now in
    let same : with_vnode v vs ≡ insert vs at v = placed_free number_order number_of_vnode number vs at v free refl in
    subst AreVolume same
    (volume_with v vs fit (fit_made number uniq body now short) numbered
    (rw same (omega (arith, length-insert vs at v free.within, few)))
    (rw same (omega (arith, data_inserted vs at v, small))))

-- ---- a vnode that is taken away

pub volume_removed : (vs : List Vnode) (at k : ℕ) → AreVolume vs → FoundAt number_order number_of_vnode k vs at → AreVolume (remove vs at)
volume_removed vs at k fit found = subst AreVolume found.others (volume_less k vs fit)

-- ---- KiB

pub kib_is : (n : ℕ) → div_ceil n 1024 ≡ (n + 1023) / 1024
kib_is n = grind (arith, nat_tests)

pub kib_short : (n : ℕ) → n ≤ most_data → div_ceil n 1024 ≤ 16384
kib_short n short = rw (kib_is n) (omega (arith, short))

pub kib_more : (vs : List Vnode) (i : ℕ) (v : Vnode) → i < length vs → v ≡ get_or vs i v → kib_of (take i vs) + div_ceil (length v.body) 1024 ≡ kib_of (take (i + 1) vs)
kib_more vs i v lt is =
    ap (λ (k : ℕ). kib_of (take i vs) + k) (kib_is (length v.body))
    ∙ (ap (λ (x : Vnode). kib_of (take i vs) + (length x.body + 1023) / 1024) is ∙ sym (sum_by_more (λ (x : Vnode). (length x.body + 1023) / 1024) vs i v lt))
