-- What keeps a cell fair.
use Rattle.std.proofs.Common.{◌≡◌, ◌≢◌, ◌⊎◌, ℕ, ◌-◌, ◌<◌, ◌≤◌, take, length-append, true, false, cond, List, length, refl, sym, ◌∙◌, ap, subst, inl, inr, arith}
use Rattle.std.specs.Prelude.{Some, None, IfSome, All, Contains, ◌==◌}
use Rattle.std.specs.declared.cmp.Ordering.{Ordering}
use Rattle.std.specs.declared.cmp.Ordering.TheVariants.{Less, Equal, Greater}
use Rattle.std.specs.Cmp.Lexicographic.{nat_list_cmp_total}
use Rattle.std.proofs.lemmas.List.{append_cancel_right, take_at}
use Rattle.std.proofs.lemmas.List.Elements.{All-weaker, All-contains, All-contains_itself, Contains-get_or}
use Rattle.bk_text.specs.Bases.{backup_ending, is_backup_name, base_of}
use Rattle.vnode_model.specs.declared.vnodes.Vnode.{Vnode}
use Rattle.vnode_model.specs.declared.volumes.VolumeFields.{VolumeFields}
use Rattle.vnode_model.specs.Limits.{AreVolume}
use Rattle.vnode_model.specs.Increments.{Follows}
use Rattle.cell_core.specs.declared.stored.Stored.{Stored}
use Rattle.cell_core.specs.declared.stored.Image.TheVariants.{Good}
use Rattle.cell_core.specs.Volumes.{backup_name}
use Rattle.cell_core.specs.Listings.{name_order}
use Rattle.cell_core.specs.Cells.{name_of, stored_as, with_stored, without_stored, birth_of_image, birth_of, born}
use Rattle.cell_core.specs.Fairness.{Dumped, IsFairTo, Fair, IsNotMadeAfter, NoneIsMadeAfter}
use Rattle.cell_core.proofs.LookupLaws.{contains_placed, found_placed, found_beside, found_apart, found_without}
use Rattle.cell_core.proofs.CellLaws.{same_name}

-- ---- parts

is_equal : (o : Ordering) → (o ≡ Equal) ⊎ (o ≢ Equal)
is_equal Less = inr (λ e. cc)
is_equal Equal = inl refl
is_equal Greater = inr (λ e. cc)

-- what is found under a name beside one that is placed
pub found_with : (s : Stored) (cell : List Stored) (name : List ℕ) → (stored_as name (with_stored s cell) ≡ Some s) ⊎ (stored_as name (with_stored s cell) ≡ stored_as name cell)
found_with s cell name =
    elim (is_equal (name_order name s.name)) [
      | inl same ↦ inl (ap (λ (n : List ℕ). stored_as n (with_stored s cell)) (same_name name s.name same) ∙ found_placed name_order name_of nat_list_cmp_total s cell)
      | inr apart ↦ inr (found_beside name_order name_of nat_list_cmp_total name s apart cell)
    ]

pub found_less : (other : List ℕ) (cell : List Stored) (name : List ℕ) → (stored_as name (without_stored other cell) ≡ None) ⊎ (stored_as name (without_stored other cell) ≡ stored_as name cell)
found_less other cell name =
    elim (is_equal (name_order name other)) [
      | inl same ↦ inl (ap (λ (n : List ℕ). stored_as n (without_stored other cell)) (same_name name other same) ∙ found_without name_order name_of nat_list_cmp_total other cell)
      | inr apart ↦ inr (found_apart name_order name_of nat_list_cmp_total name other apart cell)
    ]

one_image : (s t : Stored) (v w : VolumeFields) → s ≡ t → s.image ≡ Good v → t.image ≡ Good w → v ≡ w
one_image s t v w same sv tw = let e : Good v ≡ Good w = sym sv ∙ (ap (λ (x : Stored). x.image) same ∙ tw) in good_parts v w e
  where
    good_parts : (a b : VolumeFields) → Good a ≡ Good b → a ≡ b
    good_parts a b h = cc

kinds_apart : (v : VolumeFields) → v.header.kind ≡ 0 → v.header.kind ≡ 2 → ⊥
kinds_apart v zero two = omega (arith, zero, two)

-- the birth of a volume goes by that of its base name, or by its own date
born_same : (cell new : List Stored) (v : VolumeFields) → birth_of (stored_as (base_of v.header.name) new) ≡ birth_of (stored_as (base_of v.header.name) cell) → born new v ≡ born cell v
born_same cell new v same = ap (λ (b : ℕ). cond (v.header.kind == 0) v.header.created b) same

born_else : (cell new : List Stored) (v : VolumeFields) (c least : ℕ) → c ≤ least → birth_of (stored_as (base_of v.header.name) new) ≡ least → (born new v ≡ born cell v) ⊎ (c ≤ born new v)
born_else cell new v c least low is =
    elim (v.header.kind == 0) as (λ b. (cond b v.header.created (birth_of (stored_as (base_of v.header.name) new)) ≡ cond b v.header.created (birth_of (stored_as (base_of v.header.name) cell))) ⊎ (c ≤ cond b v.header.created (birth_of (stored_as (base_of v.header.name) new)))) [
      | true ↦ inl refl
      | false ↦ inr (omega (arith, low, is))
    ]

base_of_backup : (name : List ℕ) → (base_of (backup_name name) ≡ name) ⊎ (base_of (backup_name name) ≡ backup_name name)
base_of_backup name =
    elim (is_backup_name (backup_name name)) as (λ b. (cond b (take (length (backup_name name) - 7) (backup_name name)) (backup_name name) ≡ name) ⊎ (cond b (take (length (backup_name name) - 7) (backup_name name)) (backup_name name) ≡ backup_name name)) [
      | true ↦ inl (take_at name backup_ending (length (backup_name name) - 7) (omega (arith, length-append name backup_ending)))
      | false ↦ inr refl
    ]

-- a volume stays fair where its birth is the same, or is late enough
fair_either : (b b' : ℕ) (new old : VolumeFields) (c : ℕ) → IsFairTo b new c old → (b' ≡ b) ⊎ (c ≤ b') → IsFairTo b' new c old
fair_either b b' new old c fair (inl same) = subst (λ (n : ℕ). IsFairTo n new c old) (sym same) fair
fair_either b b' new old c fair (inr late) = inl late

abbrev pub HasVolume : Dumped → Type 0
HasVolume d = IfSome d.volume (λ old. AreVolume old.vnodes)

pub fair_later : (cell : List Stored) (dumped : List Dumped) (time now : ℕ) → Fair cell dumped time → time ≤ now → Fair cell dumped now
fair_later cell dumped time now fair le = record {
  times = All-weaker (λ (d : Dumped). d.time ≤ time) (λ (d : Dumped). d.time ≤ now) (λ d h. omega (arith, h, le)) dumped fair.times;
  volumes = fair.volumes;
  own = fair.own;
  of_backup = fair.of_backup;
  backup = λ s new b old sc si sk bc bi bk bn. let h = fair.backup s new b old sc si sk bc bi bk bn in (omega (arith, h.0, le), h.1);
}

-- fewer dumps
pub fair_fewer : (cell : List Stored) (dumped less : List Dumped) (now : ℕ) → Fair cell dumped now → ((d : Dumped) → Contains less d → Contains dumped d) → Fair cell less now
fair_fewer cell dumped less now fair within = record {
  times = All-weaker (Contains less) (λ (d : Dumped). d.time ≤ now) (λ d there. All-contains (λ (e : Dumped). e.time ≤ now) dumped d fair.times (within d there)) less (All-contains_itself less);
  volumes = All-weaker (Contains less) HasVolume (λ d there. All-contains HasVolume dumped d fair.volumes (within d there)) less (All-contains_itself less);
  own = λ s new d old sc si cd di dn. fair.own s new d old sc si (within d cd) di dn;
  of_backup = λ s new d old sc si sk cd di dn. fair.of_backup s new d old sc si sk (within d cd) di dn;
  backup = fair.backup;
}

time_of : (dumped : List Dumped) (time : ℕ) (d : Dumped) → All (λ d. d.time ≤ time) dumped → Contains dumped d → d.time ≤ time
time_of dumped time d all there = All-contains (λ (e : Dumped). e.time ≤ time) dumped d all there

-- ---- a volume is changed

-- its vnodes are those that were there, or the server changed them now
pub record ChangedBy (now : ℕ) (v w : VolumeFields) : Type 0 where
  pub kind : w.header.kind ≡ v.header.kind
  pub created : w.header.created ≡ v.header.created
  pub vnodes : (x : Vnode) → Contains w.vnodes x → Contains v.vnodes x ⊎ (x.server_modified ≡ now)

follows_changed : (now : ℕ) (v w old : VolumeFields) (c : ℕ) → ChangedBy now v w → c ≤ now → Follows old c v → Follows old c w
follows_changed now v w old c change le follows k d lt before =
    elim (change.vnodes _ (Contains-get_or w.vnodes k d lt)) [
      | inl there ↦ All-contains (λ (x : Vnode). x.server_modified < c → Contains old.vnodes x) v.vnodes _ follows there before
      | inr is ↦ absurd (omega (arith, is, before, le))
    ]

fair_changed : (now b : ℕ) (v w old : VolumeFields) (c : ℕ) → ChangedBy now v w → c ≤ now → IsFairTo b v c old → IsFairTo b w c old
fair_changed now b v w old c change le (inl late) = inl late
fair_changed now b v w old c change le (inr follows) = inr (follows_changed now v w old c change le follows)

module _ (cell : List Stored) (dumped : List Dumped) (time now : ℕ) (fair : Fair cell dumped time) (le : time ≤ now) where
  module _ (s s' : Stored) (v w : VolumeFields) (there : Contains cell s) (s_is : s.image ≡ Good v) (kind : v.header.kind ≡ 0) (s'_is : s'.image ≡ Good w) (named : s'.name ≡ s.name) (found : stored_as s'.name cell ≡ Some s) (change : ChangedBy now v w) where
    births : (name : List ℕ) → birth_of (stored_as name (with_stored s' cell)) ≡ birth_of (stored_as name cell)
    births name =
        elim (is_equal (name_order name s'.name)) [
          | inl same ↦
              let e : name ≡ s'.name = same_name name s'.name same in
              ap (λ (n : List ℕ). birth_of (stored_as n (with_stored s' cell))) e ∙ (ap birth_of (found_placed name_order name_of nat_list_cmp_total s' cell) ∙ (ap birth_of_image s'_is ∙ (image_births ∙ (ap birth_of_image (sym s_is) ∙ (ap birth_of (sym found) ∙ ap (λ (n : List ℕ). birth_of (stored_as n cell)) (sym e))))))
          | inr apart ↦ ap birth_of (found_beside name_order name_of nat_list_cmp_total name s' apart cell)
        ]
      where
        image_births : birth_of_image (Good w) ≡ birth_of_image (Good v)
        image_births = ap (λ (k : ℕ). cond (k == 0) w.header.created 4294967295) change.kind ∙ ap (λ (k : ℕ). cond (v.header.kind == 0) k 4294967295) change.created

    births_kept : (new : VolumeFields) → born (with_stored s' cell) new ≡ born cell new
    births_kept new = born_same cell (with_stored s' cell) new (births (base_of new.header.name))

    own_birth : born cell w ≡ born cell v
    own_birth =
        ap (λ (k : ℕ). cond (k == 0) w.header.created (birth_of (stored_as (base_of w.header.name) cell))) (change.kind ∙ kind)
        ∙ (change.created ∙ sym (ap (λ (k : ℕ). cond (k == 0) v.header.created (birth_of (stored_as (base_of v.header.name) cell))) kind))

    pub changed_fair : Fair (with_stored s' cell) dumped now
    changed_fair = record {
      times = (fair_later cell dumped time now fair le).times;
      volumes = fair.volumes;
      own = λ t new d old ct ti cd di dn. elim (contains_placed name_order name_of nat_list_cmp_total s' cell t ct) [
        | inl same ↦
            subst (λ (x : VolumeFields). IsFairTo (born (with_stored s' cell) x) x d.time old) (one_image s' t w new same s'_is ti)
            (subst (λ (b : ℕ). IsFairTo b w d.time old) (sym (births_kept w ∙ own_birth))
            (fair_changed now (born cell v) v w old d.time change (omega (arith, time_of dumped time d fair.times cd, le)) (fair.own s v d old there s_is cd di (dn ∙ (sym (ap (λ (x : Stored). x.name) same) ∙ named)))))
        | inr o ↦ subst (λ (b : ℕ). IsFairTo b new d.time old) (sym (births_kept new)) (fair.own t new d old o.0 ti cd di dn)
      ];
      of_backup = λ t new d old ct ti tk cd di dn. elim (contains_placed name_order name_of nat_list_cmp_total s' cell t ct) [
        | inl same ↦
            subst (λ (x : VolumeFields). IsFairTo x.header.created x d.time old) (one_image s' t w new same s'_is ti)
            (subst (λ (b : ℕ). IsFairTo b w d.time old) (sym change.created)
            (fair_changed now v.header.created v w old d.time change (omega (arith, time_of dumped time d fair.times cd, le)) (fair.of_backup s v d old there s_is kind cd di (dn ∙ ap backup_name (sym (ap (λ (x : Stored). x.name) same) ∙ named)))))
        | inr o ↦ fair.of_backup t new d old o.0 ti tk cd di dn
      ];
      backup = λ t new b old ct ti tk cb bi bk bn. elim (contains_placed name_order name_of nat_list_cmp_total s' cell b cb) [
        | inl same_b ↦ absurd (bk (sym (ap (λ (x : VolumeFields). x.header.kind) (one_image s' b w old same_b s'_is bi)) ∙ (change.kind ∙ kind)))
        | inr ob ↦ elim (contains_placed name_order name_of nat_list_cmp_total s' cell t ct) [
          | inl same ↦
              let h = fair.backup s v b old there s_is kind ob.0 bi bk (bn ∙ ap backup_name (sym (ap (λ (x : Stored). x.name) same) ∙ named)) in (
                omega (arith, h.0, le),
                subst (λ (x : VolumeFields). IsFairTo x.header.created x old.header.created old) (one_image s' t w new same s'_is ti)
                    (subst (λ (n : ℕ). IsFairTo n w old.header.created old) (sym change.created) (fair_changed now v.header.created v w old old.header.created change (omega (arith, h.0, le)) h.1)),
              )
          | inr ot ↦ let h = fair.backup t new b old ot.0 ti tk ob.0 bi bk bn in (omega (arith, h.0, le), h.1)
        ]
      ];
    }

  -- ---- a read/write volume is made now

  module _ (s' : Stored) (n : VolumeFields) (s'_is : s'.image ≡ Good n) (kind : n.header.kind ≡ 0) (created : n.header.created ≡ now) (made : NoneIsMadeAfter now cell) where
    birth_now : birth_of_image s'.image ≡ now
    birth_now = ap birth_of_image s'_is ∙ (ap (λ (k : ℕ). cond (k == 0) n.header.created 4294967295) kind ∙ created)

    own_now : born (with_stored s' cell) n ≡ now
    own_now = ap (λ (k : ℕ). cond (k == 0) n.header.created (birth_of (stored_as (base_of n.header.name) (with_stored s' cell)))) kind ∙ created

    births_late : (new : VolumeFields) (c : ℕ) → c ≤ now → (born (with_stored s' cell) new ≡ born cell new) ⊎ (c ≤ born (with_stored s' cell) new)
    births_late new c low =
        elim (found_with s' cell (base_of new.header.name)) [
          | inl f ↦ born_else cell (with_stored s' cell) new c now low (ap birth_of f ∙ birth_now)
          | inr same ↦ inl (born_same cell (with_stored s' cell) new (ap birth_of same))
        ]

    made_before : (b : Stored) (old : VolumeFields) → Contains cell b → b.image ≡ Good old → old.header.created ≤ now
    made_before b old there is = subst (IsNotMadeAfter now) is (All-contains (λ (x : Stored). IsNotMadeAfter now x.image) cell b made there)

    pub made_fair : Fair (with_stored s' cell) dumped now
    made_fair = record {
      times = (fair_later cell dumped time now fair le).times;
      volumes = fair.volumes;
      own = λ t new d old ct ti cd di dn. elim (contains_placed name_order name_of nat_list_cmp_total s' cell t ct) [
        | inl same ↦ subst (λ (x : VolumeFields). IsFairTo (born (with_stored s' cell) x) x d.time old) (one_image s' t n new same s'_is ti) (inl (omega (arith, own_now, time_of dumped time d fair.times cd, le)))
        | inr o ↦ fair_either (born cell new) (born (with_stored s' cell) new) new old d.time (fair.own t new d old o.0 ti cd di dn) (births_late new d.time (omega (arith, time_of dumped time d fair.times cd, le)))
      ];
      of_backup = λ t new d old ct ti tk cd di dn. elim (contains_placed name_order name_of nat_list_cmp_total s' cell t ct) [
        | inl same ↦ subst (λ (x : VolumeFields). IsFairTo x.header.created x d.time old) (one_image s' t n new same s'_is ti) (inl (omega (arith, created, time_of dumped time d fair.times cd, le)))
        | inr o ↦ fair.of_backup t new d old o.0 ti tk cd di dn
      ];
      backup = λ t new b old ct ti tk cb bi bk bn. elim (contains_placed name_order name_of nat_list_cmp_total s' cell b cb) [
        | inl same_b ↦ absurd (bk (sym (ap (λ (x : VolumeFields). x.header.kind) (one_image s' b n old same_b s'_is bi)) ∙ kind))
        | inr ob ↦ elim (contains_placed name_order name_of nat_list_cmp_total s' cell t ct) [
          | inl same ↦
              let before = made_before b old ob.0 bi in
              (before, subst (λ (x : VolumeFields). IsFairTo x.header.created x old.header.created old) (one_image s' t n new same s'_is ti) (inl (omega (arith, created, before))))
          | inr ot ↦ let h = fair.backup t new b old ot.0 ti tk ob.0 bi bk bn in (omega (arith, h.0, le), h.1)
        ]
      ];
    }

  -- ---- a backup volume is made now

  module _ (s copy : Stored) (v n : VolumeFields) (there : Contains cell s) (s_is : s.image ≡ Good v) (kind : v.header.kind ≡ 0) (found : stored_as s.name cell ≡ Some s) (one : (t : Stored) → Contains cell t → t.name ≡ s.name → t ≡ s)
      (copy_is : copy.image ≡ Good n) (copy_name : copy.name ≡ backup_name s.name) (n_kind : n.header.kind ≡ 2) (n_created : n.header.created ≡ now) (n_name : n.header.name ≡ backup_name s.name) (n_vnodes : n.vnodes ≡ v.vnodes) (fits : now ≤ 4294967295) where
    copy_birth : birth_of_image copy.image ≡ 4294967295
    copy_birth = ap birth_of_image copy_is ∙ ap (λ (k : ℕ). cond (k == 0) n.header.created 4294967295) n_kind

    births_end : (new : VolumeFields) (c : ℕ) → c ≤ now → (born (with_stored copy cell) new ≡ born cell new) ⊎ (c ≤ born (with_stored copy cell) new)
    births_end new c low =
        elim (found_with copy cell (base_of new.header.name)) [
          | inl f ↦ born_else cell (with_stored copy cell) new c 4294967295 (omega (arith, low, fits)) (ap birth_of f ∙ copy_birth)
          | inr same ↦ inl (born_same cell (with_stored copy cell) new (ap birth_of same))
        ]

    by_base : born (with_stored copy cell) n ≡ birth_of (stored_as (base_of (backup_name s.name)) (with_stored copy cell))
    by_base =
        ap (λ (k : ℕ). cond (k == 0) n.header.created (birth_of (stored_as (base_of n.header.name) (with_stored copy cell)))) n_kind
        ∙ ap (λ (m : List ℕ). birth_of (stored_as (base_of m) (with_stored copy cell))) n_name

    -- it is as old as its volume
    copy_born : (born (with_stored copy cell) n ≡ v.header.created) ⊎ (now ≤ born (with_stored copy cell) n)
    copy_born =
        elim (base_of_backup s.name) [
          | inl base ↦ elim (found_with copy cell s.name) [
            | inl f ↦ inr (omega (arith, by_base ∙ (ap (λ (m : List ℕ). birth_of (stored_as m (with_stored copy cell))) base ∙ (ap birth_of f ∙ copy_birth)), fits))
            | inr f ↦ inl (by_base ∙ (ap (λ (m : List ℕ). birth_of (stored_as m (with_stored copy cell))) base ∙ (ap birth_of (f ∙ found) ∙ (ap birth_of_image s_is ∙ ap (λ (k : ℕ). cond (k == 0) v.header.created 4294967295) kind))))
          ]
          | inr whole ↦
              let f : stored_as (backup_name s.name) (with_stored copy cell) ≡ Some copy = ap (λ (m : List ℕ). stored_as m (with_stored copy cell)) (sym copy_name) ∙ found_placed name_order name_of nat_list_cmp_total copy cell in
              inr (omega (arith, by_base ∙ (ap (λ (m : List ℕ). birth_of (stored_as m (with_stored copy cell))) whole ∙ (ap birth_of f ∙ copy_birth)), fits))
        ]

    as_copied : (b : ℕ) (old : VolumeFields) (c : ℕ) → IsFairTo b v c old → IsFairTo b n c old
    as_copied b old c (inl late) = inl late
    as_copied b old c (inr follows) = inr (subst (All (λ (x : Vnode). x.server_modified < c → Contains old.vnodes x)) (sym n_vnodes) follows)

    copy_fair : (d : Dumped) (old : VolumeFields) → d.time ≤ now → IsFairTo v.header.created v d.time old → IsFairTo (born (with_stored copy cell) n) n d.time old
    copy_fair d old low h =
        elim copy_born [
          | inl same ↦ subst (λ (b : ℕ). IsFairTo b n d.time old) (sym same) (as_copied v.header.created old d.time h)
          | inr late ↦ inl (omega (arith, late, low))
        ]

    pub copied_fair : Fair (with_stored copy cell) dumped now
    copied_fair = record {
      times = (fair_later cell dumped time now fair le).times;
      volumes = fair.volumes;
      own = λ t new d old ct ti cd di dn. elim (contains_placed name_order name_of nat_list_cmp_total copy cell t ct) [
        | inl same ↦
            let low : d.time ≤ now = omega (arith, time_of dumped time d fair.times cd, le) in
            subst (λ (x : VolumeFields). IsFairTo (born (with_stored copy cell) x) x d.time old) (one_image copy t n new same copy_is ti)
            (copy_fair d old low (fair.of_backup s v d old there s_is kind cd di (dn ∙ (sym (ap (λ (x : Stored). x.name) same) ∙ copy_name))))
        | inr o ↦ fair_either (born cell new) (born (with_stored copy cell) new) new old d.time (fair.own t new d old o.0 ti cd di dn) (births_end new d.time (omega (arith, time_of dumped time d fair.times cd, le)))
      ];
      of_backup = λ t new d old ct ti tk cd di dn. elim (contains_placed name_order name_of nat_list_cmp_total copy cell t ct) [
        | inl same ↦ absurd (kinds_apart n (ap (λ (x : VolumeFields). x.header.kind) (one_image copy t n new same copy_is ti) ∙ tk) n_kind)
        | inr o ↦ fair.of_backup t new d old o.0 ti tk cd di dn
      ];
      backup = λ t new b old ct ti tk cb bi bk bn. elim (contains_placed name_order name_of nat_list_cmp_total copy cell t ct) [
        | inl same ↦ absurd (kinds_apart n (ap (λ (x : VolumeFields). x.header.kind) (one_image copy t n new same copy_is ti) ∙ tk) n_kind)
        | inr ot ↦ elim (contains_placed name_order name_of nat_list_cmp_total copy cell b cb) [
          | inl same_b ↦
              let e : n ≡ old = one_image copy b n old same_b copy_is bi in
              let named : t.name ≡ s.name = append_cancel_right t.name s.name backup_ending (sym bn ∙ (sym (ap (λ (x : Stored). x.name) same_b) ∙ copy_name)) in
              let same : v ≡ new = one_image s t v new (sym (one t ot.0 named)) s_is ti in
              let created : old.header.created ≡ now = ap (λ (x : VolumeFields). x.header.created) (sym e) ∙ n_created in (
                omega (arith, created),
                subst (λ (x : VolumeFields). IsFairTo x.header.created x old.header.created old) same
                    (inr (All-weaker (Contains v.vnodes) (λ (x : Vnode). x.server_modified < old.header.created → Contains old.vnodes x) (λ x h _. subst (λ (l : List Vnode). Contains l x) (sym n_vnodes ∙ ap (λ (y : VolumeFields). y.vnodes) e) h) v.vnodes (All-contains_itself v.vnodes))),
              )
          | inr ob ↦ let h = fair.backup t new b old ot.0 ti tk ob.0 bi bk bn in (omega (arith, h.0, le), h.1)
        ]
      ];
    }

  -- ---- some are taken away

  module _ (less : List Stored) (contained : (t : Stored) → Contains less t → Contains cell t) (births : (name : List ℕ) → (birth_of (stored_as name less) ≡ birth_of (stored_as name cell)) ⊎ (birth_of (stored_as name less) ≡ 4294967295)) (fits : now ≤ 4294967295) where
    births_less : (new : VolumeFields) (c : ℕ) → c ≤ now → (born less new ≡ born cell new) ⊎ (c ≤ born less new)
    births_less new c low =
        elim (births (base_of new.header.name)) [
          | inl same ↦ inl (born_same cell less new same)
          | inr late ↦ born_else cell less new c 4294967295 (omega (arith, low, fits)) late
        ]

    pub less_fair : Fair less dumped now
    less_fair = record {
      times = (fair_later cell dumped time now fair le).times;
      volumes = fair.volumes;
      own = λ t new d old ct ti cd di dn. fair_either (born cell new) (born less new) new old d.time (fair.own t new d old (contained t ct) ti cd di dn) (births_less new d.time (omega (arith, time_of dumped time d fair.times cd, le)));
      of_backup = λ t new d old ct ti tk cd di dn. fair.of_backup t new d old (contained t ct) ti tk cd di dn;
      backup = λ t new b old ct ti tk cb bi bk bn. let h = fair.backup t new b old (contained t ct) ti tk (contained b cb) bi bk bn in (omega (arith, h.0, le), h.1);
    }
