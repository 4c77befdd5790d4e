-- A dump of a clone keeps a cell fair, and a clone is fair to what was dumped of it.
use Rattle.std.proofs.Common.{zero, suc, ◌≡◌, ◌⊎◌, ℕ, ◌<◌, ◌≤◌, true, false, cond, List, ◌∷◌, refl, sym, ◌∙◌, ap, subst, inl, inr, arith}
use Rattle.std.specs.Prelude.{Option, Some, None, IfSome, Contains, ◌==◌, slice_get}
use Rattle.std.specs.declared.cmp.Ordering.TheVariants.{Equal}
use Rattle.std.specs.Cmp.Lexicographic.{nat_list_cmp_total}
use Rattle.std.proofs.lemmas.Bool.{eqb-true, eqb-false}
use Rattle.std.proofs.lemmas.Cmp.{tied_itself}
use Rattle.std.proofs.lemmas.Option.{slice_get_within, get_or_from_slice_get}
use Rattle.std.proofs.lemmas.List.Elements.{All-cons, All-weaker, All-contains, All-contains_itself}
use Rattle.vnode_model.specs.declared.vnodes.Vnode.{Vnode}
use Rattle.vnode_model.specs.declared.volumes.VolumeFields.{VolumeFields}
use Rattle.vnode_model.specs.Limits.{AreVolume}
use Rattle.cell_core.specs.declared.stored.Stored.{Stored}
use Rattle.cell_core.specs.declared.stored.Image.{Image}
use Rattle.cell_core.specs.declared.stored.Image.TheVariants.{Good, Bad}
use Rattle.cell_core.specs.declared.stored.Taken.{Taken}
use Rattle.cell_core.specs.Volumes.{backup_name}
use Rattle.cell_core.specs.Listings.{name_order}
use Rattle.cell_core.specs.Cells.{IsCell, IsImageOf, name_of, born}
use Rattle.cell_core.specs.Calls.{clone_time, clone_of_image, clone_of, clone_at}
use Rattle.cell_core.specs.Fairness.{Dumped, dumped_from, IsFairTo, Fair, IsNotMadeAfter, NoneIsMadeAfter, IsNoSourceUnder, NoSourceHasBackupName}
use Rattle.cell_core.proofs.LookupLaws.{alone}
use Rattle.cell_core.proofs.FairLaws.{HasVolume}

good_parts : (a b : VolumeFields) → Good a ≡ Good b → a ≡ b
good_parts a b h = cc

some_parts : (a b : VolumeFields) → Some a ≡ Some b → a ≡ b
some_parts a b h = cc

-- a volume that stands in a cell, and its clone
record ClonedAt (cell : List Stored) (now : ℕ) (clone : Taken) : Type 0 where
  s : Stored
  v : VolumeFields
  there : Contains cell s
  image : s.image ≡ Good v
  is : clone ≡ record { time = clone_time v now; born = born cell v; volume = v }

cloned_at : (cell : List Stored) (i now : ℕ) (clone : Taken) → clone_at cell i now ≡ Some clone → ClonedAt cell now clone
cloned_at cell i now clone h = found (slice_get cell i) refl h
  where
    by : (s : Stored) (image : Image) → slice_get cell i ≡ Some s → s.image ≡ image → clone_of_image cell image now ≡ Some clone → ClonedAt cell now clone
    by s (Good v) at is g = record {
      s = s;
      v = v;
      there = (i, slice_get_within cell i s at, get_or_from_slice_get cell i s s at);
      image = is;
      is = cc;
    }
    by s (Bad p) at is g = absurd cc

    found : (o : Option Stored) → slice_get cell i ≡ o → clone_of cell o now ≡ Some clone → ClonedAt cell now clone
    found (Some s) at g = by s s.image at refl g
    found None at g = absurd cc

kind_cases : (n : ℕ) → (n ≡ 0) ⊎ (n ≡ 0 → ⊥)
kind_cases n = elim (n == 0) as (λ b. (n == 0) ≡ b → (n ≡ 0) ⊎ (n ≡ 0 → ⊥)) [ true ↦ λ e. inl (eqb-true n 0 e) | false ↦ λ e. inr (eqb-false n 0 e) ] refl

module _ (cell : List Stored) (is : IsCell cell) where
  volume_of : (s : Stored) (v : VolumeFields) → Contains cell s → s.image ≡ Good v → (v.header.name ≡ s.name) × AreVolume v.vnodes
  volume_of s v there s_is = subst (IsImageOf s.name) s_is (All-contains (λ (t : Stored). IsImageOf t.name t.image) cell s is.images there)

  module _ (dumped : List Dumped) (time : ℕ) (s : Stored) (v : VolumeFields) (fair : Fair cell dumped time) (made : NoneIsMadeAfter time cell) (sources : NoSourceHasBackupName cell) (there : Contains cell s) (s_is : s.image ≡ Good v) where
    abbrev pub dump : Dumped
    dump = record { name = v.header.name; time = clone_time v time; volume = Some v }

    created : v.header.created ≤ time
    created = subst (IsNotMadeAfter time) s_is (All-contains (λ (x : Stored). IsNotMadeAfter time x.image) cell s made there)

    of_source : v.header.kind ≡ 0 → clone_time v time ≡ time
    of_source h = ap (λ (k : ℕ). cond (k == 0) time v.header.created) h

    of_copy : (v.header.kind ≡ 0 → ⊥) → clone_time v time ≡ v.header.created
    of_copy h = elim (v.header.kind == 0) as (λ b. (v.header.kind == 0) ≡ b → cond b time v.header.created ≡ v.header.created) [ true ↦ λ e. absurd (h (eqb-true v.header.kind 0 e)) | false ↦ λ e. refl ] refl

    before : clone_time v time ≤ time
    before = elim (kind_cases v.header.kind) [
      | inl h ↦ omega (arith, of_source h)
      | inr h ↦ omega (arith, of_copy h, created)
    ]

    cases : (d : Dumped) → Contains (dump ∷ dumped) d → (dump ≡ d) ⊎ Contains dumped d
    cases d (zero, lt, e) = inl e
    cases d (suc k, lt, e) = inr (k, omega (arith, lt), e)

    fair_self : (b c : ℕ) → IsFairTo b v c v
    fair_self b c = inr (All-weaker (Contains v.vnodes) (λ (x : Vnode). x.server_modified < c → Contains v.vnodes x) (λ x h _. h) v.vnodes (All-contains_itself v.vnodes))

    volume_is : (d : Dumped) (old : VolumeFields) → dump ≡ d → d.volume ≡ Some old → v ≡ old
    volume_is d old same di = some_parts v old (ap (λ (x : Dumped). x.volume) same ∙ di)

    name_is : s.name ≡ v.header.name
    name_is = sym (volume_of s v there s_is).0

    pub dump_fair : Fair cell (dump ∷ dumped) time
    dump_fair = record {
      times = All-cons (λ (d : Dumped). d.time ≤ time) dump dumped before fair.times;
      volumes = All-cons HasVolume dump dumped (volume_of s v there s_is).1 fair.volumes;
      own = λ t n d old ct ti cd di dn. elim (cases d cd) [
        | inl same ↦
            let name : s.name ≡ t.name = name_is ∙ (ap (λ (x : Dumped). x.name) same ∙ dn) in
            let ts : t ≡ s = alone name_order name_of nat_list_cmp_total cell t s is.ordered ct there (subst (λ (m : List ℕ). name_order m s.name ≡ Equal) name (tied_itself nat_list_cmp_total s.name)) in
            let nv : v ≡ n = good_parts v n (sym s_is ∙ (ap (λ (x : Stored). x.image) (sym ts) ∙ ti)) in
            subst (λ (x : VolumeFields). IsFairTo (born cell n) n d.time x) (volume_is d old same di)
            (subst (λ (x : VolumeFields). IsFairTo (born cell n) x d.time v) nv (fair_self (born cell n) d.time))
        | inr o ↦ fair.own t n d old ct ti o di dn
      ];
      of_backup = λ t n d old ct ti tk cd di dn. elim (cases d cd) [
        | inl same ↦
            let name : s.name ≡ backup_name t.name = name_is ∙ (ap (λ (x : Dumped). x.name) same ∙ dn) in
            elim (kind_cases v.header.kind) [
              | inl h ↦ absurd (All-contains (λ (x : Stored). IsNoSourceUnder x.name x.image) cell s sources there t.name v name s_is h)
              | inr h ↦
                  let when : v.header.created ≡ d.time = sym (of_copy h) ∙ ap (λ (x : Dumped). x.time) same in
                  subst (λ (x : VolumeFields). IsFairTo n.header.created n d.time x) (volume_is d old same di)
                  (subst (λ (c : ℕ). IsFairTo n.header.created n c v) when (fair.backup t n s v ct ti tk there s_is h name).1)
            ]
        | inr o ↦ fair.of_backup t n d old ct ti tk o di dn
      ];
      backup = fair.backup;
    }

  pub clone_dump_fair : (dumped : List Dumped) (time i : ℕ) (clone : Taken) → Fair cell dumped time → NoneIsMadeAfter time cell → NoSourceHasBackupName cell → clone_at cell i time ≡ Some clone → Fair cell (dumped_from clone ∷ dumped) time
  clone_dump_fair dumped time i clone fair made sources h =
      let at = cloned_at cell i time clone h in
      subst (λ (x : Taken). Fair cell (dumped_from x ∷ dumped) time) (sym at.is) (dump_fair dumped time at.s at.v fair made sources at.there at.image)

  pub clone_fair : (dumped : List Dumped) (time i now : ℕ) (clone : Taken) (d : Dumped) (old : VolumeFields) → Fair cell dumped time → clone_at cell i now ≡ Some clone → Contains dumped d → d.name ≡ clone.volume.header.name → d.volume ≡ Some old → IsFairTo clone.born clone.volume d.time old
  clone_fair dumped time i now clone d old fair h cd dn di =
      let at = cloned_at cell i now clone h in
      let name : d.name ≡ at.s.name = dn ∙ (ap (λ (x : Taken). x.volume.header.name) at.is ∙ (volume_of at.s at.v at.there at.image).0) in
      subst (λ (x : Taken). IsFairTo x.born x.volume d.time old) (sym at.is) (fair.own at.s at.v d old at.there at.image cd di name)

pub dumped_volume : (cell : List Stored) (dumped : List Dumped) (time : ℕ) (d : Dumped) (old : VolumeFields) → Fair cell dumped time → Contains dumped d → d.volume ≡ Some old → AreVolume old.vnodes
dumped_volume cell dumped time d old fair there is =
    subst (λ (o : Option VolumeFields). IfSome o (λ v. AreVolume v.vnodes)) is (All-contains HasVolume dumped d fair.volumes there)
