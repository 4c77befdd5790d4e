-- What applying gives is fit, and an increment gives a volume that follows back.
use Rattle.std.proofs.Common.{◌≡◌, ℕ, suc, ◌<◌, ◌≤◌, ◌⊎◌, true, leb, zero, Option, Some, None, Ok, List, [], ◌∷◌, length, map, refl, sym, ap, subst, ◌∙◌, inl, inr, arith}
use Rattle.std.specs.Prelude.{All, AllPairs, Contains, find, sum_by, ◌==◌, ◌||◌}
use Rattle.std.specs.List.{filter_map}
use Rattle.std.proofs.lemmas.Bool.{cases_Bool, and_parts, and_from, eqb-true, eq-eqb, or_parts, leb-false, le-leb}
use Rattle.std.proofs.lemmas.List.Elements.{All-nil, All-cons, All-head, All-tail, All-contains}
use Rattle.std.proofs.lemmas.List.Sums.{sum_by-cons}
use Rattle.vnode_model.specs.declared.vnodes.Vnode.{Vnode}
use Rattle.vnode_model.specs.declared.increments.Entry.{Entry}
use Rattle.vnode_model.specs.declared.increments.Entry.TheVariants.{Whole, Kept}
use Rattle.vnode_model.specs.declared.increments.IncrementFields.{IncrementFields}
use Rattle.vnode_model.specs.declared.volumes.VolumeFields.{VolumeFields}
use Rattle.vnode_model.specs.Limits.{StandsBefore, IsFit, IsFitVnode, AreFit, AreVolume, number_of, data_len, all_data}
use Rattle.vnode_model.specs.Increments.{is_directory, is_whole_from, entry_from, is_named, vnode_for, first_lacking, data_of, vnodes_of, applied, selected, Follows}
use Rattle.vnode_model.specs.Taking.{AreOrdered}
use Rattle.vnode_model.proofs.IncrementLaws.{fit_like}
use Rattle.vnode_model.proofs.TakingLaws.{pairs_first, pairs_rest, before_not_same, find_further, find_here}

-- ---- vnodes and the same as whole entries

numbers_whole : (vs : List Vnode) → map number_of (map Whole vs) ≡ map (λ v. v.number) vs
numbers_whole [] = refl
numbers_whole (v ∷ vs) = ap (λ (x : List ℕ). v.number ∷ x) (numbers_whole vs)

pub ordered_volume : (vs : List Vnode) → AreVolume vs → AreOrdered vs
ordered_volume vs fit = subst (AllPairs StandsBefore) (numbers_whole vs) fit.ordered

data_whole : (vs : List Vnode) → sum_by data_len (map Whole vs) ≡ data_of vs
data_whole [] = refl
data_whole (v ∷ vs) = omega (arith, data_whole vs, sum_by-cons data_len (Whole v) (map Whole vs), sum_by-cons (λ (w : Vnode). length w.body) v vs)

each_whole : (vs : List Vnode) → All IsFit (map Whole vs) → All IsFitVnode vs
each_whole [] each = All-nil IsFitVnode
each_whole (v ∷ vs) each = All-cons IsFitVnode v vs (All-head IsFit (Whole v) (map Whole vs) each) (each_whole vs (All-tail IsFit (Whole v) (map Whole vs) each))

-- ---- the vnodes that entries stand for

option_cases : (o : Option Vnode) → (o ≡ None) ⊎ ((v : Vnode) × (o ≡ Some v))
option_cases None = inl refl
option_cases (Some v) = inr (v, refl)

-- what a look-up finds is of the list, and has the number
found_has : (P : Vnode → Type 0) (number uniq : ℕ) (base : List Vnode) (v : Vnode) → All P base → find (is_named number uniq) base ≡ Some v → P v × (v.number ≡ number)
found_has P number uniq [] v all found = absurd (cc)
found_has P number uniq (w ∷ base) v all found = elim (cases_Bool (is_named number uniq w)) [
  | inl named ↦
      let same : w ≡ v = let here : find (is_named number uniq) (w ∷ base) ≡ Some w = find_here w base number uniq named in cc in
      (subst P same (All-head P w base all), subst (λ (x : Vnode). x.number ≡ number) same (eqb-true w.number number (and_parts (w.number == number) (w.uniq == uniq) named).0))
  | inr not ↦ found_has P number uniq base v (All-tail P w base all) (let past : find (is_named number uniq) (w ∷ base) ≡ find (is_named number uniq) base = rw not refl in cc)
]

-- the vnode of a fit entry over fit vnodes is fit, and has its number
stands_fit : (base : List Vnode) (e : Entry) (v : Vnode) → All IsFitVnode base → IsFit e → vnode_for base e ≡ Some v → IsFitVnode v × (v.number ≡ number_of e)
stands_fit base (Whole w) v all fit is = let same : w ≡ v = cc in (subst IsFitVnode same fit, ap (λ (x : Vnode). x.number) (sym same))
stands_fit base (Kept number uniq) v all fit is = found_has IsFitVnode number uniq base v all is

-- where no entry is lacking, there is a vnode for the first one, and none of the others is lacking
none_lacks : (base : List Vnode) (e : Entry) (es : List Entry) → first_lacking base (e ∷ es) ≡ None → ((v : Vnode) × (vnode_for base e ≡ Some v)) × (first_lacking base es ≡ None)
none_lacks base e es none = elim (option_cases (vnode_for base e)) [
  | inl lacks ↦ absurd (let first : first_lacking base (e ∷ es) ≡ Some e = rw lacks refl in cc)
  | inr found ↦ (found, let rest : first_lacking base (e ∷ es) ≡ first_lacking base es = rw found.1 refl in sym rest ∙ none)
]

numbers_found : (base : List Vnode) (es : List Entry) → All IsFitVnode base → All IsFit es → first_lacking base es ≡ None → map number_of (map Whole (filter_map (vnode_for base) es)) ≡ map number_of es
numbers_found base [] all each none = refl
numbers_found base (e ∷ es) all each none =
    let parts = none_lacks base e es none in
    let same : (parts.0.0).number ≡ number_of e = (stands_fit base e parts.0.0 all (All-head IsFit e es each) parts.0.1).1 in
    let rest : map number_of (map Whole (filter_map (vnode_for base) es)) ≡ map number_of es = numbers_found base es all (All-tail IsFit e es each) parts.1 in
    rw parts.0.1 (cc)

each_found : (base : List Vnode) (es : List Entry) → All IsFitVnode base → All IsFit es → first_lacking base es ≡ None → All IsFit (map Whole (filter_map (vnode_for base) es))
each_found base [] all each none = All-nil IsFit
each_found base (e ∷ es) all each none =
    let parts = none_lacks base e es none in
    rw parts.0.1
    (All-cons IsFit (Whole parts.0.0) (map Whole (filter_map (vnode_for base) es)) (stands_fit base e parts.0.0 all (All-head IsFit e es each) parts.0.1).0
    (each_found base es all (All-tail IsFit e es each) parts.1))

-- the vnodes of fit entries over a base's are a volume's, where their data isn't too much
pub found_fit : (base : List Vnode) (es : List Entry) → AreVolume base → AreFit es → first_lacking base es ≡ None → data_of (filter_map (vnode_for base) es) ≤ all_data → AreVolume (filter_map (vnode_for base) es)
found_fit base es fit each none small =
    fit_like (map Whole (filter_map (vnode_for base) es)) es (numbers_found base es (each_whole base fit.each) each.each none) (each_found base es (each_whole base fit.each) each.each none)
    (omega (arith, small, data_whole (filter_map (vnode_for base) es))) each

-- ---- a volume that follows

named_itself : (v : Vnode) → is_named v.number v.uniq v ≡ true
named_itself v = and_from (v.number == v.number) (v.uniq == v.uniq) (eq-eqb v.number v.number refl) (eq-eqb v.uniq v.uniq refl)

all_unmapped : (P : ℕ → Type 0) (vs : List Vnode) → All P (map (λ v. v.number) vs) → All (λ v. P v.number) vs
all_unmapped P [] all = All-nil (λ (v : Vnode). P v.number)
all_unmapped P (v ∷ vs) all =
    All-cons (λ (w : Vnode). P w.number) v vs (All-head P v.number (map (λ w. w.number) vs) all) (all_unmapped P vs (All-tail P v.number (map (λ w. w.number) vs) all))

-- a vnode of an ordered list is found by its number and uniquifier
find_contained : (vs : List Vnode) (v : Vnode) → AreOrdered vs → Contains vs v → find (is_named v.number v.uniq) vs ≡ Some v
find_contained [] v ordered there = absurd (omega (arith, there.1))
find_contained (w ∷ vs) v ordered (zero, within, is) = rw is (find_here v vs v.number v.uniq (named_itself v))
find_contained (w ∷ vs) v ordered (suc k, within, is) =
    let there : Contains vs v = (k, omega (arith, within), is) in
    let behind : StandsBefore w.number v.number =
    All-contains (λ (u : Vnode). StandsBefore w.number u.number) vs v (all_unmapped (λ (n : ℕ). StandsBefore w.number n) vs (pairs_first w.number (map (λ u. u.number) vs) ordered)) there in
    find_further w vs v.number v.uniq (before_not_same w.number v.number behind)
    ∙ find_contained vs v (pairs_rest w.number (map (λ u. u.number) vs) ordered) there

-- the entry of a vnode that stands whole or stands equal in the base is the vnode
stands_again : (since : ℕ) (old : List Vnode) (v : Vnode) → AreOrdered old → (v.server_modified < since → Contains old v) → vnode_for old (entry_from since v) ≡ Some v
stands_again since old v ordered follows = elim (cases_Bool (is_whole_from since v)) [
  | inl whole ↦ rw whole refl
  | inr kept ↦ rw kept (find_contained old v ordered (follows (leb-false since v.server_modified
      (or_parts (is_directory v.kind) (leb since v.server_modified) (or_parts (since == 0) (is_directory v.kind || leb since v.server_modified) kept).1).1)))
]

module _ (since : ℕ) (old : List Vnode) (ordered : AreOrdered old) where
  none_lacking : (vs : List Vnode) → All (λ v. v.server_modified < since → Contains old v) vs → first_lacking old (map (entry_from since) vs) ≡ None
  none_lacking [] follows = refl
  none_lacking (v ∷ vs) follows =
      let here : vnode_for old (entry_from since v) ≡ Some v = stands_again since old v ordered (All-head (λ (w : Vnode). w.server_modified < since → Contains old w) v vs follows) in
      rw here (none_lacking vs (All-tail (λ (w : Vnode). w.server_modified < since → Contains old w) v vs follows))

  found_again : (vs : List Vnode) → All (λ v. v.server_modified < since → Contains old v) vs → filter_map (vnode_for old) (map (entry_from since) vs) ≡ vs
  found_again [] follows = refl
  found_again (v ∷ vs) follows =
      let here : vnode_for old (entry_from since v) ≡ Some v = stands_again since old v ordered (All-head (λ (w : Vnode). w.server_modified < since → Contains old w) v vs follows) in
      rw here (ap (λ (x : List Vnode). v ∷ x) (found_again vs (All-tail (λ (w : Vnode). w.server_modified < since → Contains old w) v vs follows)))

-- ---- what applying gives

pub applied_ok : (base : Option VolumeFields) (increment : IncrementFields) (vs : List Vnode) → first_lacking (vnodes_of base) increment.entries ≡ None → vs ≡ filter_map (vnode_for (vnodes_of base)) increment.entries → data_of vs ≤ all_data → applied base increment ≡ Ok (record { header = increment.header; vnodes = vs })
applied_ok base increment vs none found small = rw (none, sym found, le-leb (data_of vs) all_data small) refl

pub restores : (old new : VolumeFields) (since until : ℕ) → AreVolume old.vnodes → AreVolume new.vnodes → Follows old since new → applied (Some old) (selected new since until) ≡ Ok new
restores old new since until fit fine follows =
    applied_ok (Some old) (selected new since until) new.vnodes (none_lacking since old.vnodes (ordered_volume old.vnodes fit) new.vnodes follows)
    (sym (found_again since old.vnodes (ordered_volume old.vnodes fit) new.vnodes follows)) (omega (arith, fine.small, data_whole new.vnodes))
