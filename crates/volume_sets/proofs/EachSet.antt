-- What is so of each set, and of each entry, after a call.
use Rattle.std.proofs.Common.{◌≡◌, ℕ, List, [], ◌∷◌, Bool, true, false, map, refl, sym, ap, subst}
use Rattle.std.specs.Prelude.{All, if◌then◌else◌, Some}
use Rattle.std.specs.Option.{unwrap_or}
use Rattle.std.proofs.lemmas.List.Elements.{All-nil, All-cons, All-head, All-tail}
use Rattle.bk_text.specs.Blanks.{is_same_text}
use Rattle.volume_sets.specs.declared.sets.SetEntry.{SetEntry}
use Rattle.volume_sets.specs.declared.sets.VolumeSet.{VolumeSet}
use Rattle.volume_sets.specs.Sets.{set_of, row_of, entries_of, entries_under, with_entries, without_set}
use Rattle.volume_sets.proofs.SetRows.{sets_back}

-- the set of a name stands first, or it stands behind
pub with_first : (name : List ℕ) (entries : List SetEntry) (set : VolumeSet) (sets : List VolumeSet) → is_same_text name set.name ≡ true → with_entries name entries (set ∷ sets) ≡ record { name = set.name; entries = entries } ∷ sets
with_first name entries set sets here = rw here (ap (λ (l : List VolumeSet). record { name = set.name; entries = entries } ∷ l) (sets_back sets))

pub with_behind : (name : List ℕ) (entries : List SetEntry) (set : VolumeSet) (sets : List VolumeSet) → is_same_text name set.name ≡ false → with_entries name entries (set ∷ sets) ≡ set ∷ with_entries name entries sets
with_behind name entries set sets not_here = rw not_here refl

pub without_first : (name : List ℕ) (set : VolumeSet) (sets : List VolumeSet) → is_same_text name set.name ≡ true → without_set name (set ∷ sets) ≡ sets
without_first name set sets here = rw here (sets_back sets)

pub without_behind : (name : List ℕ) (set : VolumeSet) (sets : List VolumeSet) → is_same_text name set.name ≡ false → without_set name (set ∷ sets) ≡ set ∷ without_set name sets
without_behind name set sets not_here = rw not_here refl

-- each set stays so
module _ (P : VolumeSet → Type 0) where
  pub all_with : (name : List ℕ) (entries : List SetEntry) (sets : List VolumeSet) → ((set : VolumeSet) → P set → P (record { name = set.name; entries = entries })) → All P sets → All P (with_entries name entries sets)
  all_with name entries [] stays all = all
  all_with name entries (set ∷ sets) stays all = go (is_same_text name set.name) refl (all_with name entries sets stays (All-tail P set sets all))
    where
      go : (t : Bool) → is_same_text name set.name ≡ t → All P (with_entries name entries sets) → All P (with_entries name entries (set ∷ sets))
      go true here more = subst (All P) (sym (with_first name entries set sets here)) (All-cons P (record { name = set.name; entries = entries }) sets (stays set (All-head P set sets all)) (All-tail P set sets all))
      go false not_here more = subst (All P) (sym (with_behind name entries set sets not_here)) (All-cons P set (with_entries name entries sets) (All-head P set sets all) more)

  pub all_without : (name : List ℕ) (sets : List VolumeSet) → All P sets → All P (without_set name sets)
  all_without name [] all = all
  all_without name (set ∷ sets) all = go (is_same_text name set.name) refl (all_without name sets (All-tail P set sets all))
    where
      go : (t : Bool) → is_same_text name set.name ≡ t → All P (without_set name sets) → All P (without_set name (set ∷ sets))
      go true here more = subst (All P) (sym (without_first name set sets here)) (All-tail P set sets all)
      go false not_here more = subst (All P) (sym (without_behind name set sets not_here)) (All-cons P set (without_set name sets) (All-head P set sets all) more)

  -- what is so of each entry of each set is so of those under a name
  pub all_under : (Q : SetEntry → Type 0) → ((set : VolumeSet) → P set → All Q set.entries) → (name : List ℕ) (sets : List VolumeSet) → All P sets → All Q (entries_under name sets)
  all_under Q each name [] all = All-nil Q
  all_under Q each name (set ∷ sets) all = go (is_same_text name set.name) (all_under Q each name sets (All-tail P set sets all))
    where
      go : (t : Bool) → All Q (entries_under name sets) → All Q (unwrap_or (if t then Some set.entries else entries_of name sets) [])
      go true more = each set (All-head P set sets all)
      go false more = more
