-- What the calls on volume sets keep: each name once, and entries whose patterns are patterns.
use Rattle.std.proofs.Common.{suc, ◌≡◌, ℕ, ◌-◌, List, [], ◌∷◌, ◌++◌, length, take, drop, Bool, true, false, refl, sym, ◌∙◌, ap, subst, is_some, inl, inr}
use Rattle.std.specs.Prelude.{All, nat_lt, nat_le, ◌&&◌, ◌||◌, if◌then◌else◌, Some, Ok, Err}
use Rattle.std.specs.List.{list_any, remove}
use Rattle.std.proofs.lemmas.Bool.{cases_Bool}
use Rattle.std.proofs.lemmas.Cmp.{nat_list_eq_equiv}
use Rattle.std.proofs.lemmas.List.Folds.{list_any-append}
use Rattle.std.proofs.lemmas.List.Elements.{All-nil, All-append, All-push, All-take, All-drop}
use Rattle.bk_text.specs.Blanks.{is_same_text}
use Rattle.volume_sets.specs.Testing.{is_pattern}
use Rattle.volume_sets.specs.declared.sets.SetEntry.{SetEntry}
use Rattle.volume_sets.specs.declared.sets.VolumeSet.{VolumeSet}
use Rattle.volume_sets.specs.declared.sets.SetsFault.TheVariants.{SetExists, NoSuchSet, NoSuchEntry}
use Rattle.volume_sets.specs.Sets.{entries_of, has_set, entries_under, with_entries, without_set, after_add, after_remove, after_add_entry, after_remove_entry}
use Rattle.volume_sets.proofs.EachSet.{with_first, with_behind, without_first, without_behind, all_with, all_without, all_under}
use Rattle.budb_fold.proofs.Behind.{Behind, behind_push, behind_less, none_left}

abbrev pub is_named : List ℕ → VolumeSet → Bool
is_named name set = is_same_text set.name name

-- no set before has the name
abbrev pub IsNextSet : List VolumeSet → VolumeSet → Type 0
IsNextSet before set = list_any (is_named set.name) before ≡ false

abbrev pub HasPatternEntry : SetEntry → Type 0
HasPatternEntry entry = is_pattern entry.pattern ≡ true

abbrev pub HasPatternEntries : VolumeSet → Type 0
HasPatternEntries set = All HasPatternEntry set.entries

pub record KeptSets (sets : List VolumeSet) : Type 0 where
  pub once : Behind IsNextSet [] sets
  pub patterns : All HasPatternEntries sets

-- there is a set of a name where one of them has it
pub has_set_any : (name : List ℕ) (sets : List VolumeSet) → has_set name sets ≡ list_any (is_named name) sets
has_set_any name [] = refl
has_set_any name (s ∷ sets) =
    go (is_same_text name s.name) (has_set_any name sets) ∙ ap (λ (t : Bool). t || list_any (is_named name) sets) (nat_list_eq_equiv.symm name s.name)
  where
    go : (t : Bool) → has_set name sets ≡ list_any (is_named name) sets → is_some (if t then Some s.entries else entries_of name sets) ≡ (t || list_any (is_named name) sets)
    go true rest = refl
    go false rest = rest

-- ---- other entries of a set

same_names : (q : VolumeSet → Bool) (b c : List VolumeSet) (s t : VolumeSet) → q s ≡ q t → list_any q ((b ++ s ∷ []) ++ c) ≡ list_any q ((b ++ t ∷ []) ++ c)
same_names q b c s t same =
    let one : (x : VolumeSet) → list_any q ((b ++ x ∷ []) ++ c) ≡ ((list_any q b || (q x || false)) || list_any q c) = λ x. list_any-append q (b ++ x ∷ []) c ∙ ap (λ (r : Bool). r || list_any q c) (list_any-append q b (x ∷ [])) in
    one s ∙ ap (λ (r : Bool). (list_any q b || (r || false)) || list_any q c) same ∙ sym (one t)

once_with : (before sets : List VolumeSet) (name : List ℕ) (entries : List SetEntry) → Behind IsNextSet before sets → Behind IsNextSet before (with_entries name entries sets)
once_with before [] name entries all = tt
once_with before (s ∷ sets) name entries all = go (is_same_text name s.name) refl (once_with (before ++ s ∷ []) sets name entries all.1)
  where
    go : (t : Bool) → is_same_text name s.name ≡ t → Behind IsNextSet (before ++ s ∷ []) (with_entries name entries sets) → Behind IsNextSet before (with_entries name entries (s ∷ sets))
    go true here more =
        subst (Behind IsNextSet before) (sym (with_first name entries s sets here)) (all.0, behind_less IsNextSet (before ++ s ∷ []) (before ++ record { name = s.name; entries = entries } ∷ []) sets (λ c x is. sym (same_names (is_named x.name) before c s (record { name = s.name; entries = entries }) refl) ∙ is) all.1)
    go false not_here more = subst (Behind IsNextSet before) (sym (with_behind name entries s sets not_here)) (all.0, more)

once_without : (before sets : List VolumeSet) (name : List ℕ) → Behind IsNextSet before sets → Behind IsNextSet before (without_set name sets)
once_without before [] name all = tt
once_without before (s ∷ sets) name all = go (is_same_text name s.name) refl (once_without (before ++ s ∷ []) sets name all.1)
  where
    go : (t : Bool) → is_same_text name s.name ≡ t → Behind IsNextSet (before ++ s ∷ []) (without_set name sets) → Behind IsNextSet before (without_set name (s ∷ sets))
    go true here more = subst (Behind IsNextSet before) (sym (without_first name s sets here)) (behind_less IsNextSet (before ++ s ∷ []) before sets (λ c x is. none_left (is_named x.name) before c s is) all.1)
    go false not_here more = subst (Behind IsNextSet before) (sym (without_behind name s sets not_here)) (all.0, more)

under : (sets : List VolumeSet) (name : List ℕ) → KeptSets sets → All HasPatternEntry (entries_under name sets)
under sets name kept = all_under HasPatternEntries HasPatternEntry (λ set is. is) name sets kept.patterns

with_these : (sets : List VolumeSet) (name : List ℕ) (entries : List SetEntry) → KeptSets sets → All HasPatternEntry entries → KeptSets (with_entries name entries sets)
with_these sets name entries kept each = record { once = once_with [] sets name entries kept.once; patterns = all_with HasPatternEntries name entries sets (λ set is. each) kept.patterns }

-- ---- the calls

-- what a call leaves that isn't refused
module _ (sets new : List VolumeSet) (kept : KeptSets sets) where
  pub kept_add : (name : List ℕ) → after_add name sets ≡ Ok new → KeptSets new
  kept_add name is = elim (cases_Bool (has_set name sets)) [
    | inl there ↦ absurd (let none : Err SetExists ≡ Ok new = rw there at is in cc)
    | inr free ↦
        (let whole : Ok (sets ++ record { name = name; entries = [] } ∷ []) ≡ Ok new = rw free at is in
        let same : sets ++ record { name = name; entries = [] } ∷ [] ≡ new = cc in
        subst KeptSets same (record {
          once = behind_push IsNextSet [] sets (record { name = name; entries = [] }) kept.once (sym (has_set_any name sets) ∙ free);
          patterns = All-push HasPatternEntries sets (record { name = name; entries = [] }) kept.patterns (All-nil HasPatternEntry);
        }))
  ]

  pub kept_remove : (name : List ℕ) → after_remove name sets ≡ Ok new → KeptSets new
  kept_remove name is = elim (cases_Bool (has_set name sets)) [
    | inl there ↦
        (let whole : Ok (without_set name sets) ≡ Ok new = rw there at is in
        let same : without_set name sets ≡ new = cc in
        subst KeptSets same (record { once = once_without [] sets name kept.once; patterns = all_without HasPatternEntries name sets kept.patterns }))
    | inr free ↦ absurd (let none : Err NoSuchSet ≡ Ok new = rw free at is in cc)
  ]

  pub kept_add_entry : (name : List ℕ) (entry : SetEntry) → HasPatternEntry entry → after_add_entry name entry sets ≡ Ok new → KeptSets new
  kept_add_entry name entry pattern is = elim (cases_Bool (has_set name sets)) [
    | inl there ↦
        (let whole : Ok (with_entries name (entries_under name sets ++ entry ∷ []) sets) ≡ Ok new = rw there at is in
        let same : with_entries name (entries_under name sets ++ entry ∷ []) sets ≡ new = cc in
        subst KeptSets same (with_these sets name (entries_under name sets ++ entry ∷ []) kept (All-push HasPatternEntry (entries_under name sets) entry (under sets name kept) pattern)))
    | inr free ↦ absurd (let none : Err NoSuchSet ≡ Ok new = rw free at is in cc)
  ]

  kept_entry : (name : List ℕ) (number : ℕ) (t : Bool) → (if t then Ok (with_entries name (remove (entries_under name sets) (number - 1)) sets) else Err NoSuchEntry) ≡ Ok new → KeptSets new
  kept_entry name number true is =
      let same : with_entries name (remove (entries_under name sets) (number - 1)) sets ≡ new = cc in
      let each : All HasPatternEntry (entries_under name sets) = under sets name kept in
      subst KeptSets same (with_these sets name (remove (entries_under name sets) (number - 1)) kept (All-append HasPatternEntry (take (number - 1) (entries_under name sets)) (drop (suc (number - 1)) (entries_under name sets)) (All-take HasPatternEntry (number - 1) (entries_under name sets) each) (All-drop HasPatternEntry (suc (number - 1)) (entries_under name sets) each)))
  kept_entry name number false is = absurd (cc)

  pub kept_remove_entry : (name : List ℕ) (number : ℕ) → after_remove_entry name number sets ≡ Ok new → KeptSets new
  kept_remove_entry name number is = elim (cases_Bool (has_set name sets)) [
    | inl there ↦ kept_entry name number (nat_lt 0 number && nat_le number (length (entries_under name sets))) (rw there at is)
    | inr free ↦ absurd (let none : Err NoSuchSet ≡ Ok new = rw free at is in cc)
  ]
