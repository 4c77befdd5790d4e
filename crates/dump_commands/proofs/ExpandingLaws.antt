-- The expansion of a volume set, as a function, is that of its definition.
use Rattle.std.proofs.Common.{◌≡◌, ℕ, ◌+◌, List, [], ◌∷◌, refl, sym, ◌∙◌, subst, Bool, true, false, inl, inr}
use Rattle.std.specs.Prelude.{◌==◌, Option, Some, None, Decides}
use Rattle.std.proofs.lemmas.Bool.{cases_Bool, false≢true, and_from, and_parts, eqb-true, eq-eqb}
use Rattle.std.proofs.lemmas.Slice.Eq.{slice_eq-Decides}
use Rattle.std.proofs.lemmas.List.Folds.{Any-from_list_any, list_any-from_Any}
use Rattle.bk_text.specs.Blanks.{is_same_text}
use Rattle.bk_text.specs.Patterns.{Item as PatternItem}
use Rattle.vnode_model.specs.declared.listed.VolEntry.{VolEntry}
use Rattle.volume_sets.specs.declared.reading.State.{State}
use Rattle.volume_sets.specs.declared.reading.State.TheVariants.{Start, Item, Escape, Open, Complement, Inside, InsideEscape, Member, Range, RangeEscape, LastDash}
use Rattle.volume_sets.specs.declared.sets.SetEntry.{SetEntry}
use Rattle.volume_sets.specs.Matching.{match_items}
use Rattle.volume_sets.specs.Reading.{Mind, set_mind, mind_after, next_state, put_front, with_item, at_end, read}
use Rattle.volume_sets.specs.Expansions.{Matches, IsAnyOr, Suits, SomeSuits, ArePlaces, IsExpansion}
use Rattle.volume_sets.proofs.ReadLaws.{items_read}
use Rattle.volume_sets.proofs.RestLaws.{accepts, ends, accepted}
use Rattle.dump_commands.specs.Expanding.{is_any_or, items_match, matches, suits, some_suits, places_from, expansion}

none_some : {X : Type 0} (x : X) → None ≡ Some x → ⊥
none_some x e = cc

-- ---- what is read is accepted

end_read : (state : State) (mind : Mind) (items : List PatternItem) → at_end state mind ≡ Some items → ends state ≡ true
end_read Start mind items e = refl
end_read Item mind items e = refl
end_read Escape mind items e = absurd (none_some items e)
end_read Open mind items e = absurd (none_some items e)
end_read Complement mind items e = absurd (none_some items e)
end_read Inside mind items e = absurd (none_some items e)
end_read InsideEscape mind items e = absurd (none_some items e)
end_read (Member c) mind items e = absurd (none_some items e)
end_read (Range c) mind items e = absurd (none_some items e)
end_read (RangeEscape c) mind items e = absurd (none_some items e)
end_read LastDash mind items e = absurd (none_some items e)

front_read : (item : PatternItem) (rest : Option (List PatternItem)) (items : List PatternItem) → put_front item rest ≡ Some items → (more : List PatternItem) × (rest ≡ Some more)
front_read item None items e = absurd (none_some items e)
front_read item (Some more) items e = (more, refl)

rest_read : (state : State) (b : ℕ) (mind : Mind) (rest : Option (List PatternItem)) (items : List PatternItem) → with_item state b mind rest ≡ Some items → (more : List PatternItem) × (rest ≡ Some more)
rest_read Start b mind rest items e = (items, e)
rest_read Item b mind rest items e = front_read (record { choice = mind.choice; starred = b == 42 }) rest items e
rest_read Escape b mind rest items e = (items, e)
rest_read Open b mind rest items e = (items, e)
rest_read Complement b mind rest items e = (items, e)
rest_read Inside b mind rest items e = (items, e)
rest_read InsideEscape b mind rest items e = (items, e)
rest_read (Member c) b mind rest items e = (items, e)
rest_read (Range c) b mind rest items e = (items, e)
rest_read (RangeEscape c) b mind rest items e = (items, e)
rest_read LastDash b mind rest items e = (items, e)

read_by : (state : State) (b : ℕ) (mind : Mind) (text : List ℕ) (next : Option State) (items : List PatternItem)
    → ((state : State) (mind : Mind) (items : List PatternItem) → read state mind text ≡ Some items → accepts state text ≡ true)
    → elim next [ None ↦ None | Some after ↦ with_item state b mind (read after (mind_after state b mind) text) ] ≡ Some items
    → elim next [ None ↦ false | Some after ↦ accepts after text ] ≡ true
read_by state b mind text None items more e = absurd (none_some items e)
read_by state b mind text (Some after) items more e =
    let (rest, is) = rest_read state b mind (read after (mind_after state b mind) text) items e in
    more after (mind_after state b mind) rest is

read_accepted : (text : List ℕ) (state : State) (mind : Mind) (items : List PatternItem) → read state mind text ≡ Some items → accepts state text ≡ true
read_accepted [] state mind items e = end_read state mind items e
read_accepted (b ∷ text) state mind items e = read_by state b mind text (next_state state b) items (read_accepted text) e

-- ---- matches

some_is : {X : Type 0} (x y : X) → Some x ≡ Some y → x ≡ y
some_is x y e = cc

found_items : (pattern name : List ℕ) (mind : Mind) (found : Option (List PatternItem)) → read Start mind pattern ≡ found → items_match found name ≡ true → Matches pattern name
found_items pattern name mind None is e = absurd (false≢true e)
found_items pattern name mind (Some items) is e =
    let (spelled, spells) = accepted pattern (read_accepted pattern Start mind items is) in
    let same : items ≡ spelled = some_is items spelled (sym is ∙ items_read spelled pattern mind spells) in
    (spelled, spells, subst (λ (l : List PatternItem). match_items l name ≡ true) same e)

matches_sound : (pattern name : List ℕ) → matches pattern name ≡ true → Matches pattern name
unfolding matches
matches_sound pattern name e = found_items pattern name (set_mind false []) (read Start (set_mind false []) pattern) refl e

matches_complete : (pattern name : List ℕ) → Matches pattern name → matches pattern name ≡ true
unfolding matches
matches_complete pattern name (items, spells, is) =
    subst (λ (found : Option (List PatternItem)). items_match found name ≡ true) (sym (items_read items pattern (set_mind false []) spells)) is

-- ---- an entry

same_numbers : (a b : ℕ) → Decides (a == b) (a ≡ b)
same_numbers a b = (eqb-true a b, eq-eqb a b)

same_text : (a b : List ℕ) → is_same_text a b ≡ true → a ≡ b
same_text a b is = (slice_eq-Decides same_numbers a b (is_same_text a b) refl).0 is

text_same : (a b : List ℕ) → a ≡ b → is_same_text a b ≡ true
text_same a b same = (slice_eq-Decides same_numbers a b (is_same_text a b) refl).1 same

any_sound : (wanted : Option (List ℕ)) (found : List ℕ) → is_any_or wanted found ≡ true → IsAnyOr wanted found
any_sound None found e = tt
any_sound (Some wanted) found e = same_text wanted found e

any_complete : (wanted : Option (List ℕ)) (found : List ℕ) → IsAnyOr wanted found → is_any_or wanted found ≡ true
any_complete None found e = refl
any_complete (Some wanted) found e = text_same wanted found e

suits_sound : (entry : SetEntry) (volume : VolEntry) → suits entry volume ≡ true → Suits entry volume
suits_sound entry volume e =
    let (server, rest) = and_parts _ _ e in
    let (partition, name) = and_parts _ _ rest in
    (any_sound entry.server volume.server server, any_sound entry.partition volume.partition partition, matches_sound entry.pattern volume.name name)

suits_complete : (entry : SetEntry) (volume : VolEntry) → Suits entry volume → suits entry volume ≡ true
suits_complete entry volume (server, partition, name) =
    and_from _ _ (any_complete entry.server volume.server server) (and_from _ _ (any_complete entry.partition volume.partition partition) (matches_complete entry.pattern volume.name name))

-- ---- some entry

some_sound : (entries : List SetEntry) (volume : VolEntry) → some_suits entries volume ≡ true → SomeSuits entries volume
some_sound entries volume e =
    let (k, entry, within, is, holds) = Any-from_list_any (λ (one : SetEntry). suits one volume) entries e in
    (k, entry, within, is, suits_sound entry volume holds)

some_complete : (entries : List SetEntry) (volume : VolEntry) → SomeSuits entries volume → some_suits entries volume ≡ true
some_complete entries volume (k, entry, within, is, holds) =
    list_any-from_Any (λ (one : SetEntry). suits one volume) entries (k, entry, within, is, suits_complete entry volume holds)

-- ---- all places

places_are : (IsSo : VolEntry → Type 0) (such : VolEntry → Bool) → ((v : VolEntry) → such v ≡ true → IsSo v) → ((v : VolEntry) → IsSo v → such v ≡ true) → (cell : List VolEntry) (at : ℕ) → ArePlaces IsSo at cell (places_from such at cell)
places_are IsSo such sound complete [] at = refl
places_are IsSo such sound complete (v ∷ cell) at =
    elim (cases_Bool (such v)) [
      | inl hit ↦ inl (sound v hit, (places_from such (at + 1) cell, rw hit refl, places_are IsSo such sound complete cell (at + 1)))
      | inr miss ↦ inr (λ so. false≢true (sym miss ∙ complete v so), rw miss (places_are IsSo such sound complete cell (at + 1)))
    ]

-- THE LAW: these are the places of the definition.
pub expansion_is : (entries : List SetEntry) (cell : List VolEntry) → IsExpansion entries cell (expansion entries cell)
unfolding expansion
expansion_is entries cell = places_are (SomeSuits entries) (some_suits entries) (some_sound entries) (some_complete entries) cell 0
