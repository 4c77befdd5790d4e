-- Giving a stream in pieces.
use Rattle.std.proofs.Common.{◌≡◌, ◌⊎◌, ℕ, zero, suc, ◌+◌, ◌-◌, ◌<◌, ◌≤◌, min, eqb, Bool, true, false, List, [], ◌∷◌, ◌++◌, length, map, take, drop, get_or, Some, None, refl, sym, ap, subst, ◌∙◌, append_assoc, arith, length-append, length-drop, inl, inr, add-one}
use Rattle.std.specs.Prelude.{All, slice_get, nat_le, if◌then◌else◌, ◌==◌}
use Rattle.std.specs.List.{flat_map}
use Rattle.std.proofs.lemmas.List.{append-nil, take-append-le, take-append-drop, drop_all, drop_more, get_or-map, length-map, drop-append-le, drop-drop, take_at, drop_at, length-take-le}
use Rattle.std.proofs.lemmas.Bool.{le-leb, lt-leb, leb-true, leb-false, ne_eqb}
use Rattle.std.proofs.Math.Dec.{leb}
use borrow.Rule.Slice.PartMut.{put_mid}
use Rattle.std.proofs.Math.Seq.{take-append-add}
use Rattle.std.proofs.lemmas.Option.{slice_get-get_or}
use Rattle.vnode_model.specs.declared.vnodes.Vnode.{Vnode}
use Rattle.vnode_model.specs.declared.increments.Entry.{Entry}
use Rattle.vnode_model.specs.declared.increments.Entry.TheVariants.{Whole, Kept}
use Rattle.vnode_model.specs.Limits.{IsFit, IsFitVnode, AreVolume, most_data}
use Rattle.vnode_model.specs.Increments.{entry_from}
use Rattle.dump_stream.specs.declared.places.Place.{Place}
use Rattle.dump_stream.specs.Forms.{closing}
use Rattle.dump_stream.specs.Stream.{section}
use Rattle.dump_stream.specs.Written.{section_of}
use Rattle.dump_stream.specs.Parts.{head_of, data_of}
use Rattle.dump_stream.specs.Left.{data_from, step_data, behind, here, left, Gives, Turns, IsOver}
use Rattle.dump_stream.proofs.PartLaws.{section_parts, sections_of}

-- ---- giving

pub gives_before : (a a2 b room filled : List ℕ) (n : ℕ) → Gives a a2 room filled n → Gives (a ++ b) (a2 ++ b) room filled n
gives_before a a2 b room filled n h = record {
  within = h.within;
  had = omega (arith, h.had, length-append a b);
  filled_with = h.filled_with ∙ ap (λ (x : List ℕ). x ++ drop n room) (sym (take-append-le n a b h.had));
  after_is = ap (λ (x : List ℕ). x ++ b) h.after_is ∙ sym (drop-append-le n a b h.had);
}

pub gives_none : (a a2 room filled : List ℕ) → Gives a a2 room filled 0 → (filled ≡ room) × (a2 ≡ a)
gives_none a a2 room filled h = (h.filled_with ∙ refl, h.after_is ∙ refl)

take_parts : (l : List ℕ) (n m : ℕ) → n ≤ length l → take (n + m) l ≡ take n l ++ take m (drop n l)
take_parts l n m le =
    let len : length (take n l) ≡ n = length-take-le n l le in
    sym (ap (λ (x : List ℕ). take (n + m) x) (take-append-drop n l)) ∙ ap (λ (k : ℕ). take (k + m) (take n l ++ drop n l)) (sym len) ∙ take-append-add (take n l) (drop n l) m

-- first so many bytes, and then so many more
pub gives_more : (l l2 l3 into filled room room2 filled2 : List ℕ) (n m : ℕ) → Gives l l2 into filled n → room ≡ drop n filled → Gives l2 l3 room room2 m → filled2 ≡ take n filled ++ room2
    → Gives l l3 into filled2 (n + m)
gives_more l l2 l3 into filled room room2 filled2 n m h room_is k filled_is =
    let len : length (take n l) ≡ n = length-take-le n l h.had in
    let front_is : take n filled ≡ take n l = ap (take n) h.filled_with ∙ take_at (take n l) (drop n into) n len in
    let room_at : room ≡ drop n into = room_is ∙ ap (drop n) h.filled_with ∙ drop_at (take n l) (drop n into) n len in
    let room_len : length room ≡ length into - n = ap length room_at ∙ length-drop n into in
    let left_len : length l2 ≡ length l - n = ap length h.after_is ∙ length-drop n l in
    let some : take m l2 ≡ take m (drop n l) = ap (take m) h.after_is in
    let rest : drop m room ≡ drop (n + m) into = ap (drop m) room_at ∙ drop-drop m n into in
    let whole : filled2 ≡ take n l ++ (take m (drop n l) ++ drop (n + m) into) = cc (k.filled_with) in
    record {
      within = omega (arith, h.within, k.within, room_len);
      had = omega (arith, h.had, k.had, left_len);
      filled_with = whole ∙ sym (append_assoc (take n l) (take m (drop n l)) (drop (n + m) into)) ∙ ap (λ (x : List ℕ). x ++ drop (n + m) into) (sym (take_parts l n m h.had));
      after_is = k.after_is ∙ ap (drop m) h.after_is ∙ drop-drop m n l;
    }

-- before anything was given
pub gives_start : (l l2 into filled : List ℕ) → l2 ≡ l → filled ≡ into → Gives l l2 into filled 0
gives_start l l2 into filled e d = record { within = omega arith; had = omega arith; filled_with = d; after_is = e }

-- what the given bytes of the present step leave, where none are left of its part
pub gives_behind : (a a2 d d2 b room filled filled2 : List ℕ) (n : ℕ) → a ≡ [] → Gives a a2 room filled 0 → Gives d d2 filled filled2 n → Gives ((a ++ d) ++ b) ((a2 ++ d2) ++ b) room filled2 n
gives_behind a a2 d d2 b room filled filled2 n none first second =
    let a2_is : a2 ≡ [] = first.after_is ∙ none in
    let room_is : filled ≡ room = first.filled_with in
    let k : Gives d d2 room filled2 n = subst (λ (x : List ℕ). Gives d d2 x filled2 n) room_is second in
    rw (none, a2_is) (gives_before d d2 b room filled2 n k)

pub append_nil_parts : (a b : List ℕ) → a ≡ [] → b ≡ [] → a ++ b ≡ []
append_nil_parts a b e d = rw (e, d) refl

-- ---- steps

pub fit_at : (vnodes : List Vnode) (i : ℕ) (d : Vnode) → AreVolume vnodes → i < length vnodes → length (get_or vnodes i d).body ≤ most_data
fit_at vnodes i d h lt =
    let len : length (map Whole vnodes) ≡ length vnodes = length-map vnodes Whole in
    let fit : IsFit (get_or (map Whole vnodes) i (Whole d)) = h.each i (Whole d) (omega (arith, len)) in
    let at : get_or (map Whole vnodes) i (Whole d) ≡ Whole (get_or vnodes i d) = get_or-map Whole vnodes i d (Whole d) lt in
    let whole : IsFitVnode (get_or vnodes i d) = subst IsFit at fit in
    whole.body

nil_drop : (l : List ℕ) → drop 0 l ≡ l
nil_drop l = refl

data_after : (vnodes : List Vnode) (since step : ℕ) (d : Vnode) → step < length vnodes → step_data vnodes since (step + 1) ≡ data_of (entry_from since (get_or vnodes step d))
data_after vnodes since step d lt =
    let later : eqb (step + 1) 0 ≡ false = ne_eqb (step + 1) 0 (λ e. omega (arith, e)) in
    let back : (step + 1) - 1 ≡ step = omega arith in
    rw (later, back, slice_get-get_or vnodes step d lt) refl

-- the step of the next vnode has what stood behind, and leaves what stands behind it
pub vnode_begun : (vnodes : List Vnode) (since : ℕ) (old new : Place) (d : Vnode) → here vnodes since old ≡ [] → old.step < length vnodes
    → new.part ≡ head_of (entry_from since (get_or vnodes old.step d)) → new.step ≡ old.step + 1 → new.taken ≡ 0 → new.given ≡ 0 → left vnodes since new ≡ left vnodes since old
vnode_begun vnodes since old new d none lt part_is step_is taken_is given_is =
    let n = old.step in
    let e = entry_from since (get_or vnodes n d) in
    let now : leb n (length vnodes) ≡ true = le-leb n (length vnodes) (omega arith) in
    let next : leb (n + 1) (length vnodes) ≡ true = le-leb (n + 1) (length vnodes) (omega arith) in
    let rest = sections_of (map (entry_from since) (drop (n + 1) vnodes)) in
    let old_is : left vnodes since old ≡ sections_of (map (entry_from since) (drop n vnodes)) ++ 4 ∷ closing = rw (none, now) refl in
    let vnodes_are : drop n vnodes ≡ get_or vnodes n d ∷ drop (n + 1) vnodes = drop_more vnodes n d lt in
    let sections_are : sections_of (map (entry_from since) (drop n vnodes)) ≡ (head_of e ++ data_of e) ++ rest =
    ap (λ (x : List Vnode). sections_of (map (entry_from since) x)) vnodes_are ∙ ap (λ (x : List ℕ). x ++ rest) (section_parts e) in
    let part_left : drop new.taken new.part ≡ head_of e = ap (λ (k : ℕ). drop k new.part) taken_is ∙ part_is in
    let data_left : drop new.given (step_data vnodes since new.step) ≡ data_of e =
    ap (λ (k : ℕ). drop k (step_data vnodes since new.step)) given_is ∙ ap (step_data vnodes since) step_is ∙ data_after vnodes since n d lt in
    let behind_is : behind vnodes since new.step ≡ rest ++ 4 ∷ closing = ap (behind vnodes since) step_is ∙ rw next refl in
    let new_is : left vnodes since new ≡ (head_of e ++ data_of e) ++ (rest ++ 4 ∷ closing) = cc in
    new_is ∙ sym (append_assoc (head_of e ++ data_of e) rest (4 ∷ closing)) ∙ ap (λ (x : List ℕ). x ++ 4 ∷ closing) (sym sections_are) ∙ sym old_is

no_more : (vnodes : List Vnode) (n : ℕ) → length vnodes ≤ n → slice_get vnodes n ≡ None
no_more [] n le = refl
no_more (v ∷ vnodes) zero le = absurd (omega arith)
no_more (v ∷ vnodes) (suc n) le = no_more vnodes n (omega arith)

pub end_begun : (vnodes : List Vnode) (since : ℕ) (old new : Place) → here vnodes since old ≡ [] → old.step ≡ length vnodes
    → new.part ≡ 4 ∷ closing → new.step ≡ old.step + 1 → new.taken ≡ 0 → new.given ≡ 0 → left vnodes since new ≡ left vnodes since old
end_begun vnodes since old new none last part_is step_is taken_is given_is =
    let n = old.step in
    let now : leb n (length vnodes) ≡ true = le-leb n (length vnodes) (omega arith) in
    let past : leb (n + 1) (length vnodes) ≡ false = lt-leb (n + 1) (length vnodes) (omega arith) in
    let none_left : drop n vnodes ≡ [] = drop_all n vnodes (omega arith) in
    let old_is : left vnodes since old ≡ 4 ∷ closing = rw (none, now, none_left) refl in
    let part_left : drop new.taken new.part ≡ 4 ∷ closing = ap (λ (k : ℕ). drop k new.part) taken_is ∙ part_is in
    let later : eqb (n + 1) 0 ≡ false = ne_eqb (n + 1) 0 (λ e. omega (arith, e)) in
    let back : (n + 1) - 1 ≡ n = omega arith in
    let no_vnode : slice_get vnodes n ≡ None = no_more vnodes n (omega arith) in
    let data_none : step_data vnodes since (n + 1) ≡ [] = rw (later, back, no_vnode) refl in
    let data_left : drop new.given (step_data vnodes since new.step) ≡ [] =
    ap (λ (k : ℕ). drop k (step_data vnodes since new.step)) given_is ∙ ap (step_data vnodes since) step_is ∙ data_none in
    let behind_is : behind vnodes since new.step ≡ [] = ap (behind vnodes since) step_is ∙ rw past refl in
    rw (part_left, data_left, behind_is) (sym old_is)

pub over : (vnodes : List Vnode) (since : ℕ) (place : Place) → here vnodes since place ≡ [] → length vnodes < place.step → left vnodes since place ≡ []
over vnodes since place none past =
    let late : leb place.step (length vnodes) ≡ false = lt-leb place.step (length vnodes) (omega arith) in
    rw (none, late) refl

-- behind the last step only bytes of the end are left
data_past : (vnodes : List Vnode) (since step : ℕ) → length vnodes < step → step_data vnodes since step ≡ []
data_past vnodes since step past =
    let later : eqb step 0 ≡ false = ne_eqb step 0 (λ e. omega (arith, e, past)) in
    rw (later, no_more vnodes (step - 1) (omega (arith, past))) refl

pub left_past : (vnodes : List Vnode) (since : ℕ) (place : Place) → length vnodes < place.step → left vnodes since place ≡ drop place.taken place.part
left_past vnodes since place past =
    let late : leb place.step (length vnodes) ≡ false = lt-leb place.step (length vnodes) (omega arith) in
    let none : drop place.given (step_data vnodes since place.step) ≡ [] = ap (drop place.given) (data_past vnodes since place.step past) ∙ drop_all place.given [] (omega arith) in
    rw (late, none) (append-nil (drop place.taken place.part ++ []) ∙ append-nil (drop place.taken place.part))

-- before it the end is left
pub left_before : (vnodes : List Vnode) (since : ℕ) (place : Place) → place.step ≤ length vnodes → left vnodes since place ≡ [] → ⊥
left_before vnodes since place within none =
    let now : leb place.step (length vnodes) ≡ true = le-leb place.step (length vnodes) within in
    let sections : List ℕ = sections_of (map (entry_from since) (drop place.step vnodes)) in
    let left_is : left vnodes since place ≡ here vnodes since place ++ (sections ++ 4 ∷ closing) = rw now refl in
    let long : length (here vnodes since place ++ (sections ++ 4 ∷ closing)) ≡ 0 = ap length (sym left_is ∙ none) in
    omega (arith, long, length-append (here vnodes since place) (sections ++ 4 ∷ closing), length-append sections (4 ∷ closing))

pub none_left : (taken : ℕ) (part : List ℕ) → drop taken part ≡ [] → length part ≤ taken
none_left taken part none = omega (arith, length-drop taken part, ap length none)

-- where nothing is left, nothing is left behind no vnodes either
pub none_behind_none : (vnodes : List Vnode) (since : ℕ) (place : Place) → left vnodes since place ≡ [] → left [] since place ≡ []
none_behind_none vnodes since place none = by (leb place.step (length vnodes)) refl
  where
    by : (b : Bool) → leb place.step (length vnodes) ≡ b → left [] since place ≡ []
    by true is = absurd (left_before vnodes since place (leb-true place.step (length vnodes) is) none)
    by false is =
        let past : length vnodes < place.step = leb-false place.step (length vnodes) is in
        left_past [] since place (omega (arith, past)) ∙ (sym (left_past vnodes since place past) ∙ none)

-- ---- the start

pub begun : (vnodes : List Vnode) (since : ℕ) (part : List ℕ) → left vnodes since (record { part = part; step = 0; taken = 0; given = 0 }) ≡ (part ++ sections_of (map (entry_from since) vnodes)) ++ 4 ∷ closing
begun vnodes since part =
    let now : leb 0 (length vnodes) ≡ true = le-leb 0 (length vnodes) (omega arith) in
    rw now (ap (λ (x : List ℕ). x ++ (sections_of (map (entry_from since) vnodes) ++ 4 ∷ closing)) (append-nil part) ∙ sym (append_assoc part (sections_of (map (entry_from since) vnodes)) (4 ∷ closing)))

-- ---- how many

pub all_room : (n : ℕ) (into l l2 filled : List ℕ) → Gives l l2 into filled n → length into ≤ n → n ≡ min (length into) (length l)
all_room n into l l2 filled h full = omega (arith, h.within, h.had)

pub all_left : (n : ℕ) (into l l2 filled : List ℕ) → Gives l l2 into filled n → l2 ≡ [] → n ≡ min (length into) (length l)
all_left n into l l2 filled h none =
    let len : length l - n ≡ 0 = sym (length-drop n l) ∙ ap length (sym h.after_is ∙ none) in
    omega (arith, h.within, h.had, len)

-- a part at the end, written anew
pub put_rest : (filled room : List ℕ) (n : ℕ) → n ≤ length filled → put_mid n (length filled - n) filled room ≡ take n filled ++ room
put_rest filled room n le =
    let gone : drop (length filled - n) (drop n filled) ≡ [] = drop_all (length filled - n) (drop n filled) (omega (arith, length-drop n filled)) in
    ap (λ (x : List ℕ). take n filled ++ (room ++ x)) gone ∙ ap (λ (x : List ℕ). take n filled ++ x) (append-nil room)
