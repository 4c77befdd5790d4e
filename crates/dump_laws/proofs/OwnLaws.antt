-- The heads of a dump that runs stay its own, and its ended parts stay closed.
use Rattle.std.proofs.Common.{◌≡◌, ◌⊎◌, ℕ, zero, suc, Some, List, [], ◌∷◌, ◌++◌, refl, sym, ap, subst, ◌∙◌, arith, inl, inr}
use Rattle.std.specs.Prelude.{All, Contains, slice_get}
use Rattle.std.proofs.lemmas.List.Elements.{All-nil, All-cons, All-head, All-tail, All-contains}
use Rattle.tape_frames.specs.declared.frame.Frame.TheVariants as frames
use Rattle.tape_frames.specs.declared.dump_head.DumpHeadFields.{DumpHeadFields}
use Rattle.tape_text.specs.Items.{Item, Says}
use Rattle.tape_scan.specs.Slots.{Slot, Located, IsClosedAt}
use Rattle.tape_scan.proofs.ClosedLaws.{closed_is_begun, same_place}
use Rattle.tape_scan.proofs.HeadLaws.{begun_head}
use Rattle.archive_model.specs.Turns.{with_items}
use Rattle.archive_model.proofs.PutLaws.{with_get, with_other}
use Rattle.dump_laws.specs.Running.{OwnHeads}

-- an ended part stays closed where another tape changes
pub closed_elsewhere : (k : ℕ) (items : List Item) (slots : List Slot) (l : Located) → (l.slot ≡ k → ⊥) → IsClosedAt slots l → IsClosedAt (with_items k items slots) l
closed_elsewhere k items slots l other c = record { here = c.here; at = with_other k items slots l.slot c.here other c.at; closed = c.closed }

pub all_closed_elsewhere : (k : ℕ) (items : List Item) (slots : List Slot) (ls : List Located) → ((l : Located) → Contains ls l → l.slot ≡ k → ⊥) → All (IsClosedAt slots) ls → All (IsClosedAt (with_items k items slots)) ls
all_closed_elsewhere k items slots [] other all = All-nil (IsClosedAt (with_items k items slots))
all_closed_elsewhere k items slots (l ∷ ls) other all =
    All-cons (IsClosedAt (with_items k items slots)) l ls (closed_elsewhere k items slots l (other l (0, omega arith, refl)) (All-head (IsClosedAt slots) l ls all))
    (all_closed_elsewhere k items slots ls (λ m there. other m (suc there.0, omega (arith, there.1), there.2)) (All-tail (IsClosedAt slots) l ls all))

-- ---- heads

-- no item is a head
abbrev pub IsNoHead : Item → Type 0
IsNoHead i = (h : DumpHeadFields) → i ≡ Says (frames.DumpHead h) → ⊥

in_get : (ys : List Item) (n : ℕ) (i : Item) → slice_get ys n ≡ Some i → Contains ys i
in_get [] n i is = absurd (cc)
in_get (y ∷ ys) zero i is = (0, omega arith, cc)
in_get (y ∷ ys) (suc n) i is = (let rest = in_get ys n i is in (suc rest.0, omega (arith, rest.1), rest.2))

get_of_two : (xs ys : List Item) (n : ℕ) (i : Item) → slice_get (xs ++ ys) n ≡ Some i → (slice_get xs n ≡ Some i) ⊎ Contains ys i
get_of_two [] ys n i is = inr (in_get ys n i is)
get_of_two (x ∷ xs) ys zero i is = inl is
get_of_two (x ∷ xs) ys (suc n) i is = get_of_two xs ys n i is

-- items that are no heads, put on a tape, add none
pub own_put : (slots : List Slot) (ended : List Located) (id slot first k : ℕ) (s : Slot) (items : List Item) → slice_get slots k ≡ Some s → All IsNoHead items → OwnHeads slots ended id slot first → OwnHeads (with_items k (s.items ++ items) slots) ended id slot first
own_put slots ended id slot first k s items at none own j t n h at_j is same = elim (with_get k (s.items ++ items) slots j t at_j) [
  | inl here ↦
      (let there : slice_get (s.items ++ items) n ≡ Some (Says (frames.DumpHead h)) = ap (λ (l : List Item). slice_get l n) (sym here.1) ∙ is in
      elim (get_of_two s.items items n (Says (frames.DumpHead h)) there) [
        | inl old ↦ own j s n h (ap (λ (i : ℕ). slice_get slots i) here.0 ∙ at) old same
        | inr new ↦ absurd (All-contains IsNoHead items (Says (frames.DumpHead h)) none new h refl)
      ])
  | inr other ↦ own j t n h other.1 is same
]

-- a part is closed where its head stands
closed_head : (slots : List Slot) (l : Located) → (c : IsClosedAt slots l) → slice_get c.here.items l.found.first ≡ Some (Says (frames.DumpHead l.found.part.head))
closed_head slots l c = begun_head c.here.items l.found (closed_is_begun c.here.items l.found c.closed)

-- two closed parts at one place are one
pub one_part : (slots : List Slot) (l m : Located) → IsClosedAt slots l → IsClosedAt slots m → l.slot ≡ m.slot → l.found.first ≡ m.found.first → l.found ≡ m.found
one_part slots l m c d slot first =
    let here : Some c.here ≡ Some d.here = sym c.at ∙ ap (λ (n : ℕ). slice_get slots n) slot ∙ d.at in
    let same : c.here ≡ d.here = cc in
    same_place d.here.items l.found m.found (subst (λ (s : Slot). Rattle.tape_scan.specs.Scans.IsClosedIn s.items l.found) same c.closed) d.closed first

-- a closed part of the dump is one of those that are ended, or it begins where the part in hand does
pub closed_own : (slots : List Slot) (ended : List Located) (id slot first : ℕ) → OwnHeads slots ended id slot first → All (IsClosedAt slots) ended → (l : Located) → IsClosedAt slots l → l.found.part.head.id ≡ id
    → ((m : Located) × Contains ended m × (l.found ≡ m.found)) ⊎ ((l.slot ≡ slot) × (l.found.first ≡ first))
closed_own slots ended id slot first own closed l c same = elim (own l.slot c.here l.found.first l.found.part.head c.at (closed_head slots l c) same) [
  | inl there ↦
      (let m : Located = there.0 in
      let d : IsClosedAt slots m = All-contains (IsClosedAt slots) ended m closed there.1 in
      inl (m, there.1, one_part slots l m c d (sym there.2) (sym there.3)))
  | inr here ↦ inr here
]
