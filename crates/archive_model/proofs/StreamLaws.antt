-- A fragment that is found on a front of a tape stands there as it is called for.
use Rattle.std.proofs.Common.{◌≡◌, ℕ, suc, Bool, Option, Some, List, [], ◌∷◌, ◌++◌, take, drop, refl, sym, ap, subst, ◌∙◌, arith, inl, inr}
use Rattle.std.specs.Prelude.{Contains, find, IsSomeAnd}
use Rattle.std.proofs.lemmas.Bool.{cases_Bool}
use Rattle.std.proofs.lemmas.List.{take-append-drop}
use Rattle.tape_text.specs.Items.{Item, IsFitItem}
use Rattle.tape_text.specs.Texts.{Fragment, Tape, fragment_frames, tape_items, IsTape}
use Rattle.tape_text.specs.Parts.{FoundFragment, FoundPart, parts_of, fragments_of}
use Rattle.tape_text.specs.Wholes.{Lying, lying_as}
use Rattle.tape_scan.specs.Slots.{Slot}
use Rattle.archive_model.specs.Plays.{StandsAt}
use Rattle.tape_scan.proofs.PlaceLaws.{Amid, amid_more, amid_read, amid_all, stands_amid}
use Rattle.archive_model.proofs.HoldLaws.{fragment_is}

-- a fragment that is found on a tape's front stands there as it is called for
pub found_stands : (t : Tape) (q : FoundPart) (g : FoundFragment) (items : List Item) (count tape : ℕ) → IsTape t → take count items ≡ tape_items t → Contains (parts_of t) q → Contains (fragments_of q) g → StandsAt (lying_as tape g) items g.fragment
found_stands t q g items count tape is front there fragment =
    let longer : Amid items (fragment_frames g.fragment) g.at =
    subst (λ (l : List Item). Amid l (fragment_frames g.fragment) g.at) (ap (λ l. l ++ drop count items) (sym front) ∙ take-append-drop count items) (amid_more (tape_items t) (fragment_frames g.fragment) (drop count items) g.at (stands_amid t q g there fragment)) in
    record {
      is = record { head = refl; last = refl; is = fragment_is t q g is there fragment; fit = amid_all IsFitItem (tape_items t) (fragment_frames g.fragment) g.at (stands_amid t q g there fragment) is.fit };
      there = amid_read items (fragment_frames g.fragment) g.at longer;
    }

pub find_contains : {X : Type 0} (test : X → Bool) (xs : List X) (x : X) → find test xs ≡ Some x → Contains xs x
find_contains test [] x found = absurd (cc)
find_contains test (y ∷ xs) x found = elim (cases_Bool (test y)) [
  | inl hit ↦ (let here : find test (y ∷ xs) ≡ Some y = rw hit refl in (0, omega arith, cc))
  | inr miss ↦ (let past : find test (y ∷ xs) ≡ find test xs = rw miss refl in let rest = find_contains test xs x (sym past ∙ found) in (suc rest.0, omega (arith, rest.1), rest.2))
]

pub stands_some : (o : Option (ℕ × Slot)) (s : ℕ × Slot) (c : Lying) (f : Fragment) → o ≡ Some s → StandsAt c s.1.items f → IsSomeAnd o (λ x. StandsAt c x.1.items f)
stands_some o s c f is stands = rw is stands
