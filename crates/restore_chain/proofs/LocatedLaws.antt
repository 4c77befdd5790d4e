-- Needs that are located, one after the other.
use Rattle.std.proofs.Common.{◌≡◌, ℕ, ◌+◌, ◌<◌, true, false, Option, Some, None, List, [], ◌∷◌, ◌++◌, length, map, take, drop, get_or, refl, sym, ap, ◌∙◌}
use Rattle.std.specs.Prelude.{find}
use Rattle.std.proofs.lemmas.List.{take_more, map-append}
use Rattle.tape_scan.specs.Slots.{Slot}
use Rattle.archive_model.specs.Holding.{holder_here}
use Rattle.archive_model.specs.Archives.{Need, is_missing}
use Rattle.budb_fold.proofs.Finds.{found_later}
use Rattle.restore_chain.specs.declared.chain_plan.TapeNeed.{TapeNeed}
use Rattle.tape_frames.specs.TapeNames.{numbered}
use Rattle.restore_chain.specs.Planning.{located_by, located, number_of}

by_holder : (n : Need) (o : Option (ℕ × Slot)) (t : TapeNeed) → located_by n o ≡ Some t → (s : ℕ × Slot) × (o ≡ Some s)
by_holder n None t is = absurd (cc)
by_holder n (Some s) t is = (s, refl)

by_none : (n : Need) (o : Option (ℕ × Slot)) → located_by n o ≡ None → o ≡ None
by_none n None is = refl
by_none n (Some s) is = absurd (cc)

pub is_there : (slots : List Slot) (n : Need) (t : TapeNeed) → located slots n ≡ Some t → is_missing slots n ≡ false
is_there slots n t is = let s = by_holder n (holder_here n.dump n.tape slots) t is in rw s.1 refl

pub is_not_there : (slots : List Slot) (n : Need) → located slots n ≡ None → is_missing slots n ≡ true
is_not_there slots n is = let none : holder_here n.dump n.tape slots ≡ None = by_none n (holder_here n.dump n.tape slots) is in rw none refl

-- one tape more
pub located_more : (slots : List Slot) (ns : List Need) (i : ℕ) (n : Need) (ts us : List TapeNeed) (t : TapeNeed) → i < length ns → n ≡ get_or ns i n
    → map (located slots) (take i ns) ≡ map Some ts → located slots n ≡ Some t → us ≡ ts ++ t ∷ [] → map (located slots) (take (i + 1) ns) ≡ map Some us
located_more slots ns i n ts us t within is so_far here more =
    ap (map (located slots)) (take_more ns i n within ∙ ap (λ (m : Need). take i ns ++ m ∷ []) (sym is))
    ∙ map-append (located slots) (take i ns) (n ∷ [])
    ∙ (λ j. so_far j ++ here j ∷ [])
    ∙ sym (map-append Some ts (t ∷ []))
    ∙ ap (map Some) (sym more)

pub none_missing_yet : (slots : List Slot) (ns : List Need) (i : ℕ) (n : Need) (t : TapeNeed) → i < length ns → n ≡ get_or ns i n → located slots n ≡ Some t
    → find (is_missing slots) ns ≡ find (is_missing slots) (drop i ns) → find (is_missing slots) ns ≡ find (is_missing slots) (drop (i + 1) ns)
none_missing_yet slots ns i n t within is here so_far = found_later (is_missing slots) ns i n within is (is_there slots n t here) so_far

-- where all are located none is missing
pub all_there : (slots : List Slot) (ns : List Need) (ts : List TapeNeed) → map (located slots) ns ≡ map Some ts → find (is_missing slots) ns ≡ None
all_there slots [] ts is = refl
all_there slots (n ∷ ns) [] is = absurd (cc)
all_there slots (n ∷ ns) (t ∷ ts) is =
    let first : located slots n ≡ Some t = cc in
    let rest : map (located slots) ns ≡ map Some ts = cc in
    let there : is_missing slots n ≡ false = is_there slots n t first in
    rw there (all_there slots ns ts rest)

-- by the number of the slot that holds the tape
pub located_none : (n : Need) (o : Option (ℕ × Slot)) → None ≡ number_of o → None ≡ located_by n o
located_none n None is = refl
located_none n (Some s) is = absurd (cc)

pub located_some : (n : Need) (o : Option (ℕ × Slot)) (k : ℕ) (t : TapeNeed) → Some k ≡ number_of o → t ≡ record { name = numbered n.dump.base n.tape; initial = n.dump.initial; tape = n.tape; slot = k } → Some t ≡ located_by n o
located_some n None k t is same = absurd (cc)
located_some n (Some s) k t is same =
    let number : k ≡ s.0 = cc in
    ap Some same ∙ ap (λ (m : ℕ). Some (record { name = numbered n.dump.base n.tape; initial = n.dump.initial; tape = n.tape; slot = m })) number
