-- What the function of told parts gives is what is found over the tapes.
use Rattle.std.proofs.Common.{◌≡◌, inl, inr, ℕ, zero, suc, ◌<◌, true, false, List, [], ◌∷◌, length, map, refl, sym, ◌∙◌, ap, subst, arith}
use Rattle.std.specs.Prelude.{◌==◌, Contains, filter}
use Rattle.std.specs.List.{flat_map, list_any}
use Rattle.std.proofs.lemmas.Bool.{eqb-true, eq-eqb, and_parts, and_from, not-true, not_from_false, false_from_ne_true}
use Rattle.tape_scan.specs.declared.sections.PartFound.{PartFound}
use Rattle.tape_scan.specs.declared.sections.Sections.{Sections}
use Rattle.tape_scan.specs.declared.assembling.Found.{Found}
use Rattle.tape_scan.specs.declared.assembling.PartId.{PartId}
use Rattle.tape_scan.specs.Slots.{Slot, Located}
use Rattle.tape_scan.specs.Scanned.{Place, place_of, Scanned}
use Rattle.tape_scan.specs.Assembled.{AreScans, part_id}
use Rattle.tape_scan.specs.AssembledSteps.{Stands}
use Rattle.tape_scan.specs.AssembledPaths.{IsBegin, IsChain, AreChains}
use Rattle.tape_scan.specs.AssembledRecords.{told_id, AreRecords, IsOnWay, AreLeft}
use Rattle.tape_scan.specs.Ways.{chain_of, chain_id, chain_places}
use Rattle.tape_scan.proofs.ListLaws.{contains_map, contains_filter, of_filter}
use Rattle.tape_scan.proofs.AnswerLaws.{whole_once, left_once}
use Rattle.tape_scan.proofs.AssemblingWhole.{assembled}
use Rattle.tape_answers.specs.Assembling.{Placed, placed_from, completes, Way, begins_dump, way_id, ways_in, ways, is_place, is_on, is_left, record_of, found_of, found_in}
use Rattle.tape_answers.proofs.CompletingLaws.{are_known}
use Rattle.tape_answers.proofs.ChoosingLaws.{IsWayOf, AreWaysOf, ways_are}
use Rattle.tape_answers.proofs.WayLaws.{placed_stands, stands_placed, ascend, are_placed, flags, flag_on, on_flag, WalksOn, way_walks}
use Rattle.tape_answers.proofs.ListLaws.{here, there, here_or_there, all_members, contains_to, any_from, any_to, pairs_of, ascends_map, ascends_filter}

abbrev places_on : Way → List ℕ
places_on w = map (λ (z : Placed). z.at) (w.begin ∷ w.rest)

-- ---- the ways

way_on : (all : List PartFound) (w : Way) → IsWayOf all (placed_from 0 all) w → WalksOn all w.begin w.rest
way_on all w one = subst (WalksOn all w.begin) (ap (λ (x : Way). x.rest) one.is) (way_walks all w.begin (placed_stands all w.begin one.member))

begins_it : (all : List PartFound) (k : ℕ) (q : PartFound) → IsBegin all (flags all) k q → begins_dump all (record { at = k; part = q }) ≡ true
begins_it all k q b = and_from (completes all q) (q.head.part == 1) (flag_on all k q b.stands b.flagged) (eq-eqb q.head.part 1 b.part)

is_chain : (all : List PartFound) (w : Way) → IsWayOf all (placed_from 0 all) w → IsChain all (flags all) (chain_of (way_id w) (places_on w))
is_chain all w one =
    let stands = placed_stands all w.begin one.member in
    let on = way_on all w one in
    let both = and_parts (completes all w.begin.part) (w.begin.part.head.part == 1) one.begins in
    record {
      begin = w.begin.at;
      head = w.begin.part;
      is = record { stands = stands; flagged = on_flag all w.begin.at w.begin.part stands both.0; part = eqb-true w.begin.part.head.part 1 both.1 };
      id = refl;
      first = λ k q b same. one.first (record { at = k; part = q }) (stands_placed all k q b.stands) (begins_it all k q b) same;
      walk = record {
        last = on.last;
        walk = record { first = w.begin.part; stands = stands; rest = map (λ (z : Placed). z.at) w.rest; is = refl; end = on.end; end_stands = on.end_stands; walks = on.walks };
        no_next = on.no_next;
      };
    }

module _ (all : List PartFound) (ws : List Way) (are : AreWaysOf all (placed_from 0 all) ws) where
  are_chains : AreChains all (flags all) (map (λ (w : Way). chain_of (way_id w) (places_on w)) ws)
  are_chains = record {
    each = all_members (IsChain all (flags all)) (map (λ (w : Way). chain_of (way_id w) (places_on w)) ws) (λ c member.
        let found = contains_map (λ (w : Way). chain_of (way_id w) (places_on w)) ws c member in subst (IsChain all (flags all)) found.2 (is_chain all found.0 (are.each found.0 found.1)));
    ascending = pairs_of chain_id (map (λ (w : Way). chain_of (way_id w) (places_on w)) ws) (ascends_map (λ (w : Way). chain_of (way_id w) (places_on w)) chain_id ws are.up);
    complete = λ k q b.
        let found = are.complete (record { at = k; part = q }) (stands_placed all k q b.stands) (begins_it all k q b) in
        (chain_of (way_id found.0) (places_on found.0), contains_to (λ (w : Way). chain_of (way_id w) (places_on w)) ws found.0 found.1, found.2);
  }

  each_stands : (w : Way) → Contains ws w → (z : Placed) → Contains (w.begin ∷ w.rest) z → Stands all z.at z.part
  each_stands w member z on_it = elim (here_or_there w.begin w.rest z on_it) [
    | inl is ↦ subst (λ (x : Placed). Stands all x.at x.part) is (placed_stands all w.begin (are.each w member).member)
    | inr rest ↦ (way_on all w (are.each w member)).each z rest
  ]

are_records : (all : List PartFound) (ws : List Way) → ((w : Way) → Contains ws w → (z : Placed) → Contains (w.begin ∷ w.rest) z → Stands all z.at z.part) → AreRecords all (map (λ (w : Way). chain_of (way_id w) (places_on w)) ws) (map record_of ws)
are_records all [] each = tt
are_records all (w ∷ ws) each = (
  (map (λ (z : Placed). z.part) (w.begin ∷ w.rest), are_placed all (w.begin ∷ w.rest) (each w (here w ws)), refl),
  are_records all ws (λ v member. each v (there w ws v member)),
)

-- ---- what is left over

on_way : (ws : List Way) (k : ℕ) → list_any (is_on k) ws ≡ true → IsOnWay (map (λ (w : Way). chain_of (way_id w) (places_on w)) ws) k
on_way ws k on =
    let found = any_to (is_on k) ws on in
    let place = any_to (is_place k) (found.0.begin ∷ found.0.rest) found.2 in (
      chain_of (way_id found.0) (places_on found.0),
      contains_to (λ (w : Way). chain_of (way_id w) (places_on w)) ws found.0 found.1,
      subst (Contains (places_on found.0)) (eqb-true place.0.at k place.2) (contains_to (λ (z : Placed). z.at) (found.0.begin ∷ found.0.rest) place.0 place.1),
    )

way_of : (ws : List Way) (k : ℕ) → IsOnWay (map (λ (w : Way). chain_of (way_id w) (places_on w)) ws) k → list_any (is_on k) ws ≡ true
way_of ws k (c, member, there_k) =
    let found = contains_map (λ (w : Way). chain_of (way_id w) (places_on w)) ws c member in
    let on_it : Contains (places_on found.0) k = subst (λ (l : List ℕ). Contains l k) (ap chain_places (sym found.2)) there_k in
    let place = contains_map (λ (z : Placed). z.at) (found.0.begin ∷ found.0.rest) k on_it in
    any_from (is_on k) ws found.0 found.1 (any_from (is_place k) (found.0.begin ∷ found.0.rest) place.0 place.1 (eq-eqb place.0.at k place.2))

part_there : (all : List PartFound) (k : ℕ) → k < length all → (p : PartFound) × Stands all k p
part_there [] k lt = absurd (omega (arith, lt))
part_there (p ∷ all) zero lt = (p, (omega arith, refl))
part_there (p ∷ all) (suc k) lt = let found = part_there all k (omega (arith, lt)) in (found.0, (omega (arith, lt), found.1.1))

ids_told : (zs : List Placed) → map (λ (z : Placed). told_id z.part) zs ≡ map told_id (map (λ (z : Placed). z.part) zs)
ids_told [] = refl
ids_told (z ∷ zs) = ap (λ (l : List PartId). told_id z.part ∷ l) (ids_told zs)

are_left : (all : List PartFound) (ws : List Way) → AreLeft all (map (λ (w : Way). chain_of (way_id w) (places_on w)) ws) (length all) (map (λ (z : Placed). told_id z.part) (filter (is_left ws) (placed_from 0 all)))
are_left all ws = record {
  places = map (λ (z : Placed). z.at) (filter (is_left ws) (placed_from 0 all));
  parts = map (λ (z : Placed). z.part) (filter (is_left ws) (placed_from 0 all));
  placed = are_placed all (filter (is_left ws) (placed_from 0 all)) (λ z member. placed_stands all z (of_filter (is_left ws) (placed_from 0 all) z member).0);
  each = all_members (λ k. (k < length all) × (IsOnWay (map (λ (w : Way). chain_of (way_id w) (places_on w)) ws) k → ⊥)) (map (λ (z : Placed). z.at) (filter (is_left ws) (placed_from 0 all))) (λ k member.
      let found = contains_map (λ (z : Placed). z.at) (filter (is_left ws) (placed_from 0 all)) k member in
      let one = of_filter (is_left ws) (placed_from 0 all) found.0 found.1 in
      let free : list_any (is_on found.0.at) ws ≡ false = not-true (list_any (is_on found.0.at) ws) one.1 in
      subst (λ n. (n < length all) × (IsOnWay (map (λ (w : Way). chain_of (way_id w) (places_on w)) ws) n → ⊥)) found.2
      ((placed_stands all found.0 one.0).0, (λ on. absurd (let no : false ≡ true = sym free ∙ way_of ws found.0.at on in cc))));
  complete = λ k lt free.
      let p = part_there all k lt in
      let off : list_any (is_on k) ws ≡ false = false_from_ne_true (list_any (is_on k) ws) (λ on. free (on_way ws k on)) in
      contains_to (λ (z : Placed). z.at) (filter (is_left ws) (placed_from 0 all)) (record { at = k; part = p.0 })
      (contains_filter (is_left ws) (placed_from 0 all) (record { at = k; part = p.0 }) (stands_placed all k p.0 p.1) (not_from_false (list_any (is_on k) ws) off));
  ascending = pairs_of (λ (n : ℕ). n) (map (λ (z : Placed). z.at) (filter (is_left ws) (placed_from 0 all)))
      (ascends_map (λ (z : Placed). z.at) (λ (n : ℕ). n) (filter (is_left ws) (placed_from 0 all)) (ascends_filter (λ (z : Placed). z.at) (is_left ws) (placed_from 0 all) (ascend all)));
  ids_are = ids_told (filter (is_left ws) (placed_from 0 all));
}

-- ---- what is found

found_parts : (slots : List Slot) (tapes : List Sections) (all : List PartFound) → AreScans slots tapes → all ≡ flat_map (λ t. t.parts) tapes → (left : List Located) × Scanned slots (found_of all).whole left × ((found_of all).parts ≡ map part_id left)
unfolding ways
found_parts slots tapes all scans gathered =
    let are = ways_are all (placed_from 0 all) (ascend all) in
    assembled slots tapes all (flags all) (map (λ (w : Way). chain_of (way_id w) (places_on w)) (ways_in all (placed_from 0 all))) (map record_of (ways_in all (placed_from 0 all)))
    (map (λ (z : Placed). told_id z.part) (filter (is_left (ways_in all (placed_from 0 all))) (placed_from 0 all))) scans gathered (are_known all)
    (are_chains all (ways_in all (placed_from 0 all)) are) (are_records all (ways_in all (placed_from 0 all)) (each_stands all (ways_in all (placed_from 0 all)) are)) (are_left all (ways_in all (placed_from 0 all)))

pub found_there : (slots : List Slot) (tapes : List Sections) → AreScans slots tapes → (left : List Located) × Scanned slots (found_in tapes).whole left × ((found_in tapes).parts ≡ map part_id left)
unfolding found_in
found_there slots tapes scans = found_parts slots tapes (flat_map (λ t. t.parts) tapes) scans refl

-- ---- one answer

id_of_place : Place → PartId
id_of_place p = record { id = p.head.id; tape = p.head.tape }

ids_by_place : (left : List Located) → map part_id left ≡ map id_of_place (map place_of left)
unfolding id_of_place
ids_by_place [] = refl
ids_by_place (l ∷ left) = ap (λ (ids : List PartId). part_id l ∷ ids) (ids_by_place left)

pub one_found : (slots : List Slot) (tapes : List Sections) (found : Found) → AreScans slots tapes → (left : List Located) × Scanned slots found.whole left × (found.parts ≡ map part_id left) → found ≡ found_in tapes
one_found slots tapes found scans (left, scanned, ids) =
    let own = found_there slots tapes scans in
    let whole : found.whole ≡ (found_in tapes).whole = whole_once slots found.whole (found_in tapes).whole left own.0 scanned own.1 in
    let places = left_once slots found.whole (found_in tapes).whole left own.0 scanned own.1 in
    let parts : found.parts ≡ (found_in tapes).parts = ids ∙ ids_by_place left ∙ ap (map id_of_place) places ∙ sym (ids_by_place own.0) ∙ sym own.2 in
    λ i. record { whole = whole i; parts = parts i }
