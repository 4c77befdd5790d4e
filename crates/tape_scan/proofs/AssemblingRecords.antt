-- Records and left parts, step by step.
use Rattle.std.proofs.Common.{◌≡◌, ℕ, suc, ◌+◌, ◌<◌, Bool, true, false, List, [], ◌∷◌, ◌++◌, map, length, get_or, take, refl, sym, ap, subst, ◌∙◌, arith, append_assoc, inl, inr}
use Rattle.std.specs.Prelude.{All, Contains, filter}
use Rattle.std.specs.Borrow.{Bor}
use Rattle.std.proofs.lemmas.List.{take_more, map-append, map_push}
use Rattle.std.proofs.lemmas.List.Elements.{filter-append, All-nil, All-cons, All-push, All-weaker, Contains-push, Contains-append_left}
use Rattle.std.proofs.lemmas.List.Quantifiers.{all_pairs_push}
use Rattle.budb_changes.specs.declared.records.DumpRecordFields.{DumpRecordFields}
use Rattle.tape_scan.specs.declared.sections.PartFound.{PartFound}
use Rattle.tape_scan.specs.declared.assembling_chains.Chain.{Chain}
use Rattle.tape_scan.specs.declared.assembling.PartId.{PartId}
use Rattle.tape_scan.specs.AssembledSteps.{Stands, seen}
use Rattle.tape_scan.specs.AssembledPaths.{Walks, IsChain}
use Rattle.tape_scan.specs.AssembledRecords.{ArePlaced, IsRecordAt, AreRecords, IsOnWay, told_id, AreLeft}
use Rattle.tape_scan.proofs.AssemblingSteps.{last_or_before}

-- ---- one more of a list that is filtered

module _ {X Y V : Type 0} (of : Y → V) (test : Y → Bool) (to : X → Y) (start old new : List V) (xs : List X) (i : ℕ) (x : X) (within : i < length xs) (is : x ≡ get_or xs i x) (before : old ≡ start ++ map of (filter test (map to (take i xs)))) where
  joined : filter test (map to (take (i + 1) xs)) ≡ filter test (map to (take i xs)) ++ filter test (to x ∷ [])
  joined =
      ap (λ (l : List X). filter test (map to l)) (take_more xs i x within ∙ ap (λ (y : X). take i xs ++ y ∷ []) (sym is))
      ∙ ap (λ (l : List Y). filter test l) (map-append to (take i xs) (x ∷ [])) ∙ filter-append test (map to (take i xs)) (to x ∷ [])

  pub kept_step : test (to x) ≡ true → new ≡ old ++ of (to x) ∷ [] → new ≡ start ++ map of (filter test (map to (take (i + 1) xs)))
  kept_step keeps more =
      let one : filter test (to x ∷ []) ≡ to x ∷ [] = rw keeps refl in
      more ∙ ap (λ (l : List V). l ++ of (to x) ∷ []) before ∙ append_assoc start (map of (filter test (map to (take i xs)))) (of (to x) ∷ [])
      ∙ ap (λ (l : List V). start ++ l) (sym (map-append of (filter test (map to (take i xs))) (to x ∷ [])))
      ∙ ap (λ (l : List Y). start ++ map of l) (sym (joined ∙ ap (λ (l : List Y). filter test (map to (take i xs)) ++ l) one))

  pub passed_step : test (to x) ≡ false → new ≡ old → new ≡ start ++ map of (filter test (map to (take (i + 1) xs)))
  passed_step drops same =
      let none : filter test (to x ∷ []) ≡ [] = rw drops refl in
      same ∙ before ∙ ap (λ (l : List Y). start ++ map of l) (sym (joined ∙ ap (λ (l : List Y). filter test (map to (take i xs)) ++ l) none ∙ no_more (filter test (map to (take i xs)))))
    where
      no_more : (l : List Y) → l ++ [] ≡ l
      no_more [] = refl
      no_more (y ∷ l) = ap (λ (t : List Y). y ∷ t) (no_more l)

-- ---- parts at places

pub placed_push : (all : List PartFound) (ks : List ℕ) (ps : List PartFound) (k : ℕ) (p : PartFound) → ArePlaced all ks ps → Stands all k p → ArePlaced all (ks ++ k ∷ []) (ps ++ p ∷ [])
placed_push all [] [] k p placed stands = (stands, tt)
placed_push all (j ∷ ks) (q ∷ ps) k p placed stands = (placed.0, placed_push all ks ps k p placed.1 stands)
placed_push all [] (q ∷ ps) k p placed stands = absurd placed
placed_push all (j ∷ ks) [] k p placed stands = absurd placed

pub placed_some : (all : List PartFound) (ks : List ℕ) (parts : List (Bor PartFound)) → ArePlaced all ks (seen parts) → 0 < length ks → 0 < length parts
placed_some all [] parts placed some = absurd (omega (arith, some))
placed_some all (k ∷ ks) [] placed some = absurd placed
placed_some all (k ∷ ks) (p ∷ parts) placed some = omega arith

pub seen_first : (parts : List (Bor PartFound)) (r : Bor PartFound) → 0 < length parts → r ≡ get_or parts 0 r → (p : PartFound) × (ps : List PartFound) × (seen parts ≡ p ∷ ps) × (p ≡ r.now)
seen_first [] r some is = absurd (omega (arith, some))
seen_first (q ∷ parts) r some is = (q.now, seen parts, refl, ap (λ (x : Bor PartFound). x.now) (sym is))

-- ---- records of ways

pub records_push : (all : List PartFound) (cs : List Chain) (ds : List DumpRecordFields) (c : Chain) (d : DumpRecordFields) → AreRecords all cs ds → IsRecordAt all c.places d → AreRecords all (cs ++ c ∷ []) (ds ++ d ∷ [])
records_push all [] [] c d records is = (is, tt)
records_push all (b ∷ cs) (e ∷ ds) c d records is = (records.0, records_push all cs ds c d records.1 is)
records_push all [] (e ∷ ds) c d records is = absurd records
records_push all (b ∷ cs) [] c d records is = absurd records

within_walk : (all : List PartFound) (good : List Bool) (at : ℕ) (p : PartFound) (js : List ℕ) (last : ℕ) (end : PartFound) → Walks all good at p js last end → All (λ k. k < length all) js
within_walk all good at p [] last end walks = All-nil (λ (k : ℕ). k < length all)
within_walk all good at p (j ∷ js) last end walks = All-cons (λ (k : ℕ). k < length all) j js walks.1.stands.0 (within_walk all good j walks.0 js last end walks.2)

pub chain_within : (all : List PartFound) (good : List Bool) (c : Chain) → IsChain all good c → (0 < length c.places) × All (λ k. k < length all) c.places
chain_within all good c chain =
    let walk = chain.walk.walk in
    let whole : All (λ k. k < length all) (chain.begin ∷ walk.rest) = All-cons (λ (k : ℕ). k < length all) chain.begin walk.rest walk.stands.0 (within_walk all good chain.begin walk.first walk.rest chain.walk.last walk.end walk.walks) in
    (omega (arith, ap length walk.is), subst (All (λ k. k < length all)) (sym walk.is) whole)

-- ---- places on no way

pub on_way_before : (chains : List Chain) (i : ℕ) (c : Chain) (at : ℕ) → i < length chains → c ≡ get_or chains i c → Contains c.places at → IsOnWay chains at
on_way_before chains i c at within is there = (c, (i, within, sym is), there)

pub none_left : (all : List PartFound) (chains : List Chain) (ids : List PartId) → ids ≡ [] → AreLeft all chains 0 ids
none_left all chains ids is = record {
  places = [];
  parts = [];
  placed = tt;
  each = All-nil (λ (k : ℕ). (k < 0) × (IsOnWay chains k → ⊥));
  complete = λ k lt not. absurd (omega (arith, lt));
  ascending = λ i j d lt within. absurd (omega (arith, within));
  ids_are = is;
}

pub left_taken : (all : List PartFound) (chains : List Chain) (i : ℕ) (ids more : List PartId) (p : PartFound) → AreLeft all chains i ids → Stands all i p → (IsOnWay chains i → ⊥) → more ≡ ids ++ told_id p ∷ [] → AreLeft all chains (i + 1) more
left_taken all chains i ids more p left stands not joined = record {
  places = left.places ++ i ∷ [];
  parts = left.parts ++ p ∷ [];
  placed = placed_push all left.places left.parts i p left.placed stands;
  each =
      All-push (λ (k : ℕ). (k < i + 1) × (IsOnWay chains k → ⊥)) left.places i
      (All-weaker (λ (k : ℕ). (k < i) × (IsOnWay chains k → ⊥)) (λ (k : ℕ). (k < i + 1) × (IsOnWay chains k → ⊥)) (λ k both. (omega (arith, both.0), both.1)) left.places left.each) (omega arith, not);
  complete = λ k lt none. elim (last_or_before k i lt) [
    | inl less ↦ Contains-append_left left.places (i ∷ []) k (left.complete k less none)
    | inr same ↦ subst (Contains (left.places ++ i ∷ [])) (sym same) (Contains-push left.places i)
  ];
  ascending = all_pairs_push (λ (j k : ℕ). j < k) left.places i left.ascending (λ k d lt. (left.each k d lt).0);
  ids_are = joined ∙ ap (λ (l : List PartId). l ++ told_id p ∷ []) left.ids_are ∙ sym (map_push told_id left.parts p);
}

pub left_passed : (all : List PartFound) (chains : List Chain) (i : ℕ) (ids : List PartId) → AreLeft all chains i ids → IsOnWay chains i → AreLeft all chains (i + 1) ids
left_passed all chains i ids left on = record {
  places = left.places;
  parts = left.parts;
  placed = left.placed;
  each = All-weaker (λ (k : ℕ). (k < i) × (IsOnWay chains k → ⊥)) (λ (k : ℕ). (k < i + 1) × (IsOnWay chains k → ⊥)) (λ k both. (omega (arith, both.0), both.1)) left.places left.each;
  complete = λ k lt none. elim (last_or_before k i lt) [
    | inl less ↦ left.complete k less none
    | inr same ↦ absurd (none (subst (IsOnWay chains) (sym same) on))
  ];
  ascending = left.ascending;
  ids_are = left.ids_are;
}

-- as many are seen as are lent
pub seen_long : (parts : List (Bor PartFound)) → length (seen parts) ≡ length parts
seen_long [] = refl
seen_long (p ∷ parts) = ap suc (seen_long parts)
