-- What the parts of several scans come to: the whole dumps, and the parts that are left over.
use Rattle.std.proofs.Common.{◌≡◌, ℕ, zero, suc, ◌<◌, Bool, List, [], ◌∷◌, map, length, refl, sym, ap, subst, ◌∙◌, arith}
use Rattle.std.specs.Prelude.{All, AllPairs, Contains}
use Rattle.std.specs.List.{flat_map}
use Rattle.std.proofs.lemmas.List.Elements.{All-nil, All-cons, All-head, All-tail, All-contains}
use Rattle.std.proofs.lemmas.List.Kept.{AllPairs-cons}
use Rattle.tape_frames.specs.declared.dump_head.DumpHeadFields.{DumpHeadFields}
use Rattle.budb_changes.specs.declared.records.DumpRecordFields.{DumpRecordFields}
use Rattle.tape_scan.specs.declared.sections.PartFound.{PartFound}
use Rattle.tape_scan.specs.declared.sections.Sections.{Sections}
use Rattle.tape_scan.specs.declared.assembling_chains.Chain.{Chain}
use Rattle.tape_scan.specs.declared.assembling.PartId.{PartId}
use Rattle.tape_scan.specs.Slots.{Slot, Located, IsClosedAt, IsBegunAt, IsFound}
use Rattle.tape_scan.specs.Scanned.{IsEarlier, IsSame, IsChosen, IsTaken, Scanned}
use Rattle.tape_scan.specs.Assembled.{AreScans, part_id}
use Rattle.tape_scan.specs.AssembledSteps.{Stands, AreKnown}
use Rattle.tape_scan.specs.AssembledPaths.{IsChain, AreChains}
use Rattle.tape_scan.specs.AssembledRecords.{ArePlaced, AreRecords, IsOnWay, told_id, AreLeft}
use Rattle.tape_scan.proofs.AssemblingSteps.{one_stands}
use Rattle.tape_scan.proofs.AssemblingAll.{Both, IsAll, all_from, all_told, is_all, pairs_first, pairs_rest}
use Rattle.tape_scan.proofs.AssemblingWays.{tolds, ats, Placed, told_at, at_told, ordered, same_index, place_closed, Picked, picked, one_chosen, found_begin, found_told_id}

-- ---- lists side by side

abbrev pub Beside : {X Y : Type 0} → (X → Y → Type 0) → List X → List Y → Type 0
Beside R [] [] = Unit {0}
Beside R (x ∷ xs) (y ∷ ys) = R x y × Beside R xs ys
Beside R [] (y ∷ ys) = ⊥
Beside R (x ∷ xs) [] = ⊥

module _ {X Y : Type 0} (R : X → Y → Type 0) where
  across : (xs : List X) (ys : List Y) → Beside R xs ys → (x : X) → Contains xs x → (y : Y) × Contains ys y × R x y
  across [] ys beside x there = absurd (omega (arith, there.1))
  across (z ∷ xs) (y ∷ ys) beside x (zero, within, is) = (y, (0, omega arith, refl), subst (λ (w : X). R w y) is beside.0)
  across (z ∷ xs) (y ∷ ys) beside x (suc k, within, is) =
      let rest = across xs ys beside.1 x (k, omega (arith, within), is) in
      (rest.0, (suc rest.1.0, omega (arith, rest.1.1), rest.1.2), rest.2)
  across (z ∷ xs) [] beside x there = absurd beside

  all_across : (P : X → Type 0) (Q : Y → Type 0) (xs : List X) (ys : List Y) → Beside R xs ys → ((x : X) (y : Y) → R x y → P x → Q y) → All P xs → All Q ys
  all_across P Q [] [] beside so all = All-nil Q
  all_across P Q (x ∷ xs) (y ∷ ys) beside so all = All-cons Q y ys (so x y beside.0 (All-head P x xs all)) (all_across P Q xs ys beside.1 so (All-tail P x xs all))
  all_across P Q [] (y ∷ ys) beside so all = absurd beside
  all_across P Q (x ∷ xs) [] beside so all = absurd beside

  pairs_across : (S : X → X → Type 0) (T : Y → Y → Type 0) (xs : List X) (ys : List Y) → Beside R xs ys → ((x : X) (y : Y) (v : X) (w : Y) → R x y → R v w → S x v → T y w) → AllPairs S xs → AllPairs T ys
  pairs_across S T [] [] beside so pairs = λ i j d lt within. absurd (omega (arith, within))
  pairs_across S T (x ∷ xs) (y ∷ ys) beside so pairs =
      AllPairs-cons T y ys (all_across (S x) (T y) xs ys beside.1 (λ v w r s. so x y v w beside.0 r s) (pairs_first S x xs pairs)) (pairs_across S T xs ys beside.1 so (pairs_rest S x xs pairs))
  pairs_across S T [] (y ∷ ys) beside so pairs = absurd beside
  pairs_across S T (x ∷ xs) [] beside so pairs = absurd beside

at_member : (ys : List Both) (l : Located) → Contains (ats ys) l → (y : Both) × Contains ys y × (y.at ≡ l)
at_member [] l there = absurd (omega (arith, there.1))
at_member (y ∷ ys) l (zero, within, is) = (y, (0, omega arith, refl), is)
at_member (y ∷ ys) l (suc k, within, is) =
    let rest = at_member ys l (k, omega (arith, within), is) in
    (rest.0, (suc rest.1.0, omega (arith, rest.1.1), rest.1.2), rest.2)

member_at : (ys : List Both) (y : Both) → Contains ys y → Contains (ats ys) y.at
member_at [] y there = absurd (omega (arith, there.1))
member_at (x ∷ ys) y (zero, within, is) = (0, omega arith, ap (λ (b : Both). b.at) is)
member_at (x ∷ ys) y (suc k, within, is) = let rest = member_at ys y (k, omega (arith, within), is) in (suc rest.0, omega (arith, rest.1), rest.2)

-- the places and the parts that stand there, side by side
placed_beside : (zs : List Both) (ks : List ℕ) (ys : List Both) → Placed zs ks ys → Beside (λ k y. Stands zs k y) ks ys
placed_beside zs [] [] placed = tt
placed_beside zs (k ∷ ks) (y ∷ ys) placed = (placed.0, placed_beside zs ks ys placed.1)
placed_beside zs [] (y ∷ ys) placed = absurd placed
placed_beside zs (k ∷ ks) [] placed = absurd placed

beside_placed : (zs : List Both) (ks : List ℕ) (ys : List Both) → Placed zs ks ys → Beside (λ y k. Stands zs k y) ys ks
beside_placed zs [] [] placed = tt
beside_placed zs (k ∷ ks) (y ∷ ys) placed = (placed.0, beside_placed zs ks ys placed.1)
beside_placed zs [] (y ∷ ys) placed = absurd placed
beside_placed zs (k ∷ ks) [] placed = absurd placed

-- the parts at places of what is told
told_placed : (zs : List Both) (ks : List ℕ) (ps : List PartFound) → ArePlaced (tolds zs) ks ps → (ys : List Both) × Placed zs ks ys × (tolds ys ≡ ps)
told_placed zs [] [] placed = ([], tt, refl)
told_placed zs (k ∷ ks) (p ∷ ps) placed =
    let z = at_told zs k p placed.0 in
    let rest = told_placed zs ks ps placed.1 in
    (z.0 ∷ rest.0, (z.1, rest.1), ap (λ (x : PartFound). x ∷ tolds rest.0) z.2 ∙ ap (λ (t : List PartFound). p ∷ t) rest.2)
told_placed zs [] (p ∷ ps) placed = absurd placed
told_placed zs (k ∷ ks) [] placed = absurd placed

module _ (slots : List Slot) (zs : List Both) (all : IsAll slots zs) (good : List Bool) (known : AreKnown (tolds zs) good) (chains : List Chain) (ways : AreChains (tolds zs) good chains) (whole : List DumpRecordFields) (records : AreRecords (tolds zs) chains whole) where
  all_picked : (cs : List Chain) (ds : List DumpRecordFields) → All (IsChain (tolds zs) good) cs → AreRecords (tolds zs) cs ds → Beside (λ c d. Picked slots zs all good known c d) cs ds
  all_picked [] [] each records = tt
  all_picked (c ∷ cs) (d ∷ ds) each records = (picked slots zs all good known c d (All-head (IsChain (tolds zs) good) c cs each) records.0, all_picked cs ds (All-tail (IsChain (tolds zs) good) c cs each) records.1)
  all_picked [] (d ∷ ds) each records = absurd records
  all_picked (c ∷ cs) [] each records = absurd records

  picks : Beside (λ c d. Picked slots zs all good known c d) chains whole
  picks = all_picked chains whole ways.each records

  each_chosen : All (λ d. (parts : List Located) × IsChosen slots parts d) whole
  each_chosen = all_across (λ (c : Chain) (d : DumpRecordFields). Picked slots zs all good known c d) (λ (c : Chain). Unit {0}) (λ (d : DumpRecordFields). (parts : List Located) × IsChosen slots parts d) chains whole picks (λ c d pick done. (ats pick.both, pick.chosen)) (λ k d lt. tt)

  ids_ascend : AllPairs (λ d e. d.id < e.id) whole
  ids_ascend = pairs_across (λ (c : Chain) (d : DumpRecordFields). Picked slots zs all good known c d) (λ (b c : Chain). b.id < c.id) (λ (d e : DumpRecordFields). d.id < e.id) chains whole picks (λ b d c e pick more lt. let a = pick.id in let z = more.id in omega (arith, a, z, lt)) ways.ascending

  -- each dump that is found whole has its way and its record
  pub record Covered (d : DumpRecordFields) : Type 0 where
    pub chain : Chain
    pub member : Contains chains chain
    pub dump : DumpRecordFields
    pub there : Contains whole dump
    pub pick : Picked slots zs all good known chain dump
    pub id : dump.id ≡ d.id

  covered : (parts : List Located) (d : DumpRecordFields) → IsFound slots parts d → Covered d
  covered [] d found = absurd found.whole.begins
  covered (l ∷ ls) d found =
      let begin = found_begin slots zs all good known l ls d found in
      let place = place_closed slots zs all l (All-head (IsClosedAt slots) l ls found.closed) in
      let way = ways.complete place.index place.both.told begin in
      let record_there = across (λ (c : Chain) (e : DumpRecordFields). Picked slots zs all good known c e) chains whole picks way.0 way.1 in
      record {
        chain = way.0;
        member = way.1;
        dump = record_there.0;
        there = record_there.1;
        pick = record_there.2;
        id = record_there.2.id ∙ way.2 ∙ found_told_id slots zs all good known l ls d found;
      }

  -- ---- what is taken

  on_way_taken : (k : ℕ) (z : Both) → Stands zs k z → IsOnWay chains k → IsTaken slots z.at
  on_way_taken k z stands (c, member, place) =
      let pick = across (λ (x : Chain) (e : DumpRecordFields). Picked slots zs all good known x e) chains whole picks c member in
      let y = across (λ (n : ℕ) (x : Both). Stands zs n x) c.places pick.2.both (placed_beside zs c.places pick.2.both pick.2.placed) k place in
      let same : y.0 ≡ z = one_stands zs k y.0 z y.2 stands in
      (ats pick.2.both, pick.0, pick.2.chosen, y.0.at, member_at pick.2.both y.0 y.1, (ap (λ (x : Both). x.at.slot) (sym same), ap (λ (x : Both). x.at.found.first) (sym same)))

  taken_on_way : (k : ℕ) (z : Both) → Stands zs k z → IsTaken slots z.at → IsOnWay chains k
  taken_on_way k z stands (parts, d, chosen, m, there, same) =
      let cover = covered parts d chosen.found in
      let one : ats cover.pick.both ≡ parts = one_chosen slots zs all good known (ats cover.pick.both) parts cover.dump d cover.pick.chosen chosen cover.id in
      let y = at_member cover.pick.both m (subst (λ (ls : List Located). Contains ls m) (sym one) there) in
      let place = across (λ (x : Both) (n : ℕ). Stands zs n x) cover.pick.both cover.chain.places (beside_placed zs cover.chain.places cover.pick.both cover.pick.placed) y.0 y.1 in
      let index : k ≡ place.0 = same_index slots zs all k place.0 z y.0 stands place.2 (same.0 ∙ ap (λ (l : Located). l.slot) (sym y.2), same.1 ∙ ap (λ (l : Located). l.found.first) (sym y.2)) in
      (cover.chain, cover.member, subst (Contains cover.chain.places) (sym index) place.1)

  module _ (ids : List PartId) (left : AreLeft (tolds zs) chains (length (tolds zs)) ids) where
    lefts : (ys : List Both) × Placed zs left.places ys × (tolds ys ≡ left.parts)
    lefts = told_placed zs left.places left.parts left.placed

    sides : Beside (λ k y. Stands zs k y) left.places lefts.0
    sides = placed_beside zs left.places lefts.0 lefts.1

    in_left : (l : Located) → Contains (ats lefts.0) l → IsBegunAt slots l × (IsTaken slots l → ⊥)
    in_left l there =
        let y = at_member lefts.0 l there in
        let place = across (λ (x : Both) (n : ℕ). Stands zs n x) lefts.0 left.places (beside_placed zs left.places lefts.0 lefts.1) y.0 y.1 in
        let not = All-contains (λ (k : ℕ). (k < length (tolds zs)) × (IsOnWay chains k → ⊥)) left.places place.0 left.each place.1 in (
          subst (IsBegunAt slots) y.2 (all.begun y.0 (place.0, place.2.0, place.2.1)),
          (λ taken. not.1 (taken_on_way place.0 y.0 place.2 (subst (IsTaken slots) (sym y.2) taken))),
        )

    all_left : (l : Located) → IsBegunAt slots l → (IsTaken slots l → ⊥) → (m : Located) × Contains (ats lefts.0) m × IsSame l m
    all_left l begun not =
        let z = all.all_begun l begun in
        let stands = told_at zs z.1.0 z.0 (z.1.1, z.1.2) in
        let off : IsOnWay chains z.1.0 → ⊥ = λ on. not (taken_same z.0 (on_way_taken z.1.0 z.0 (z.1.1, z.1.2) on) z.2) in
        let place = left.complete z.1.0 stands.0 off in
        let y = across (λ (n : ℕ) (x : Both). Stands zs n x) left.places lefts.0 sides z.1.0 place in
        let same : y.0 ≡ z.0 = one_stands zs z.1.0 y.0 z.0 y.2 (z.1.1, z.1.2) in
        (z.0.at, subst (λ (x : Both). Contains (ats lefts.0) x.at) same (member_at lefts.0 y.0 y.1), z.2)
      where
        taken_same : (z : Both) → IsTaken slots z.at → IsSame l z.at → IsTaken slots l
        taken_same z (parts, d, chosen, m, there, same) here = (parts, d, chosen, m, there, (here.0 ∙ same.0, here.1 ∙ same.1))

    left_ordered : AllPairs IsEarlier (ats lefts.0)
    left_ordered =
        ats_ordered lefts.0
        (pairs_across (λ (k : ℕ) (y : Both). Stands zs k y) (λ (j k : ℕ). j < k) (λ (y z : Both). IsEarlier y.at z.at) left.places lefts.0 sides (λ j y k z in_y in_z lt. ordered slots zs all j k y z in_y in_z lt) left.ascending)
      where
        ats_all : (y : Both) (ys : List Both) → All (λ z. IsEarlier y.at z.at) ys → All (IsEarlier y.at) (ats ys)
        ats_all y [] each = All-nil (IsEarlier y.at)
        ats_all y (z ∷ ys) each = All-cons (IsEarlier y.at) z.at (ats ys) (All-head (λ (x : Both). IsEarlier y.at x.at) z ys each) (ats_all y ys (All-tail (λ (x : Both). IsEarlier y.at x.at) z ys each))

        ats_ordered : (ys : List Both) → AllPairs (λ y z. IsEarlier y.at z.at) ys → AllPairs IsEarlier (ats ys)
        ats_ordered [] pairs = λ i j d lt within. absurd (omega (arith, within))
        ats_ordered (y ∷ ys) pairs = AllPairs-cons IsEarlier y.at (ats ys) (ats_all y ys (pairs_first (λ (a b : Both). IsEarlier a.at b.at) y ys pairs)) (ats_ordered ys (pairs_rest (λ (a b : Both). IsEarlier a.at b.at) y ys pairs))

    ids_told : (ys : List Both) → ((y : Both) → Contains ys y → Contains zs y) → map told_id (tolds ys) ≡ map part_id (ats ys)
    ids_told [] within = refl
    ids_told (y ∷ ys) within =
        let head = all.heads y (within y (0, omega arith, refl)) in
        ap (λ (h : DumpHeadFields). record { id = h.id; tape = h.tape } ∷ map told_id (tolds ys)) head ∙ ap (λ (t : List PartId). part_id y.at ∷ t) (ids_told ys (λ x there. within x (suc there.0, omega (arith, there.1), there.2)))

    left_within : (y : Both) → Contains lefts.0 y → Contains zs y
    left_within y there =
        let place = across (λ (x : Both) (n : ℕ). Stands zs n x) lefts.0 left.places (beside_placed zs left.places lefts.0 lefts.1) y there in
        (place.0, place.2.0, place.2.1)

    pub scanned_there : (left : List Located) × Scanned slots whole left × (ids ≡ map part_id left)
    scanned_there = (
      ats lefts.0,
      record {
        each = each_chosen;
        complete = λ parts d found. let cover = covered parts d found in (cover.dump, cover.there, cover.id);
        ascending = ids_ascend;
        left_over = in_left;
        all_left = all_left;
        in_order = left_ordered;
      },
      left.ids_are ∙ ap (λ (ps : List PartFound). map told_id ps) (sym lefts.2) ∙ ids_told lefts.0 left_within,
    )

-- of what scans tell of several tapes
pub assembled : (slots : List Slot) (tapes : List Sections) (parts : List PartFound) (good : List Bool) (chains : List Chain) (whole : List DumpRecordFields) (ids : List PartId) → AreScans slots tapes → parts ≡ flat_map (λ t. t.parts) tapes
    → AreKnown parts good → AreChains parts good chains → AreRecords parts chains whole → AreLeft parts chains (length parts) ids → (left : List Located) × Scanned slots whole left × (ids ≡ map part_id left)
assembled slots tapes parts good chains whole ids scans gathered known ways records left =
    let zs = all_from 0 slots tapes scans in
    let told : parts ≡ tolds zs = gathered ∙ sym (all_told 0 slots tapes scans) in
    scanned_there slots zs (is_all slots tapes scans) good (subst (λ (ps : List PartFound). AreKnown ps good) told known) chains (subst (λ (ps : List PartFound). AreChains ps good chains) told ways) whole
    (subst (λ (ps : List PartFound). AreRecords ps chains whole) told records) ids (subst (λ (ps : List PartFound). AreLeft ps chains (length ps) ids) told left)
