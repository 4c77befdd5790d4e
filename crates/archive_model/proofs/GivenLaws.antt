-- A volume of a whole dump is read back from its tapes as the stream that was written.
use Rattle.std.proofs.Common.{◌≡◌, ℕ, zero, suc, ◌+◌, ◌<◌, ◌≤◌, true, false, Option, List, [], ◌∷◌, ◌++◌, map, refl, sym, ap, subst, ◌∙◌, arith, inl, inr, append-nil}
use Rattle.std.specs.Prelude.{All, Contains, filter, ◌==◌}
use Rattle.std.specs.List.{flat_map}
use Rattle.std.proofs.lemmas.Bool.{cases_Bool, eq-eqb}
use Rattle.std.proofs.lemmas.List.Elements.{All-head, All-tail, filter-append}
use Rattle.vnode_model.specs.declared.increments.IncrementFields.{IncrementFields}
use Rattle.dump_stream.specs.Stream.{Spells}
use Rattle.bk_text.specs.Blanks.{is_same_text}
use Rattle.budb_changes.specs.declared.records.Frag.{Frag}
use Rattle.budb_changes.specs.declared.records.VolRecordFields.{VolRecordFields}
use Rattle.budb_changes.specs.declared.records.DumpRecordFields.{DumpRecordFields}
use Rattle.tape_text.specs.Texts.{Fragment}
use Rattle.tape_text.specs.Parts.{FoundFragment, FoundPart, fragment_len, fragments_at}
use Rattle.tape_text.specs.Wholes.{Lying, lying_as, lying_in, record_with}
use Rattle.tape_writer.specs.Filling.{Dumping, of_index}
use Rattle.tape_scan.specs.Slots.{Slot}
use Rattle.archive_model.specs.Holding.{holder_here, called_head, called_frags, called_of, called_at, called_for, placed_from}
use Rattle.archive_model.specs.Plays.{StandsOn, AllStand, HasStream}
use Rattle.archive_model.specs.Clones.{IsHere, IsWritten}
use Rattle.archive_model.proofs.ManyTapeLaws.{differs}
use Rattle.archive_model.proofs.WholeLaws.{whole_called}
use Rattle.archive_model.proofs.StreamLaws.{found_stands, find_contains, stands_some}

-- ---- what a record calls for by one index

own_index : (id n k : ℕ) (v : VolRecordFields) (fs : List Frag) → filter (λ l. l.head.index == n) (called_frags id n k v fs) ≡ called_frags id n k v fs
own_index id n k v [] = refl
own_index id n k v (f ∷ []) = let here : (n == n) ≡ true = eq-eqb n n refl in rw here refl
own_index id n k v (f ∷ g ∷ fs) = let here : (n == n) ≡ true = eq-eqb n n refl in rw here (ap (λ t. record { tape = f.tape; at = f.at; head = called_head id n k v; last = 0 } ∷ t) (own_index id n (k + 1) v (g ∷ fs)))

other_index : (id n m k : ℕ) (v : VolRecordFields) (fs : List Frag) → (n ≡ m → ⊥) → filter (λ l. l.head.index == m) (called_frags id n k v fs) ≡ []
other_index id n m k v [] not = refl
other_index id n m k v (f ∷ []) not = let apart : (n == m) ≡ false = differs n m not in rw apart refl
other_index id n m k v (f ∷ g ∷ fs) not = let apart : (n == m) ≡ false = differs n m not in rw apart (other_index id n m (k + 1) v (g ∷ fs) not)

none_behind : (id n m : ℕ) (vs : List VolRecordFields) → m < n → filter (λ l. l.head.index == m) (flat_map (called_of id) (placed_from n vs)) ≡ []
none_behind id n m [] lt = refl
none_behind id n m (v ∷ vs) lt =
    filter-append (λ (l : Lying). l.head.index == m) (called_of id (n, v)) (flat_map (called_of id) (placed_from (n + 1) vs))
    ∙ ap (λ t. t ++ filter (λ (l : Lying). l.head.index == m) (flat_map (called_of id) (placed_from (n + 1) vs))) (other_index id n m 1 v v.frags (λ same. omega arith)) ∙ none_behind id (n + 1) m vs (omega arith)

index_from : (n : ℕ) (vs : List VolRecordFields) (v : ℕ × VolRecordFields) → Contains (placed_from n vs) v → n ≤ v.0
index_from n [] v there = absurd (omega (arith, there.1))
index_from n (w ∷ vs) v (zero, within, is) = omega (arith, ap (λ (x : ℕ × VolRecordFields). x.0) is)
index_from n (w ∷ vs) v (suc k, within, is) = omega (arith, index_from (n + 1) vs v (k, omega (arith, within), is))

called_by_index : (id n : ℕ) (vs : List VolRecordFields) (v : ℕ × VolRecordFields) → Contains (placed_from n vs) v → filter (λ l. l.head.index == v.0) (flat_map (called_of id) (placed_from n vs)) ≡ called_of id v
called_by_index id n [] v there = absurd (omega (arith, there.1))
called_by_index id n (w ∷ vs) v (zero, within, is) =
    subst (λ (x : ℕ × VolRecordFields). filter (λ (l : Lying). l.head.index == x.0) (flat_map (called_of id) (placed_from n (w ∷ vs))) ≡ called_of id x) is
    (filter-append (λ (l : Lying). l.head.index == n) (called_of id (n, w)) (flat_map (called_of id) (placed_from (n + 1) vs))
    ∙ ap (λ t. filter (λ (l : Lying). l.head.index == n) (called_of id (n, w)) ++ t) (none_behind id (n + 1) n vs (omega arith))
    ∙ append-nil (filter (λ (l : Lying). l.head.index == n) (called_of id (n, w))) ∙ own_index id n 1 w w.frags)
called_by_index id n (w ∷ vs) v (suc k, within, is) =
    let there : Contains (placed_from (n + 1) vs) v = (k, omega (arith, within), is) in
    let above : n + 1 ≤ v.0 = index_from (n + 1) vs v there in
    filter-append (λ (l : Lying). l.head.index == v.0) (called_of id (n, w)) (flat_map (called_of id) (placed_from (n + 1) vs))
    ∙ ap (λ t. t ++ filter (λ (l : Lying). l.head.index == v.0) (flat_map (called_of id) (placed_from (n + 1) vs))) (other_index id n v.0 1 w w.frags (λ same. omega arith)) ∙ called_by_index id (n + 1) vs v there

-- ---- they stand

stand_both : (slots : List Slot) (d : DumpRecordFields) (cs bs : List Lying) (fs gs : List Fragment) → AllStand slots d cs fs → AllStand slots d bs gs → AllStand slots d (cs ++ bs) (fs ++ gs)
stand_both slots d [] bs [] gs stand more = more
stand_both slots d [] bs (f ∷ fs) gs stand more = absurd stand
stand_both slots d (c ∷ cs) bs [] gs stand more = absurd stand
stand_both slots d (c ∷ cs) bs (f ∷ fs) gs stand more = (stand.0, stand_both slots d cs bs fs gs stand.1 more)

stand_filtered : (slots : List Slot) (d : DumpRecordFields) (tape at i : ℕ) (fs : List Fragment) → ((g : FoundFragment) → Contains (fragments_at at fs) g → StandsOn slots d (lying_as tape g) g.fragment) → AllStand slots d (filter (λ l. l.head.index == i) (map (lying_as tape) (fragments_at at fs))) (of_index i fs)
stand_filtered slots d tape at i [] each = tt
stand_filtered slots d tape at i (f ∷ fs) each =
    let rest : AllStand slots d (filter (λ (l : Lying). l.head.index == i) (map (lying_as tape) (fragments_at (at + fragment_len f) fs))) (of_index i fs) =
    stand_filtered slots d tape (at + fragment_len f) i fs (λ g there. each g (suc there.0, omega (arith, there.1), there.2)) in
    elim (cases_Bool (f.head.index == i)) [
      | inl same ↦ rw same (each (record { fragment = f; at = at }) (0, omega arith, refl), rest)
      | inr other ↦ rw other rest
    ]

part_stands : (slots : List Slot) (d : DumpRecordFields) (q : FoundPart) (i : ℕ) → IsHere slots d q → AllStand slots d (filter (λ l. l.head.index == i) (lying_in q)) (of_index i q.part.fragments)
part_stands slots d q i here =
    stand_filtered slots d q.part.head.tape (q.first + 1) i q.part.fragments
    (λ g there. stands_some (holder_here d q.part.head.tape slots) here.slot (lying_as q.part.head.tape g) g.fragment here.holder (found_stands here.tape q g here.slot.1.items q.end q.part.head.tape here.is here.front here.there there))

all_stand : (slots : List Slot) (d : DumpRecordFields) (qs : List FoundPart) (i : ℕ) → All (IsHere slots d) qs → AllStand slots d (filter (λ l. l.head.index == i) (flat_map lying_in qs)) (of_index i (flat_map (λ p. p.part.fragments) qs))
all_stand slots d [] i here = tt
all_stand slots d (q ∷ qs) i here =
    rw (filter-append (λ (l : Lying). l.head.index == i) (lying_in q) (flat_map lying_in qs), filter-append (λ (f : Fragment). f.head.index == i) q.part.fragments (flat_map (λ (p : FoundPart). p.part.fragments) qs))
    (stand_both slots d (filter (λ (l : Lying). l.head.index == i) (lying_in q)) (filter (λ (l : Lying). l.head.index == i) (flat_map lying_in qs)) (of_index i q.part.fragments) (of_index i (flat_map (λ (p : FoundPart). p.part.fragments) qs))
    (part_stands slots d q i (All-head (IsHere slots d) q qs here)) (all_stand slots d qs i (All-tail (IsHere slots d) q qs here)))

pub written_given : (slots : List Slot) (q : FoundPart) (qs : List FoundPart) (name : List ℕ) (w : Dumping) (i : IncrementFields) → IsWritten slots q qs name w → Spells w.stream i → HasStream slots (record_with q.part.head (q ∷ qs)) (called_for (record_with q.part.head (q ∷ qs)) name) i
written_given slots q qs name w i written spells =
    let d : DumpRecordFields = record_with q.part.head (q ∷ qs) in
    let in_record : Contains (placed_from 0 (record_with q.part.head (q ∷ qs)).volumes) written.volume = find_contains (λ (x : ℕ × VolRecordFields). is_same_text x.1.name name) (placed_from 0 (record_with q.part.head (q ∷ qs)).volumes) written.volume written.named in
    let called : called_for (record_with q.part.head (q ∷ qs)) name ≡ filter (λ (l : Lying). l.head.index == written.volume.0) (flat_map lying_in (q ∷ qs)) =
    ap (λ (o : Option (ℕ × VolRecordFields)). called_at q.part.head.id o) written.named
    ∙ sym (called_by_index q.part.head.id 0 (record_with q.part.head (q ∷ qs)).volumes written.volume in_record)
    ∙ ap (λ (ls : List Lying). filter (λ (l : Lying). l.head.index == written.volume.0) ls) (whole_called q qs written.placed written.whole) in
    let one : HasStream slots (record_with q.part.head (q ∷ qs)) (filter (λ (l : Lying). l.head.index == written.volume.0) (flat_map lying_in (q ∷ qs))) i = record {
      fragments = of_index written.volume.0 (flat_map (λ (p : FoundPart). p.part.fragments) (q ∷ qs));
      stand = all_stand slots (record_with q.part.head (q ∷ qs)) (q ∷ qs) written.volume.0 written.here;
      spells = subst (λ (b : List ℕ). Spells b i) (sym written.dumped.stream) spells;
    } in
    subst (λ (cs : List Lying). HasStream slots (record_with q.part.head (q ∷ qs)) cs i) (sym called) one
