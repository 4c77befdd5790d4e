-- The records of volumes are those that are read off from where their fragments lie.
use Rattle.std.proofs.Common.{◌≡◌, ℕ, zero, suc, ◌+◌, ◌<◌, ◌≤◌, Bool, true, false, Some, List, [], ◌∷◌, ◌++◌, length, map, refl, ap, ◌∙◌, arith, inl, inr, append-nil}
use Rattle.std.specs.Prelude.{◌==◌, All, slice_get, filter}
use Rattle.std.specs.List.{flat_map}
use Rattle.std.proofs.lemmas.Bool.{eq-eqb, eqb-true, cases_Bool}
use Rattle.std.proofs.lemmas.List.Elements.{All-head, All-tail}
use Rattle.tape_frames.specs.declared.vol_head.VolHeadFields.{VolHeadFields}
use Rattle.budb_changes.specs.declared.records.Frag.{Frag}
use Rattle.budb_changes.specs.declared.records.VolRecordFields.{VolRecordFields}
use Rattle.tape_text.specs.Wholes.{Lying, frag_of, volume_record, volume_records}
use Rattle.archive_model.specs.Holding.{called_head, called_frags, called_of, placed_from}
use Rattle.dump_laws.specs.Made.{done_lying}
use Rattle.dump_laws.proofs.NeighbourLaws.{filter_append}

abbrev is_first : Lying → Bool
is_first l = l.head.fragment == 1

abbrev has_index : ℕ → Lying → Bool
has_index k l = l.head.index == k

unequal : (a b : ℕ) → (a ≡ b → ⊥) → (a == b) ≡ false
unequal a b other = elim (cases_Bool (a == b)) [
  | inl same ↦ absurd (other (eqb-true a b same))
  | inr unlike ↦ unlike
]

-- ---- the first fragment of each volume

later_none : (id index fragment : ℕ) (v : VolRecordFields) (frags : List Frag) → 2 ≤ fragment → filter is_first (called_frags id index fragment v frags) ≡ []
later_none id index fragment v [] le = refl
later_none id index fragment v (f ∷ []) le = (let unlike : (fragment == 1) ≡ false = unequal fragment 1 (λ same. absurd (omega (arith, le, same))) in rw unlike refl)
later_none id index fragment v (f ∷ g ∷ frags) le = (let unlike : (fragment == 1) ≡ false = unequal fragment 1 (λ same. absurd (omega (arith, le, same))) in rw unlike (later_none id index (fragment + 1) v (g ∷ frags) (omega (arith, le))))

first_one : (id index : ℕ) (v : VolRecordFields) (frags : List Frag) → 1 ≤ length frags → (l : Lying) × (filter is_first (called_frags id index 1 v frags) ≡ l ∷ []) × (l.head ≡ called_head id index 1 v)
first_one id index v [] le = absurd (omega (arith, le))
first_one id index v (f ∷ []) le = (record { tape = f.tape; at = f.at; head = called_head id index 1 v; last = 1 }, refl, refl)
first_one id index v (f ∷ g ∷ frags) le =
    let l : Lying = record { tape = f.tape; at = f.at; head = called_head id index 1 v; last = 0 } in
    (l, ap (λ (ls : List Lying). l ∷ ls) (later_none id index 2 v (g ∷ frags) (omega arith)), refl)

-- ---- the fragments of one volume

its_own : (id index fragment k : ℕ) (v : VolRecordFields) (frags : List Frag) → index ≡ k → filter (has_index k) (called_frags id index fragment v frags) ≡ called_frags id index fragment v frags
its_own id index fragment k v [] same = refl
its_own id index fragment k v (f ∷ []) same = (let alike : (index == k) ≡ true = eq-eqb index k same in rw alike refl)
its_own id index fragment k v (f ∷ g ∷ frags) same =
    (let alike : (index == k) ≡ true = eq-eqb index k same in
    rw alike (ap (λ (ls : List Lying). record { tape = f.tape; at = f.at; head = called_head id index fragment v; last = 0 } ∷ ls) (its_own id index (fragment + 1) k v (g ∷ frags) same)))

not_its : (id index fragment k : ℕ) (v : VolRecordFields) (frags : List Frag) → (index ≡ k → ⊥) → filter (has_index k) (called_frags id index fragment v frags) ≡ []
not_its id index fragment k v [] other = refl
not_its id index fragment k v (f ∷ []) other = (let unlike : (index == k) ≡ false = unequal index k other in rw unlike refl)
not_its id index fragment k v (f ∷ g ∷ frags) other = (let unlike : (index == k) ≡ false = unequal index k other in rw unlike (not_its id index (fragment + 1) k v (g ∷ frags) other))

places : (id index fragment : ℕ) (v : VolRecordFields) (frags : List Frag) → map frag_of (called_frags id index fragment v frags) ≡ frags
places id index fragment v [] = refl
places id index fragment v (f ∷ []) = refl
places id index fragment v (f ∷ g ∷ frags) = ap (λ (fs : List Frag). f ∷ fs) (places id index (fragment + 1) v (g ∷ frags))

none_before : (id n k : ℕ) (vs : List VolRecordFields) → k < n → filter (has_index k) (flat_map (called_of id) (placed_from n vs)) ≡ []
none_before id n k [] lt = refl
none_before id n k (v ∷ vs) lt =
    filter_append (has_index k) (called_of id (n, v)) (flat_map (called_of id) (placed_from (n + 1) vs))
    ∙ ap (λ (l : List Lying). l ++ filter (has_index k) (flat_map (called_of id) (placed_from (n + 1) vs))) (not_its id n 1 k v v.frags (λ same. absurd (omega (arith, lt, same))))
    ∙ none_before id (n + 1) k vs (omega (arith, lt))

at_index : (id n k i : ℕ) (vs : List VolRecordFields) (v : VolRecordFields) → slice_get vs i ≡ Some v → k ≡ n + i → map frag_of (filter (has_index k) (flat_map (called_of id) (placed_from n vs))) ≡ v.frags
at_index id n k i [] v at is = absurd (cc)
at_index id n k zero (w ∷ vs) v at is =
    let same : w ≡ v = cc in
    let place : n ≡ k = omega (arith, is) in
    ap (map frag_of) (filter_append (has_index k) (called_of id (n, w)) (flat_map (called_of id) (placed_from (n + 1) vs)))
    ∙ ap (λ (l : List Lying). map frag_of (l ++ filter (has_index k) (flat_map (called_of id) (placed_from (n + 1) vs)))) (its_own id n 1 k w w.frags place)
    ∙ ap (λ (l : List Lying). map frag_of (called_of id (n, w) ++ l)) (none_before id (n + 1) k vs (omega (arith, place)))
    ∙ ap (map frag_of) (append-nil (called_of id (n, w))) ∙ places id n 1 w w.frags ∙ ap (λ (x : VolRecordFields). x.frags) same
at_index id n k (suc i) (w ∷ vs) v at is =
    ap (map frag_of) (filter_append (has_index k) (called_of id (n, w)) (flat_map (called_of id) (placed_from (n + 1) vs)))
    ∙ ap (λ (l : List Lying). map frag_of (l ++ filter (has_index k) (flat_map (called_of id) (placed_from (n + 1) vs)))) (not_its id n 1 k w w.frags (λ same. absurd (omega (arith, is, same))))
    ∙ at_index id (n + 1) k i vs v at (omega (arith, is))

-- ---- the records

one_record : (all : List Lying) (id index : ℕ) (v : VolRecordFields) (l : Lying) → l.head ≡ called_head id index 1 v → map frag_of (filter (has_index index) all) ≡ v.frags → volume_record all l ≡ v
one_record all id index v l head frags =
    ap (λ (h : VolHeadFields). record { name = h.name; id = h.volume; server = h.server; partition = h.partition; clone = h.clone; from = h.from; frags = map frag_of (filter (has_index h.index) all) }) head
    ∙ ap (λ (fs : List Frag). record { name = v.name; id = v.id; server = v.server; partition = v.partition; clone = v.clone; from = v.from; frags = fs }) frags

records_from : (id n : ℕ) (all : List Lying) (vs : List VolRecordFields) → All (λ v. 1 ≤ length v.frags) vs → ((i k : ℕ) (v : VolRecordFields) → slice_get vs i ≡ Some v → k ≡ n + i → map frag_of (filter (has_index k) all) ≡ v.frags)
    → map (volume_record all) (filter is_first (flat_map (called_of id) (placed_from n vs))) ≡ vs
records_from id n all [] some each = refl
records_from id n all (v ∷ vs) some each =
    let first = first_one id n v v.frags (All-head (λ w. 1 ≤ length w.frags) v vs some) in
    let rest : List Lying = flat_map (called_of id) (placed_from (n + 1) vs) in
    let zero_is : n ≡ n + 0 = omega arith in
    let here : volume_record all first.0 ≡ v = one_record all id n v first.0 first.2 (each 0 n v refl zero_is) in
    let split : filter is_first (called_of id (n, v) ++ rest) ≡ first.0 ∷ filter is_first rest = filter_append is_first (called_of id (n, v)) rest ∙ ap (λ (l : List Lying). l ++ filter is_first rest) first.1 in
    let others : map (volume_record all) (filter is_first rest) ≡ vs = records_from id (n + 1) all vs (All-tail (λ w. 1 ≤ length w.frags) v vs some) (λ i k w at is. each (suc i) k w at (omega (arith, is))) in
    ap (map (volume_record all)) split ∙ ap (λ (w : VolRecordFields). w ∷ map (volume_record all) (filter is_first rest)) here ∙ ap (λ (l : List VolRecordFields). v ∷ l) others

-- Where fragments lie as records call for them, these are the records that are read off.
pub records_again : (id : ℕ) (vs : List VolRecordFields) → All (λ v. 1 ≤ length v.frags) vs → volume_records (done_lying id vs) ≡ vs
records_again id vs some = records_from id 0 (done_lying id vs) vs some (λ i k v at is. at_index id 0 k i vs v at is)
