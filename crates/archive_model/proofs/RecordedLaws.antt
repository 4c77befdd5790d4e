-- A volume's record in a dump that is found has the fields of what was dumped under its index.
use Rattle.std.proofs.Common.{◌≡◌, ℕ, zero, suc, ◌+◌, ◌<◌, Some, List, [], ◌∷◌, length, map, refl, sym, ap, subst, ◌∙◌, arith, inl, inr}
use Rattle.std.specs.Prelude.{Contains, find, filter, ◌==◌}
use Rattle.std.specs.List.{flat_map}
use Rattle.std.proofs.lemmas.Bool.{cases_Bool, eq-eqb}
use Rattle.std.proofs.lemmas.List.Elements.{All-contains}
use Rattle.bk_text.specs.Blanks.{is_same_text}
use Rattle.tape_frames.specs.declared.vol_head.VolHeadFields.{VolHeadFields}
use Rattle.budb_changes.specs.declared.records.Frag.{Frag}
use Rattle.budb_changes.specs.declared.records.VolRecordFields.{VolRecordFields}
use Rattle.budb_changes.specs.declared.records.DumpRecordFields.{DumpRecordFields}
use Rattle.budb_fold.specs.Lookups.{volume_of}
use Rattle.tape_text.specs.Texts.{Fragment}
use Rattle.tape_text.specs.Parts.{FoundPart, fragments_of}
use Rattle.tape_text.specs.Wholes.{IsWhole, Lying, lying_as, lying_in, frag_of, volume_record, volume_records, record_with}
use Rattle.tape_writer.specs.Filling.{Dumping, head_of, of_index, IsDumped}
use Rattle.tape_scan.specs.Slots.{Slot, Located, IsFound}
use Rattle.archive_model.specs.Holding.{called_head, called_frags, called_of, called_by, placed_from}
use Rattle.archive_model.specs.Clones.{IsRecordOf}
use Rattle.tape_scan.proofs.ListLaws.{contains_filter, contains_map, of_filter}
use Rattle.tape_scan.proofs.PlaceLaws.{found_fragment_is}
use Rattle.archive_model.proofs.FoundLaws.{map_twice, all_placed}
use Rattle.archive_model.proofs.FairLaws.{of_flat}
use Rattle.archive_model.proofs.SlotLaws.{in_map, in_flat, find_is}
use Rattle.archive_model.proofs.WholeLaws.{whole_called}
use Rattle.archive_model.proofs.DumpedLaws.{fragments_of_parts}

-- a volume of a name has a place among the volumes
pub placed_at : (n : ℕ) (vs : List VolRecordFields) (name : List ℕ) (v : VolRecordFields) → find (λ w. is_same_text w.name name) vs ≡ Some v → (k : ℕ) × (k < length vs) × (find (λ x. is_same_text x.1.name name) (placed_from n vs) ≡ Some (n + k, v))
placed_at n [] name v is = absurd (cc)
placed_at n (w ∷ vs) name v is = elim (cases_Bool (is_same_text w.name name)) [
  | inl hit ↦
      (let found : Some w ≡ Some v = rw hit at is in
      let same : w ≡ v = cc in
      let number : n ≡ n + 0 = omega arith in
      (0, omega arith, rw hit (ap (λ (x : VolRecordFields). Some (n, x)) same ∙ ap (λ (m : ℕ). Some (m, v)) number)))
  | inr miss ↦
      (let rest = placed_at (n + 1) vs name v (rw miss at is) in
      let number : n + 1 + rest.0 ≡ n + suc rest.0 = omega arith in
      (suc rest.0, omega (arith, rest.1), rw miss (rest.2 ∙ ap (λ (m : ℕ). Some (m, v)) number)))
]

placed_record : (n : ℕ) (vs : List VolRecordFields) (x : ℕ × VolRecordFields) → Contains (placed_from n vs) x → Contains vs x.1
placed_record n [] x there = absurd (omega (arith, there.1))
placed_record n (v ∷ vs) x (zero, within, is) = (0, omega arith, ap (λ (y : ℕ × VolRecordFields). y.1) is)
placed_record n (v ∷ vs) x (suc k, within, is) = (let rest = placed_record (n + 1) vs x (k, omega (arith, within), is) in (suc rest.0, omega (arith, rest.1), rest.2))

first_of_some : (xs : List Frag) (x : Frag) → Contains xs x → (y : Frag) × (ys : List Frag) × (xs ≡ y ∷ ys)
first_of_some [] x there = absurd (omega (arith, there.1))
first_of_some (y ∷ ys) x there = (y, ys, refl)

-- a volume of a record by fragments has one
pub some_frag : (all : List Lying) (v : VolRecordFields) → Contains (volume_records all) v → (y : Frag) × (ys : List Frag) × (v.frags ≡ y ∷ ys)
some_frag all v there =
    let l = contains_map (volume_record all) (filter (λ (x : Lying). x.head.fragment == 1) all) v there in
    let among = (of_filter (λ (x : Lying). x.head.fragment == 1) all l.0 l.1).0 in
    let own = contains_filter (λ (x : Lying). x.head.index == l.0.head.index) all l.0 among (eq-eqb l.0.head.index l.0.head.index refl) in
    first_of_some v.frags (frag_of l.0) (subst (λ (x : VolRecordFields). Contains x.frags (frag_of l.0)) l.2 (in_map frag_of (filter (λ (x : Lying). x.head.index == l.0.head.index) all) l.0 own))

first_called : (id index : ℕ) (v : VolRecordFields) (y : Frag) (ys : List Frag) → (c : Lying) × Contains (called_frags id index 1 v (y ∷ ys)) c × (c.head ≡ called_head id index 1 v)
first_called id index v y [] = (record { tape = y.tape; at = y.at; head = called_head id index 1 v; last = 1 }, (0, omega arith, refl), refl)
first_called id index v y (z ∷ ys) = (record { tape = y.tape; at = y.at; head = called_head id index 1 v; last = 0 }, (0, omega arith, refl), refl)

-- the fields of a head that is called for are the volume's
fields_same : (id index fragment : ℕ) (v : VolRecordFields) (w : Dumping) → called_head id index 1 v ≡ head_of id index fragment w → IsRecordOf v w
fields_same id index fragment v w same = record {
  id = ap (λ (h : VolHeadFields). h.volume) same;
  clone = ap (λ (h : VolHeadFields). h.clone) same;
  from = ap (λ (h : VolHeadFields). h.from) same;
  name = ap (λ (h : VolHeadFields). h.name) same;
  server = ap (λ (h : VolHeadFields). h.server) same;
  partition = ap (λ (h : VolHeadFields). h.partition) same;
}

module _ (slots : List Slot) (q : FoundPart) (qs : List FoundPart) (called : called_by (record_with q.part.head (q ∷ qs)) ≡ flat_map lying_in (q ∷ qs)) where
  recorded_by : (x : ℕ × VolRecordFields) (w : Dumping) → Contains (placed_from 0 (record_with q.part.head (q ∷ qs)).volumes) x → IsDumped q.part.head.id x.0 (flat_map (λ (p : FoundPart). p.part.fragments) (q ∷ qs)) w → IsRecordOf x.1 w
  recorded_by x w there dumped =
      let some = some_frag (flat_map lying_in (q ∷ qs)) x.1 (placed_record 0 (record_with q.part.head (q ∷ qs)).volumes x there) in
      let c = first_called q.part.head.id x.0 x.1 some.0 some.1 in
      let here : Contains (called_of q.part.head.id x) c.0 = subst (λ (fs : List Frag). Contains (called_frags q.part.head.id x.0 1 x.1 fs) c.0) (sym some.2) c.1 in
      let among : Contains (flat_map lying_in (q ∷ qs)) c.0 = subst (λ (ls : List Lying). Contains ls c.0) called (in_flat (called_of q.part.head.id) (placed_from 0 (record_with q.part.head (q ∷ qs)).volumes) x c.0 there here) in
      let p = of_flat lying_in (q ∷ qs) c.0 among in
      let g = contains_map (lying_as p.0.part.head.tape) (fragments_of p.0) c.0 p.2 in
      let head : g.0.fragment.head ≡ called_head q.part.head.id x.0 1 x.1 = ap (λ (l : Lying). l.head) g.2 ∙ c.2 in
      let index : g.0.fragment.head.index ≡ x.0 = ap (λ (h : VolHeadFields). h.index) head in
      let in_parts : Contains (flat_map (λ (r : FoundPart). r.part.fragments) (q ∷ qs)) g.0.fragment = in_flat (λ (r : FoundPart). r.part.fragments) (q ∷ qs) p.0 g.0.fragment p.1 (found_fragment_is (p.0.first + 1) p.0.part.fragments g.0 g.1) in
      let of_it : Contains (of_index x.0 (flat_map (λ (r : FoundPart). r.part.fragments) (q ∷ qs))) g.0.fragment = contains_filter (λ (f : Fragment). f.head.index == x.0) (flat_map (λ (r : FoundPart). r.part.fragments) (q ∷ qs)) g.0.fragment in_parts (eq-eqb g.0.fragment.head.index x.0 index) in
      let theirs : g.0.fragment.head ≡ head_of q.part.head.id x.0 g.0.fragment.head.fragment w =
      All-contains (λ (f : Fragment). f.head ≡ head_of q.part.head.id x.0 f.head.fragment w) (of_index x.0 (flat_map (λ (r : FoundPart). r.part.fragments) (q ∷ qs))) g.0.fragment dumped.heads of_it in
      fields_same q.part.head.id x.0 g.0.fragment.head.fragment x.1 w (sym head ∙ theirs)

-- what was dumped under a volume's index in a dump that is found is what its record says
pub recorded_as_dumped : (slots : List Slot) (parts : List Located) (d : DumpRecordFields) → IsFound slots parts d → (name : List ℕ) (v : VolRecordFields) → volume_of d name ≡ Some v
    → (index : ℕ) × (index < length d.volumes) × (find (λ x. is_same_text x.1.name name) (placed_from 0 d.volumes) ≡ Some (index, v)) × ((w : Dumping) → IsDumped d.id index (flat_map (λ (l : Located). l.found.part.fragments) parts) w → IsRecordOf v w)
recorded_as_dumped slots [] d found name v is = absurd found.whole.begins
recorded_as_dumped slots (l ∷ ls) d found name v is =
    let qs : List FoundPart = map (λ (x : Located). x.found) ls in
    let same : record_with l.found.part.head (l.found ∷ qs) ≡ d = (let e = found.record_is in cc) in
    let place = placed_at 0 d.volumes name v is in
    let number : 0 + place.0 ≡ place.0 = omega arith in
    let at : find (λ (x : ℕ × VolRecordFields). is_same_text x.1.name name) (placed_from 0 d.volumes) ≡ Some (place.0, v) = place.2 ∙ ap (λ (n : ℕ). Some (n, v)) number in
    let member : Contains (placed_from 0 d.volumes) (place.0, v) = (find_is (λ (x : ℕ × VolRecordFields). is_same_text x.1.name name) (placed_from 0 d.volumes) (place.0, v) at).0 in
    let called = whole_called l.found qs (all_placed slots (l ∷ ls) found.closed) (subst IsWhole (map_twice (l ∷ ls)) found.whole) in (
      place.0,
      place.1,
      at,
      λ w dumped. recorded_by slots l.found qs called (place.0, v) w (subst (λ (x : DumpRecordFields). Contains (placed_from 0 x.volumes) (place.0, v)) (sym same) member)
          (subst (λ (fs : List Fragment). IsDumped l.found.part.head.id place.0 fs w) (fragments_of_parts (l ∷ ls)) (subst (λ (x : DumpRecordFields). IsDumped x.id place.0 (flat_map (λ (y : Located). y.found.part.fragments) (l ∷ ls)) w) (sym same) dumped)),
    )
