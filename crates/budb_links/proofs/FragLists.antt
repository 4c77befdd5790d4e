-- The fragments of records, as lists.
use Rattle.std.proofs.Common.{◌≡◌, ◌≢◌, ℕ, zero, suc, ◌+◌, ◌<◌, ◌≤◌, List, [], ◌∷◌, ◌++◌, length, take, get_or, Bool, true, false, not, eqb, Some, refl, sym, ◌∙◌, ap, subst, arith, add-one, ⊎_elim}
use Rattle.std.specs.Prelude.{slice_get}
use Rattle.std.proofs.lemmas.Bool.{cases_eq, eq-eqb, ne_eqb, cond-true, cond-false, not_from_true, not_from_false}
use Rattle.std.proofs.lemmas.List.{append-nil, append_assoc, length-append}
use Rattle.std.proofs.lemmas.List.Elements.{filter-append}
use Rattle.std.specs.List.{filter, AllByRecursion}
use Rattle.budb_changes.specs.declared.records.VolRecordFields.{VolRecordFields}
use Rattle.budb_changes.specs.declared.records.DumpRecordFields.{DumpRecordFields}
use Rattle.budb_links.specs.Entries.{Entry, dumps_of, record_of, without_id}
use Rattle.budb_links.specs.Frags.{Fragment, Placed, frag_place, fragment_of, volume_frags, volumes_frags, dump_frags, frags_of, fragments, without_dump}
use Rattle.budb_links.specs.Stored.{DistinctIds}
use Rattle.budb_links.specs.Filing.{with_dump, IsOfVolume, AreOfDump}
use Rattle.budb_links.proofs.Places.{filter_keeps, filter_drops}
use Rattle.budb_links.proofs.Lists.{filter_mapped, filter_none, filter_all, all_append, all_so, all_of_mapped}

-- ---- the fragments of a volume

module _ (id volume : ℕ) (name : List ℕ) where
  volume_suc : (first count : ℕ) → volume_frags id volume name first count ++ fragment_of (frag_place id volume (first + count)) name ∷ [] ≡ volume_frags id volume name first (suc count)
  volume_suc first zero =
      let e : first + 0 ≡ first = omega arith in ap (λ (n : ℕ). fragment_of (frag_place id volume n) name ∷ []) e
  volume_suc first (suc count) =
      let e : first + suc count ≡ (first + 1) + count = omega arith in
      let here = fragment_of (frag_place id volume first) name in
      ap (λ (n : ℕ). here ∷ (volume_frags id volume name (first + 1) count ++ fragment_of (frag_place id volume n) name ∷ [])) e
      ∙ ap (λ (t : List Fragment). here ∷ t) (volume_suc (first + 1) count)

  pub volume_more : (count : ℕ) → volume_frags id volume name 0 count ++ fragment_of (frag_place id volume count) name ∷ [] ≡ volume_frags id volume name 0 (count + 1)
  volume_more count =
      let e : count ≡ 0 + count = omega arith in
      ap (λ (n : ℕ). volume_frags id volume name 0 count ++ fragment_of (frag_place id volume n) name ∷ []) e
      ∙ volume_suc 0 count
      ∙ ap (volume_frags id volume name 0) (sym (add-one count))

  pub volume_long : (first count : ℕ) → length (volume_frags id volume name first count) ≡ count
  volume_long first zero = refl
  volume_long first (suc count) = ap suc (volume_long (first + 1) count)

  volume_all : (P : Fragment → Type 0) → ((frag : ℕ) → P (fragment_of (frag_place id volume frag) name)) → (first count : ℕ) → AllByRecursion P (volume_frags id volume name first count)
  volume_all P each first zero = tt
  volume_all P each first (suc count) = (each first, volume_all P each (first + 1) count)

-- ---- those of volumes

volumes_suc : (id first : ℕ) (vs : List VolRecordFields) (i : ℕ) (v : VolRecordFields) → i < length vs → v ≡ get_or vs i v → volumes_frags id first (take i vs) ++ volume_frags id (first + i) v.name 0 (length v.frags) ≡ volumes_frags id first (take (suc i) vs)
volumes_suc id first [] i v h is = absurd (omega (arith, h))
volumes_suc id first (w ∷ ws) zero v h is =
    let e : first + 0 ≡ first = omega arith in
    ap (λ (n : ℕ). volume_frags id n v.name 0 (length v.frags)) e
    ∙ ap (λ (x : VolRecordFields). volume_frags id first x.name 0 (length x.frags)) is
    ∙ sym (append-nil (volume_frags id first w.name 0 (length w.frags)))
volumes_suc id first (w ∷ ws) (suc i) v h is =
    let e : first + suc i ≡ (first + 1) + i = omega arith in
    let here = volume_frags id first w.name 0 (length w.frags) in
    ap (λ (n : ℕ). (here ++ volumes_frags id (first + 1) (take i ws)) ++ volume_frags id n v.name 0 (length v.frags)) e
    ∙ append_assoc here (volumes_frags id (first + 1) (take i ws)) (volume_frags id ((first + 1) + i) v.name 0 (length v.frags))
    ∙ ap (λ (t : List Fragment). here ++ t) (volumes_suc id (first + 1) ws i v (omega (arith, h)) is)

pub volumes_more : (id : ℕ) (vs : List VolRecordFields) (i : ℕ) (v : VolRecordFields) → i < length vs → v ≡ get_or vs i v → volumes_frags id 0 (take i vs) ++ volume_frags id i v.name 0 (length v.frags) ≡ volumes_frags id 0 (take (i + 1) vs)
volumes_more id vs i v h is =
    let e : i ≡ 0 + i = omega arith in
    ap (λ (n : ℕ). volumes_frags id 0 (take i vs) ++ volume_frags id n v.name 0 (length v.frags)) e
    ∙ volumes_suc id 0 vs i v h is
    ∙ ap (λ (n : ℕ). volumes_frags id 0 (take n vs)) (sym (add-one i))

pub volumes_within : (id first : ℕ) (vs : List VolRecordFields) (i : ℕ) (v : VolRecordFields) → i < length vs → v ≡ get_or vs i v → length (volumes_frags id first (take i vs)) + length v.frags ≤ length (volumes_frags id first vs)
volumes_within id first [] i v h is = absurd (omega (arith, h))
volumes_within id first (w ∷ ws) zero v h is =
    let same = ap (λ (x : VolRecordFields). length x.frags) is in
    omega (arith, same, length-append (volume_frags id first w.name 0 (length w.frags)) (volumes_frags id (first + 1) ws), volume_long id first w.name 0 (length w.frags))
volumes_within id first (w ∷ ws) (suc i) v h is =
    let here = volume_frags id first w.name 0 (length w.frags) in
    let rest = volumes_within id (first + 1) ws i v (omega (arith, h)) is in
    omega (arith, rest, length-append here (volumes_frags id (first + 1) ws), length-append here (volumes_frags id (first + 1) (take i ws)))

volumes_ids : (id first : ℕ) (vs : List VolRecordFields) → AllByRecursion (λ f. f.which.id ≡ id) (volumes_frags id first vs)
volumes_ids id first [] = tt
volumes_ids id first (v ∷ vs) =
    all_append (λ (f : Fragment). f.which.id ≡ id) (volume_frags id first v.name 0 (length v.frags)) (volumes_frags id (first + 1) vs) (volume_all id first v.name (λ f. f.which.id ≡ id) (λ frag. refl) 0 (length v.frags)) (volumes_ids id (first + 1) vs)

pub dump_ids : (dump : DumpRecordFields) → AllByRecursion (λ f. f.which.id ≡ dump.id) (dump_frags dump)
dump_ids dump = volumes_ids dump.id 0 dump.volumes

at_middle : (front : List VolRecordFields) (v : VolRecordFields) (vs : List VolRecordFields) → slice_get (front ++ v ∷ vs) (length front) ≡ Some v
at_middle [] v vs = refl
at_middle (w ∷ front) v vs = at_middle front v vs

volumes_own : (id : ℕ) (front vs : List VolRecordFields) → AllByRecursion (IsOfVolume (front ++ vs)) (volumes_frags id (length front) vs)
volumes_own id front [] = tt
volumes_own id front (v ∷ vs) =
    let all = front ++ v ∷ vs in
    let next : length (front ++ v ∷ []) ≡ length front + 1 = length-append front (v ∷ []) in
    let rest = subst (λ (l : List VolRecordFields). AllByRecursion (IsOfVolume l) (volumes_frags id (length (front ++ v ∷ [])) vs)) (append_assoc front (v ∷ []) vs) (volumes_own id (front ++ v ∷ []) vs) in
    all_append (IsOfVolume all) (volume_frags id (length front) v.name 0 (length v.frags)) (volumes_frags id (length front + 1) vs) (volume_all id (length front) v.name (IsOfVolume all) (λ frag. (v, at_middle front v vs, refl)) 0 (length v.frags)) (subst (λ (n : ℕ). AllByRecursion (IsOfVolume all) (volumes_frags id n vs)) next rest)

pub dump_own : (dump : DumpRecordFields) → AllByRecursion (IsOfVolume dump.volumes) (dump_frags dump)
dump_own dump = volumes_own dump.id [] dump.volumes

-- ---- those of records

pub frags_append : (xs ys : List DumpRecordFields) → frags_of (xs ++ ys) ≡ frags_of xs ++ frags_of ys
frags_append [] ys = refl
frags_append (x ∷ xs) ys =
    ap (λ (t : List Fragment). dump_frags x ++ t) (frags_append xs ys) ∙ sym (append_assoc (dump_frags x) (frags_of xs) (frags_of ys))

-- what is so of the id of each record is so of each fragment's
pub frags_all : (P : ℕ → Type 0) (es : List Entry) → AllByRecursion (λ e. P e.dump.id) es → AllByRecursion (λ f. P f.which.id) (frags_of (dumps_of es))
frags_all P [] a = tt
frags_all P (e ∷ es) a =
    all_append (λ (f : Fragment). P f.which.id) (dump_frags e.dump) (frags_of (dumps_of es)) (all_so (λ (f : Fragment). f.which.id ≡ e.dump.id) (λ f. P f.which.id) (λ f same. subst P (sym same) a.0) (dump_frags e.dump) (dump_ids e.dump)) (frags_all P es a.1)

module _ (id : ℕ) where
  abbrev is_own : Fragment → Bool
  is_own f = eqb f.which.id id

  abbrev is_other : Fragment → Bool
  is_other f = not (eqb f.which.id id)

  own_true : (f : Fragment) → f.which.id ≡ id → is_own f ≡ true
  own_true f same = eq-eqb f.which.id id same

  own_false : (f : Fragment) → f.which.id ≢ id → is_own f ≡ false
  own_false f ne = ne_eqb f.which.id id ne

  other_true : (f : Fragment) → f.which.id ≢ id → is_other f ≡ true
  other_true f ne = not_from_false (eqb f.which.id id) (own_false f ne)

  other_false : (f : Fragment) → f.which.id ≡ id → is_other f ≡ false
  other_false f same = not_from_true (eqb f.which.id id) (own_true f same)

  dump_is : (dump : DumpRecordFields) → dump.id ≡ id → AllByRecursion (λ f. f.which.id ≡ id) (dump_frags dump)
  dump_is dump same = all_so (λ (f : Fragment). f.which.id ≡ dump.id) (λ f. f.which.id ≡ id) (λ f own. own ∙ same) (dump_frags dump) (dump_ids dump)

  dump_not : (dump : DumpRecordFields) → dump.id ≢ id → AllByRecursion (λ f. f.which.id ≢ id) (dump_frags dump)
  dump_not dump ne = all_so (λ (f : Fragment). f.which.id ≡ dump.id) (λ f. f.which.id ≢ id) (λ f own is. ne (sym own ∙ is)) (dump_frags dump) (dump_ids dump)

  -- the fragments of all other records
  pub frags_without : (es : List Entry) → filter is_other (frags_of (dumps_of es)) ≡ frags_of (dumps_of (without_id id es))
  frags_without [] = refl
  frags_without (e ∷ es) =
      let both = filter-append is_other (dump_frags e.dump) (frags_of (dumps_of es)) in
      let rest = frags_without es in
      let left = filter is_other (frags_of (dumps_of es)) in
      ⊎_elim
      (λ (same : e.dump.id ≡ id).
      both
      ∙ ap (λ (t : List Fragment). t ++ left) (filter_none is_other (dump_frags e.dump) (all_so (λ (f : Fragment). f.which.id ≡ id) (λ f. is_other f ≡ false) other_false (dump_frags e.dump) (dump_is e.dump same)))
      ∙ rest
      ∙ sym (ap (λ (l : List Entry). frags_of (dumps_of l)) (filter_drops (λ (x : Entry). not (eqb x.dump.id id)) e es (not_from_true (eqb e.dump.id id) (eq-eqb e.dump.id id same)))))
      (λ (ne : e.dump.id ≡ id → ⊥).
      both
      ∙ ap (λ (t : List Fragment). t ++ left) (filter_all is_other (dump_frags e.dump) (all_so (λ (f : Fragment). f.which.id ≢ id) (λ f. is_other f ≡ true) other_true (dump_frags e.dump) (dump_not e.dump ne)))
      ∙ ap (λ (t : List Fragment). dump_frags e.dump ++ t) rest
      ∙ sym (ap (λ (l : List Entry). frags_of (dumps_of l)) (filter_keeps (λ (x : Entry). not (eqb x.dump.id id)) e es (not_from_false (eqb e.dump.id id) (ne_eqb e.dump.id id ne)))))
      (cases_eq e.dump.id id)

  none_own : (es : List Entry) → AllByRecursion (λ e. e.dump.id ≢ id) es → filter is_own (frags_of (dumps_of es)) ≡ []
  none_own es a = filter_none is_own (frags_of (dumps_of es)) (all_so (λ (f : Fragment). f.which.id ≢ id) (λ f. is_own f ≡ false) own_false (frags_of (dumps_of es)) (frags_all (λ n. n ≢ id) es a))

  -- the fragments of the record of the id
  pub frags_own : (es : List Entry) (dump : DumpRecordFields) → DistinctIds es → record_of id (dumps_of es) ≡ Some dump → filter is_own (frags_of (dumps_of es)) ≡ dump_frags dump
  frags_own [] dump d found = absurd (let no : ⊥ = cc in no)
  frags_own (e ∷ es) dump d found =
      let both = filter-append is_own (dump_frags e.dump) (frags_of (dumps_of es)) in
      let rest = filter is_own (frags_of (dumps_of es)) in
      ⊎_elim
      (λ (same : e.dump.id ≡ id).
      let first = sym (cond-true _ (Some e.dump) (record_of id (dumps_of es)) (eq-eqb e.dump.id id same)) ∙ found in
      let is : e.dump ≡ dump = cc in
      let none = none_own es (subst (λ (n : ℕ). AllByRecursion (λ (x : Entry). x.dump.id ≢ n) es) same d.0) in
      both
      ∙ ap (λ (t : List Fragment). t ++ rest) (filter_all is_own (dump_frags e.dump) (all_so (λ (f : Fragment). f.which.id ≡ id) (λ f. is_own f ≡ true) own_true (dump_frags e.dump) (dump_is e.dump same)))
      ∙ ap (λ (t : List Fragment). dump_frags e.dump ++ t) none
      ∙ append-nil (dump_frags e.dump)
      ∙ ap dump_frags is)
      (λ (ne : e.dump.id ≡ id → ⊥).
      let found_behind = sym (cond-false _ (Some e.dump) (record_of id (dumps_of es)) (ne_eqb e.dump.id id ne)) ∙ found in
      both
      ∙ ap (λ (t : List Fragment). t ++ rest) (filter_none is_own (dump_frags e.dump) (all_so (λ (f : Fragment). f.which.id ≢ id) (λ f. is_own f ≡ false) own_false (dump_frags e.dump) (dump_not e.dump ne)))
      ∙ frags_own es dump d.1 found_behind)
      (cases_eq e.dump.id id)

  -- ---- by their places

  pub with_is : (ps : List Placed) → fragments (with_dump id ps) ≡ filter is_own (fragments ps)
  with_is ps = sym (filter_mapped (λ (p : Placed). p.fragment) is_own ps)

  pub without_is : (ps : List Placed) → fragments (without_dump id ps) ≡ filter is_other (fragments ps)
  without_is ps = sym (filter_mapped (λ (p : Placed). p.fragment) is_other ps)

  -- without a record of the id no fragment goes
  pub without_none : (ps : List Placed) (es : List Entry) → fragments ps ≡ frags_of (dumps_of es) → AllByRecursion (λ e. e.dump.id ≢ id) es → without_dump id ps ≡ ps
  without_none ps es whole a =
      let all = subst (AllByRecursion (λ (f : Fragment). f.which.id ≢ id)) (sym whole) (frags_all (λ n. n ≢ id) es a) in
      filter_all (λ (p : Placed). not (eqb p.fragment.which.id id)) ps (all_so (λ (p : Placed). p.fragment.which.id ≢ id) (λ p. is_other p.fragment ≡ true) (λ p ne. other_true p.fragment ne) ps (all_of_mapped (λ (p : Placed). p.fragment) (λ f. f.which.id ≢ id) ps all))

-- each fragment of the dump's id is of one of its volumes
pub are_of_dump : (dump : DumpRecordFields) (ps : List Placed) → fragments (with_dump dump.id ps) ≡ dump_frags dump → AreOfDump dump ps
are_of_dump dump ps is =
    let own = all_of_mapped (λ (p : Placed). p.fragment) (IsOfVolume dump.volumes) (with_dump dump.id ps) (subst (AllByRecursion (IsOfVolume dump.volumes)) (sym is) (dump_own dump)) in
    unfiltered ps own
  where
    unfiltered : (qs : List Placed) → AllByRecursion (λ p. IsOfVolume dump.volumes p.fragment) (with_dump dump.id qs) → AreOfDump dump qs
    unfiltered [] a = tt
    unfiltered (q ∷ qs) a =
        let t : Placed → Bool = λ p. eqb p.fragment.which.id dump.id in
        let all : List Placed → Type 0 = AllByRecursion (λ p. IsOfVolume dump.volumes p.fragment) in
        ⊎_elim
        (λ (same : q.fragment.which.id ≡ dump.id).
        let both = subst all (filter_keeps t q qs (eq-eqb q.fragment.which.id dump.id same)) a in
        ((λ h. both.0), unfiltered qs both.1))
        (λ (ne : q.fragment.which.id ≡ dump.id → ⊥).
        ((λ h. absurd (ne h)), unfiltered qs (subst all (filter_drops t q qs (ne_eqb q.fragment.which.id dump.id ne)) a)))
        (cases_eq q.fragment.which.id dump.id)
