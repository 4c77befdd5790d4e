-- The ids of the fragments of a name, each once, are those of the records that have a volume of the name.
use Rattle.std.proofs.Common.{◌≡◌, ◌≢◌, ◌⊎◌, inl, inr, ℕ, zero, suc, ◌+◌, ◌≤◌, List, [], ◌∷◌, ◌++◌, length, map, Bool, true, false, Option, Some, None, refl, sym, ◌∙◌, ap, subst, arith, ⊎_elim}
use Rattle.std.specs.Prelude.{is_some}
use Rattle.std.specs.List.{filter, find, AllByRecursion}
use Rattle.std.proofs.lemmas.Bool.{cases_Bool, eq-eqb, ne_eqb, cond-true, cond-false}
use Rattle.std.proofs.lemmas.List.{map-append}
use Rattle.std.proofs.lemmas.List.Elements.{filter-append}
use Rattle.bk_text.specs.Blanks.{is_same_text}
use Rattle.budb_changes.specs.declared.records.VolRecordFields.{VolRecordFields}
use Rattle.budb_changes.specs.declared.records.DumpRecordFields.{DumpRecordFields}
use Rattle.budb_links.specs.declared.frags.FragPlace.{FragPlace}
use Rattle.budb_links.specs.Frags.{Fragment, frag_place, fragment_of, volume_frags, volumes_frags, dump_frags, frags_of}
use Rattle.budb_links.proofs.Places.{filter_keeps, filter_drops}
use Rattle.budb_links.proofs.Lists.{all_filter, all_so, all_mapped}
use Rattle.budb_links.proofs.FragLists.{dump_ids}
use Rattle.budb_index.specs.Kept.{HasFrags, AreOnce, KeepsIndex}
use Rattle.budb_index.specs.Walks.{frags_named, unless_last, runs_behind}
use Rattle.budb_index.specs.Holders.{has_volume, holders}

-- ---- runs of one id

abbrev IsOther : Option ℕ → ℕ → Type 0
IsOther None id = Unit {0}
IsOther (Some last) id = last ≢ id

same_once : (id : ℕ) → unless_last (Some id) id ≡ []
same_once id = cond-true _ [] (id ∷ []) (eq-eqb id id refl)

other_once : (last : Option ℕ) (id : ℕ) → IsOther last id → unless_last last id ≡ id ∷ []
other_once None id other = refl
other_once (Some last) id other = cond-false _ [] (id ∷ []) (ne_eqb last id other)

run_on : (id : ℕ) (ids rest : List ℕ) → AllByRecursion (λ i. i ≡ id) ids → runs_behind (Some id) (ids ++ rest) ≡ runs_behind (Some id) rest
run_on id [] rest all = refl
run_on id (i ∷ ids) rest all =
    ap (λ (n : ℕ). unless_last (Some id) n ++ runs_behind (Some n) (ids ++ rest)) all.0
    ∙ ap (λ (l : List ℕ). l ++ runs_behind (Some id) (ids ++ rest)) (same_once id)
    ∙ run_on id ids rest all.1

run_of : (last : Option ℕ) (id i : ℕ) (ids rest : List ℕ) → IsOther last id → i ≡ id → AllByRecursion (λ n. n ≡ id) ids → runs_behind last (i ∷ (ids ++ rest)) ≡ id ∷ runs_behind (Some id) rest
run_of last id i ids rest other same all =
    ap (λ (n : ℕ). unless_last last n ++ runs_behind (Some n) (ids ++ rest)) same
    ∙ ap (λ (l : List ℕ). l ++ runs_behind (Some id) (ids ++ rest)) (other_once last id other)
    ∙ ap (λ (l : List ℕ). id ∷ l) (run_on id ids rest all)

-- ---- the fragments of one record

module _ (key : List ℕ) where
  abbrev named : Fragment → Bool
  named f = is_same_text f.name key

  abbrev has_name : VolRecordFields → Bool
  has_name v = is_same_text v.name key

  volume_none : (id volume : ℕ) (name : List ℕ) (first count : ℕ) → is_same_text name key ≡ false → filter named (volume_frags id volume name first count) ≡ []
  volume_none id volume name first zero other = refl
  volume_none id volume name first (suc count) other =
      filter_drops named (fragment_of (frag_place id volume first) name) (volume_frags id volume name (first + 1) count) other ∙ volume_none id volume name (first + 1) count other

  -- there is one
  abbrev IsMet : List Fragment → Type 0
  IsMet fs = (f : Fragment) × (rest : List Fragment) × (fs ≡ f ∷ rest)

  volume_some : (id volume : ℕ) (name : List ℕ) (first count : ℕ) → is_same_text name key ≡ true → 1 ≤ count → IsMet (filter named (volume_frags id volume name first count))
  volume_some id volume name first zero own some = absurd (omega (arith, some))
  volume_some id volume name first (suc count) own some =
      (fragment_of (frag_place id volume first) name, filter named (volume_frags id volume name (first + 1) count), filter_keeps named (fragment_of (frag_place id volume first) name) (volume_frags id volume name (first + 1) count) own)

  met_front : (xs ys : List Fragment) → IsMet xs → IsMet (xs ++ ys)
  met_front xs ys m = (m.0, m.1 ++ ys, ap (λ (l : List Fragment). l ++ ys) m.2)

  abbrev Cases : Bool → List Fragment → Type 0
  Cases has fs = ((has ≡ false) × (fs ≡ [])) ⊎ ((has ≡ true) × IsMet fs)

  volumes_cases : (id first : ℕ) (vs : List VolRecordFields) → AllByRecursion (λ v. 1 ≤ length v.frags) vs → Cases (is_some (find has_name vs)) (filter named (volumes_frags id first vs))
  volumes_cases id first [] some = inl (refl, refl)
  volumes_cases id first (v ∷ vs) some =
      let here = volume_frags id first v.name 0 (length v.frags) in
      let there = volumes_frags id (first + 1) vs in
      let split = filter-append named here there in
      ⊎_elim
      (λ (own : has_name v ≡ true).
      inr (ap is_some (cond-true _ (Some v) (find has_name vs) own), subst IsMet (sym split) (met_front (filter named here) (filter named there) (volume_some id first v.name 0 (length v.frags) own some.0))))
      (λ (other : has_name v ≡ false).
      let is_there = split ∙ ap (λ (l : List Fragment). l ++ filter named there) (volume_none id first v.name 0 (length v.frags) other) in
      let found = ap is_some (cond-false _ (Some v) (find has_name vs) other) in
      subst (λ (b : Bool). Cases b (filter named (here ++ there))) (sym found) (subst (λ (l : List Fragment). Cases (is_some (find has_name vs)) l) (sym is_there) (volumes_cases id (first + 1) vs some.1)))
      (cases_Bool (has_name v))

  -- ---- those of all records

  abbrev ids_of : List Fragment → List ℕ
  ids_of fs = map (λ (w : FragPlace). w.id) (map (λ (f : Fragment). f.which) fs)

  ids_append : (xs ys : List Fragment) → ids_of (xs ++ ys) ≡ ids_of xs ++ ids_of ys
  ids_append xs ys =
      ap (map (λ (w : FragPlace). w.id)) (map-append (λ (f : Fragment). f.which) xs ys) ∙ map-append (λ (w : FragPlace). w.id) (map (λ (f : Fragment). f.which) xs) (map (λ (f : Fragment). f.which) ys)

  split_ids : (d : DumpRecordFields) (ds : List DumpRecordFields) → ids_of (filter named (frags_of (d ∷ ds))) ≡ ids_of (filter named (dump_frags d)) ++ ids_of (filter named (frags_of ds))
  split_ids d ds =
      ap ids_of (filter-append named (dump_frags d) (frags_of ds)) ∙ ids_append (filter named (dump_frags d)) (filter named (frags_of ds))

  own_ids : (d : DumpRecordFields) → AllByRecursion (λ i. i ≡ d.id) (ids_of (filter named (dump_frags d)))
  own_ids d =
      let fs = filter named (dump_frags d) in
      all_mapped (λ (w : FragPlace). w.id) (λ i. i ≡ d.id) (map (λ (f : Fragment). f.which) fs)
      (all_mapped (λ (f : Fragment). f.which) (λ w. w.id ≡ d.id) fs (all_filter (λ (f : Fragment). f.which.id ≡ d.id) named (dump_frags d) (dump_ids d)))

  runs_are : (dumps : List DumpRecordFields) (last : Option ℕ) → AreOnce dumps → AllByRecursion HasFrags dumps → AllByRecursion (λ d. IsOther last d.id) dumps → runs_behind last (ids_of (filter named (frags_of dumps))) ≡ holders dumps key
  runs_are [] last once some others = refl
  runs_are (d ∷ ds) last once some others =
      let own = filter named (dump_frags d) in
      let rest = ids_of (filter named (frags_of ds)) in
      let split = ap (runs_behind last) (split_ids d ds) in
      ⊎_elim
      (λ (h : (has_volume key d ≡ false) × (own ≡ [])).
      split
      ∙ ap (λ (l : List Fragment). runs_behind last (ids_of l ++ rest)) h.1
      ∙ runs_are ds last once.1 some.1 others.1
      ∙ sym (ap (map (λ (x : DumpRecordFields). x.id)) (filter_drops (has_volume key) d ds h.0)))
      (λ (h : (has_volume key d ≡ true) × IsMet own).
      let all = subst (λ (l : List Fragment). AllByRecursion (λ i. i ≡ d.id) (ids_of l)) h.1.2 (own_ids d) in
      split
      ∙ ap (λ (l : List Fragment). runs_behind last (ids_of l ++ rest)) h.1.2
      ∙ run_of last d.id h.1.0.which.id (ids_of h.1.1) rest others.0 all.0 all.1
      ∙ ap (λ (l : List ℕ). d.id ∷ l) (runs_are ds (Some d.id) once.1 some.1 (all_so (λ (o : DumpRecordFields). o.id ≢ d.id) (λ o. d.id ≢ o.id) (λ o ne same. ne (sym same)) ds once.0))
      ∙ sym (ap (map (λ (x : DumpRecordFields). x.id)) (filter_keeps (has_volume key) d ds h.0)))
      (volumes_cases d.id 0 d.volumes some.0)

  all_other : (dumps : List DumpRecordFields) → AllByRecursion (λ d. IsOther None d.id) dumps
  all_other [] = tt
  all_other (d ∷ ds) = (tt, all_other ds)

  pub holders_met : (dumps : List DumpRecordFields) → KeepsIndex dumps → runs_behind None (map (λ (w : FragPlace). w.id) (frags_named key dumps)) ≡ holders dumps key
  holders_met dumps k = runs_are dumps None k.once k.frags (all_other dumps)
