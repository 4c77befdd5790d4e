-- Chains: how they unfold, that each has one outcome, and which records they look at.
use Rattle.std.proofs.Common.{zero, suc, ◌≡◌, ◌≢◌, ℕ, ◌<◌, List, [], ◌∷◌, ◌++◌, get_or, Bool, true, false, cond, not, refl, sym, ◌∙◌, ap, subst, arith, inl, inr, ◌⊎◌}
use Rattle.std.specs.Prelude.{All, Contains, map, nat_eq, reverse, ◌==◌, Option, Some, None, Result, Ok, Err}
use Rattle.std.specs.List.{IsDistinct}
use Rattle.std.proofs.lemmas.Bool.{eqb-true, eqb-false, eq-eqb}
use Rattle.std.proofs.lemmas.List.{reverse-append, length-map, get_or-map}
use Rattle.std.proofs.lemmas.List.Elements.{All-nil, All-cons, All-head, All-tail, All-push, All-weaker, All-contains, All-from_recursion, Contains-get_or}
use Rattle.budb_changes.specs.declared.records.VolRecordFields.{VolRecordFields}
use Rattle.budb_changes.specs.declared.records.DumpRecordFields.{DumpRecordFields}
use Rattle.budb_fold.specs.Database.{without}
use Rattle.budb_fold.specs.Lookups.{VolumeDump, record_of, volume_of}
use Rattle.budb_fold.specs.Chains.{with_volume, volume_in, dump_of, IsWholeIn, Passes, IsChain, followed_by, Unfolds, HaveParentsBelow}

-- ---- going upwards

module _ (records : List DumpRecordFields) (name : List ℕ) where
  pub pass_more : (id : ℕ) (passed : List ℕ) (to : ℕ) (d : VolumeDump) → Passes records name id passed to → dump_of records name to ≡ Some d → d.volume.from ≢ 0 → Passes records name id (passed ++ to ∷ []) d.dump.parent
  pass_more id [] to d here is later = (sym here, (d, ap (dump_of records name) here ∙ is, later, refl))
  pass_more id (i ∷ passed) to d (same, (e, found, since, rest)) is later = (same, (e, found, since, pass_more e.dump.parent passed to d rest is later))

  -- where nobody goes on
  Ends : ℕ → Type 0
  Ends id = (dump_of records name id ≡ None) ⊎ IsWholeIn records name id

  goes_on : (id : ℕ) (d : VolumeDump) → dump_of records name id ≡ Some d → d.volume.from ≢ 0 → Ends id → ⊥
  unfolding Ends
  goes_on id d is later (inl none) = absurd (cc)
  goes_on id d is later (inr (e, found, whole)) = (let same : d ≡ e = cc in later (ap (λ (x : VolumeDump). x.volume.from) same ∙ whole))

  one_way : (id : ℕ) (p : List ℕ) (a : ℕ) (q : List ℕ) (b : ℕ) → Passes records name id p a → Ends a → Passes records name id q b → Ends b → (p ≡ q) × (a ≡ b)
  one_way id [] a [] b here end_a there end_b = (refl, sym here ∙ there)
  one_way id [] a (j ∷ q) b here end_a (same, (d, is, later, rest)) end_b = absurd (goes_on a d (ap (dump_of records name) (sym here) ∙ is) later end_a)
  one_way id (i ∷ p) a [] b (same, (d, is, later, rest)) end_a there end_b = absurd (goes_on b d (ap (dump_of records name) (sym there) ∙ is) later end_b)
  one_way id (i ∷ p) a (j ∷ q) b (same_i, (d, is_d, later_d, rest_d)) end_a (same_j, (e, is_e, later_e, rest_e)) end_b =
      let same : d ≡ e = cc in
      let rest = one_way d.dump.parent p a q b rest_d end_a (subst (λ (x : VolumeDump). Passes records name x.dump.parent q b) (sym same) rest_e) end_b in
      (ap (λ (k : ℕ). k ∷ p) (same_i ∙ sym same_j) ∙ ap (λ (l : List ℕ). j ∷ l) rest.0, rest.1)

-- a dump that was looked up, with its volume
pub looked_up : (records : List DumpRecordFields) (name : List ℕ) (id : ℕ) (dump : DumpRecordFields) (volume : VolRecordFields) → record_of records id ≡ Some dump → volume_of dump name ≡ Some volume → dump_of records name id ≡ Some (record { dump = dump; volume = volume })
looked_up records name id dump volume dump_is volume_is = ap (λ (o : Option DumpRecordFields). volume_in o name) dump_is ∙ ap (with_volume dump) volume_is

-- the walk ends at a dump that has the volume whole
pub ends_whole : (records : List DumpRecordFields) (name : List ℕ) (id : ℕ) (passed : List ℕ) (whole : ℕ) (dump : DumpRecordFields) (volume : VolRecordFields) (ids : List ℕ) → Passes records name id passed whole → record_of records whole ≡ Some dump → volume_of dump name ≡ Some volume → volume.from ≡ 0 → ids ≡ reverse (passed ++ whole ∷ []) → IsChain records id name (Ok ids)
ends_whole records name id passed whole dump volume ids pass dump_is volume_is at_zero ids_are =
    (passed, (whole, pass, (record { dump = dump; volume = volume }, looked_up records name whole dump volume dump_is volume_is, at_zero), ids_are ∙ reverse-append passed (whole ∷ [])))

-- ---- one outcome

pub one_outcome : (records : List DumpRecordFields) (id : ℕ) (name : List ℕ) (a b : Result (List ℕ) ℕ) → IsChain records id name a → IsChain records id name b → a ≡ b
unfolding Ends
one_outcome records id name (Ok ids) (Ok jds) (p, (x, pass_p, whole_p, is_p)) (q, (y, pass_q, whole_q, is_q)) =
    let same = one_way records name id p x q y pass_p (inr whole_p) pass_q (inr whole_q) in
    ap Ok (is_p ∙ ap (λ (l : List ℕ). x ∷ reverse l) same.0 ∙ ap (λ (k : ℕ). k ∷ reverse q) same.1 ∙ sym is_q)
one_outcome records id name (Ok ids) (Err missing) (p, (x, pass_p, whole_p, is_p)) (q, pass_q, none) =
    let same = one_way records name id p x q missing pass_p (inr whole_p) pass_q (inl none) in
    let here : Some whole_p.0 ≡ None = sym whole_p.1 ∙ ap (dump_of records name) same.1 ∙ none in
    absurd (cc)
one_outcome records id name (Err missing) (Ok jds) (p, pass_p, none) (q, (y, pass_q, whole_q, is_q)) =
    let same = one_way records name id p missing q y pass_p (inl none) pass_q (inr whole_q) in
    let here : None ≡ Some whole_q.0 = sym none ∙ ap (dump_of records name) same.1 ∙ whole_q.1 in
    absurd (cc)
one_outcome records id name (Err m) (Err n) (p, pass_p, none_p) (q, pass_q, none_q) =
    let same = one_way records name id p m q n pass_p (inl none_p) pass_q (inl none_q) in
    ap Err same.1

-- ---- unfolding

reverse_more : (i : ℕ) (ids : List ℕ) → reverse (i ∷ ids) ≡ reverse ids ++ i ∷ []
reverse_more i ids = reverse-append (i ∷ []) ids

pub unfolds : (records : List DumpRecordFields) (id : ℕ) (name : List ℕ) (outcome : Result (List ℕ) ℕ) (o : Option VolumeDump) → dump_of records name id ≡ o → IsChain records id name outcome → Unfolds records id name outcome o
unfolds records id name (Ok ids) None is ([], (whole, here, (d, found, at_zero), ids_are)) = absurd (let both : None ≡ Some d = sym is ∙ ap (dump_of records name) here ∙ found in cc)
unfolds records id name (Ok ids) (Some e) is ([], (whole, here, (d, found, at_zero), ids_are)) =
    let same : Some d ≡ Some e = sym found ∙ ap (dump_of records name) (sym here) ∙ is in
    let one : d ≡ e = cc in
    inl (ap (λ (x : VolumeDump). x.volume.from) (sym one) ∙ at_zero, ap Ok ids_are ∙ ap (λ (k : ℕ). Ok (k ∷ [])) (sym here))
unfolds records id name (Ok ids) None is (i ∷ passed, (whole, (same, (d, found, later, rest)), is_whole, ids_are)) = absurd (cc)
unfolds records id name (Ok ids) (Some e) is (i ∷ passed, (whole, (same, (d, found, later, rest)), is_whole, ids_are)) =
    let one : d ≡ e = cc in
    subst (λ (x : VolumeDump). Unfolds records id name (Ok ids) (Some x)) one
    (inr (later, (Ok (whole ∷ reverse passed), (passed, (whole, rest, is_whole, refl)), ap Ok (ids_are ∙ ap (λ (l : List ℕ). whole ∷ l) (reverse_more i passed)) ∙ ap (λ (k : ℕ). Ok (whole ∷ (reverse passed ++ k ∷ []))) same)))
unfolds records id name (Err missing) None is ([], here, none) = ap Err (sym here)
unfolds records id name (Err missing) (Some e) is ([], here, none) = absurd (let both : Some e ≡ None = sym is ∙ ap (dump_of records name) here ∙ none in cc)
unfolds records id name (Err missing) None is (i ∷ passed, (same, (d, found, later, rest)), none) = absurd (cc)
unfolds records id name (Err missing) (Some e) is (i ∷ passed, (same, (d, found, later, rest)), none) =
    let one : d ≡ e = cc in
    subst (λ (x : VolumeDump). Unfolds records id name (Err missing) (Some x)) one (inr (later, (Err missing, (passed, rest, none), refl)))

behind_parent : (records : List DumpRecordFields) (id : ℕ) (name : List ℕ) (d : VolumeDump) (up : Result (List ℕ) ℕ) → dump_of records name id ≡ Some d → d.volume.from ≢ 0 → IsChain records d.dump.parent name up → IsChain records id name (followed_by up id)
behind_parent records id name d (Ok ids) is later (passed, (whole, rest, is_whole, ids_are)) =
    (id ∷ passed, (whole, (refl, (d, is, later, rest)), is_whole, ap (λ (l : List ℕ). l ++ id ∷ []) ids_are ∙ ap (λ (l : List ℕ). whole ∷ l) (sym (reverse_more id passed))))
behind_parent records id name d (Err missing) is later (passed, rest, none) = (id ∷ passed, (refl, (d, is, later, rest)), none)

pub folds : (records : List DumpRecordFields) (id : ℕ) (name : List ℕ) (outcome : Result (List ℕ) ℕ) (o : Option VolumeDump) → dump_of records name id ≡ o → Unfolds records id name outcome o → IsChain records id name outcome
folds records id name outcome None is so = subst (IsChain records id name) (sym so) ([], refl, is)
folds records id name outcome (Some d) is (inl (at_zero, so)) = subst (IsChain records id name) (sym so) ([], (id, refl, (d, is, at_zero), refl))
folds records id name outcome (Some d) is (inr (later, (up, chain, so))) = subst (IsChain records id name) (sym so) (behind_parent records id name d up is later chain)

-- ---- records by their ids

pub record_there : (records : List DumpRecordFields) (id : ℕ) (d : DumpRecordFields) → record_of records id ≡ Some d → Contains records d × (d.id ≡ id)
record_there [] id d is = absurd (cc)
record_there (r ∷ records) id d is = go (r.id == id) refl (record_there records id d) is
  where
    go : (t : Bool) → (r.id == id) ≡ t → (record_of records id ≡ Some d → Contains records d × (d.id ≡ id)) → cond t (Some r) (record_of records id) ≡ Some d → Contains (r ∷ records) d × (d.id ≡ id)
    go true hit rest is =
        (let same : r ≡ d = cc in
        ((0, omega arith, same), ap (λ (x : DumpRecordFields). x.id) (sym same) ∙ eqb-true r.id id hit))
    go false miss rest is = (let later = rest is in ((suc later.0.0, omega (arith, later.0.1), later.0.2), later.1))

dump_there : (records : List DumpRecordFields) (name : List ℕ) (o : Option DumpRecordFields) (id : ℕ) (d : VolumeDump) → record_of records id ≡ o → volume_in o name ≡ Some d → Contains records d.dump × (d.dump.id ≡ id)
dump_there records name None id d is found = absurd (cc)
dump_there records name (Some e) id d is found =
    let same : e ≡ d.dump = its_dump (volume_of e name) found in
    record_there records id d.dump (is ∙ ap Some same)
  where
    its_dump : (v : Option VolRecordFields) → with_volume e v ≡ Some d → e ≡ d.dump
    its_dump None found = absurd (cc)
    its_dump (Some v) found = (let same : record { dump = e; volume = v } ≡ d = cc in ap (λ (x : VolumeDump). x.dump) same)

pub parent_below : (records : List DumpRecordFields) (name : List ℕ) (id : ℕ) (d : VolumeDump) → HaveParentsBelow records → dump_of records name id ≡ Some d → d.dump.parent < id
parent_below records name id d below is =
    let there = dump_there records name (record_of records id) id d refl is in
    let less : d.dump.parent < d.dump.id = All-contains (λ (x : DumpRecordFields). x.parent < x.id) records d.dump below there.0 in
    subst (λ (k : ℕ). d.dump.parent < k) there.1 less

-- ---- each way upwards ends where parents lie below

abbrev HasChain : List DumpRecordFields → List ℕ → ℕ → Type 0
HasChain records name id = (outcome : Result (List ℕ) ℕ) × IsChain records id name outcome

has_chain : (records : List DumpRecordFields) (name : List ℕ) → HaveParentsBelow records → (bound id : ℕ) → id < bound → HasChain records name id
has_chain records name below zero id within = absurd (omega (arith, within))
has_chain records name below (suc n) id within = go (dump_of records name id) refl (λ parent less. has_chain records name below n parent (omega (arith, less, within)))
  where
    later : (d : VolumeDump) → dump_of records name id ≡ Some d → HasChain records name d.dump.parent → (t : Bool) → (d.volume.from == 0) ≡ t → HasChain records name id
    later d is up true at_zero = (Ok (id ∷ []), folds records id name (Ok (id ∷ [])) (Some d) is (inl (eqb-true d.volume.from 0 at_zero, refl)))
    later d is up false some = (followed_by up.0 id, folds records id name (followed_by up.0 id) (Some d) is (inr (eqb-false d.volume.from 0 some, (up.0, up.1, refl))))

    go : (o : Option VolumeDump) → dump_of records name id ≡ o → ((parent : ℕ) → parent < id → HasChain records name parent) → HasChain records name id
    go None is up = (Err id, folds records id name (Err id) None is refl)
    go (Some d) is up = later d is (up d.dump.parent (parent_below records name id d below is)) (d.volume.from == 0) refl

pub chain_there : (records : List DumpRecordFields) (id : ℕ) (name : List ℕ) → HaveParentsBelow records → (outcome : Result (List ℕ) ℕ) × IsChain records id name outcome
chain_there records id name below = has_chain records name below (suc id) id (omega arith)

-- ---- other records

same_dump : (a b : List DumpRecordFields) (name : List ℕ) (id : ℕ) → record_of b id ≡ record_of a id → dump_of b name id ≡ dump_of a name id
same_dump a b name id same = ap (λ (o : Option DumpRecordFields). volume_in o name) same

abbrev pub HasSame : List DumpRecordFields → List DumpRecordFields → ℕ → Type 0
HasSame a b id = record_of b id ≡ record_of a id

same_pass : (a b : List DumpRecordFields) (name : List ℕ) (id : ℕ) (passed : List ℕ) (to : ℕ) → All (HasSame a b) passed → Passes a name id passed to → Passes b name id passed to
same_pass a b name id [] to same pass = pass
same_pass a b name id (i ∷ passed) to same (is, (d, found, later, rest)) =
    let here : record_of b id ≡ record_of a id = subst (HasSame a b) is (All-head (HasSame a b) i passed same) in
    (is, (d, same_dump a b name id here ∙ found, later, same_pass a b name d.dump.parent passed to (All-tail (HasSame a b) i passed same) rest))

all_front : (P : ℕ → Type 0) (js : List ℕ) (j : ℕ) → All P (js ++ j ∷ []) → All P js × P j
all_front P [] j all = (All-nil P, All-head P j [] all)
all_front P (k ∷ js) j all =
    let rest = all_front P js j (All-tail P k (js ++ j ∷ []) all) in
    (All-cons P k js (All-head P k (js ++ j ∷ []) all) rest.0, rest.1)

unreversed : (P : ℕ → Type 0) (ids : List ℕ) → All P (reverse ids) → All P ids
unreversed P [] all = All-nil P
unreversed P (i ∷ ids) all =
    let parts = all_front P (reverse ids) i (subst (All P) (reverse_more i ids) all) in
    All-cons P i ids parts.1 (unreversed P ids parts.0)

reversed : (P : ℕ → Type 0) (ids : List ℕ) → All P ids → All P (reverse ids)
reversed P [] all = all
reversed P (i ∷ ids) all = subst (All P) (sym (reverse_more i ids)) (All-push P (reverse ids) i (reversed P ids (All-tail P i ids all)) (All-head P i ids all))

pub same_chain : (a b : List DumpRecordFields) (id : ℕ) (name ids : List ℕ) → All (HasSame a b) ids → IsChain a id name (Ok ids) → IsChain b id name (Ok ids)
same_chain a b id name ids same (passed, (whole, pass, (d, found, at_zero), ids_are)) =
    let all : All (HasSame a b) (whole ∷ reverse passed) = subst (All (HasSame a b)) ids_are same in
    let rest : All (HasSame a b) passed = unreversed (HasSame a b) passed (All-tail (HasSame a b) whole (reverse passed) all) in
    (passed, (whole, same_pass a b name id passed whole rest pass, (d, same_dump a b name whole (All-head (HasSame a b) whole (reverse passed) all) ∙ found, at_zero), ids_are))

-- ---- the records of a chain

abbrev pub IsDumped : List DumpRecordFields → List ℕ → ℕ → Type 0
IsDumped records name id = (d : VolumeDump) × (dump_of records name id ≡ Some d)

passed_dumped : (records : List DumpRecordFields) (name : List ℕ) (id : ℕ) (passed : List ℕ) (to : ℕ) → Passes records name id passed to → All (IsDumped records name) passed
passed_dumped records name id [] to pass = All-nil (IsDumped records name)
passed_dumped records name id (i ∷ passed) to (is, (d, found, later, rest)) =
    All-cons (IsDumped records name) i passed (d, ap (dump_of records name) is ∙ found) (passed_dumped records name d.dump.parent passed to rest)

pub chain_dumped : (records : List DumpRecordFields) (id : ℕ) (name ids : List ℕ) → IsChain records id name (Ok ids) → All (IsDumped records name) ids
chain_dumped records id name ids (passed, (whole, pass, (d, found, at_zero), ids_are)) =
    subst (All (IsDumped records name)) (sym ids_are) (All-cons (IsDumped records name) whole (reverse passed) (d, found) (reversed (IsDumped records name) passed (passed_dumped records name id passed whole pass)))

-- ---- one record more, and fewer

record_of_more : (records more : List DumpRecordFields) (id : ℕ) (d : DumpRecordFields) → record_of records id ≡ Some d → record_of (records ++ more) id ≡ Some d
record_of_more [] more id d is = absurd (cc)
record_of_more (r ∷ records) more id d is = go (r.id == id) (record_of_more records more id d) is
  where
    go : (t : Bool) → (record_of records id ≡ Some d → record_of (records ++ more) id ≡ Some d) → cond t (Some r) (record_of records id) ≡ Some d → cond t (Some r) (record_of (records ++ more) id) ≡ Some d
    go true rest is = is
    go false rest is = rest is

dumped_more : (records more : List DumpRecordFields) (name : List ℕ) (o : Option DumpRecordFields) (id : ℕ) → record_of records id ≡ o → (d : VolumeDump) → volume_in o name ≡ Some d → HasSame records (records ++ more) id
dumped_more records more name None id is d found = absurd (cc)
dumped_more records more name (Some e) id is d found = record_of_more records more id e is ∙ sym is

pub chain_more : (records more : List DumpRecordFields) (id : ℕ) (name ids : List ℕ) → IsChain records id name (Ok ids) → IsChain (records ++ more) id name (Ok ids)
chain_more records more id name ids chain =
    same_chain records (records ++ more) id name ids
    (All-weaker (IsDumped records name) (HasSame records (records ++ more)) (λ i (d, found). dumped_more records more name (record_of records i) i refl d found) ids (chain_dumped records id name ids chain)) chain

record_of_fewer : (is_so : DumpRecordFields → Bool) (records : List DumpRecordFields) (id : ℕ) → ((d : DumpRecordFields) → Contains records d → d.id ≡ id → is_so d ≡ false) → record_of (without is_so records) id ≡ record_of records id
record_of_fewer is_so [] id stay = refl
record_of_fewer is_so (r ∷ records) id stay =
    go (r.id == id) refl (is_so r) refl (record_of_fewer is_so records id (λ d (k, within, is) same. stay d (suc k, omega (arith, within), is) same))
  where
    go : (t : Bool) → (r.id == id) ≡ t → (u : Bool) → is_so r ≡ u → record_of (without is_so records) id ≡ record_of records id → record_of (cond (not u) (r ∷ without is_so records) (without is_so records)) id ≡ cond t (Some r) (record_of records id)
    go true hit true so rest = absurd (let kept : is_so r ≡ false = stay r (0, omega arith, refl) (eqb-true r.id id hit) in let both : true ≡ false = sym so ∙ kept in cc)
    go true hit false other rest = ap (λ (t : Bool). cond t (Some r) (record_of (without is_so records) id)) hit
    go false miss true so rest = rest
    go false miss false other rest = ap (λ (t : Bool). cond t (Some r) (record_of (without is_so records) id)) miss ∙ rest

pub chain_fewer : (is_so : DumpRecordFields → Bool) (records : List DumpRecordFields) (id : ℕ) (name ids : List ℕ) → ((d : DumpRecordFields) → Contains records d → Contains ids d.id → is_so d ≡ false) → IsChain records id name (Ok ids) → IsChain (without is_so records) id name (Ok ids)
chain_fewer is_so records id name ids stay chain =
    same_chain records (without is_so records) id name ids
    (λ k d within. record_of_fewer is_so records (get_or ids k d) (λ r there same. stay r there (subst (Contains ids) (sym same) (Contains-get_or ids k d within)))) chain

-- a record of an id that is there once is the one that is found
pub record_by_id : (records : List DumpRecordFields) (d : DumpRecordFields) → IsDistinct nat_eq (map (λ dump. dump.id) records) → Contains records d → record_of records d.id ≡ Some d
unfolding IsDistinct
record_by_id [] d once there = absurd (omega (arith, there.1))
record_by_id (r ∷ records) d once (zero, within, is) = ap (λ (t : Bool). cond t (Some r) (record_of records d.id)) (eq-eqb r.id d.id (ap (λ (x : DumpRecordFields). x.id) is)) ∙ ap Some is
record_by_id (r ∷ records) d once (suc k, within, is) =
    let there : Contains records d = (k, omega (arith, within), is) in
    let apart : nat_eq r.id d.id ≡ false = All-contains (λ (i : ℕ). nat_eq r.id i ≡ false) (map (λ dump. dump.id) records) d.id (All-from_recursion (λ (i : ℕ). nat_eq r.id i ≡ false) (map (λ dump. dump.id) records) once.0) (contains_id records d there) in
    ap (λ (t : Bool). cond t (Some r) (record_of records d.id)) apart ∙ record_by_id records d once.1 there
  where
    contains_id : (ds : List DumpRecordFields) (e : DumpRecordFields) → Contains ds e → Contains (map (λ dump. dump.id) ds) e.id
    contains_id ds e (n, in_ds, is_e) =
        (n, omega (arith, in_ds, length-map ds (λ (x : DumpRecordFields). x.id)), get_or-map (λ (x : DumpRecordFields). x.id) ds n e e.id in_ds ∙ ap (λ (x : DumpRecordFields). x.id) is_e)
