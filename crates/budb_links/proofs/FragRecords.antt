-- The fragments that are stored are those of the records.
use Rattle.std.proofs.Common.{◌≡◌, ◌≢◌, ◌⊎◌, inl, inr, ℕ, ◌<◌, ◌^◌, List, [], ◌∷◌, ◌++◌, map, Bool, true, false, Option, Some, None, refl, sym, ◌∙◌, ap, subst, arith, ⊎_elim}
use Rattle.std.proofs.lemmas.Bool.{cases_eq, eq-eqb, ne_eqb, cond-true, cond-false}
use Rattle.std.specs.Int.{w32, to_be_bytes}
use Rattle.std.proofs.lemmas.List.{append-nil, append_assoc, map-append}
use Rattle.std.proofs.lemmas.List.Elements.{filter-append}
use Rattle.std.specs.List.{filter, AllByRecursion}
use Rattle.bk_text.specs.Blanks.{is_same_text}
use Rattle.budb_changes.specs.declared.records.DumpRecordFields.{DumpRecordFields}
use Rattle.budb_links.specs.declared.frags.Frags.{Frags}
use Rattle.budb_links.specs.declared.keys.Keys.{Keys}
use Rattle.budb_links.specs.Stands.{Stand}
use Rattle.budb_links.specs.Entries.{Entry, entry_at, dumps_of, record_of, without_id}
use Rattle.budb_links.specs.Frags.{Fragment, Placed, dump_frags, frags_of, fragments, frag_places, without_dump}
use Rattle.budb_links.specs.Stored.{DistinctIds}
use Rattle.budb_links.specs.Keyed.{has_key, stand_for, stands_by, chain_in}
use Rattle.budb_links.specs.Filing.{filed_frag, filed_frags, Files, with_dump, placed_along, frags_in, KeepsFrags}
use Rattle.budb_links.proofs.KeyLaws.{text_same, text_differs}
use Rattle.budb_links.proofs.Keeping.{fresh_id, ids_push}
use Rattle.budb_links.proofs.Removing.{without_fresh, ids_without}
use Rattle.budb_links.proofs.KeyedStoring.{filed_places}
use Rattle.budb_links.proofs.Lists.{filter_mapped, filter_none, filter_all, all_append, all_so, all_filter, all_of_mapped, parts}
use Rattle.budb_links.proofs.FragLists.{dump_ids, frags_all, frags_append, frags_without, frags_own, with_is, without_is, without_none}
use Rattle.budb_links.proofs.FragUnlinking.{bytes_same}

-- ---- the fragments of one record, by the chain of its id

abbrev of_id : ℕ → Placed → Bool
of_id id p = is_same_text (to_be_bytes w32 p.fragment.which.id) (to_be_bytes w32 id)

abbrev IsSmall : Placed → Type 0
IsSmall p = p.fragment.which.id < 2 ^ 32

of_same : (id : ℕ) (p : Placed) → p.fragment.which.id ≡ id → of_id id p ≡ true
of_same id p same = text_same (to_be_bytes w32 p.fragment.which.id) (to_be_bytes w32 id) (ap (to_be_bytes w32) same)

of_other : (id : ℕ) → id < 2 ^ 32 → (p : Placed) → IsSmall p × (p.fragment.which.id ≢ id) → of_id id p ≡ false
of_other id small p h =
    text_differs (to_be_bytes w32 p.fragment.which.id) (to_be_bytes w32 id) (λ same. h.1 (bytes_same p.fragment.which.id id h.0 small same))

along : (ps : List Placed) → placed_along (map stand_for (filed_frags ps)) (fragments ps) ≡ ps
along [] = refl
along (p ∷ ps) = ap (λ (l : List Placed). p ∷ l) (along ps)

middle : (id : ℕ) (pre own post : List Placed) → AllByRecursion (λ p. of_id id p ≡ false) pre → AllByRecursion (λ p. of_id id p ≡ true) own → AllByRecursion (λ p. of_id id p ≡ false) post → filter (of_id id) (pre ++ (own ++ post)) ≡ own
middle id pre own post a b d =
    filter-append (of_id id) pre (own ++ post)
    ∙ ap (λ (l : List Placed). l ++ filter (of_id id) (own ++ post)) (filter_none (of_id id) pre a)
    ∙ filter-append (of_id id) own post
    ∙ ap (λ (l : List Placed). l ++ filter (of_id id) post) (filter_all (of_id id) own b)
    ∙ ap (λ (l : List Placed). own ++ l) (filter_none (of_id id) post d)
    ∙ append-nil own

nothing : (ps : List Placed) → fragments ps ≡ [] → ps ≡ []
nothing [] none = refl
nothing (p ∷ ps) none = absurd (let no : ⊥ = cc in no)

-- ---- the fragments of all records

module _ (keys : Keys) (all : List Placed) (chains : (key : List ℕ) → chain_in keys 1 key ≡ stands_by 1 key (filed_frags all)) where
  by_id : (id : ℕ) (own : List Placed) → filter (of_id id) all ≡ own → chain_in keys 1 (to_be_bytes w32 id) ≡ map stand_for (filed_frags own)
  by_id id own is =
      chains (to_be_bytes w32 id)
      ∙ ap (map stand_for) (filter_mapped filed_frag (has_key 1 (to_be_bytes w32 id)) all)
      ∙ ap (λ (l : List Placed). map stand_for (filed_frags l)) is

  -- what is known of the fragments in front
  abbrev Before : List Entry → Placed → Type 0
  Before es p = IsSmall p × AllByRecursion (λ e. e.dump.id ≢ p.fragment.which.id) es

  frags_from : (es : List Entry) (pre rest : List Placed) → all ≡ pre ++ rest → fragments rest ≡ frags_of (dumps_of es) → DistinctIds es → AllByRecursion (λ e. e.dump.id < 2 ^ 32) es → AllByRecursion (Before es) pre → frags_in keys es ≡ rest
  frags_from [] pre rest whole is d small before = sym (nothing rest is)
  frags_from (e ∷ es) pre rest whole is d small before =
      let id = e.dump.id in
      let r = parts (λ (p : Placed). p.fragment) rest (dump_frags e.dump) (frags_of (dumps_of es)) is in
      let ids = all_of_mapped (λ (p : Placed). p.fragment) (λ f. f.which.id ≡ id) r.front (subst (AllByRecursion (λ (f : Fragment). f.which.id ≡ id)) (sym r.first) (dump_ids e.dump)) in
      let behind = all_of_mapped (λ (p : Placed). p.fragment) (λ f. (f.which.id < 2 ^ 32) × (f.which.id ≢ id)) r.back (subst (AllByRecursion (λ (f : Fragment). (f.which.id < 2 ^ 32) × (f.which.id ≢ id))) (sym r.second) (frags_all (λ n. (n < 2 ^ 32) × (n ≢ id)) es (both id es small.1 d.0))) in
      let others = all_so (λ (p : Placed). IsSmall p × (p.fragment.which.id ≢ id)) (λ p. of_id id p ≡ false) (of_other id small.0) in
      let left = all_so (Before (e ∷ es)) (λ (p : Placed). IsSmall p × (p.fragment.which.id ≢ id)) (λ p h. (h.0, λ same. h.1.0 (sym same))) pre before in
      let split = whole ∙ ap (λ (l : List Placed). pre ++ l) r.whole in
      let own = ap (filter (of_id id)) split ∙ middle id pre r.front r.back (others pre left) (all_so (λ (p : Placed). p.fragment.which.id ≡ id) (λ p. of_id id p ≡ true) (of_same id) r.front ids) (others r.back behind) in
      let here = ap (λ (ss : List Stand). placed_along ss (dump_frags e.dump)) (by_id id r.front own) ∙ ap (placed_along (map stand_for (filed_frags r.front))) (sym r.first) ∙ along r.front in
      let front = all_append (Before es) pre r.front (all_so (Before (e ∷ es)) (Before es) (λ p h. (h.0, h.1.1)) pre before) (all_so (λ (p : Placed). p.fragment.which.id ≡ id) (Before es) (λ p same. (subst (λ (n : ℕ). n < 2 ^ 32) (sym same) small.0, subst (λ (n : ℕ). AllByRecursion (λ (x : Entry). x.dump.id ≢ n) es) (sym same) d.0)) r.front ids) in
      let next = frags_from es (pre ++ r.front) r.back (split ∙ sym (append_assoc pre r.front r.back)) r.second d.1 small.1 front in
      ap (λ (l : List Placed). l ++ frags_in keys es) here ∙ ap (λ (l : List Placed). r.front ++ l) next ∙ sym r.whole
    where
      both : (id : ℕ) (xs : List Entry) → AllByRecursion (λ x. x.dump.id < 2 ^ 32) xs → AllByRecursion (λ x. x.dump.id ≢ id) xs → AllByRecursion (λ x. (x.dump.id < 2 ^ 32) × (x.dump.id ≢ id)) xs
      both id [] a b = tt
      both id (x ∷ xs) a b = ((a.0, b.0), both id xs a.1 b.1)

-- what is kept, and as which list
pub record Kept (new : Frags) (ps : List Placed) (es : List Entry) : Type 0 where
  pub keeps : KeepsFrags new es
  pub same : frags_in new.keys es ≡ ps

pub are_kept : (new : Frags) (ps : List Placed) (es : List Entry) → Files new ps → fragments ps ≡ frags_of (dumps_of es) → DistinctIds es → AllByRecursion (λ e. e.dump.id < 2 ^ 32) es → Kept new ps es
are_kept new ps es f whole d small =
    let k = f.keyed in
    let same = frags_from new.keys ps (λ key. k.chains 1 key (omega arith)) es [] ps refl whole d small tt in
    record {
      keeps = record {
        files = subst (Files new) (sym same) f;
        whole = ap fragments same ∙ whole;
        ids = d;
        small = small;
      };
      same = same;
    }

-- ---- an insert

pub inserted_frags : (frags new : Frags) (es es' : List Entry) (place : ℕ) (dump : DumpRecordFields) (more : List Placed) → KeepsFrags frags es → record_of dump.id (dumps_of es) ≡ None → dump.id < 2 ^ 32 → Files new (frags_in frags.keys es ++ more) → fragments more ≡ dump_frags dump → es' ≡ es ++ entry_at place dump ∷ [] → Kept new (frags_in frags.keys es ++ more) es'
inserted_frags frags new es es' place dump more k fresh small f told is =
    let ps = frags_in frags.keys es in
    let e = entry_at place dump in
    let whole =
    map-append (λ (p : Placed). p.fragment) ps more
    ∙ ap (λ (l : List Fragment). l ++ fragments more) k.whole
    ∙ ap (λ (l : List Fragment). frags_of (dumps_of es) ++ l) (told ∙ sym (append-nil (dump_frags dump)))
    ∙ sym (frags_append (dumps_of es) (dump ∷ []))
    ∙ ap frags_of (sym (map-append (λ (x : Entry). x.dump) es (e ∷ []))) in
    let made = are_kept new (ps ++ more) (es ++ e ∷ []) f whole (ids_push es e k.ids (fresh_id dump.id es fresh)) (all_append (λ (x : Entry). x.dump.id < 2 ^ 32) es (e ∷ []) k.small (small, tt)) in
    subst (Kept new (ps ++ more)) (sym is) made

-- ---- an unlink

pub taken_whole : (frags : Frags) (es : List Entry) (id : ℕ) (dump : DumpRecordFields) → KeepsFrags frags es → record_of id (dumps_of es) ≡ Some dump → dump.id ≡ id → fragments (with_dump dump.id (frags_in frags.keys es)) ≡ dump_frags dump
taken_whole frags es id dump k found same =
    let ps = frags_in frags.keys es in
    subst (λ (n : ℕ). fragments (with_dump n ps) ≡ dump_frags dump) (sym same) (with_is id ps ∙ ap (filter _) k.whole ∙ frags_own id es dump k.ids found)

pub unlinked_frags : (frags new : Frags) (es es' : List Entry) (id : ℕ) → KeepsFrags frags es → Files new (without_dump id (frags_in frags.keys es)) → es' ≡ without_id id es → Kept new (without_dump id (frags_in frags.keys es)) es'
unlinked_frags frags new es es' id k f is =
    let ps = frags_in frags.keys es in
    let whole = without_is id ps ∙ ap (filter _) k.whole ∙ frags_without id es in
    let made = are_kept new (without_dump id ps) (without_id id es) f whole (ids_without id es k.ids) (all_filter (λ (x : Entry). x.dump.id < 2 ^ 32) _ es k.small) in
    subst (Kept new (without_dump id ps)) (sym is) made

pub found_id : (id : ℕ) (dumps : List DumpRecordFields) (dump : DumpRecordFields) → record_of id dumps ≡ Some dump → dump.id ≡ id
found_id id [] dump found = absurd (let no : ⊥ = cc in no)
found_id id (d ∷ ds) dump found =
    ⊎_elim
    (λ (same : d.id ≡ id). let first = sym (cond-true _ (Some d) (record_of id ds) (eq-eqb d.id id same)) ∙ found in let is : d ≡ dump = cc in ap (λ (x : DumpRecordFields). x.id) (sym is) ∙ same)
    (λ (ne : d.id ≡ id → ⊥). found_id id ds dump (sym (cond-false _ (Some d) (record_of id ds) (ne_eqb d.id id ne)) ∙ found))
    (cases_eq d.id id)

-- where there was no record of the id
pub untaken_frags : (frags : Frags) (es es' : List Entry) (id : ℕ) → KeepsFrags frags es → record_of id (dumps_of es) ≡ None → es' ≡ without_id id es → Kept frags (without_dump id (frags_in frags.keys es)) es'
untaken_frags frags es es' id k none is =
    let ps = frags_in frags.keys es in
    let fresh = fresh_id id es none in
    let same = is ∙ without_fresh id es fresh in
    let made : Kept frags (without_dump id ps) es = record { keeps = k; same = sym (without_none id ps es k.whole fresh) } in
    subst (Kept frags (without_dump id ps)) (sym same) made

-- ---- by what was taken

taken_cases : (taken : Option DumpRecordFields) → (taken ≡ None) ⊎ ((dump : DumpRecordFields) × (taken ≡ Some dump))
taken_cases None = inl refl
taken_cases (Some dump) = inr (dump, refl)

pub taken_frags :
    (frags new : Frags) (es es' : List Entry) (id : ℕ) (taken : Option DumpRecordFields)
    → KeepsFrags frags es → taken ≡ record_of id (dumps_of es) → (taken ≡ None → new ≡ frags)
    → ((ps : List Placed) (dump : DumpRecordFields) → Files frags ps → taken ≡ Some dump → fragments (with_dump dump.id ps) ≡ dump_frags dump → Files new (without_dump dump.id ps))
    → es' ≡ without_id id es → Kept new (without_dump id (frags_in frags.keys es)) es'
taken_frags frags new es es' id taken k record_is none some is =
    let ps = frags_in frags.keys es in
    ⊎_elim
    (λ (h : taken ≡ None).
    subst (λ (t : Frags). Kept t (without_dump id ps) es') (sym (none h)) (untaken_frags frags es es' id k (sym record_is ∙ h) is))
    (λ (h : (dump : DumpRecordFields) × (taken ≡ Some dump)).
    let found = sym record_is ∙ h.1 in
    let same = found_id id (dumps_of es) h.0 found in
    let files = some ps h.0 k.files h.1 (taken_whole frags es id h.0 k found same) in
    unlinked_frags frags new es es' id k (subst (λ (n : ℕ). Files new (without_dump n ps)) same files) is)
    (taken_cases taken)

-- ---- more room

pub same_frags : (keys keys' : Keys) (es : List Entry) → ((key : List ℕ) → chain_in keys' 1 key ≡ chain_in keys 1 key) → frags_in keys' es ≡ frags_in keys es
same_frags keys keys' [] same = refl
same_frags keys keys' (e ∷ es) same =
    ap (λ (ss : List Stand). placed_along ss (dump_frags e.dump) ++ frags_in keys' es) (same (to_be_bytes w32 e.dump.id))
    ∙ ap (λ (l : List Placed). placed_along (chain_in keys 1 (to_be_bytes w32 e.dump.id)) (dump_frags e.dump) ++ l) (same_frags keys keys' es same)

pub roomier_frags : (frags new : Frags) (es es' : List Entry) → KeepsFrags frags es → Files new (frags_in frags.keys es) → es' ≡ es → Kept new (frags_in frags.keys es) es'
roomier_frags frags new es es' k f is =
    let made = are_kept new (frags_in frags.keys es) es f k.whole k.ids k.small in
    subst (Kept new (frags_in frags.keys es)) (sym is) made

-- ---- walks

filed_are : (ps : List Placed) → filed_places (filed_frags ps) ≡ frag_places ps
filed_are [] = refl
filed_are (p ∷ ps) = ap (λ (l : List ℕ). p.place ∷ l) (filed_are ps)

pub frag_filter : (family : ℕ) (key : List ℕ) (ps : List Placed) → filed_places (filter (has_key family key) (filed_frags ps)) ≡ frag_places (filter (λ (p : Placed). has_key family key (filed_frag p)) ps)
frag_filter family key ps =
    ap filed_places (filter_mapped filed_frag (has_key family key) ps) ∙ filed_are (filter (λ (p : Placed). has_key family key (filed_frag p)) ps)
