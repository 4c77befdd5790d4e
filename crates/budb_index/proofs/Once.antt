-- Records of which no two have an id.
use Rattle.std.proofs.Common.{◌≡◌, ◌≢◌, ℕ, List, [], ◌∷◌, ◌++◌, map, Bool, false, Some, None, refl, sym, ◌∙◌, ap, subst, ⊎_elim}
use Rattle.std.specs.Prelude.{nat_eq}
use Rattle.std.specs.List.{filter, AllByRecursion, IsDistinct}
use Rattle.std.proofs.lemmas.List.{map-append}
use Rattle.std.proofs.lemmas.Bool.{cases_eq, eq-eqb, ne_eqb, cond-true, cond-false, cond_both, false≢true}
use Rattle.budb_changes.specs.declared.records.DumpRecordFields.{DumpRecordFields}
use Rattle.budb_fold.specs.Lookups.{record_of}
use Rattle.budb_links.specs.Entries.{Entry, entry_at, dumps_of}
use Rattle.budb_links.specs.Linked.{Linked, listed}
use Rattle.budb_links.proofs.Lists.{all_append, all_filter}
use Rattle.budb_index.specs.Kept.{HasFrags, AreOnce, KeepsIndex}

-- where an id has no record, no record has the id
pub fresh_id : (id : ℕ) (dumps : List DumpRecordFields) → record_of dumps id ≡ None → AllByRecursion (λ d. d.id ≢ id) dumps
fresh_id id [] h = tt
fresh_id id (d ∷ ds) h =
    ⊎_elim
    (λ (same : d.id ≡ id). let full = sym (cond-true _ (Some d) (record_of ds id) (eq-eqb d.id id same)) ∙ h in absurd (let no : ⊥ = cc in no))
    (λ (ne : d.id ≡ id → ⊥). (ne, fresh_id id ds (sym (cond-false _ (Some d) (record_of ds id) (ne_eqb d.id id ne)) ∙ h)))
    (cases_eq d.id id)

pub no_record : (id : ℕ) (dumps : List DumpRecordFields) → AllByRecursion (λ d. d.id ≢ id) dumps → record_of dumps id ≡ None
no_record id [] a = refl
no_record id (d ∷ ds) a = cond-false _ (Some d) (record_of ds id) (ne_eqb d.id id a.0) ∙ no_record id ds a.1

pub once_push : (dumps : List DumpRecordFields) (dump : DumpRecordFields) → AreOnce dumps → AllByRecursion (λ d. d.id ≢ dump.id) dumps → AreOnce (dumps ++ dump ∷ [])
once_push [] dump once a = (tt, tt)
once_push (d ∷ ds) dump once a =
    (all_append (λ o. o.id ≢ d.id) ds (dump ∷ []) once.0 ((λ same. a.0 (sym same)), tt), once_push ds dump once.1 a.1)

-- by the ids alone
others_differ : (id : ℕ) (dumps : List DumpRecordFields) → AllByRecursion (λ other. nat_eq id other ≡ false) (map (λ d. d.id) dumps) → AllByRecursion (λ other. other.id ≢ id) dumps
others_differ id [] a = tt
others_differ id (d ∷ ds) a =
    ((λ same. false≢true (sym a.0 ∙ eq-eqb id d.id (sym same))), others_differ id ds a.1)

pub once_from : (dumps : List DumpRecordFields) → IsDistinct nat_eq (map (λ d. d.id) dumps) → AreOnce dumps
unfolding IsDistinct
once_from [] a = tt
once_from (d ∷ ds) a = (others_differ d.id ds a.0, once_from ds a.1)

-- ---- a record more

pub listed_more : (old new : Linked) (dump : DumpRecordFields) → (place : ℕ) × (new.entries ≡ old.entries ++ entry_at place dump ∷ []) → listed new ≡ listed old ++ dump ∷ []
listed_more old new dump h = ap dumps_of h.1 ∙ map-append (λ (e : Entry). e.dump) old.entries (entry_at h.0 dump ∷ [])

pub kept_push : (dumps : List DumpRecordFields) (dump : DumpRecordFields) → KeepsIndex dumps → record_of dumps dump.id ≡ None → HasFrags dump → KeepsIndex (dumps ++ dump ∷ [])
kept_push dumps dump k none frags = record {
  once = once_push dumps dump k.once (fresh_id dump.id dumps none);
  frags = all_append HasFrags dumps (dump ∷ []) k.frags (frags, tt);
}

pub kept_more : (old new : Linked) (dump : DumpRecordFields) → KeepsIndex (listed old) → record_of (listed old) dump.id ≡ None → HasFrags dump → (place : ℕ) × (new.entries ≡ old.entries ++ entry_at place dump ∷ []) → KeepsIndex (listed new)
kept_more old new dump k none frags h =
    subst KeepsIndex (sym (listed_more old new dump h)) (kept_push (listed old) dump k none frags)

-- ---- fewer records

pub once_filter : (t : DumpRecordFields → Bool) (dumps : List DumpRecordFields) → AreOnce dumps → AreOnce (filter t dumps)
once_filter t [] once = tt
once_filter t (d ∷ ds) once =
    let rest = once_filter t ds once.1 in
    let apart = all_filter (λ o. o.id ≢ d.id) t ds once.0 in
    cond_both (t d) (d ∷ filter t ds) (filter t ds) AreOnce (λ b. (apart, rest)) (λ b. rest)

pub kept_filter : (t : DumpRecordFields → Bool) (dumps : List DumpRecordFields) → KeepsIndex dumps → KeepsIndex (filter t dumps)
kept_filter t dumps k = record { once = once_filter t dumps k.once; frags = all_filter HasFrags t dumps k.frags }
