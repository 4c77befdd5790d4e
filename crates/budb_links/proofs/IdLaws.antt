-- The ids of the records and their places.
use Rattle.std.proofs.Common.{◌≡◌, ◌≢◌, ℕ, ◌<◌, ◌^◌, true, false, cond, eqb, List, [], ◌∷◌, ◌++◌, map, Option, Some, None, refl, sym, ◌∙◌, ap, subst, ⊎_elim}
use Rattle.std.proofs.lemmas.Bool.{cases_eq, cases_Bool, eq-eqb, ne_eqb, cond-true, cond-false}
use Rattle.std.specs.List.{AllByRecursion}
use Rattle.std.specs.Int.{w32, to_be_bytes}
use Rattle.bk_text.specs.Blanks.{is_same_text}
use Rattle.budb_changes.specs.declared.records.DumpRecordFields.{DumpRecordFields}
use Rattle.budb_links.specs.Stands.{place_of}
use Rattle.budb_links.specs.Entries.{Entry, entry_at, dumps_of, record_of, without_id}
use Rattle.budb_links.specs.Keys.{Numbering, numbers_in, number_of}
use Rattle.budb_links.specs.Stored.{stand_of, NumbersIds}
use Rattle.budb_links.proofs.KeyLaws.{same_text, text_same}
use Rattle.budb_links.proofs.Keeping.{fresh_id}
use Rattle.budb_links.proofs.Removing.{drops, keeps}
use Rattle.budb_links.proofs.FragUnlinking.{bytes_same}

no_place : (id : ℕ) (es : List Entry) → AllByRecursion (λ x. x.dump.id ≢ id) es → place_of id (map stand_of es) ≡ None
no_place id [] a = refl
no_place id (e ∷ es) a =
    cond-false _ (Some e.place) (place_of id (map stand_of es)) (ne_eqb e.dump.id id a.0) ∙ no_place id es a.1

-- an id that no record has has no number
pub unnumbered : (ids : Numbering) (places : ℕ) (es : List Entry) (id : ℕ) → id < 2 ^ 32 → NumbersIds ids places es → record_of id (dumps_of es) ≡ None → number_of (to_be_bytes w32 id) ids.used ≡ None
unnumbered ids places es id small n absent = n.placed id small ∙ no_place id es (fresh_id id es absent)

-- what the number of an id tells of the records
pub found_by : (ids : Numbering) (places : ℕ) (es : List Entry) (id : ℕ) (result o : Option ℕ) → NumbersIds ids places es → id < 2 ^ 32 → result ≡ number_of (to_be_bytes w32 id) ids.used → result ≡ o → place_of id (map stand_of es) ≡ o
found_by ids places es id result o n small is at = sym (n.placed id small) ∙ sym is ∙ at

-- ---- a record more

place_other : (id : ℕ) (es : List Entry) (e : Entry) → e.dump.id ≢ id → place_of id (map stand_of (es ++ e ∷ [])) ≡ place_of id (map stand_of es)
place_other id [] e ne = cond-false _ (Some e.place) None (ne_eqb e.dump.id id ne)
place_other id (x ∷ es) e ne =
    ap (λ (o : Option ℕ). cond (eqb x.dump.id id) (Some x.place) o) (place_other id es e ne)

place_last : (id : ℕ) (es : List Entry) (e : Entry) → AllByRecursion (λ x. x.dump.id ≢ id) es → e.dump.id ≡ id → place_of id (map stand_of (es ++ e ∷ [])) ≡ Some e.place
place_last id [] e a same = cond-true _ (Some e.place) None (eq-eqb e.dump.id id same)
place_last id (x ∷ es) e a same =
    cond-false _ (Some x.place) (place_of id (map stand_of (es ++ e ∷ []))) (ne_eqb x.dump.id id a.0) ∙ place_last id es e a.1 same

pub numbered_more :
    (ids ids' : Numbering) (places places' place : ℕ) (es es' : List Entry) (dump : DumpRecordFields) → NumbersIds ids places es → record_of dump.id (dumps_of es) ≡ None → dump.id < 2 ^ 32
    → ((other : List ℕ) → number_of other ids'.used ≡ cond (is_same_text (to_be_bytes w32 dump.id) other) (Some place) (number_of other ids.used))
    → numbers_in ids' ≡ numbers_in ids → places' ≡ places → es' ≡ es ++ entry_at place dump ∷ [] → NumbersIds ids' places' es'
numbered_more ids ids' places places' place es es' dump n absent small used count same is = record {
  placed = λ id h.
      let mine = to_be_bytes w32 dump.id in
      let key = to_be_bytes w32 id in
      used key
      ∙ ⊎_elim
      (λ (t : is_same_text mine key ≡ true).
      let one : dump.id ≡ id = bytes_same dump.id id small h (same_text mine key t) in
      cond-true (is_same_text mine key) (Some place) (number_of key ids.used) t
      ∙ sym (place_last id es (entry_at place dump) (subst (λ (x : ℕ). AllByRecursion (λ (o : Entry). o.dump.id ≢ x) es) one (fresh_id dump.id es absent)) one))
      (λ (f : is_same_text mine key ≡ false).
      let ne : dump.id ≢ id = λ one. let both = sym f ∙ text_same mine key (ap (to_be_bytes w32) one) in let no : ⊥ = cc in no in
      cond-false (is_same_text mine key) (Some place) (number_of key ids.used) f ∙ n.placed id h ∙ sym (place_other id es (entry_at place dump) ne))
      (cases_Bool (is_same_text mine key))
      ∙ ap (λ (l : List Entry). place_of id (map stand_of l)) (sym is);
  count = count ∙ n.count ∙ sym same;
}

-- ---- a record less

place_gone : (id : ℕ) (es : List Entry) → place_of id (map stand_of (without_id id es)) ≡ None
place_gone id [] = refl
place_gone id (e ∷ es) =
    ⊎_elim
    (λ (same : e.dump.id ≡ id). ap (λ (l : List Entry). place_of id (map stand_of l)) (drops id e es same) ∙ place_gone id es)
    (λ (ne : e.dump.id ≡ id → ⊥).
    ap (λ (l : List Entry). place_of id (map stand_of l)) (keeps id e es ne)
    ∙ cond-false _ (Some e.place) (place_of id (map stand_of (without_id id es))) (ne_eqb e.dump.id id ne)
    ∙ place_gone id es)
    (cases_eq e.dump.id id)

place_stays : (id other : ℕ) (es : List Entry) → id ≢ other → place_of other (map stand_of (without_id id es)) ≡ place_of other (map stand_of es)
place_stays id other [] ne = refl
place_stays id other (e ∷ es) ne =
    let rest = place_stays id other es ne in
    ⊎_elim
    (λ (same : e.dump.id ≡ id).
    ap (λ (l : List Entry). place_of other (map stand_of l)) (drops id e es same)
    ∙ rest
    ∙ sym (cond-false _ (Some e.place) (place_of other (map stand_of es)) (ne_eqb e.dump.id other (λ h. ne (sym same ∙ h)))))
    (λ (differs : e.dump.id ≡ id → ⊥).
    ap (λ (l : List Entry). place_of other (map stand_of l)) (keeps id e es differs) ∙ ap (λ (o : Option ℕ). cond (eqb e.dump.id other) (Some e.place) o) rest)
    (cases_eq e.dump.id id)

pub numbered_less :
    (ids ids' : Numbering) (places places' id : ℕ) (es es' : List Entry) → NumbersIds ids places es → id < 2 ^ 32
    → ((other : List ℕ) → number_of other ids'.used ≡ cond (is_same_text (to_be_bytes w32 id) other) None (number_of other ids.used))
    → numbers_in ids' ≡ numbers_in ids → places' ≡ places → es' ≡ without_id id es → NumbersIds ids' places' es'
numbered_less ids ids' places places' id es es' n small used count same is = record {
  placed = λ other h.
      let mine = to_be_bytes w32 id in
      let key = to_be_bytes w32 other in
      used key
      ∙ ⊎_elim
      (λ (t : is_same_text mine key ≡ true).
      let one : id ≡ other = bytes_same id other small h (same_text mine key t) in
      cond-true (is_same_text mine key) None (number_of key ids.used) t
      ∙ sym (subst (λ (x : ℕ). place_of x (map stand_of (without_id id es)) ≡ None) one (place_gone id es)))
      (λ (f : is_same_text mine key ≡ false).
      let ne : id ≢ other = λ one. let both = sym f ∙ text_same mine key (ap (to_be_bytes w32) one) in let no : ⊥ = cc in no in
      cond-false (is_same_text mine key) None (number_of key ids.used) f ∙ n.placed other h ∙ sym (place_stays id other es ne))
      (cases_Bool (is_same_text mine key))
      ∙ ap (λ (l : List Entry). place_of other (map stand_of l)) (sym is);
  count = count ∙ n.count ∙ sym same;
}

-- ---- more places

pub numbered_wider : (ids ids' : Numbering) (places places' : ℕ) (es es' : List Entry) → NumbersIds ids places es → ids'.used ≡ ids.used → numbers_in ids' ≡ places' → es' ≡ es → NumbersIds ids' places' es'
numbered_wider ids ids' places places' es es' n used count is = record {
  placed = λ id h. ap (number_of (to_be_bytes w32 id)) used ∙ n.placed id h ∙ ap (λ (l : List Entry). place_of id (map stand_of l)) (sym is);
  count = count;
}
