-- The records of an initial id.
use Rattle.std.proofs.Common.{◌≡◌, inl, inr, ℕ, ◌<◌, ◌^◌, List, [], ◌∷◌, length, Bool, true, false, not, Some, None, refl, sym, ◌∙◌, ap, subst, arith, ⊎_elim}
use Rattle.std.specs.Prelude.{slice_get}
use Rattle.std.specs.Int.{w32, to_be_bytes}
use Rattle.std.specs.List.{filter, AllByRecursion}
use Rattle.std.proofs.lemmas.Bool.{cases_Bool, eqb-true, eq-eqb, cond-true, cond-false}
use Rattle.bk_text.specs.Blanks.{is_same_text}
use Rattle.budb_changes.specs.declared.records.DumpRecordFields.{DumpRecordFields}
use Rattle.budb_links.specs.Entries.{Entry, dumps_of, places_of, record_at, without_id, of_initial}
use Rattle.budb_links.specs.Keyed.{Differ}
use Rattle.budb_links.proofs.KeyLaws.{same_text, text_same}
use Rattle.budb_links.proofs.Lists.{filter_mapped, filter_all, filter_twice, filter_parts, all_so}
use Rattle.budb_links.proofs.Places.{filter_keeps, filter_drops}
use Rattle.budb_links.proofs.FragUnlinking.{bytes_same}
use Rattle.budb_fold.specs.Database.{is_dump, is_initial, without}
use Rattle.budb_fold.specs.Lookups.{record_of}
use Rattle.budb_index.specs.Kept.{AreOnce, IsOfInitial}
use Rattle.budb_index.proofs.Members.{Among, among_filter, among_mapped, record_read, record_in}

-- all but a record, with places and without
pub listed_without : (id : ℕ) (es : List Entry) → dumps_of (without_id id es) ≡ without (is_dump id) (dumps_of es)
listed_without id es = sym (filter_mapped (λ (e : Entry). e.dump) (λ d. not (is_dump id d)) es)

-- ---- the first of an initial id

module _ (initial : ℕ) where
  abbrev key : List ℕ
  key = to_be_bytes w32 initial

  abbrev in_chain : Entry → Bool
  in_chain e = is_same_text (to_be_bytes w32 e.dump.initial) key

  none_in : (es : List Entry) → filter in_chain es ≡ [] → AllByRecursion (λ d. not (is_initial initial d) ≡ true) (dumps_of es)
  none_in [] none = tt
  none_in (e ∷ es) none =
      ⊎_elim
      (λ (hit : in_chain e ≡ true). let some = sym (cond-true (in_chain e) (e ∷ filter in_chain es) (filter in_chain es) hit) ∙ none in absurd (let no : ⊥ = cc in no))
      (λ (miss : in_chain e ≡ false).
      let rest = sym (cond-false (in_chain e) (e ∷ filter in_chain es) (filter in_chain es) miss) ∙ none in (
        ⊎_elim
            (λ (own : is_initial initial e.dump ≡ true).
            let hit = text_same (to_be_bytes w32 e.dump.initial) key (ap (to_be_bytes w32) (eqb-true e.dump.initial initial own)) in
            absurd (let both : true ≡ false = sym hit ∙ miss in let no : ⊥ = cc in no))
            (λ (other : is_initial initial e.dump ≡ false). ap not other)
            (cases_Bool (is_initial initial e.dump)),
        none_in es rest,
      ))
      (cases_Bool (in_chain e))

  no_first : (es : List Entry) → slice_get (places_of es) 0 ≡ None → es ≡ []
  no_first [] none = refl
  no_first (e ∷ es) none = absurd (let no : ⊥ = cc in no)

  pub none_left : (es : List Entry) (text : List ℕ) → text ≡ key → slice_get (places_of (of_initial text es)) 0 ≡ None → without (is_initial initial) (dumps_of es) ≡ dumps_of es
  none_left es text is none =
      filter_all (λ d. not (is_initial initial d)) (dumps_of es) (none_in es (ap (λ (t : List ℕ). of_initial t es) (sym is) ∙ no_first (of_initial text es) none))

  -- the first one, as it is read at its place
  pub record First (es : List Entry) (place : ℕ) : Type 0 where
    pub dump : DumpRecordFields
    pub read : record_at place es ≡ Some dump
    pub found : record_of (dumps_of es) dump.id ≡ Some dump
    pub bytes : to_be_bytes w32 dump.initial ≡ key

  first_of : (es chain : List Entry) (place : ℕ) → ((e : Entry) → Among e chain → Among e es × (in_chain e ≡ true)) → slice_get (places_of chain) 0 ≡ Some place → Differ (places_of es) → AreOnce (dumps_of es) → First es place
  first_of es [] place in_all at d once = absurd (let no : ⊥ = cc in no)
  first_of es (e ∷ chain) place in_all at d once =
      let same : e.place ≡ place = cc in
      let h = in_all e (inl refl) in
      record {
        dump = e.dump;
        read = ap (λ (n : ℕ). record_at n es) (sym same) ∙ record_read es e h.0 d;
        found = record_in (dumps_of es) e.dump (among_mapped (λ (x : Entry). x.dump) es e h.0) once;
        bytes = same_text (to_be_bytes w32 e.dump.initial) key h.1;
      }

  pub first_is : (es : List Entry) (text : List ℕ) (place : ℕ) → text ≡ key → slice_get (places_of (of_initial text es)) 0 ≡ Some place → Differ (places_of es) → AreOnce (dumps_of es) → First es place
  first_is es text place is at d once =
      first_of es (filter in_chain es) place (among_filter in_chain es) (ap (λ (t : List ℕ). slice_get (places_of (of_initial t es)) 0) (sym is) ∙ at) d once

  -- no other record has its id
  each_of : (dump : DumpRecordFields) (all dumps : List DumpRecordFields) → record_of all dump.id ≡ Some dump → ((d : DumpRecordFields) → Among d dumps → record_of all d.id ≡ Some d) → is_initial initial dump ≡ true → AllByRecursion (λ d. d.id ≡ dump.id → is_initial initial d ≡ true) dumps
  each_of dump all [] found read own = tt
  each_of dump all (d ∷ dumps) found read own = (
    (λ same.
        let both : Some d ≡ Some dump = sym (read d (inl refl)) ∙ ap (record_of all) same ∙ found in
        let is : d ≡ dump = cc in
        ap (is_initial initial) is ∙ own),
    each_of dump all dumps found (λ x h. read x (inr h)) own,
  )

  pub is_of : (es : List Entry) (place own : ℕ) (dump : DumpRecordFields) (f : First es place) → record_at place es ≡ Some dump → own ≡ dump.initial → own ≡ initial → AreOnce (dumps_of es) → IsOfInitial initial dump.id (dumps_of es)
  is_of es place own dump f read is same once =
      let both : Some f.dump ≡ Some dump = sym f.read ∙ read in
      let it : f.dump ≡ dump = cc in
      let found : record_of (dumps_of es) dump.id ≡ Some dump = subst (λ (d : DumpRecordFields). record_of (dumps_of es) d.id ≡ Some d) it f.found in
      record {
        dump = dump;
        found = found;
        each = each_of dump (dumps_of es) (dumps_of es) found (λ d h. record_in (dumps_of es) d h once) (eq-eqb dump.initial initial (sym is ∙ same));
      }

  -- the first one is of the initial id
  pub no_other : (es : List Entry) (place own : ℕ) (dump : DumpRecordFields) (f : First es place) → record_at place es ≡ Some dump → own ≡ dump.initial → own < 2 ^ 32 → initial < 2 ^ 32 → own ≡ initial
  no_other es place own dump f read is small initial_small =
      let both : Some f.dump ≡ Some dump = sym f.read ∙ read in
      let it : f.dump ≡ dump = cc in
      bytes_same own initial small initial_small (ap (to_be_bytes w32) is ∙ sym (ap (λ (d : DumpRecordFields). to_be_bytes w32 d.initial) it) ∙ f.bytes)

-- ---- all but the records of an id

pub fewer : (id : ℕ) (dumps : List DumpRecordFields) (dump : DumpRecordFields) → record_of dumps id ≡ Some dump → length (without (is_dump id) dumps) < length dumps
fewer id [] dump found = absurd (let no : ⊥ = cc in no)
fewer id (d ∷ dumps) dump found =
    ⊎_elim
    (λ (own : is_dump id d ≡ true).
    let dropped = ap length (filter_drops (λ x. not (is_dump id x)) d dumps (ap not own)) in
    let parts = filter_parts (is_dump id) dumps in
    omega (arith, dropped, parts))
    (λ (other : is_dump id d ≡ false).
    let kept = ap length (filter_keeps (λ x. not (is_dump id x)) d dumps (ap not other)) in
    let rest = fewer id dumps dump (sym (cond-false _ (Some d) (record_of dumps id) other) ∙ found) in
    omega (arith, kept, rest))
    (cases_Bool (is_dump id d))

-- those of an id go first, where they are of the initial id
pub set_without : (initial id : ℕ) (dumps : List DumpRecordFields) → AllByRecursion (λ d. d.id ≡ id → is_initial initial d ≡ true) dumps → without (is_initial initial) (without (is_dump id) dumps) ≡ without (is_initial initial) dumps
set_without initial id dumps each =
    filter_twice (λ d. not (is_initial initial d)) (λ d. not (is_dump id d)) dumps
    (all_so (λ (d : DumpRecordFields). d.id ≡ id → is_initial initial d ≡ true) (λ d. not (is_dump id d) ≡ false → not (is_initial initial d) ≡ false) (λ d own gone. ap not (own (eqb-true d.id id (not_false (is_dump id d) gone)))) dumps each)
  where
    not_false : (b : Bool) → not b ≡ false → b ≡ true
    not_false true h = refl
    not_false false h = absurd (let no : ⊥ = cc in no)
