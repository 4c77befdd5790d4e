-- What stands in the chains of its keys.
use Rattle.std.proofs.Common.{◌≡◌, ◌≢◌, ◌⊎◌, inl, inr, ℕ, zero, suc, ◌+◌, ◌<◌, ◌≤◌, Bool, true, false, cond, not, eqb, List, [], ◌∷◌, ◌++◌, length, map, Option, Some, None, refl, sym, ◌∙◌, ap, subst, arith, add-one, ⊎_elim}
use Rattle.std.specs.Prelude.{slice_get}
use Rattle.std.proofs.lemmas.Bool.{cases_eq, cases_Bool, eq-eqb, ne_eqb, cond-true, cond-false, cond_both, not_from_true, not_from_false}
use Rattle.std.proofs.lemmas.List.{map-append, append-nil}
use Rattle.std.proofs.lemmas.List.Elements.{filter-append}
use Rattle.std.specs.List.{filter, AllByRecursion}
use Rattle.std.specs.declared.cmp.Ordering.TheVariants.{Less}
use Rattle.bk_text.specs.Blanks.{is_same_text}
use Rattle.budb_changes.specs.declared.records.DumpRecordFields.{DumpRecordFields}
use Rattle.budb_links.specs.declared.keys.Keys.{Keys}
use Rattle.budb_links.specs.Stands.{Stand, first_place, Apart, Among, Distinct, place_behind, without_place}
use Rattle.budb_links.specs.Chained.{stand_at, chain_of}
use Rattle.budb_links.specs.Entries.{Entry, entry_at, places_of, without_id}
use Rattle.budb_links.specs.Keys.{Numbered, numbers_in, number_of, key_order, Ascending}
use Rattle.budb_links.specs.Stored.{slot_at, HasPlace}
use Rattle.budb_links.specs.Keyed.{chain_at, numbering, chain_in, KeepsKeys, KeepsBoth, key_in, Filed, key_of, has_key, stand_for, stands_by, StoresKeys, filed_record, filed_records}
use Rattle.budb_links.proofs.Places.{filter_keeps, filter_drops}
use Rattle.budb_links.proofs.KeyLaws.{same_text, text_same, text_differs, less_differs}
use Rattle.budb_links.proofs.Storing.{Holds}
use Rattle.budb_links.proofs.Removing.{Agree}
use Rattle.budb_links.proofs.Walks.{places_in, first_at, among_at, behind_at}

abbrev pub filed_at : ℕ → ℕ → List ℕ → ℕ → Filed
filed_at place id name key_id = record { place = place; id = id; name = name; key_id = key_id }

-- ---- places

abbrev pub filed_places : List Filed → List ℕ
filed_places = map (λ f. f.place)

same_filed : (fs : List Filed) → places_in (map stand_for fs) ≡ filed_places fs
same_filed [] = refl
same_filed (f ∷ fs) = ap (λ (t : List ℕ). f.place ∷ t) (same_filed fs)

apart_by : (place : ℕ) (test : Filed → Bool) (fs : List Filed) → AllByRecursion (λ f. f.place ≢ place) fs → Apart place (map stand_for (filter test fs))
apart_by place test [] a = tt
apart_by place test (f ∷ fs) a =
    let rest = apart_by place test fs a.1 in
    cond_both (test f) (f ∷ filter test fs) (filter test fs) (λ (t : List Filed). Apart place (map stand_for t)) (λ b. (a.0, rest)) (λ b. rest)

few_by : (test : Filed → Bool) (fs : List Filed) → length (map stand_for (filter test fs)) ≤ length fs
few_by test [] = omega arith
few_by test (f ∷ fs) =
    let rest = few_by test fs in
    cond_both (test f) (f ∷ filter test fs) (filter test fs) (λ (t : List Filed). length (map stand_for t) ≤ suc (length fs)) (λ b. omega (arith, rest)) (λ b. omega (arith, rest))

-- ---- one more at the end

pub by_push : (family : ℕ) (key : List ℕ) (es : List Filed) (e : Filed) → stands_by family key (es ++ e ∷ []) ≡ cond (has_key family key e) (stands_by family key es ++ stand_for e ∷ []) (stands_by family key es)
by_push family key es e =
    let t = has_key family key in
    let both = ap (map stand_for) (filter-append t es (e ∷ [])) ∙ map-append stand_for (filter t es) (filter t (e ∷ [])) in
    let mine = stands_by family key es in
    ⊎_elim
    (λ (h : t e ≡ true). both ∙ ap (λ (l : List Filed). mine ++ map stand_for l) (cond-true (t e) (e ∷ []) [] h) ∙ sym (cond-true (t e) (mine ++ stand_for e ∷ []) mine h))
    (λ (h : t e ≡ false). both ∙ ap (λ (l : List Filed). mine ++ map stand_for l) (cond-false (t e) (e ∷ []) [] h) ∙ append-nil mine ∙ sym (cond-false (t e) (mine ++ stand_for e ∷ []) mine h))
    (cases_Bool (t e))

-- ---- as many keys as records at most

others_kept : (family : ℕ) (key other : List ℕ) (es : List Filed) → key ≢ other → stands_by family other (filter (λ e. not (has_key family key e)) es) ≡ stands_by family other es
others_kept family key other [] ne = refl
others_kept family key other (e ∷ es) ne =
    let rest = others_kept family key other es ne in
    let left = filter (λ x. not (has_key family key x)) es in
    ⊎_elim
    (λ (t : has_key family key e ≡ true).
    let differs = text_differs (key_of family e) other (λ h. ne (sym (same_text (key_of family e) key t) ∙ h)) in
    ap (stands_by family other) (filter_drops (λ (x : Filed). not (has_key family key x)) e es (not_from_true (has_key family key e) t))
    ∙ rest
    ∙ sym (ap (map stand_for) (filter_drops (has_key family other) e es differs)))
    (λ (f : has_key family key e ≡ false).
    let kept = ap (stands_by family other) (filter_keeps (λ (x : Filed). not (has_key family key x)) e es (not_from_false (has_key family key e) f)) in
    ⊎_elim
    (λ (o : has_key family other e ≡ true).
    kept ∙ ap (map stand_for) (filter_keeps (has_key family other) e left o) ∙ ap (λ (l : List Stand). stand_for e ∷ l) rest ∙ sym (ap (map stand_for) (filter_keeps (has_key family other) e es o)))
    (λ (o : has_key family other e ≡ false).
    kept ∙ ap (map stand_for) (filter_drops (has_key family other) e left o) ∙ rest ∙ sym (ap (map stand_for) (filter_drops (has_key family other) e es o)))
    (cases_Bool (has_key family other e)))
    (cases_Bool (has_key family key e))

fewer : (t : Filed → Bool) (es : List Filed) → length (filter t es) ≤ length es
fewer t [] = omega arith
fewer t (e ∷ es) =
    let rest = fewer t es in
    cond_both (t e) (e ∷ filter t es) (filter t es) (λ (l : List Filed). length l ≤ suc (length es)) (λ b. omega (arith, rest)) (λ b. omega (arith, rest))

less_without : (family : ℕ) (key : List ℕ) (es : List Filed) → stands_by family key es ≢ [] → length (filter (λ e. not (has_key family key e)) es) < length es
less_without family key [] some = absurd (some refl)
less_without family key (e ∷ es) some =
    let left = filter (λ x. not (has_key family key x)) es in
    ⊎_elim
    (λ (t : has_key family key e ≡ true).
    let less = ap length (filter_drops (λ (x : Filed). not (has_key family key x)) e es (not_from_true (has_key family key e) t)) in
    omega (arith, less, fewer (λ x. not (has_key family key x)) es))
    (λ (f : has_key family key e ≡ false).
    let kept = ap length (filter_keeps (λ (x : Filed). not (has_key family key x)) e es (not_from_false (has_key family key e) f)) in
    let rest = less_without family key es (λ none. some (ap (map stand_for) (filter_drops (has_key family key) e es f) ∙ none)) in
    omega (arith, kept, rest))
    (cases_Bool (has_key family key e))

all_both : (P Q R : Numbered → Type 0) → ((u : Numbered) → P u → Q u → R u) → (us : List Numbered) → AllByRecursion P us → AllByRecursion Q us → AllByRecursion R us
all_both P Q R f [] a b = tt
all_both P Q R f (u ∷ us) a b = (f u a.0 b.0, all_both P Q R f us a.1 b.1)

keys_few : (family : ℕ) (us : List Numbered) (es : List Filed) → Ascending us → AllByRecursion (λ u. stands_by family u.key es ≢ []) us → length us ≤ length es
keys_few family [] es asc some = omega arith
keys_few family (u ∷ us) es asc some =
    let left = filter (λ e. not (has_key family u.key e)) es in
    let rest = all_both (λ v. key_order u.key v.key ≡ Less) (λ v. stands_by family v.key es ≢ []) (λ v. stands_by family v.key left ≢ []) (λ v less h none. h (sym (others_kept family u.key v.key es (less_differs u.key v.key less)) ∙ none)) us asc.0 some.1 in
    omega (arith, keys_few family us left asc.1 rest, less_without family u.key es some.0)

own_numbers : (us : List Numbered) → Ascending us → AllByRecursion (λ u. number_of u.key us ≡ Some u.number) us
own_numbers [] asc = tt
own_numbers (u ∷ us) asc = (
  cond-true (is_same_text u.key u.key) (Some u.number) (number_of u.key us) (text_same u.key u.key refl),
  all_both
      (λ v. key_order u.key v.key ≡ Less)
      (λ v. number_of v.key us ≡ Some v.number)
      (λ v. number_of v.key (u ∷ us) ≡ Some v.number)
      (λ v less h. cond-false (is_same_text u.key v.key) (Some u.number) (number_of v.key us) (text_differs u.key v.key (less_differs u.key v.key less)) ∙ h)
      us
      asc.0
      (own_numbers us asc.1),
)

keeps_of : (keys : Keys) (family : ℕ) → family < 2 → KeepsBoth keys → KeepsKeys family keys.arena (numbering keys family)
keeps_of keys zero h keeps = keeps.0
keeps_of keys (suc zero) h keeps = keeps.1
keeps_of keys (suc (suc family)) h keeps = absurd (omega (arith, h))

module _ (keys : Keys) (places : ℕ) (es : List Filed) (s : StoresKeys keys places es) (family : ℕ) (in_range : family < 2) where
  abbrev numbers_here : List Numbered
  numbers_here = (numbering keys family).used

  by_chain : (key : List ℕ) (n : ℕ) → number_of key numbers_here ≡ Some n → chain_of keys.arena family n ≡ stands_by family key es
  by_chain key n at = ap (chain_at keys.arena family) (sym at) ∙ s.chains family key in_range

  used_few : length numbers_here ≤ length es
  used_few =
      let keeps = keeps_of keys family in_range s.keeps in
      let own = own_numbers numbers_here keeps.ascending in
      let all = all_both (λ u. number_of u.key numbers_here ≡ Some u.number) (λ u. number_of u.key numbers_here ≡ Some u.number) (λ u. stands_by family u.key es ≢ []) (λ u h k none. keeps.filled u.key u.number h (by_chain u.key u.number h ∙ none)) numbers_here own own in
      keys_few family numbers_here es keeps.ascending all

  pub spare_there : length es < places → 0 < length (numbering keys family).spare
  spare_there some = omega (arith, used_few, s.room family in_range, some)

  pub fresh_by : (place head : ℕ) → AllByRecursion (λ e. e.place ≢ place) es → Apart place (chain_of keys.arena family head)
  fresh_by place head apart =
      let keeps = keeps_of keys family in_range s.keeps in
      ⊎_elim
      (λ (h : chain_of keys.arena family head ≡ []). subst (Apart place) (sym h) tt)
      (λ (h : (key : List ℕ) × (number_of key numbers_here ≡ Some head)). subst (Apart place) (sym (by_chain h.0 head h.1)) (apart_by place (has_key family h.0) es apart))
      (keeps.each head)

  pub short_by : (head : ℕ) → length es < places → length (chain_of keys.arena family head) < length keys.arena.rows
  short_by head some =
      let keeps = keeps_of keys family in_range s.keeps in
      ⊎_elim
      (λ (h : chain_of keys.arena family head ≡ []). omega (arith, ap length h, s.rows, some))
      (λ (h : (key : List ℕ) × (number_of key numbers_here ≡ Some head)). omega (arith, ap length (by_chain h.0 head h.1), few_by (has_key family h.0) es, s.rows, some))
      (keeps.each head)

  pub first_by : (key : List ℕ) → first_place (chain_in keys family key) None ≡ slice_get (filed_places (filter (has_key family key) es)) 0
  first_by key =
      ap (λ (ss : List Stand). first_place ss None) (s.chains family key in_range)
      ∙ first_at (stands_by family key es)
      ∙ ap (λ (l : List ℕ). slice_get l 0) (same_filed (filter (has_key family key) es))

  behind_number : (o : Option ℕ) (ss : List Stand) (place index : ℕ) (result : Option ℕ) → chain_at keys.arena family o ≡ ss → ((head : ℕ) → Distinct (chain_of keys.arena family head)) → ((head : ℕ) → Among place (chain_of keys.arena family head) → result ≡ place_behind place (chain_of keys.arena family head)) → slice_get (map (λ (x : Stand). x.place) ss) index ≡ Some place → result ≡ slice_get (map (λ (x : Stand). x.place) ss) (suc index)
  behind_number None ss place index result same distinct behind at =
      absurd (let none = ap (λ (l : List Stand). slice_get (map (λ (x : Stand). x.place) l) index) same ∙ at in let no : ⊥ = cc in no)
  behind_number (Some n) ss place index result same distinct behind at =
      let among = subst (Among place) (sym same) (among_at ss index place at) in
      behind n among ∙ ap (place_behind place) same ∙ behind_at ss index place (subst Distinct same (distinct n)) at

  pub behind_by : (key : List ℕ) (place index : ℕ) (result : Option ℕ) → ((head : ℕ) → Distinct (chain_of keys.arena family head)) → ((head : ℕ) → Among place (chain_of keys.arena family head) → result ≡ place_behind place (chain_of keys.arena family head)) → slice_get (filed_places (filter (has_key family key) es)) index ≡ Some place → result ≡ slice_get (filed_places (filter (has_key family key) es)) (index + 1)
  behind_by key place index result distinct behind at =
      let mine = filter (has_key family key) es in
      let stands = ap (λ (l : List ℕ). slice_get l index) (same_filed mine) ∙ at in
      behind_number (number_of key numbers_here) (stands_by family key es) place index result (s.chains family key in_range) distinct behind stands
      ∙ ap (λ (l : List ℕ). slice_get l (suc index)) (same_filed mine)
      ∙ ap (slice_get (filed_places mine)) (sym (add-one index))

-- ---- one more

pub linked_keys :
    (keys keys' : Keys) (places places' : ℕ) (fs fs' : List Filed) (place : ℕ) (name : List ℕ) (key_id id : ℕ)
    → StoresKeys keys places fs → KeepsBoth keys'
    → ((family : ℕ) (key : List ℕ) → family < 2 → chain_in keys' family key ≡ cond (is_same_text (key_in family name key_id) key) (chain_in keys family key ++ stand_at place id ∷ []) (chain_in keys family key))
    → length keys'.arena.rows ≡ length keys.arena.rows
    → ((family : ℕ) → numbers_in (numbering keys' family) ≡ numbers_in (numbering keys family))
    → places' ≡ places → fs' ≡ fs ++ filed_at place id name key_id ∷ [] → StoresKeys keys' places' fs'
linked_keys keys keys' places places' fs fs' place name key_id id s keeps chains rows room same is = record {
  keeps = keeps;
  chains = λ family key h.
      chains family key h
      ∙ ap (λ (l : List Stand). cond (is_same_text (key_in family name key_id) key) (l ++ stand_at place id ∷ []) l) (s.chains family key h)
      ∙ sym (by_push family key fs (filed_at place id name key_id))
      ∙ ap (stands_by family key) (sym is);
  rows = omega (arith, s.rows, rows, same);
  room = λ family h. omega (arith, s.room family h, room family, same);
}

-- ---- one less

-- all but what stands at a place
abbrev pub but_place : ℕ → List Filed → List Filed
but_place place = filter (λ f. not (eqb f.place place))

-- something stands at the place by these keys
abbrev pub StandsBy : ℕ → List ℕ → ℕ → List Filed → Type 0
StandsBy place name key_id [] = ⊥
StandsBy place name key_id (f ∷ fs) = ((f.place ≡ place) × (f.name ≡ name) × (f.key_id ≡ key_id)) ⊎ StandsBy place name key_id fs

pub among_keys : (family place : ℕ) (name : List ℕ) (key_id : ℕ) (fs : List Filed) → StandsBy place name key_id fs → Among place (stands_by family (key_in family name key_id) fs)
among_keys family place name key_id [] has = absurd has
among_keys family place name key_id (f ∷ fs) (inl here) =
    let same = ap (λ (n : List ℕ). key_in family n f.key_id) here.1 ∙ ap (key_in family name) here.2 in
    let t = text_same (key_of family f) (key_in family name key_id) same in
    subst (λ (l : List Filed). Among place (map stand_for l)) (sym (filter_keeps (has_key family (key_in family name key_id)) f fs t)) (inl here.0)
among_keys family place name key_id (f ∷ fs) (inr has) =
    let rest = among_keys family place name key_id fs has in
    let t = has_key family (key_in family name key_id) in
    cond_both (t f) (f ∷ filter t fs) (filter t fs) (λ (l : List Filed). Among place (map stand_for l)) (λ b. inr rest) (λ b. rest)

but_step : (family place : ℕ) (key : List ℕ) (fs : List Filed) → without_place place (stands_by family key fs) ≡ stands_by family key (but_place place fs)
but_step family place key [] = refl
but_step family place key (f ∷ fs) =
    let rest = but_step family place key fs in
    let t = has_key family key in
    let u : Filed → Bool = λ x. not (eqb x.place place) in
    let v : Stand → Bool = λ x. not (eqb x.place place) in
    ⊎_elim
    (λ (ht : t f ≡ true).
    ⊎_elim
    (λ (hu : u f ≡ true).
    ap (λ (l : List Filed). filter v (map stand_for l)) (filter_keeps t f fs ht)
    ∙ filter_keeps v (stand_for f) (map stand_for (filter t fs)) hu
    ∙ ap (λ (l : List Stand). stand_for f ∷ l) rest
    ∙ sym (ap (λ (l : List Filed). map stand_for (filter t l)) (filter_keeps u f fs hu) ∙ ap (map stand_for) (filter_keeps t f (filter u fs) ht)))
    (λ (hu : u f ≡ false).
    ap (λ (l : List Filed). filter v (map stand_for l)) (filter_keeps t f fs ht)
    ∙ filter_drops v (stand_for f) (map stand_for (filter t fs)) hu
    ∙ rest
    ∙ sym (ap (λ (l : List Filed). map stand_for (filter t l)) (filter_drops u f fs hu)))
    (cases_Bool (u f)))
    (λ (ht : t f ≡ false).
    ⊎_elim
    (λ (hu : u f ≡ true).
    ap (λ (l : List Filed). filter v (map stand_for l)) (filter_drops t f fs ht)
    ∙ rest
    ∙ sym (ap (λ (l : List Filed). map stand_for (filter t l)) (filter_keeps u f fs hu) ∙ ap (map stand_for) (filter_drops t f (filter u fs) ht)))
    (λ (hu : u f ≡ false).
    ap (λ (l : List Filed). filter v (map stand_for l)) (filter_drops t f fs ht)
    ∙ rest
    ∙ sym (ap (λ (l : List Filed). map stand_for (filter t l)) (filter_drops u f fs hu)))
    (cases_Bool (u f)))
    (cases_Bool (t f))

pub unlinked_keys :
    (keys keys' : Keys) (places places' : ℕ) (fs fs' : List Filed) (place : ℕ)
    → StoresKeys keys places fs → KeepsBoth keys'
    → ((family : ℕ) (key : List ℕ) → family < 2 → chain_in keys' family key ≡ without_place place (chain_in keys family key))
    → length keys'.arena.rows ≡ length keys.arena.rows
    → ((family : ℕ) → numbers_in (numbering keys' family) ≡ numbers_in (numbering keys family))
    → places' ≡ places → fs' ≡ but_place place fs → StoresKeys keys' places' fs'
unlinked_keys keys keys' places places' fs fs' place s keeps chains rows room same is = record {
  keeps = keeps;
  chains = λ family key h.
      chains family key h
      ∙ ap (without_place place) (s.chains family key h)
      ∙ but_step family place key fs
      ∙ ap (stands_by family key) (sym is);
  rows = omega (arith, s.rows, rows, same);
  room = λ family h. omega (arith, s.room family h, room family, same);
}

-- ---- more room

pub wider_keys :
    (keys keys' : Keys) (places places' : ℕ) (fs fs' : List Filed)
    → StoresKeys keys places fs → KeepsBoth keys'
    → ((family : ℕ) (key : List ℕ) → chain_in keys' family key ≡ chain_in keys family key)
    → places' ≤ length keys'.arena.rows → ((family : ℕ) → family < 2 → places' ≤ numbers_in (numbering keys' family))
    → fs' ≡ fs → StoresKeys keys' places' fs'
wider_keys keys keys' places places' fs fs' s keeps chains rows room is = record {
  keeps = keeps;
  chains = λ family key h. chains family key ∙ s.chains family key h ∙ ap (stands_by family key) (sym is);
  rows = rows;
  room = room;
}

-- ---- records by keys

pub filed_push : (es es' : List Entry) (place : ℕ) (dump : DumpRecordFields) (name : List ℕ) (key_id id : ℕ) → name ≡ dump.set → key_id ≡ dump.initial → id ≡ dump.id → es' ≡ es ++ entry_at place dump ∷ [] → filed_records es' ≡ filed_records es ++ filed_at place id name key_id ∷ []
filed_push es es' place dump name key_id id name_is key_is id_is is =
    ap filed_records is
    ∙ map-append filed_record es (entry_at place dump ∷ [])
    ∙ ap (λ (n : List ℕ). filed_records es ++ filed_at place dump.id n dump.initial ∷ []) (sym name_is)
    ∙ ap (λ (n : ℕ). filed_records es ++ filed_at place dump.id name n ∷ []) (sym key_is)
    ∙ ap (λ (n : ℕ). filed_records es ++ filed_at place n name key_id ∷ []) (sym id_is)

pub filed_apart : (place : ℕ) (es : List Entry) → AllByRecursion (λ e. e.place ≢ place) es → AllByRecursion (λ f. f.place ≢ place) (filed_records es)
filed_apart place [] a = tt
filed_apart place (e ∷ es) a = (a.0, filed_apart place es a.1)

pub filed_without : (id place : ℕ) (es : List Entry) → Agree id place es → filed_records (without_id id es) ≡ but_place place (filed_records es)
filed_without id place [] a = refl
filed_without id place (e ∷ es) a =
    let rest = filed_without id place es a.1 in
    let u : Entry → Bool = λ x. not (eqb x.dump.id id) in
    let v : Filed → Bool = λ x. not (eqb x.place place) in
    ⊎_elim
    (λ (same : e.dump.id ≡ id).
    ap filed_records (filter_drops u e es (not_from_true (eqb e.dump.id id) (eq-eqb e.dump.id id same)))
    ∙ rest
    ∙ sym (filter_drops v (filed_record e) (filed_records es) (not_from_true (eqb e.place place) (eq-eqb e.place place (a.0.1 same)))))
    (λ (ne : e.dump.id ≡ id → ⊥).
    ap filed_records (filter_keeps u e es (not_from_false (eqb e.dump.id id) (ne_eqb e.dump.id id ne)))
    ∙ ap (λ (l : List Filed). filed_record e ∷ l) rest
    ∙ sym (filter_keeps v (filed_record e) (filed_records es) (not_from_false (eqb e.place place) (ne_eqb e.place place (λ p. ne (a.0.0 p))))))
    (cases_eq e.dump.id id)

pub stands_where : (place : ℕ) (dump : DumpRecordFields) (slots : List (Option DumpRecordFields)) (es : List Entry) → Holds slots es → slot_at slots place ≡ Some dump → HasPlace place es → StandsBy place dump.set dump.initial (filed_records es)
stands_where place dump slots [] holds full has = absurd has
stands_where place dump slots (e ∷ es) holds full (inl here) =
    let both = sym holds.0 ∙ ap (slot_at slots) here ∙ full in
    let same : e.dump ≡ dump = cc in
    inl (here, ap (λ (d : DumpRecordFields). d.set) same, ap (λ (d : DumpRecordFields). d.initial) same)
stands_where place dump slots (e ∷ es) holds full (inr has) = inr (stands_where place dump slots es holds.1 full has)

-- the places of filtered records, by what is filed
pub filed_filter : (family : ℕ) (key : List ℕ) (es : List Entry) → filed_places (filter (has_key family key) (filed_records es)) ≡ places_of (filter (λ (e : Entry). has_key family key (filed_record e)) es)
filed_filter family key [] = refl
filed_filter family key (e ∷ es) =
    let rest = filed_filter family key es in
    let t = has_key family key in
    let u : Entry → Bool = λ x. has_key family key (filed_record x) in
    ⊎_elim
    (λ (h : t (filed_record e) ≡ true). ap filed_places (filter_keeps t (filed_record e) (filed_records es) h) ∙ ap (λ (l : List ℕ). e.place ∷ l) rest ∙ sym (ap places_of (filter_keeps u e es h)))
    (λ (h : t (filed_record e) ≡ false). ap filed_places (filter_drops t (filed_record e) (filed_records es) h) ∙ rest ∙ sym (ap places_of (filter_drops u e es h)))
    (cases_Bool (t (filed_record e)))
