-- A walk along the chain of all records.
use Rattle.std.proofs.Common.{◌≡◌, ◌≢◌, inl, inr, ℕ, zero, suc, ◌+◌, List, [], ◌∷◌, map, Option, Some, None, refl, sym, ◌∙◌, ap, add-one}
use Rattle.std.specs.Prelude.{slice_get}
use Rattle.std.proofs.lemmas.Bool.{eq-eqb, ne_eqb, cond-true, cond-false}
use Rattle.budb_changes.specs.declared.records.DumpRecordFields.{DumpRecordFields}
use Rattle.budb_links.specs.Stands.{Stand, first_place, Apart, Among, Distinct, place_behind}
use Rattle.budb_links.specs.Chained.{Woven, chain_of}
use Rattle.budb_links.specs.Entries.{Entry, places_of}
use Rattle.budb_links.specs.Stored.{stand_of, Stores}

abbrev pub places_in : List Stand → List ℕ
places_in = map (λ s. s.place)

pub same_places : (es : List Entry) → places_in (map stand_of es) ≡ places_of es
same_places [] = refl
same_places (e ∷ es) = ap (λ (t : List ℕ). e.place ∷ t) (same_places es)

pub first_at : (ss : List Stand) → first_place ss None ≡ slice_get (places_in ss) 0
first_at [] = refl
first_at (s ∷ ss) = refl

pub among_at : (ss : List Stand) (index place : ℕ) → slice_get (places_in ss) index ≡ Some place → Among place ss
among_at [] index place e = absurd (let no : ⊥ = cc in no)
among_at (s ∷ ss) zero place e = let same : s.place ≡ place = cc in inl same
among_at (s ∷ ss) (suc index) place e = inr (among_at ss index place e)

apart_at : (own : ℕ) (ss : List Stand) (index place : ℕ) → Apart own ss → slice_get (places_in ss) index ≡ Some place → own ≢ place
apart_at own [] index place a e = absurd (let no : ⊥ = cc in no)
apart_at own (s ∷ ss) zero place a e = let same : s.place ≡ place = cc in λ h. a.0 (same ∙ sym h)
apart_at own (s ∷ ss) (suc index) place a e = apart_at own ss index place a.1 e

pub behind_at : (ss : List Stand) (index place : ℕ) → Distinct ss → slice_get (places_in ss) index ≡ Some place → place_behind place ss ≡ slice_get (places_in ss) (suc index)
behind_at [] index place d e = absurd (let no : ⊥ = cc in no)
behind_at (s ∷ ss) zero place d e =
    let same : s.place ≡ place = cc in
    cond-true _ (first_place ss None) (place_behind place ss) (eq-eqb s.place place same) ∙ first_at ss
behind_at (s ∷ ss) (suc index) place d e =
    cond-false _ (first_place ss None) (place_behind place ss) (ne_eqb s.place place (apart_at s.place ss index place d.0 e)) ∙ behind_at ss index place d.1 e

module _ (arena : Woven) (slots : List (Option DumpRecordFields)) (free : List ℕ) (es : List Entry) where
  whole : Stores arena slots free es → chain_of arena 0 0 ≡ map stand_of es
  whole s = s.chains 0

  whole_places : Stores arena slots free es → places_in (chain_of arena 0 0) ≡ places_of es
  whole_places s = ap places_in (whole s) ∙ same_places es

  pub first_in : Stores arena slots free es → first_place (chain_of arena 0 0) None ≡ slice_get (places_of es) 0
  first_in s = first_at (chain_of arena 0 0) ∙ ap (λ (t : List ℕ). slice_get t 0) (whole_places s)

  pub behind_in : (place index : ℕ) (result : Option ℕ) → Stores arena slots free es → Distinct (chain_of arena 0 0) → (Among place (chain_of arena 0 0) → result ≡ place_behind place (chain_of arena 0 0)) → slice_get (places_of es) index ≡ Some place → result ≡ slice_get (places_of es) (index + 1)
  behind_in place index result s d is e =
      let stands = ap (λ (t : List ℕ). slice_get t index) (whole_places s) ∙ e in
      is (among_at (chain_of arena 0 0) index place stands)
      ∙ behind_at (chain_of arena 0 0) index place d stands
      ∙ ap (λ (t : List ℕ). slice_get t (suc index)) (whole_places s)
      ∙ ap (slice_get (places_of es)) (sym (add-one index))
