-- An arena that grows keeps its chains.
use Rattle.std.proofs.Common.{◌≡◌, ℕ, zero, suc, ◌≤◌, List, [], ◌∷◌, ◌++◌, length, get_or, replicate, refl, sym, subst, arith}
use Rattle.std.proofs.lemmas.List.{length-map, length-append, append-nil}
use Rattle.std.specs.List.{AllByRecursion}
use Rattle.budb_links.specs.declared.arena.Link.{Link}
use Rattle.budb_links.specs.declared.arena.Ends.{Ends}
use Rattle.budb_links.specs.declared.arena.TheConstants.{FAMILIES}
use Rattle.budb_links.specs.Chained.{no_link, no_ends, link_at, ends_at, links_of, ends_of, IsChain, chain_from, KeepsFamilies}
use Rattle.budb_links.proofs.Columns.{column}
use Rattle.budb_links.proofs.Linking.{same_everywhere}
use Rattle.budb_links.proofs.Weaving.{chain_same, chain_is, spelled_from}

module _ {X : Type 0} (none : X) (blank : List X) (at : ℕ) (is_blank : get_or blank at none ≡ none) where
  blank_column : (extra place : ℕ) → get_or (column none at (replicate extra blank)) place none ≡ none
  blank_column zero place = refl
  blank_column (suc extra) zero = is_blank
  blank_column (suc extra) (suc place) = blank_column extra place

  pub column_grown : (rows : List (List X)) (extra place : ℕ) → get_or (column none at (rows ++ replicate extra blank)) place none ≡ get_or (column none at rows) place none
  column_grown [] extra place = blank_column extra place
  column_grown (r ∷ rows) extra zero = refl
  column_grown (r ∷ rows) extra (suc place) = column_grown rows extra place

wide_blanks : {X : Type 0} (blank : List X) (extra : ℕ) → AllByRecursion (λ (r : List X). length r ≡ length blank) (replicate extra blank)
wide_blanks blank zero = tt
wide_blanks blank (suc extra) = (refl, wide_blanks blank extra)

pub wide_grown : {X : Type 0} (blank : List X) (rows : List (List X)) (extra : ℕ) → AllByRecursion (λ (r : List X). length r ≡ length blank) rows → AllByRecursion (λ (r : List X). length r ≡ length blank) (rows ++ replicate extra blank)
wide_grown blank [] extra wide = wide_blanks blank extra
wide_grown blank (r ∷ rows) extra wide = (wide.0, wide_grown blank rows extra wide.1)

abbrev pub blank_links : List Link
blank_links = replicate FAMILIES no_link

abbrev pub blank_ends : List Ends
blank_ends = replicate FAMILIES no_ends

no_link_at : (family : ℕ) → get_or blank_links family no_link ≡ no_link
no_link_at zero = refl
no_link_at (suc zero) = refl
no_link_at (suc (suc family)) = refl

no_ends_at : (family : ℕ) → get_or blank_ends family no_ends ≡ no_ends
no_ends_at zero = refl
no_ends_at (suc zero) = refl
no_ends_at (suc (suc family)) = refl

module _ (rows : List (List Link)) (ends : List (List Ends)) (keeps : KeepsFamilies FAMILIES rows ends) (places heads : ℕ) where
  abbrev more_rows : List (List Link)
  more_rows = rows ++ replicate places blank_links

  abbrev more_ends : List (List Ends)
  more_ends = ends ++ replicate heads blank_ends

  same_link : (family place : ℕ) → link_at (links_of family more_rows) place ≡ link_at (links_of family rows) place
  same_link family place = column_grown no_link blank_links family (no_link_at family) rows places place

  same_ends : (family head : ℕ) → ends_at (ends_of family more_ends) head ≡ ends_at (ends_of family ends) head
  same_ends family head = column_grown no_ends blank_ends family (no_ends_at family) ends heads head

  grown_chain : (family head : ℕ) → IsChain (links_of family more_rows) head (ends_at (ends_of family more_ends) head) (chain_from (links_of family rows) (ends_at (ends_of family ends) head))
  grown_chain family head =
      let ss = chain_from (links_of family rows) (ends_at (ends_of family ends) head) in
      let long : length (links_of family rows) ≤ length (links_of family more_rows) = omega (arith, length-map rows (λ (r : List Link). get_or r family no_link), length-map more_rows (λ (r : List Link). get_or r family no_link), length-append rows (replicate places blank_links)) in
      subst
      (λ (e : Ends). IsChain (links_of family more_rows) head e ss)
      (sym (same_ends family head))
      (chain_same (links_of family rows) (links_of family more_rows) head (ends_at (ends_of family ends) head) ss long (same_everywhere (links_of family rows) (links_of family more_rows) (same_link family) ss) (keeps.spelled family head))

  pub grown_keeps : KeepsFamilies FAMILIES more_rows more_ends
  grown_keeps = record {
    wide_rows = wide_grown blank_links rows places keeps.wide_rows;
    wide_ends = wide_grown blank_ends ends heads keeps.wide_ends;
    spelled = λ family head. spelled_from (links_of family more_rows) head (ends_at (ends_of family more_ends) head) (chain_from (links_of family rows) (ends_at (ends_of family ends) head)) (grown_chain family head);
  }

  pub grown_same : (family head : ℕ) → chain_from (links_of family more_rows) (ends_at (ends_of family more_ends) head) ≡ chain_from (links_of family rows) (ends_at (ends_of family ends) head)
  grown_same family head =
      chain_is (links_of family more_rows) head (ends_at (ends_of family more_ends) head) (chain_from (links_of family rows) (ends_at (ends_of family ends) head)) (grown_chain family head)

-- what growing makes
pub record GrownFrom (rows rows' : List (List Link)) (ends ends' : List (List Ends)) : Type 0 where
  pub keeps : KeepsFamilies FAMILIES rows' ends'
  pub same : (family head : ℕ) → chain_from (links_of family rows') (ends_at (ends_of family ends') head) ≡ chain_from (links_of family rows) (ends_at (ends_of family ends) head)

pub grown_from : (rows rows' : List (List Link)) (ends ends' : List (List Ends)) → KeepsFamilies FAMILIES rows ends → (places : ℕ) × (rows' ≡ rows ++ replicate places blank_links) → (heads : ℕ) × (ends' ≡ ends ++ replicate heads blank_ends) → GrownFrom rows rows' ends ends'
grown_from rows rows' ends ends' keeps more_rows more_ends =
    subst
    (λ (r : List (List Link)). GrownFrom rows r ends ends')
    (sym more_rows.1)
    (subst (λ (e : List (List Ends)). GrownFrom rows (rows ++ replicate more_rows.0 blank_links) ends e) (sym more_ends.1) (record { keeps = grown_keeps rows ends keeps more_rows.0 more_ends.0; same = grown_same rows ends keeps more_rows.0 more_ends.0 }))

pub not_grown : {X : Type 0} (blank : List X) (rows : List (List X)) → (extra : ℕ) × (rows ≡ rows ++ replicate extra blank)
not_grown blank rows = (0, sym (append-nil rows))
