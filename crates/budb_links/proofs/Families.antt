-- What a push into a chain and a cut out of one make of an arena.
use Rattle.std.proofs.Common.{◌≡◌, ◌≢◌, ℕ, ◌<◌, ◌≤◌, List, [], ◌∷◌, ◌++◌, length, set, get_or, Option, Some, None, refl, sym, ◌∙◌, ap, subst, ⊎_elim}
use Rattle.std.proofs.lemmas.Bool.{cases_eq, cases_lt, eq-eqb, ne_eqb, cond-true, cond-false}
use Rattle.std.proofs.lemmas.List.{length-map, length-set, get_or-set_same, get_or-set_other, get_or_past}
use Rattle.std.proofs.lemmas.List.Elements.{All-from_recursion, recursion_from_All, All-get_or, All-set}
use Rattle.std.specs.List.{AllByRecursion}
use Rattle.std.specs.Prelude.{IfSome}
use Rattle.budb_links.specs.declared.arena.Link.{Link}
use Rattle.budb_links.specs.declared.arena.Ends.{Ends}
use Rattle.budb_links.specs.declared.arena.TheConstants.{FAMILIES}
use Rattle.budb_links.specs.Stands.{Stand, first_place, last_place, Apart, Among, place_behind, without_place}
use Rattle.budb_links.specs.Chained.{no_link, no_ends, link_at, ends_at, link_of, stand_at, links_of, ends_of, Linked, IsChain, chain_from, with_after, with_before, with_first, with_last, KeepsChains, KeepsFamilies}
use Rattle.budb_links.proofs.Columns.{column_at, column_same, column_other}
use Rattle.budb_links.proofs.Places.{around}
use Rattle.budb_links.proofs.Linking.{last_is_of, other_clear, linked_front, linked_back}
use Rattle.budb_links.proofs.Weaving.{chain_is, spelled_from, pushed_links, pushed_ends, pushed_here, pushed_beside, cut_links, cut_ends, cut_here, cut_beside, around_is}

-- ---- reading

pub behind_is : (links : List Link) (head : ℕ) (place : ℕ) (before : Option ℕ) (ss : List Stand) → Linked links head before ss None → Among place ss → (link_at links place).after ≡ place_behind place ss
behind_is links head place before [] l among = absurd among
behind_is links head place before (s ∷ ss) l among =
    ⊎_elim
    (λ (e : s.place ≡ place). ap (λ (p : ℕ). (link_at links p).after) (sym e) ∙ ap (λ (t : Link). t.after) l.1 ∙ sym (cond-true _ (first_place ss None) (place_behind place ss) (eq-eqb s.place place e)))
    (λ (ne : s.place ≡ place → ⊥). ⊎_elim (λ (e : s.place ≡ place). absurd (ne e)) (λ (h : Among place ss). behind_is links head place (Some s.place) ss l.2 h ∙ sym (cond-false _ (first_place ss None) (place_behind place ss) (ne_eqb s.place place ne))) among)
    (cases_eq s.place place)

pub among_within : (links : List Link) (head : ℕ) (place : ℕ) (before : Option ℕ) (ss : List Stand) (after : Option ℕ) → Linked links head before ss after → Among place ss → place < length links
among_within links head place before [] after l among = absurd among
among_within links head place before (s ∷ ss) after l among =
    ⊎_elim
    (λ (e : s.place ≡ place). subst (λ (p : ℕ). p < length links) e l.0)
    (λ (h : Among place ss). among_within links head place (Some s.place) ss after l.2 h)
    among

-- the last place has a link
pub last_within : (links : List Link) (head : ℕ) (before : Option ℕ) (ss : List Stand) (after : Option ℕ) → Linked links head before ss after → ((p : ℕ) → before ≡ Some p → p < length links) → (p : ℕ) → last_place before ss ≡ Some p → p < length links
last_within links head before [] after l h p e = h p e
last_within links head before (s ∷ ss) after l h p e =
    last_within links head (Some s.place) ss after l.2 (λ q f. let same : s.place ≡ q = cc in subst (λ (q : ℕ). q < length links) same l.0) p e

pub first_within : (links : List Link) (head : ℕ) (before : Option ℕ) (ss : List Stand) (after : Option ℕ) → Linked links head before ss after → (p : ℕ) → first_place ss None ≡ Some p → p < length links
first_within links head before [] after l p e = cc
first_within links head before (s ∷ ss) after l p e =
    let same : s.place ≡ p = cc in
    subst (λ (q : ℕ). q < length links) same l.0

pub if_within : (at : Option ℕ) (bound : ℕ) → ((p : ℕ) → at ≡ Some p → p < bound) → IfSome at (λ p. p < bound)
if_within None bound h = tt
if_within (Some p) bound h = h p refl

-- ---- a push

module _ (links links' : List Link) (ends ends' : List Ends) (keeps : KeepsChains links ends) (head place id : ℕ)
    (head_in : head < length ends) (within : place < length links)
    (fresh : (other : ℕ) → Apart place (chain_from links (ends_at ends other)))
    (few : length (chain_from links (ends_at ends head)) < length links)
    (links_are : links' ≡ pushed_links links place id head (ends_at ends head).last)
    (ends_are : ends' ≡ set ends head (pushed_ends place (ends_at ends head))) where
  pushed_head : IsChain links' head (ends_at ends' head) (chain_from links (ends_at ends head) ++ stand_at place id ∷ [])
  pushed_head =
      let ss = chain_from links (ends_at ends head) in
      let e = ends_at ends head in
      let at = ap (λ (t : List Ends). ends_at t head) ends_are ∙ get_or-set_same ends head (pushed_ends place e) no_ends head_in in
      subst
      (λ (t : List Link). IsChain t head (ends_at ends' head) (ss ++ stand_at place id ∷ []))
      (sym links_are)
      (subst (λ (t : Ends). IsChain (pushed_links links place id head e.last) head t (ss ++ stand_at place id ∷ [])) (sym at) (pushed_here links place id within head e ss (keeps head) (fresh head) few))

  pushed_other : (other : ℕ) → other ≢ head → IsChain links' other (ends_at ends' other) (chain_from links (ends_at ends other))
  pushed_other other ne =
      let ss = chain_from links (ends_at ends other) in
      let mine = keeps head in
      let theirs = keeps other in
      let e = ends_at ends head in
      let at = ap (λ (t : List Ends). ends_at t other) ends_are ∙ get_or-set_other ends head other (pushed_ends place e) no_ends ne in
      let of = last_is_of links head None (chain_from links e) None tt mine.linked in
      let clear = other_clear links other head (last_place None (chain_from links e)) (λ h. ne (sym h)) of None ss None theirs.linked in
      subst
      (λ (t : List Link). IsChain t other (ends_at ends' other) ss)
      (sym links_are)
      (subst (λ (t : Ends). IsChain (pushed_links links place id head e.last) other t ss) (sym at) (subst (λ (t : Option ℕ). IsChain (pushed_links links place id head t) other (ends_at ends other) ss) (sym mine.last) (pushed_beside links place id within other (ends_at ends other) ss theirs (fresh other) head (last_place None (chain_from links e)) clear)))

  pub pushed_keeps : KeepsChains links' ends'
  pushed_keeps = λ other.
      ⊎_elim
      (λ (e : other ≡ head). subst (λ (k : ℕ). IsChain links' k (ends_at ends' k) (chain_from links' (ends_at ends' k))) (sym e) (spelled_from links' head (ends_at ends' head) (chain_from links (ends_at ends head) ++ stand_at place id ∷ []) pushed_head))
      (λ (ne : other ≢ head). spelled_from links' other (ends_at ends' other) (chain_from links (ends_at ends other)) (pushed_other other ne))
      (cases_eq other head)

  pub pushed_chain : chain_from links' (ends_at ends' head) ≡ chain_from links (ends_at ends head) ++ stand_at place id ∷ []
  pushed_chain = chain_is links' head (ends_at ends' head) (chain_from links (ends_at ends head) ++ stand_at place id ∷ []) pushed_head

  pub pushed_others : (other : ℕ) → other ≢ head → chain_from links' (ends_at ends' other) ≡ chain_from links (ends_at ends other)
  pushed_others other ne = chain_is links' other (ends_at ends' other) (chain_from links (ends_at ends other)) (pushed_other other ne)

-- ---- a cut

module _ (links links' : List Link) (ends ends' : List Ends) (keeps : KeepsChains links ends) (head place : ℕ)
    (head_in : head < length ends) (among : Among place (chain_from links (ends_at ends head)))
    (link : Link) (is : link ≡ link_at links place)
    (links_are : links' ≡ cut_links links link)
    (ends_are : ends' ≡ set ends head (cut_ends (ends_at ends head) link)) where
  cut_head : IsChain links' head (ends_at ends' head) (without_place place (chain_from links (ends_at ends head)))
  cut_head =
      let ss = chain_from links (ends_at ends head) in
      let e = ends_at ends head in
      let at = ap (λ (t : List Ends). ends_at t head) ends_are ∙ get_or-set_same ends head (cut_ends e link) no_ends head_in in
      subst
      (λ (t : List Link). IsChain t head (ends_at ends' head) (without_place place ss))
      (sym links_are)
      (subst (λ (t : Ends). IsChain (cut_links links link) head t (without_place place ss)) (sym at) (cut_here links head e ss (keeps head) place among link is))

  cut_other : (other : ℕ) → other ≢ head → IsChain links' other (ends_at ends' other) (without_place place (chain_from links (ends_at ends other)))
  cut_other other ne =
      let ss = chain_from links (ends_at ends other) in
      let e = ends_at ends head in
      let at = ap (λ (t : List Ends). ends_at t other) ends_are ∙ get_or-set_other ends head other (cut_ends e link) no_ends ne in
      subst
      (λ (t : List Link). IsChain t other (ends_at ends' other) (without_place place ss))
      (sym links_are)
      (subst (λ (t : Ends). IsChain (cut_links links link) other t (without_place place ss)) (sym at) (cut_beside links head e (chain_from links e) (keeps head) place among link is other (ends_at ends other) ss ne (keeps other)))

  cut_each : (other : ℕ) → IsChain links' other (ends_at ends' other) (without_place place (chain_from links (ends_at ends other)))
  cut_each other =
      ⊎_elim
      (λ (e : other ≡ head). subst (λ (k : ℕ). IsChain links' k (ends_at ends' k) (without_place place (chain_from links (ends_at ends k)))) (sym e) cut_head)
      (λ (ne : other ≢ head). cut_other other ne)
      (cases_eq other head)

  pub cut_keeps : KeepsChains links' ends'
  cut_keeps = λ other. spelled_from links' other (ends_at ends' other) (without_place place (chain_from links (ends_at ends other))) (cut_each other)

  pub cut_chains : (other : ℕ) → chain_from links' (ends_at ends' other) ≡ without_place place (chain_from links (ends_at ends other))
  cut_chains other = chain_is links' other (ends_at ends' other) (without_place place (chain_from links (ends_at ends other))) (cut_each other)

-- ---- all families

module _ (rows rows' : List (List Link)) (ends ends' : List (List Ends)) (keeps : KeepsFamilies FAMILIES rows ends) (family : ℕ)
    (wide_rows : AllByRecursion (λ (r : List Link). length r ≡ FAMILIES) rows')
    (wide_ends : AllByRecursion (λ (r : List Ends). length r ≡ FAMILIES) ends')
    (other_links : (other : ℕ) → other ≢ family → links_of other rows' ≡ links_of other rows)
    (other_ends : (other : ℕ) → other ≢ family → ends_of other ends' ≡ ends_of other ends) where
  pub families_keep : KeepsChains (links_of family rows') (ends_of family ends') → KeepsFamilies FAMILIES rows' ends'
  families_keep here = record {
    wide_rows = wide_rows;
    wide_ends = wide_ends;
    spelled = λ other.
        ⊎_elim
        (λ (e : other ≡ family). subst (λ (f : ℕ). KeepsChains (links_of f rows') (ends_of f ends')) (sym e) here)
        (λ (ne : other ≢ family). subst (λ (t : List Link). KeepsChains t (ends_of other ends')) (sym (other_links other ne)) (subst (λ (t : List Ends). KeepsChains (links_of other rows) t) (sym (other_ends other ne)) (keeps.spelled other)))
        (cases_eq other family);
  }

  pub families_same : (other number : ℕ) → other ≢ family → chain_from (links_of other rows') (ends_at (ends_of other ends') number) ≡ chain_from (links_of other rows) (ends_at (ends_of other ends) number)
  families_same other number ne =
      ap (λ (t : List Link). chain_from t (ends_at (ends_of other ends') number)) (other_links other ne)
      ∙ ap (λ (t : List Ends). chain_from (links_of other rows) (ends_at t number)) (other_ends other ne)

-- a place with a member has a chain
pub head_within : (links : List Link) (ends : List Ends) (head place : ℕ) → Among place (chain_from links (ends_at ends head)) → head < length ends
head_within links ends head place among =
    ⊎_elim
    (λ (h : head < length ends). h)
    (λ (h : length ends ≤ head). absurd (subst (λ (e : Ends). Among place (chain_from links e)) (get_or_past ends head no_ends h) among))
    (cases_lt head (length ends))

-- wide rows after a write
pub wide_set : {X : Type 0} (wide : ℕ) (rows : List (List X)) (at : ℕ) (row : List X) (column : ℕ) (value : X) → AllByRecursion (λ (r : List X). length r ≡ wide) rows → at < length rows → row ≡ get_or rows at row → AllByRecursion (λ (r : List X). length r ≡ wide) (set rows at (set row column value))
wide_set {X} wide rows at row column value all within read =
    let P : List X → Type 0 = λ r. length r ≡ wide in
    let each = All-from_recursion P rows all in
    let mine = subst P (sym read) (All-get_or P rows at row within each) in
    recursion_from_All P (set rows at (set row column value)) (All-set P rows at (set row column value) (length-set row column value ∙ mine) each)

-- what a push makes
pub record PushedTo (rows rows' : List (List Link)) (ends ends' : List (List Ends)) (family head place id : ℕ) : Type 0 where
  pub keeps : KeepsFamilies FAMILIES rows' ends'
  pub chain : chain_from (links_of family rows') (ends_at (ends_of family ends') head) ≡ chain_from (links_of family rows) (ends_at (ends_of family ends) head) ++ stand_at place id ∷ []
  pub others : (other : ℕ) → other ≢ head → chain_from (links_of family rows') (ends_at (ends_of family ends') other) ≡ chain_from (links_of family rows) (ends_at (ends_of family ends) other)
  pub families : (other number : ℕ) → other ≢ family → chain_from (links_of other rows') (ends_at (ends_of other ends') number) ≡ chain_from (links_of other rows) (ends_at (ends_of other ends) number)

-- what a cut makes
pub record CutFrom (rows rows' : List (List Link)) (ends ends' : List (List Ends)) (family place : ℕ) : Type 0 where
  pub keeps : KeepsFamilies FAMILIES rows' ends'
  pub chains : (head : ℕ) → chain_from (links_of family rows') (ends_at (ends_of family ends') head) ≡ without_place place (chain_from (links_of family rows) (ends_at (ends_of family ends) head))
  pub families : (other number : ℕ) → other ≢ family → chain_from (links_of other rows') (ends_at (ends_of other ends') number) ≡ chain_from (links_of other rows) (ends_at (ends_of other ends) number)

module _ (rows mid rows' : List (List Link)) (ends : List (List Ends)) (keeps : KeepsFamilies FAMILIES rows ends) (family head place : ℕ)
    (family_in : family < FAMILIES) (head_in : head < length ends)
    (read_row : List Ends) (read : read_row ≡ get_or ends head read_row)
    (put_row : List Ends) (put : put_row ≡ get_or ends head put_row)
    (wide : AllByRecursion (λ (r : List Link). length r ≡ FAMILIES) rows')
    (mid_others : (other : ℕ) → other ≢ family → links_of other mid ≡ links_of other rows)
    (new_others : (other : ℕ) → other ≢ family → links_of other rows' ≡ links_of other mid) where
  abbrev ends_with : Ends → List (List Ends)
  ends_with value = set ends head (set put_row family value)

  ends_now : ends_at (ends_of family ends) head ≡ get_or read_row family no_ends
  ends_now = column_at no_ends ends head head_in read_row read family

  ends_set : (value : Ends) → ends_of family (ends_with value) ≡ set (ends_of family ends) head value
  ends_set value = column_same no_ends ends head head_in put_row put FAMILIES keeps.wide_ends family value family_in

  ends_others : (value : Ends) (other : ℕ) → other ≢ family → ends_of other (ends_with value) ≡ ends_of other ends
  ends_others value = column_other no_ends ends head head_in put_row put family value

  ends_wide : (value : Ends) → AllByRecursion (λ (r : List Ends). length r ≡ FAMILIES) (ends_with value)
  ends_wide value = wide_set FAMILIES ends head put_row family value keeps.wide_ends head_in put

  links_others : (other : ℕ) → other ≢ family → links_of other rows' ≡ links_of other rows
  links_others other ne = new_others other ne ∙ mid_others other ne

  heads_in : head < length (ends_of family ends)
  heads_in = subst (λ (n : ℕ). head < n) (sym (length-map ends (λ (r : List Ends). get_or r family no_ends))) head_in

  pub pushed_to :
      (id : ℕ) (result : Ends) → place < length rows
      → ((other : ℕ) → Apart place (chain_from (links_of family rows) (ends_at (ends_of family ends) other)))
      → length (chain_from (links_of family rows) (ends_at (ends_of family ends) head)) < length rows
      → links_of family mid ≡ set (links_of family rows) place (link_of head (stand_at place id) (get_or read_row family no_ends).last None)
      → links_of family rows' ≡ with_after (links_of family mid) (get_or read_row family no_ends).last (Some place)
      → result ≡ with_first (get_or read_row family no_ends) (get_or read_row family no_ends).last (Some place)
      → PushedTo rows rows' ends (ends_with (record { first = result.first; last = Some place })) family head place id
  pushed_to id result within fresh few mid_is new_is ends_is =
      let links = links_of family rows in
      let es = ends_of family ends in
      let value : Ends = record { first = result.first; last = Some place } in
      let long = length-map rows (λ (r : List Link). get_or r family no_link) in
      let within' = subst (λ (n : ℕ). place < n) (sym long) within in
      let few' = subst (λ (n : ℕ). length (chain_from links (ends_at es head)) < n) (sym long) few in
      let links_are = new_is ∙ ap (λ (t : List Link). with_after t (get_or read_row family no_ends).last (Some place)) mid_is ∙ ap (λ (e : Ends). pushed_links links place id head e.last) (sym ends_now) in
      let ends_are = ends_set value ∙ ap (λ (e : Ends). let v : Ends = record { first = e.first; last = Some place } in set es head v) (ends_is ∙ ap (λ (e : Ends). with_first e e.last (Some place)) (sym ends_now)) in
      record {
        keeps = families_keep rows rows' ends (ends_with value) keeps family wide (ends_wide value) links_others (ends_others value) (pushed_keeps links (links_of family rows') es (ends_of family (ends_with value)) (keeps.spelled family) head place id heads_in within' fresh few' links_are ends_are);
        chain = pushed_chain links (links_of family rows') es (ends_of family (ends_with value)) (keeps.spelled family) head place id heads_in within' fresh few' links_are ends_are;
        others = pushed_others links (links_of family rows') es (ends_of family (ends_with value)) (keeps.spelled family) head place id heads_in within' fresh few' links_are ends_are;
        families = families_same rows rows' ends (ends_with value) keeps family wide (ends_wide value) links_others (ends_others value);
      }

  pub cut_from :
      (link : Link) (begun ended : Ends)
      → Among place (chain_from (links_of family rows) (ends_at (ends_of family ends) head))
      → link ≡ link_at (links_of family rows) place
      → links_of family mid ≡ with_after (links_of family rows) link.before link.after
      → links_of family rows' ≡ with_before (links_of family mid) link.after link.before
      → begun ≡ with_first (get_or read_row family no_ends) link.before link.after
      → ended ≡ with_last begun link.after link.before
      → CutFrom rows rows' ends (ends_with ended) family place
  cut_from link begun ended among is mid_is new_is begun_is ended_is =
      let links = links_of family rows in
      let es = ends_of family ends in
      let links_are = new_is ∙ ap (λ (t : List Link). with_before t link.after link.before) mid_is in
      let value_is = ended_is ∙ ap (λ (e : Ends). with_last e link.after link.before) (begun_is ∙ ap (λ (e : Ends). with_first e link.before link.after) (sym ends_now)) in
      let ends_are = ends_set ended ∙ ap (λ (e : Ends). set es head e) value_is in
      record {
        keeps = families_keep rows rows' ends (ends_with ended) keeps family wide (ends_wide ended) links_others (ends_others ended) (cut_keeps links (links_of family rows') es (ends_of family (ends_with ended)) (keeps.spelled family) head place heads_in among link is links_are ends_are);
        chains = cut_chains links (links_of family rows') es (ends_of family (ends_with ended)) (keeps.spelled family) head place heads_in among link is links_are ends_are;
        families = families_same rows rows' ends (ends_with ended) keeps family wide (ends_wide ended) links_others (ends_others ended);
      }

-- the places before and behind a member have links
module _ (links : List Link) (head : ℕ) (ends : Ends) (ss : List Stand) (c : IsChain links head ends ss) (place : ℕ) (among : Among place ss) (link : Link) (is : link ≡ link_at links place) where
  pub before_within : (p : ℕ) → link.before ≡ Some p → p < length links
  before_within p e =
      let r = around place ss among in
      let whole = subst (λ (t : List Stand). IsChain links head ends t) r.whole c in
      let at = around_is links head ends ss c place among link is r in
      last_within links head None r.front (Some r.member.place) (linked_front links head None r.front (r.member ∷ r.back) None whole.linked) (λ q f. cc) p (sym (ap (λ (t : Link). t.before) at) ∙ e)

  pub after_within : (p : ℕ) → link.after ≡ Some p → p < length links
  after_within p e =
      let r = around place ss among in
      let whole = subst (λ (t : List Stand). IsChain links head ends t) r.whole c in
      let at = around_is links head ends ss c place among link is r in
      let back = linked_back links head None r.front (r.member ∷ r.back) None whole.linked in
      first_within links head (Some r.member.place) r.back None back.2 p (sym (ap (λ (t : Link). t.after) at) ∙ e)
