-- A chain that grows, and one that is mended around a member.
use Rattle.std.proofs.Common.{◌≡◌, ◌≢◌, ℕ, ◌<◌, ◌≤◌, List, [], ◌∷◌, ◌++◌, length, set, Option, Some, None, refl, sym, ◌∙◌, ap, subst, arith}
use Rattle.std.proofs.lemmas.List.{length-set, get_or-set_same, get_or-set_other, length_push, length-append}
use Rattle.budb_links.specs.declared.arena.Link.{Link}
use Rattle.budb_links.specs.declared.arena.Ends.{Ends}
use Rattle.budb_links.specs.Stands.{Stand, first_place, last_place, Apart, Among, without_place}
use Rattle.budb_links.specs.Chained.{no_link, link_at, link_of, stand_at, Linked, IsChain, follow, chain_from, with_after, with_before, with_first, with_last}
use Rattle.budb_links.proofs.Places.{last_append, last_is_some, distinct_push, Around, around, split, without_apart, without_split}
use Rattle.budb_links.proofs.Linking.{SameLinks, Clear, IsOf, same_but, same_after, same_before, length_after, length_before, linked_same, linked_append, linked_front, linked_back, linked_ended, linked_begun, last_is_of, first_is_of, other_apart, other_clear, follow_is}

-- a chain that is spelled is what is followed
pub chain_is : (links : List Link) (head : ℕ) (ends : Ends) (ss : List Stand) → IsChain links head ends ss → chain_from links ends ≡ ss
chain_is links head ends ss c =
    ap (λ (at : Option ℕ). follow at (length links) links) c.first ∙ follow_is links head (length links) None ss c.linked c.few

pub spelled_from : (links : List Link) (head : ℕ) (ends : Ends) (ss : List Stand) → IsChain links head ends ss → IsChain links head ends (chain_from links ends)
spelled_from links head ends ss c = subst (λ (t : List Stand). IsChain links head ends t) (sym (chain_is links head ends ss c)) c

-- ---- a chain of another number, where links that aren't its own changed

module _ (links others : List Link) (head : ℕ) (ends : Ends) (ss : List Stand) where
  pub chain_same : length links ≤ length others → SameLinks links others ss → IsChain links head ends ss → IsChain others head ends ss
  chain_same long same c = record {
    linked = linked_same links others head long None ss None same c.linked;
    first = c.first;
    last = c.last;
    distinct = c.distinct;
    few = omega (arith, c.few, long);
  }

-- ---- a new last member

abbrev pub pushed_links : List Link → ℕ → ℕ → ℕ → Option ℕ → List Link
pushed_links links place id head last =
    with_after (set links place (link_of head (stand_at place id) last None)) last (Some place)

abbrev pub pushed_ends : ℕ → Ends → Ends
pushed_ends place ends = record (with_first ends ends.last (Some place)) { last = Some place }

module _ (links : List Link) (place : ℕ) (id : ℕ) (within : place < length links) where
  pub pushed_long : (head : ℕ) (last : Option ℕ) → length (pushed_links links place id head last) ≡ length links
  pushed_long head last =
      let link = link_of head (stand_at place id) last None in
      length_after (set links place link) last (Some place) ∙ length-set links place link

  -- a last place isn't a place apart
  last_not : (before : Option ℕ) (ss : List Stand) → Apart place ss → ((p : ℕ) → before ≡ Some p → p ≢ place) → (p : ℕ) → last_place before ss ≡ Some p → p ≢ place
  last_not before [] a h p e = h p e
  last_not before (s ∷ ss) a h p e = last_not (Some s.place) ss a.1 (λ q f. let same : s.place ≡ q = cc in subst (λ (q : ℕ). q ≢ place) same a.0) p e

  link_kept : (links : List Link) (last after : Option ℕ) → ((p : ℕ) → last ≡ Some p → p ≢ place) → link_at (with_after links last after) place ≡ link_at links place
  link_kept links None after h = refl
  link_kept links (Some p) after h =
      get_or-set_other links p place (record (link_at links p) { after = after }) no_link (λ e. h p refl (sym e))

  first_pushed : (ends : Ends) (ss : List Stand) → ends.first ≡ first_place ss None → ends.last ≡ last_place None ss → (pushed_ends place ends).first ≡ first_place (ss ++ (stand_at place id) ∷ []) None
  first_pushed ends [] f l = ap (λ (t : Option ℕ). (with_first ends t (Some place)).first) l
  first_pushed ends (s ∷ ss) f l =
      let some = last_is_some s ss in
      ap (λ (t : Option ℕ). (with_first ends t (Some place)).first) (l ∙ some.1) ∙ f

  pub pushed_here : (head : ℕ) (ends : Ends) (ss : List Stand) → IsChain links head ends ss → Apart place ss → length ss < length links → IsChain (pushed_links links place id head ends.last) head (pushed_ends place ends) (ss ++ (stand_at place id) ∷ [])
  pushed_here head ends ss c apart few =
      let link = link_of head (stand_at place id) ends.last None in
      let table = set links place link in
      let kept = linked_same links table head (omega (arith, length-set links place link)) None ss None (same_but links place link ss apart) c.linked in
      let ended = linked_ended table head (Some place) None ss None c.distinct kept in
      let front = subst (λ (t : Option ℕ). Linked (with_after table t (Some place)) head None ss (Some place)) (sym c.last) ended in
      let other : (p : ℕ) → ends.last ≡ Some p → p ≢ place = λ p e. last_not None ss apart (λ q f. cc) p (sym c.last ∙ e) in
      let spelled = link_kept table ends.last (Some place) other ∙ get_or-set_same links place link no_link within in
      let mine = subst (λ (t : Option ℕ). link_at (pushed_links links place id head ends.last) place ≡ link_of head (stand_at place id) t None) c.last spelled in
      record {
        linked = linked_append (pushed_links links place id head ends.last) head None ss ((stand_at place id) ∷ []) None front (subst (λ (n : ℕ). place < n) (sym (pushed_long head ends.last)) within, mine, tt);
        first = first_pushed ends ss c.first c.last;
        last = sym (last_append None ss ((stand_at place id) ∷ []));
        distinct = distinct_push ss (stand_at place id) c.distinct apart;
        few = omega (arith, length_push ss (stand_at place id), few, pushed_long head ends.last);
      }

  pub pushed_beside : (head : ℕ) (ends : Ends) (ss : List Stand) → IsChain links head ends ss → Apart place ss → (other : ℕ) (last : Option ℕ) → Clear last ss → IsChain (pushed_links links place id other last) head ends ss
  pushed_beside head ends ss c apart other last clear =
      let link = link_of other (stand_at place id) last None in
      let table = set links place link in
      let one = chain_same links table head ends ss (omega (arith, length-set links place link)) (same_but links place link ss apart) c in
      chain_same table (pushed_links links place id other last) head ends ss (omega (arith, length_after table last (Some place))) (same_after table last (Some place) ss clear) one

-- ---- a member less

pub clear_from : (at : Option ℕ) (ss : List Stand) → ((p : ℕ) → at ≡ Some p → Apart p ss) → Clear at ss
clear_from None ss h = tt
clear_from (Some p) ss h = h p refl

-- what joins the neighbours of a link
abbrev pub cut_links : List Link → Link → List Link
cut_links links link = with_before (with_after links link.before link.after) link.after link.before

abbrev pub cut_ends : Ends → Link → Ends
cut_ends ends link = with_last (with_first ends link.before link.after) link.after link.before

pub cut_long : (links : List Link) (link : Link) → length (cut_links links link) ≡ length links
cut_long links link = length_before (with_after links link.before link.after) link.after link.before ∙ length_after links link.before link.after

last_keeps_first : (ends : Ends) (at last : Option ℕ) → (with_last ends at last).first ≡ ends.first
last_keeps_first ends None last = refl
last_keeps_first ends (Some place) last = refl

first_keeps_last : (ends : Ends) (at first : Option ℕ) → (with_first ends at first).last ≡ ends.last
first_keeps_last ends None first = refl
first_keeps_last ends (Some place) first = refl

first_cut : (ends : Ends) (xs : List Stand) (s : Stand) (ys : List Stand) → ends.first ≡ first_place (xs ++ s ∷ ys) None → (with_first ends (last_place None xs) (first_place ys None)).first ≡ first_place (xs ++ ys) None
first_cut ends [] s ys f = refl
first_cut ends (x ∷ xs) s ys f =
    ap (λ (t : Option ℕ). (with_first ends t (first_place ys None)).first) (last_is_some x xs).1 ∙ f

last_cut : (ends : Ends) (xs : List Stand) (s : Stand) (ys : List Stand) → ends.last ≡ last_place None (xs ++ s ∷ ys) → (with_last ends (first_place ys None) (last_place None xs)).last ≡ last_place None (xs ++ ys)
last_cut ends xs s [] l = sym (last_append None xs [])
last_cut ends xs s (y ∷ ys) l = l ∙ last_append None xs (s ∷ y ∷ ys) ∙ sym (last_append None xs (y ∷ ys))

module _ (links : List Link) (head : ℕ) (ends : Ends) (xs : List Stand) (s : Stand) (ys : List Stand) (c : IsChain links head ends (xs ++ s ∷ ys)) where
  pub link_between : link_at links s.place ≡ link_of head s (last_place None xs) (first_place ys None)
  link_between = let back = linked_back links head None xs (s ∷ ys) None c.linked in back.1

  pub before_is_of : IsOf links head (last_place None xs)
  before_is_of = last_is_of links head None xs (Some s.place) tt (linked_front links head None xs (s ∷ ys) None c.linked)

  pub after_is_of : IsOf links head (first_place ys None)
  after_is_of =
      let back = linked_back links head None xs (s ∷ ys) None c.linked in
      first_is_of links head (Some s.place) ys None back.2

  pub cut_between : IsChain (cut_links links (link_of head s (last_place None xs) (first_place ys None))) head (cut_ends ends (link_of head s (last_place None xs) (first_place ys None))) (xs ++ ys)
  cut_between =
      let before = last_place None xs in
      let after = first_place ys None in
      let front = linked_front links head None xs (s ∷ ys) None c.linked in
      let back = linked_back links head None xs (s ∷ ys) None c.linked in
      let apart = split xs s ys c.distinct in
      let one = with_after links before after in
      let two = with_before one after before in
      let front_one = linked_ended links head after None xs (Some s.place) apart.front front in
      let back_one = linked_same links one head (omega (arith, length_after links before after)) (Some s.place) ys None (same_after links before after ys (clear_from before ys apart.last)) back.2 in
      let front_two = linked_same one two head (omega (arith, length_before one after before)) None xs after (same_before one after before xs (clear_from after xs apart.first)) front_one in
      let back_two = linked_begun one head before (Some s.place) ys None apart.back back_one in
      record {
        linked = linked_append two head None xs ys None front_two back_two;
        first = last_keeps_first (with_first ends before after) after before ∙ first_cut ends xs s ys c.first;
        last = last_cut (with_first ends before after) xs s ys (first_keeps_last ends before after ∙ c.last);
        distinct = apart.joined;
        few = omega (arith, c.few, length-append xs ys, length-append xs (s ∷ ys), cut_long links (link_of head s before after));
      }

-- the chain that the member was in, and the others
module _ (links : List Link) (head : ℕ) (ends : Ends) (ss : List Stand) (c : IsChain links head ends ss) (place : ℕ) (among : Among place ss) (link : Link) (is : link ≡ link_at links place) where
  pub around_is : (r : Around place ss) → link ≡ link_of head r.member (last_place None r.front) (first_place r.back None)
  around_is r =
      let whole = subst (λ (t : List Stand). IsChain links head ends t) r.whole c in
      is ∙ ap (link_at links) (sym r.stands) ∙ link_between links head ends r.front r.member r.back whole

  pub of_head : link.head ≡ head
  of_head = ap (λ (t : Link). t.head) (around_is (around place ss among))

  pub cut_here : IsChain (cut_links links link) head (cut_ends ends link) (without_place place ss)
  cut_here =
      let r = around place ss among in
      let whole = subst (λ (t : List Stand). IsChain links head ends t) r.whole c in
      let apart = split r.front r.member r.back whole.distinct in
      let front = subst (λ (p : ℕ). Apart p r.front) r.stands apart.member_front in
      let back = subst (λ (p : ℕ). Apart p r.back) r.stands apart.member_back in
      let less = ap (without_place place) r.whole ∙ without_split place r.front r.member r.back r.stands front back in
      let between = cut_between links head ends r.front r.member r.back whole in
      let cut = subst (λ (t : Link). IsChain (cut_links links t) head (cut_ends ends t) (r.front ++ r.back)) (sym (around_is r)) between in
      subst (λ (t : List Stand). IsChain (cut_links links link) head (cut_ends ends link) t) (sym less) cut

  pub cut_beside : (other : ℕ) (ends' : Ends) (others : List Stand) → other ≢ head → IsChain links other ends' others → IsChain (cut_links links link) other ends' (without_place place others)
  cut_beside other ends' others ne d =
      let r = around place ss among in
      let whole = subst (λ (t : List Stand). IsChain links head ends t) r.whole c in
      let before = subst (λ (t : Link). IsOf links head t.before) (sym (around_is r)) (before_is_of links head ends r.front r.member r.back whole) in
      let after = subst (λ (t : Link). IsOf links head t.after) (sym (around_is r)) (after_is_of links head ends r.front r.member r.back whole) in
      let not_mine : (link_at links place).head ≢ other = λ e. ne (sym (sym (of_head) ∙ ap (λ (t : Link). t.head) is ∙ e)) in
      let apart = other_apart links other place not_mine None others None d.linked in
      let one = with_after links link.before link.after in
      let clear_before = other_clear links other head link.before (λ e. ne (sym e)) before None others None d.linked in
      let clear_after = other_clear links other head link.after (λ e. ne (sym e)) after None others None d.linked in
      let kept = chain_same links one other ends' others (omega (arith, length_after links link.before link.after)) (same_after links link.before link.after others clear_before) d in
      let kept_two = chain_same one (cut_links links link) other ends' others (omega (arith, length_before one link.after link.before)) (same_before one link.after link.before others clear_after) kept in
      subst (λ (t : List Stand). IsChain (cut_links links link) other ends' t) (sym (without_apart place others apart)) kept_two
