-- Laws of a table of links that spells chains.
use Rattle.std.proofs.Common.{◌≡◌, ◌≢◌, ℕ, zero, suc, ◌<◌, ◌≤◌, List, [], ◌∷◌, ◌++◌, length, set, Option, Some, None, refl, sym, ◌∙◌, ap, subst, arith}
use Rattle.std.proofs.lemmas.List.{length-set, get_or-set_same, get_or-set_other}
use Rattle.std.specs.List.{AllByRecursion}
use Rattle.budb_links.specs.declared.arena.Link.{Link}
use Rattle.budb_links.specs.Stands.{Stand, first_place, last_place, Apart, Distinct}
use Rattle.budb_links.specs.Chained.{no_link, link_at, link_of, Linked, follow, with_after, with_before}
use Rattle.budb_links.proofs.Places.{first_append}

-- the links of these members are the same in two tables
abbrev pub SameLinks : List Link → List Link → List Stand → Type 0
SameLinks links others = AllByRecursion (λ s. link_at others s.place ≡ link_at links s.place)

-- a place that may be wanting isn't among these members
abbrev pub Clear : Option ℕ → List Stand → Type 0
Clear None ss = Unit {0}
Clear (Some place) ss = Apart place ss

-- a place that may be wanting has a link of this chain
abbrev pub IsOf : List Link → ℕ → Option ℕ → Type 0
IsOf links head None = Unit {0}
IsOf links head (Some place) = (link_at links place).head ≡ head

-- ---- one link after another

pub same_everywhere : (links others : List Link) → ((place : ℕ) → link_at others place ≡ link_at links place) → (ss : List Stand) → SameLinks links others ss
same_everywhere links others same [] = tt
same_everywhere links others same (s ∷ ss) = (same s.place, same_everywhere links others same ss)

pub same_but : (links : List Link) (place : ℕ) (link : Link) (ss : List Stand) → Apart place ss → SameLinks links (set links place link) ss
same_but links place link [] a = tt
same_but links place link (s ∷ ss) a = (get_or-set_other links place s.place link no_link a.0, same_but links place link ss a.1)

pub same_after : (links : List Link) (at : Option ℕ) (after : Option ℕ) (ss : List Stand) → Clear at ss → SameLinks links (with_after links at after) ss
same_after links None after ss c = same_everywhere links links (λ place. refl) ss
same_after links (Some place) after ss c = same_but links place (record (link_at links place) { after = after }) ss c

pub same_before : (links : List Link) (at : Option ℕ) (before : Option ℕ) (ss : List Stand) → Clear at ss → SameLinks links (with_before links at before) ss
same_before links None before ss c = same_everywhere links links (λ place. refl) ss
same_before links (Some place) before ss c = same_but links place (record (link_at links place) { before = before }) ss c

pub length_after : (links : List Link) (at after : Option ℕ) → length (with_after links at after) ≡ length links
length_after links None after = refl
length_after links (Some place) after = length-set links place (record (link_at links place) { after = after })

pub length_before : (links : List Link) (at before : Option ℕ) → length (with_before links at before) ≡ length links
length_before links None before = refl
length_before links (Some place) before = length-set links place (record (link_at links place) { before = before })

-- ---- neighbours

pub linked_same : (links others : List Link) (head : ℕ) → length links ≤ length others → (before : Option ℕ) (ss : List Stand) (after : Option ℕ) → SameLinks links others ss → Linked links head before ss after → Linked others head before ss after
linked_same links others head long before [] after same l = tt
linked_same links others head long before (s ∷ ss) after same l =
    let within : s.place < length links = l.0 in
    ((omega arith), same.0 ∙ l.1, linked_same links others head long (Some s.place) ss after same.1 l.2)

module _ (links : List Link) (head : ℕ) where
  pub linked_append : (before : Option ℕ) (xs ys : List Stand) (after : Option ℕ) → Linked links head before xs (first_place ys after) → Linked links head (last_place before xs) ys after → Linked links head before (xs ++ ys) after
  linked_append before [] ys after l m = m
  linked_append before (x ∷ xs) ys after l m =
      (l.0, l.1 ∙ ap (link_of head x before) (sym (first_append xs ys after)), linked_append (Some x.place) xs ys after l.2 m)

  pub linked_front : (before : Option ℕ) (xs ys : List Stand) (after : Option ℕ) → Linked links head before (xs ++ ys) after → Linked links head before xs (first_place ys after)
  linked_front before [] ys after l = tt
  linked_front before (x ∷ xs) ys after l =
      (l.0, l.1 ∙ ap (link_of head x before) (first_append xs ys after), linked_front (Some x.place) xs ys after l.2)

  pub linked_back : (before : Option ℕ) (xs ys : List Stand) (after : Option ℕ) → Linked links head before (xs ++ ys) after → Linked links head (last_place before xs) ys after
  linked_back before [] ys after l = l
  linked_back before (x ∷ xs) ys after l = linked_back (Some x.place) xs ys after l.2

  -- the link of the last one of some members isn't that of one apart from them
  last_kept : (new : Option ℕ) (place : ℕ) (y : Stand) (ys : List Stand) → Apart place (y ∷ ys) → link_at (with_after links (last_place (Some y.place) ys) new) place ≡ link_at links place
  last_kept new place y [] a =
      get_or-set_other links y.place place (record (link_at links y.place) { after = new }) no_link (λ e. a.0 (sym e))
  last_kept new place y (z ∷ zs) a = last_kept new place z zs a.1

  -- the last one has another place behind it
  pub linked_ended : (new before : Option ℕ) (xs : List Stand) (after : Option ℕ) → Distinct xs → Linked links head before xs after → Linked (with_after links (last_place None xs) new) head before xs new
  linked_ended new before [] after d l = tt
  linked_ended new before (x ∷ []) after d l =
      let link = record (link_at links x.place) { after = new } in (
        subst (λ (n : ℕ). x.place < n) (sym (length-set links x.place link)) l.0,
        get_or-set_same links x.place link no_link l.0 ∙ ap (λ (t : Link). record t { after = new }) l.1,
        tt,
      )
  linked_ended new before (x ∷ y ∷ ys) after d l = (
    subst (λ (n : ℕ). x.place < n) (sym (length_after links (last_place (Some y.place) ys) new)) l.0,
    last_kept new x.place y ys d.0 ∙ l.1,
    linked_ended new (Some x.place) (y ∷ ys) after d.1 l.2,
  )

  -- the first one has another place before it
  pub linked_begun : (new before : Option ℕ) (ys : List Stand) (after : Option ℕ) → Distinct ys → Linked links head before ys after → Linked (with_before links (first_place ys None) new) head new ys after
  linked_begun new before [] after d l = tt
  linked_begun new before (y ∷ ys) after d l =
      let link = record (link_at links y.place) { before = new } in (
        subst (λ (n : ℕ). y.place < n) (sym (length-set links y.place link)) l.0,
        get_or-set_same links y.place link no_link l.0 ∙ ap (λ (t : Link). record t { before = new }) l.1,
        linked_same links (set links y.place link) head (omega (arith, length-set links y.place link)) (Some y.place) ys after (same_but links y.place link ys d.0) l.2,
      )

  -- ---- which chain a place is of

  pub last_is_of : (before : Option ℕ) (ss : List Stand) (after : Option ℕ) → IsOf links head before → Linked links head before ss after → IsOf links head (last_place before ss)
  last_is_of before [] after h l = h
  last_is_of before (s ∷ ss) after h l = last_is_of (Some s.place) ss after (ap (λ (t : Link). t.head) l.1) l.2

  pub first_is_of : (before : Option ℕ) (ss : List Stand) (after : Option ℕ) → Linked links head before ss after → IsOf links head (first_place ss None)
  first_is_of before [] after l = tt
  first_is_of before (s ∷ ss) after l = ap (λ (t : Link). t.head) l.1

  pub other_apart : (place : ℕ) → (link_at links place).head ≢ head → (before : Option ℕ) (ss : List Stand) (after : Option ℕ) → Linked links head before ss after → Apart place ss
  other_apart place ne before [] after l = tt
  other_apart place ne before (s ∷ ss) after l = (
    (λ e. ne (ap (λ (p : ℕ). (link_at links p).head) (sym e) ∙ ap (λ (t : Link). t.head) l.1)),
    other_apart place ne (Some s.place) ss after l.2,
  )

  -- what is of another chain isn't among the members of this one
  pub other_clear : (other : ℕ) (at : Option ℕ) → other ≢ head → IsOf links other at → (before : Option ℕ) (ss : List Stand) (after : Option ℕ) → Linked links head before ss after → Clear at ss
  other_clear other None ne of before ss after l = tt
  other_clear other (Some place) ne of before ss after l = other_apart place (λ e. ne (sym of ∙ e)) before ss after l

  -- ---- following

  abbrev stand_then : ℕ → ℕ → Link → List Stand
  stand_then place most link = let s : Stand = record { place = place; id = link.id } in s ∷ follow link.after most links

  pub follow_is : (most : ℕ) (before : Option ℕ) (ss : List Stand) → Linked links head before ss None → length ss ≤ most → follow (first_place ss None) most links ≡ ss
  follow_is most before [] l h = refl
  follow_is zero before (s ∷ ss) l h = absurd (omega (arith, h))
  follow_is (suc most) before (s ∷ ss) l h =
      let few : length ss ≤ most = omega (arith, h) in
      let rest = follow_is most (Some s.place) ss l.2 few in
      ap (stand_then s.place most) l.1 ∙ ap (λ (t : List Stand). s ∷ t) rest
