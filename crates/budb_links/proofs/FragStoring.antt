-- Fragments that are stored, and what linking and unlinking one leaves.
use Rattle.std.proofs.Common.{◌≡◌, ◌≢◌, ◌⊎◌, inl, inr, ℕ, ◌+◌, ◌<◌, ◌≤◌, ◌^◌, List, [], ◌∷◌, ◌++◌, length, set, Bool, true, false, not, eqb, cond, Option, Some, None, refl, sym, ◌∙◌, ap, subst, arith, replicate, ⊎_elim}
use Rattle.std.specs.Prelude.{vec_capacity}
use Rattle.std.proofs.lemmas.Bool.{cases_eq, eq-eqb, ne_eqb, cond-true, cond-false, not_from_true, not_from_false}
use Rattle.std.proofs.lemmas.List.{map-append, length-append, length-map, length-set, length-replicate, get_or-set_same, get_or-set_other}
use Rattle.std.specs.List.{AllByRecursion}
use Rattle.bk_text.specs.Blanks.{is_same_text}
use Rattle.budb_links.specs.declared.frags.FragPlace.{FragPlace}
use Rattle.budb_links.specs.declared.frags.Frags.{Frags}
use Rattle.budb_links.specs.Stands.{Apart, Among, without_place}
use Rattle.budb_links.specs.Chained.{stand_at, chain_of}
use Rattle.budb_links.specs.Frags.{Placed, placed_at, fragment_of, frag_places, frag_at}
use Rattle.budb_links.specs.Keys.{numbers_in}
use Rattle.budb_links.specs.Stored.{slot_at, AreFree, numbers_from}
use Rattle.budb_links.specs.Keyed.{Differ, chain_in, key_in, numbering, KeepsBoth, StoresKeys}
use Rattle.budb_links.specs.Filing.{filed_frag, filed_frags, HasFrag, Files, HasNamed, without_frag}
use Rattle.budb_links.proofs.Places.{filter_keeps, filter_drops}
use Rattle.budb_links.proofs.Keeping.{free_last, free_front, free_set, free_push, full_apart}
use Rattle.budb_links.proofs.Removing.{full_within}
use Rattle.budb_links.proofs.Room.{same_slot, free_grown, numbers_long}
use Rattle.budb_links.proofs.Lists.{filter_mapped, filter_all, all_mapped, all_of_mapped, all_append, all_so, all_filter, differ_filter}
use Rattle.budb_links.proofs.KeyedStoring.{spare_there, fresh_by, short_by, linked_keys, StandsBy, among_keys, unlinked_keys, wider_keys}

abbrev pub Marked : List (Option FragPlace) → List Placed → Type 0
Marked marks = AllByRecursion (λ p. slot_at marks p.place ≡ Some p.fragment.which)

filed_long : (ps : List Placed) → length (filed_frags ps) ≡ length ps
filed_long ps = length-map ps filed_frag

-- ---- a place with nothing is apart

pub unmarked_apart : (marks : List (Option FragPlace)) (place : ℕ) (ps : List Placed) → Marked marks ps → slot_at marks place ≡ None → AllByRecursion (λ p. p.place ≢ place) ps
unmarked_apart marks place [] h none = tt
unmarked_apart marks place (p ∷ ps) h none = (
  (λ same. let full = sym (ap (slot_at marks) same) ∙ h.0 in let no : ⊥ = cc in no),
  unmarked_apart marks place ps h.1 none,
)

frag_front : (place : ℕ) (ps : List Placed) (p : Placed) → HasFrag place ps → HasFrag place (ps ++ p ∷ [])
frag_front place [] p h = absurd h
frag_front place (x ∷ ps) p (inl same) = inl same
frag_front place (x ∷ ps) p (inr h) = inr (frag_front place ps p h)

frag_last : (ps : List Placed) (p : Placed) → HasFrag p.place (ps ++ p ∷ [])
frag_last [] p = inl refl
frag_last (x ∷ ps) p = inr (frag_last ps p)

marked_set : (marks : List (Option FragPlace)) (place : ℕ) (o : Option FragPlace) (ps : List Placed) → AllByRecursion (λ p. p.place ≢ place) ps → Marked marks ps → Marked (set marks place o) ps
marked_set marks place o [] a h = tt
marked_set marks place o (p ∷ ps) a h = (get_or-set_other marks place p.place o None a.0 ∙ h.0, marked_set marks place o ps a.1 h.1)

numbers_apart : (place : ℕ) (ps : List Placed) → AllByRecursion (λ p. p.place ≢ place) ps → AllByRecursion (λ n. n ≢ place) (frag_places ps)
numbers_apart place ps a = all_mapped (λ (p : Placed). p.place) (λ n. n ≢ place) ps a

places_push : (ps : List Placed) (p : Placed) → Differ (frag_places ps) → AllByRecursion (λ x. x.place ≢ p.place) ps → Differ (frag_places (ps ++ p ∷ []))
places_push [] p d a = (tt, tt)
places_push (x ∷ ps) p d a = (
  all_mapped (λ (q : Placed). q.place) (λ n. n ≢ x.place) (ps ++ p ∷ []) (all_append (λ (q : Placed). q.place ≢ x.place) ps (p ∷ []) (all_of_mapped (λ (q : Placed). q.place) (λ n. n ≢ x.place) ps d.0) ((λ e. a.0 (sym e)), tt)),
  places_push ps p d.1 a.1,
)

-- ---- a free place

module _ (frags : Frags) (ps : List Placed) (f : Files frags ps) (rest : List ℕ) (place : ℕ) (last : frags.free.items ≡ rest ++ place ∷ []) where
  free_here : AreFree frags.marks.items (rest ++ place ∷ [])
  free_here = subst (AreFree frags.marks.items) last f.vacant

  pub mark_in : place < length frags.marks.items
  mark_in = let h = free_last frags.marks.items rest place free_here in h.0

  apart_here : AllByRecursion (λ p. p.place ≢ place) ps
  apart_here = let h = free_last frags.marks.items rest place free_here in unmarked_apart frags.marks.items place ps f.holds h.1

  some_here : length (filed_frags ps) < length frags.marks.items
  some_here = omega (arith, f.all, ap length last, length-append rest (place ∷ []), filed_long ps)

  pub row_there : place < length frags.keys.arena.rows
  row_there = let k = f.keyed in omega (arith, mark_in, k.rows)

  pub number_there : (family : ℕ) → family < 2 → 0 < length (numbering frags.keys family).spare
  number_there family h = spare_there frags.keys (length frags.marks.items) (filed_frags ps) f.keyed family h some_here

  pub fresh_there : (family head : ℕ) → family < 2 → Apart place (chain_of frags.keys.arena family head)
  fresh_there family head h = fresh_by frags.keys (length frags.marks.items) (filed_frags ps) f.keyed family h place head (all_mapped filed_frag (λ x. x.place ≢ place) ps apart_here)

  pub short_there : (family head : ℕ) → family < 2 → length (chain_of frags.keys.arena family head) < length frags.keys.arena.rows
  short_there family head h = short_by frags.keys (length frags.marks.items) (filed_frags ps) f.keyed family h head some_here

  -- ---- one more

  module _ (new : Frags) (which : FragPlace) (name : List ℕ) where
    abbrev more : Placed
    more = placed_at place (fragment_of which name)

    linked_only : new.marks.items ≡ set frags.marks.items place (Some which) → (at : ℕ) (w : FragPlace) → slot_at new.marks.items at ≡ Some w → HasFrag at (ps ++ more ∷ [])
    linked_only marks at w full =
        ⊎_elim
        (λ (same : place ≡ at). subst (λ (n : ℕ). HasFrag n (ps ++ more ∷ [])) same (frag_last ps more))
        (λ (ne : place ≡ at → ⊥). frag_front at ps more (f.only at w (sym (get_or-set_other frags.marks.items place at (Some which) None (λ e. ne (sym e))) ∙ sym (ap (λ (l : List _). slot_at l at) marks) ∙ full)))
        (cases_eq place at)

    pub linked_files :
        which.id < 2 ^ 32 → new.free.items ≡ rest → vec_capacity new.free ≡ vec_capacity frags.free → new.marks.items ≡ set frags.marks.items place (Some which)
        → KeepsBoth new.keys
        → ((family : ℕ) (key : List ℕ) → family < 2 → chain_in new.keys family key ≡ cond (is_same_text (key_in family name which.id) key) (chain_in frags.keys family key ++ stand_at place which.id ∷ []) (chain_in frags.keys family key))
        → length new.keys.arena.rows ≡ length frags.keys.arena.rows
        → ((family : ℕ) → numbers_in (numbering new.keys family) ≡ numbers_in (numbering frags.keys family))
        → Files new (ps ++ more ∷ [])
    linked_files small free capacity marks keeps chains rows room =
        let h = free_last frags.marks.items rest place free_here in
        let long = ap length marks ∙ length-set frags.marks.items place (Some which) in
        let filed = map-append filed_frag ps (more ∷ []) in
        record {
          keyed = linked_keys frags.keys new.keys (length frags.marks.items) (length new.marks.items) (filed_frags ps) (filed_frags (ps ++ more ∷ [])) place name which.id which.id f.keyed keeps chains rows room long filed;
          holds = subst (λ (l : List _). Marked l (ps ++ more ∷ [])) (sym marks) (all_append (λ (p : Placed). slot_at (set frags.marks.items place (Some which)) p.place ≡ Some p.fragment.which) ps (more ∷ []) (marked_set frags.marks.items place (Some which) ps apart_here f.holds) (get_or-set_same frags.marks.items place (Some which) None h.0, tt));
          only = linked_only marks;
          distinct = places_push ps more f.distinct apart_here;
          small = all_append (λ (p : Placed). p.fragment.which.id < 2 ^ 32) ps (more ∷ []) f.small (small, tt);
          vacant = subst (AreFree new.marks.items) (sym free) (subst (λ (l : List _). AreFree l rest) (sym marks) (free_set frags.marks.items place (Some which) rest h.2 (free_front frags.marks.items rest place free_here)));
          all = omega (arith, f.all, ap length last, length-append rest (place ∷ []), ap length free, length-append ps (more ∷ []), long);
          capacity = omega (arith, f.capacity, capacity, long);
        }

-- ---- one less

pub named_frag : (place id : ℕ) (name : List ℕ) (ps : List Placed) → HasNamed place id name ps → HasFrag place ps
named_frag place id name [] h = absurd h
named_frag place id name (p ∷ ps) (inl h) = inl h.0
named_frag place id name (p ∷ ps) (inr h) = inr (named_frag place id name ps h)

named_stands : (place id : ℕ) (name : List ℕ) (ps : List Placed) → HasNamed place id name ps → StandsBy place name id (filed_frags ps)
named_stands place id name [] h = absurd h
named_stands place id name (p ∷ ps) (inl h) = inl (h.0, h.2, h.1)
named_stands place id name (p ∷ ps) (inr h) = inr (named_stands place id name ps h)

marked_at : (marks : List (Option FragPlace)) (place : ℕ) (ps : List Placed) → Marked marks ps → HasFrag place ps → (which : FragPlace) × (slot_at marks place ≡ Some which)
marked_at marks place [] m h = absurd h
marked_at marks place (p ∷ ps) m (inl same) = (p.fragment.which, sym (ap (slot_at marks) same) ∙ m.0)
marked_at marks place (p ∷ ps) m (inr h) = marked_at marks place ps m.1 h

module _ (place : ℕ) where
  abbrev other : Placed → Bool
  other p = not (eqb p.place place)

  other_is : (p : Placed) → p.place ≢ place → other p ≡ true
  other_is p ne = not_from_false (eqb p.place place) (ne_eqb p.place place ne)

  other_not : (p : Placed) → p.place ≡ place → other p ≡ false
  other_not p same = not_from_true (eqb p.place place) (eq-eqb p.place place same)

  others_all : (ps : List Placed) → AllByRecursion (λ p. p.place ≢ place) ps → without_frag place ps ≡ ps
  others_all ps a = filter_all other ps (all_so (λ (p : Placed). p.place ≢ place) (λ p. other p ≡ true) other_is ps a)

  one_less_frag : (ps : List Placed) → Differ (frag_places ps) → HasFrag place ps → length (without_frag place ps) + 1 ≡ length ps
  one_less_frag [] d h = absurd h
  one_less_frag (p ∷ ps) d h =
      ⊎_elim
      (λ (same : p.place ≡ place).
      let apart = subst (λ (n : ℕ). AllByRecursion (λ (q : Placed). q.place ≢ n) ps) same (all_of_mapped (λ (q : Placed). q.place) (λ n. n ≢ p.place) ps d.0) in
      let less = ap length (filter_drops other p ps (other_not p same) ∙ others_all ps apart) in
      omega (arith, less))
      (λ (ne : p.place ≡ place → ⊥).
      let has = ⊎_elim (λ (same : p.place ≡ place). let none : HasFrag place ps = absurd (ne same) in none) (λ (k : HasFrag place ps). k) h in
      let rest = one_less_frag ps d.1 has in
      let kept = ap length (filter_keeps other p ps (other_is p ne)) in
      omega (arith, rest, kept))
      (cases_eq p.place place)

  marked_less : (marks : List (Option FragPlace)) (ps : List Placed) → Marked marks ps → Marked (set marks place None) (without_frag place ps)
  marked_less marks [] m = tt
  marked_less marks (p ∷ ps) m =
      let rest = marked_less marks ps m.1 in
      ⊎_elim
      (λ (same : p.place ≡ place). subst (Marked (set marks place None)) (sym (filter_drops other p ps (other_not p same))) rest)
      (λ (ne : p.place ≡ place → ⊥). subst (Marked (set marks place None)) (sym (filter_keeps other p ps (other_is p ne))) (get_or-set_other marks place p.place None None ne ∙ m.0, rest))
      (cases_eq p.place place)

  has_less : (at : ℕ) (ps : List Placed) → place ≢ at → HasFrag at ps → HasFrag at (without_frag place ps)
  has_less at [] other_place h = absurd h
  has_less at (p ∷ ps) other_place h =
      ⊎_elim
      (λ (same : p.place ≡ place).
      let has = ⊎_elim (λ (k : p.place ≡ at). let none : HasFrag at ps = absurd (other_place (sym same ∙ k)) in none) (λ (k : HasFrag at ps). k) h in
      subst (HasFrag at) (sym (filter_drops other p ps (other_not p same))) (has_less at ps other_place has))
      (λ (ne : p.place ≡ place → ⊥).
      subst (HasFrag at) (sym (filter_keeps other p ps (other_is p ne))) (⊎_elim (λ (k : p.place ≡ at). let here : HasFrag at (p ∷ without_frag place ps) = inl k in here) (λ (k : HasFrag at ps). inr (has_less at ps other_place k)) h))
      (cases_eq p.place place)

pub among_there : (frags : Frags) (ps : List Placed) (place id : ℕ) (name : List ℕ) → Files frags ps → HasNamed place id name ps → (family : ℕ) → family < 2 → Among place (chain_in frags.keys family (key_in family name id))
among_there frags ps place id name f named family h =
    let k = f.keyed in
    subst (Among place) (sym (k.chains family (key_in family name id) h)) (among_keys family place name id (filed_frags ps) (named_stands place id name ps named))

module _ (frags : Frags) (ps : List Placed) (f : Files frags ps) (place : ℕ) (has : HasFrag place ps) where
  pub full_there : (which : FragPlace) × (slot_at frags.marks.items place ≡ Some which)
  full_there = marked_at frags.marks.items place ps f.holds has

  pub within_there : place < length frags.marks.items
  within_there = full_within frags.marks.items place full_there.0 full_there.1

  pub row_within : place < length frags.keys.arena.rows
  row_within = let k = f.keyed in omega (arith, within_there, k.rows)

  pub free_room : length frags.free.items + 1 ≤ vec_capacity frags.free
  free_room = omega (arith, f.all, f.capacity, one_less_frag place ps f.distinct has)

  module _ (new : Frags) where
    unlinked_only : new.marks.items ≡ set frags.marks.items place None → (at : ℕ) (w : FragPlace) → slot_at new.marks.items at ≡ Some w → HasFrag at (without_frag place ps)
    unlinked_only marks at w full =
        let old = sym (ap (λ (l : List _). slot_at l at) marks) ∙ full in
        ⊎_elim
        (λ (same : place ≡ at).
        let none = sym (get_or-set_same frags.marks.items place None None within_there) ∙ ap (slot_at (set frags.marks.items place None)) same ∙ old in
        absurd (let no : ⊥ = cc in no))
        (λ (ne : place ≡ at → ⊥). has_less place at ps ne (f.only at w (sym (get_or-set_other frags.marks.items place at None None (λ e. ne (sym e))) ∙ old)))
        (cases_eq place at)

    pub unlinked_files :
        new.free.items ≡ frags.free.items ++ place ∷ [] → vec_capacity new.free ≡ vec_capacity frags.free → new.marks.items ≡ set frags.marks.items place None
        → KeepsBoth new.keys
        → ((family : ℕ) (key : List ℕ) → family < 2 → chain_in new.keys family key ≡ without_place place (chain_in frags.keys family key))
        → length new.keys.arena.rows ≡ length frags.keys.arena.rows
        → ((family : ℕ) → numbers_in (numbering new.keys family) ≡ numbers_in (numbering frags.keys family))
        → Files new (without_frag place ps)
    unlinked_files free capacity marks keeps chains rows room =
        let long = ap length marks ∙ length-set frags.marks.items place None in
        let apart = full_apart frags.marks.items frags.free.items place full_there.0 f.vacant full_there.1 in
        let filed = sym (filter_mapped filed_frag (λ x. not (eqb x.place place)) ps) in
        let emptied = free_push (set frags.marks.items place None) frags.free.items place (free_set frags.marks.items place None frags.free.items apart f.vacant) (subst (λ (n : ℕ). place < n) (sym (length-set frags.marks.items place None)) within_there) (get_or-set_same frags.marks.items place None None within_there) apart in
        record {
          keyed = unlinked_keys frags.keys new.keys (length frags.marks.items) (length new.marks.items) (filed_frags ps) (filed_frags (without_frag place ps)) place f.keyed keeps chains rows room long filed;
          holds = subst (λ (l : List _). Marked l (without_frag place ps)) (sym marks) (marked_less place frags.marks.items ps f.holds);
          only = unlinked_only marks;
          distinct = differ_filter (λ (p : Placed). p.place) (other place) ps f.distinct;
          small = all_filter (λ (p : Placed). p.fragment.which.id < 2 ^ 32) (other place) ps f.small;
          vacant = subst (AreFree new.marks.items) (sym free) (subst (λ (l : List _). AreFree l (frags.free.items ++ place ∷ [])) (sym marks) emptied);
          all = omega (arith, f.all, ap length free, length-append frags.free.items (place ∷ []), long, one_less_frag place ps f.distinct has);
          capacity = omega (arith, f.capacity, capacity, long);
        }

-- ---- more room

marked_wider : (marks : List (Option FragPlace)) (count : ℕ) (ps : List Placed) → Marked marks ps → Marked (marks ++ replicate count None) ps
marked_wider marks count [] m = tt
marked_wider marks count (p ∷ ps) m = (same_slot marks count p.place ∙ m.0, marked_wider marks count ps m.1)

blanks_long : (count : ℕ) → length (replicate {A = Option FragPlace} count None) ≡ count
blanks_long count = let none : Option FragPlace = None in length-replicate count none

pub widened_files : (frags new : Frags) (ps : List Placed) (count : ℕ) → Files frags ps → new.keys ≡ frags.keys → new.marks.items ≡ frags.marks.items ++ replicate count None → new.free.items ≡ frags.free.items ++ numbers_from (length frags.marks.items) count → vec_capacity new.free ≡ vec_capacity frags.free → length frags.marks.items + count ≤ vec_capacity frags.free → length frags.marks.items + count ≤ length frags.keys.arena.rows → ((family : ℕ) → family < 2 → length frags.marks.items + count ≤ numbers_in (numbering frags.keys family)) → Files new ps
widened_files frags new ps count f keys marks free capacity enough rows room =
    let long = ap length marks ∙ length-append frags.marks.items (replicate count None) in
    let blanks = blanks_long count in
    let total : length new.marks.items ≡ length frags.marks.items + count = omega (arith, long, blanks) in
    let k = f.keyed in
    let keyed = wider_keys frags.keys frags.keys (length frags.marks.items) (length new.marks.items) (filed_frags ps) (filed_frags ps) k k.keeps (λ family key. refl) (omega (arith, total, rows)) (λ family h. omega (arith, total, room family h)) refl in
    record {
      keyed = subst (λ (t : _). StoresKeys t (length new.marks.items) (filed_frags ps)) (sym keys) keyed;
      holds = subst (λ (l : List _). Marked l ps) (sym marks) (marked_wider frags.marks.items count ps f.holds);
      only = λ at w full. f.only at w (sym (same_slot frags.marks.items count at) ∙ sym (ap (λ (l : List _). slot_at l at) marks) ∙ full);
      distinct = f.distinct;
      small = f.small;
      vacant = subst (AreFree new.marks.items) (sym free) (subst (λ (l : List _). AreFree l (frags.free.items ++ numbers_from (length frags.marks.items) count)) (sym marks) (free_grown count frags.marks.items frags.free.items f.vacant));
      all = omega (arith, f.all, total, ap length free, length-append frags.free.items (numbers_from (length frags.marks.items) count), numbers_long (length frags.marks.items) count);
      capacity = omega (arith, total, enough, capacity);
    }

-- ---- what a place tells

pub frag_at_is : (marks : List (Option FragPlace)) (place : ℕ) (ps : List Placed) → Marked marks ps → HasFrag place ps → slot_at marks place ≡ frag_at place ps
frag_at_is marks place [] m h = absurd h
frag_at_is marks place (p ∷ ps) m h =
    ⊎_elim
    (λ (same : p.place ≡ place). sym (ap (slot_at marks) same) ∙ m.0 ∙ sym (cond-true _ (Some p.fragment.which) (frag_at place ps) (eq-eqb p.place place same)))
    (λ (ne : p.place ≡ place → ⊥).
    let has = ⊎_elim (λ (same : p.place ≡ place). let none : HasFrag place ps = absurd (ne same) in none) (λ (k : HasFrag place ps). k) h in
    frag_at_is marks place ps m.1 has ∙ sym (cond-false _ (Some p.fragment.which) (frag_at place ps) (ne_eqb p.place place ne)))
    (cases_eq p.place place)

no_frag_at : (place : ℕ) (ps : List Placed) → AllByRecursion (λ p. p.place ≢ place) ps → None ≡ frag_at place ps
no_frag_at place [] a = refl
no_frag_at place (p ∷ ps) a = no_frag_at place ps a.1 ∙ sym (cond-false _ (Some p.fragment.which) (frag_at place ps) (ne_eqb p.place place a.0))

mark_cases : (o : Option FragPlace) → (o ≡ None) ⊎ ((which : FragPlace) × (o ≡ Some which))
mark_cases None = inl refl
mark_cases (Some which) = inr (which, refl)

pub mark_is : (frags : Frags) (ps : List Placed) (place : ℕ) → Files frags ps → slot_at frags.marks.items place ≡ frag_at place ps
mark_is frags ps place f =
    ⊎_elim
    (λ (none : slot_at frags.marks.items place ≡ None). none ∙ no_frag_at place ps (unmarked_apart frags.marks.items place ps f.holds none))
    (λ (some : (which : FragPlace) × (slot_at frags.marks.items place ≡ Some which)). frag_at_is frags.marks.items place ps f.holds (f.only place some.0 some.1))
    (mark_cases (slot_at frags.marks.items place))
