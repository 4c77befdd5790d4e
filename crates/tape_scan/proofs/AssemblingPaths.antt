-- Ways from part to part, and the first of each dump.
use Rattle.std.proofs.Common.{◌≡◌, ℕ, ◌+◌, ◌<◌, ◌≤◌, Bool, Option, Some, None, List, [], ◌∷◌, ◌++◌, refl, sym, ap, subst, ◌∙◌, arith, inl, inr}
use Rattle.std.specs.Prelude.{MatchOption}
use Rattle.std.proofs.lemmas.List.Elements.{All-push, All-weaker, Contains-push, Contains-append_left}
use Rattle.std.proofs.lemmas.List.Quantifiers.{all_pairs_push}
use Rattle.tape_scan.specs.declared.sections.PartFound.{PartFound}
use Rattle.tape_scan.specs.declared.assembling_chains.Chain.{Chain}
use Rattle.tape_scan.specs.AssembledSteps.{Stands, IsFlagged, HasNoNext, IsFirstNext}
use Rattle.tape_scan.specs.AssembledPaths.{Walks, IsWalkTo, IsWalk, IsBegin, IsNextBegin, IsChain, AreChainsBelow}
use Rattle.tape_scan.proofs.ListLaws.{either}
use Rattle.tape_scan.proofs.AssemblingSteps.{one_stands, last_or_before}

-- ---- ways

walks_push : (all : List PartFound) (good : List Bool) (at : ℕ) (p : PartFound) (js : List ℕ) (last : ℕ) (end : PartFound) (j : ℕ) (q : PartFound) → Walks all good at p js last end → IsFirstNext all good end j q → Walks all good at p (js ++ j ∷ []) j q
walks_push all good at p [] last end j q walks next = (q, subst (λ (x : PartFound). IsFirstNext all good x j q) (sym walks.1) next, (refl, refl))
walks_push all good at p (i ∷ js) last end j q walks next = (walks.0, walks.1, walks_push all good i walks.0 js last end j q walks.2 next)

pub walk_begun : (all : List PartFound) (good : List Bool) (begin : ℕ) (p : PartFound) (places : List ℕ) → Stands all begin p → places ≡ begin ∷ [] → IsWalkTo all good begin places begin
walk_begun all good begin p places stands is = record { first = p; stands = stands; rest = []; is = is; end = p; end_stands = stands; walks = (refl, refl) }

pub walk_further : (all : List PartFound) (good : List Bool) (begin : ℕ) (places : List ℕ) (at : ℕ) (p : PartFound) (next : ℕ) (q : PartFound) (more : List ℕ) → IsWalkTo all good begin places at → Stands all at p → IsFirstNext all good p next q → more ≡ places ++ next ∷ [] → IsWalkTo all good begin more next
walk_further all good begin places at p next q more walk stands is_next joined =
    let goes : IsFirstNext all good walk.end next q = subst (λ (x : PartFound). IsFirstNext all good x next q) (one_stands all at p walk.end stands walk.end_stands) is_next in
    record {
      first = walk.first;
      stands = walk.stands;
      rest = walk.rest ++ next ∷ [];
      is = joined ∙ ap (λ (l : List ℕ). l ++ next ∷ []) walk.is;
      end = q;
      end_stands = is_next.stands;
      walks = walks_push all good begin walk.first walk.rest at walk.end next q walk.walks goes;
    }

pub walk_ended : (all : List PartFound) (good : List Bool) (begin : ℕ) (places : List ℕ) (at : ℕ) (p : PartFound) → IsWalkTo all good begin places at → Stands all at p → HasNoNext all good p → IsWalk all good begin places
walk_ended all good begin places at p walk stands none = record {
  last = at;
  walk = walk;
  no_next = subst (HasNoNext all good) (one_stands all at p walk.end stands walk.end_stands) none;
}

-- ---- the next dump

-- the best one stands before this place, and has this id; where there is none, the id is above all
abbrev pub IsBest : List PartFound → ℕ → Option ℕ → ℕ → Type 0
IsBest all count best below = MatchOption best (below ≡ 4294967296) (λ at. (at < count) × ((p : PartFound) → Stands all at p → p.head.id ≡ below))

same_begin : (all : List PartFound) (good : List Bool) (i k : ℕ) (p q : PartFound) → k ≡ i → Stands all i p → IsBegin all good k q → p ≡ q
same_begin all good i k p q same stands begin = one_stands all k p q (subst (λ (n : ℕ). Stands all n p) (sym same) stands) begin.stands

pub begin_taken : (all : List PartFound) (good : List Bool) (least i : ℕ) (best : Option ℕ) (below : ℕ) (p : PartFound) (id : ℕ) → IsNextBegin all good least i best → IsBest all i best below → Stands all i p → IsFlagged good i → p.head.part ≡ 1 → id ≡ p.head.id → least ≤ id → id < below
    → IsNextBegin all good least (i + 1) (Some i) × IsBest all (i + 1) (Some i) id
begin_taken all good least i None below p id next best stands flagged part is low lt = (
  (
    p,
    record { stands = stands; flagged = flagged; part = part },
    omega (arith, is, low),
    (λ k q before begin le. elim (last_or_before k i before) [
      | inl less ↦ absurd (next k q less begin le)
      | inr same ↦ (let one = ap (λ (x : PartFound). x.head.id) (same_begin all good i k p q same stands begin) in (omega (arith, one), (λ equal. omega (arith, same))))
    ]),
  ),
  (omega arith, (λ q there. ap (λ (x : PartFound). x.head.id) (one_stands all i q p there stands) ∙ sym is)),
)
begin_taken all good least i (Some b) below p id next best stands flagged part is low lt = (
  (
    p,
    record { stands = stands; flagged = flagged; part = part },
    omega (arith, is, low),
    (λ k q before begin le. elim (last_or_before k i before) [
      | inl less ↦
          (let old = next.3 k q less begin le in
          let id_was = best.1 next.0 next.1.stands in
          (omega (arith, old.0, id_was, lt, is), (λ equal. absurd (omega (arith, old.0, id_was, lt, is, equal)))))
      | inr same ↦ (let one = ap (λ (x : PartFound). x.head.id) (same_begin all good i k p q same stands begin) in (omega (arith, one), (λ equal. omega (arith, same))))
    ]),
  ),
  (omega arith, (λ q there. ap (λ (x : PartFound). x.head.id) (one_stands all i q p there stands) ∙ sym is)),
)

pub begin_kept : (all : List PartFound) (good : List Bool) (least i : ℕ) (best : Option ℕ) (below : ℕ) (p : PartFound) → IsNextBegin all good least i best → IsBest all i best below → Stands all i p → p.head.id < 4294967296 → (IsFlagged good i → p.head.part ≡ 1 → least ≤ p.head.id → p.head.id < below → ⊥)
    → IsNextBegin all good least (i + 1) best × IsBest all (i + 1) best below
begin_kept all good least i None below p next best stands small not = (
  (λ k q before begin le. elim (last_or_before k i before) [
    | inl less ↦ next k q less begin le
    | inr same ↦
        (let one = same_begin all good i k p q same stands begin in
        not (subst (IsFlagged good) same begin.flagged) (ap (λ (x : PartFound). x.head.part) one ∙ begin.part) (omega (arith, le, ap (λ (x : PartFound). x.head.id) one)) (omega (arith, small, best)))
  ]),
  best,
)
begin_kept all good least i (Some b) below p next best stands small not = (
  (
    next.0,
    next.1,
    next.2,
    (λ k q before begin le. elim (last_or_before k i before) [
      | inl less ↦ next.3 k q less begin le
      | inr same ↦
          (let one = same_begin all good i k p q same stands begin in
          let ids = ap (λ (x : PartFound). x.head.id) one in
          let not_less : p.head.id < below → ⊥ = not (subst (IsFlagged good) same begin.flagged) (ap (λ (x : PartFound). x.head.part) one ∙ begin.part) (omega (arith, le, ids)) in
          let id_was = best.1 next.0 next.1.stands in
          (omega (arith, not_less, id_was, ids), (λ equal. omega (arith, best.0, same))))
    ]),
  ),
  (omega (arith, best.0), best.1),
)

-- ---- one dump more

pub chains_more : (all : List PartFound) (good : List Bool) (least : ℕ) (chains : List Chain) (begin : ℕ) (p : PartFound) (c : Chain) (more : List Chain) (above : ℕ) → AreChainsBelow all good least chains → IsBegin all good begin p → least ≤ p.head.id
    → ((k : ℕ) (q : PartFound) → IsBegin all good k q → least ≤ q.head.id → (p.head.id ≤ q.head.id) × (q.head.id ≡ p.head.id → begin ≤ k)) → IsWalk all good begin c.places → c.id ≡ p.head.id → more ≡ chains ++ c ∷ [] → above ≡ p.head.id + 1 → AreChainsBelow all good above more
chains_more all good least chains begin p c more above before is_begin low first walk id joined up =
    let is_chain : IsChain all good c = record {
      begin = begin;
      head = p;
      is = is_begin;
      id = sym id;
      first = λ k q begins same. (first k q begins (omega (arith, low, same, id))).1 (same ∙ id);
      walk = walk;
    } in
    subst (λ (l : List Chain). AreChainsBelow all good above l) (sym joined)
    (record {
      each = All-push (IsChain all good) chains c before.each is_chain;
      below = All-push (λ (d : Chain). d.id < above) chains c (All-weaker (λ (d : Chain). d.id < least) (λ (d : Chain). d.id < above) (λ d lt. omega (arith, lt, low, up)) chains before.below) (omega (arith, id, up));
      ascending = all_pairs_push (λ (d e : Chain). d.id < e.id) chains c before.ascending (λ k d lt. let less = before.below k d lt in omega (arith, less, low, id));
      complete = λ k q begins lt. elim (either q.head.id least) [
        | inl less ↦ (let found = before.complete k q begins less in (found.0, Contains-append_left chains (c ∷ []) found.0 found.1, found.2))
        | inr ge ↦ (c, Contains-push chains c, omega (arith, id, lt, up, (first k q begins ge).0))
      ];
    })
