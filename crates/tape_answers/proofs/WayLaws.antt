-- Parts with their places, and the first way from one on.
use Rattle.std.proofs.Common.{◌≡◌, inl, inr, ℕ, zero, suc, ◌+◌, ◌<◌, ◌≤◌, Bool, true, false, Option, Some, None, List, [], ◌∷◌, map, refl, sym, ◌∙◌, ap, subst, arith}
use Rattle.std.specs.Prelude.{◌&&◌, Contains}
use Rattle.std.proofs.lemmas.Bool.{and_parts, and_from}
use Rattle.tape_scan.specs.declared.sections.PartFound.{PartFound}
use Rattle.tape_scan.specs.AssembledSteps.{Stands, IsFlagged, ToldNext, HasNoNext, IsFirstNext}
use Rattle.tape_scan.specs.AssembledPaths.{Walks}
use Rattle.tape_scan.specs.AssembledRecords.{ArePlaced}
use Rattle.tape_scan.proofs.AssemblingSteps.{one_stands}
use Rattle.tape_answers.specs.GoingOn.{goes_on}
use Rattle.tape_answers.specs.Assembling.{Placed, placed_from, greatest, completes, next_of, with_rest, walk_within}
use Rattle.tape_answers.proofs.GoingOnLaws.{next_told}
use Rattle.tape_answers.proofs.CompletingLaws.{is_upto, flag_at}
use Rattle.tape_answers.proofs.ListLaws.{here, there, here_or_there, nowhere, all_members, Ascends, find_there, find_nowhere, find_first}

-- ---- places

place_in : (at : ℕ) (ps : List PartFound) (z : Placed) → Contains (placed_from at ps) z → (k : ℕ) × (z.at ≡ at + k) × Stands ps k z.part
place_in at [] z member = absurd (nowhere z member)
place_in at (p ∷ ps) z member = elim (here_or_there (record { at = at; part = p }) (placed_from (suc at) ps) z member) [
  | inl is ↦ (let same : at ≡ z.at = ap (λ (x : Placed). x.at) is in (0, omega (arith, same), (omega arith, ap (λ (x : Placed). x.part) is)))
  | inr rest ↦ (let found = place_in (suc at) ps z rest in (suc found.0, omega (arith, found.1), (omega (arith, found.2.0), found.2.1)))
]

in_place : (at : ℕ) (ps : List PartFound) (k : ℕ) (p : PartFound) (place : ℕ) → place ≡ at + k → Stands ps k p → Contains (placed_from at ps) (record { at = place; part = p })
in_place at [] k p place same stands = absurd (omega (arith, stands.0))
in_place at (q ∷ ps) zero p place same stands =
    let first : at ≡ place = omega (arith, same) in
    subst (Contains (placed_from at (q ∷ ps))) (λ i. record { at = first i; part = stands.1 i }) (here (record { at = at; part = q }) (placed_from (suc at) ps))
in_place at (q ∷ ps) (suc k) p place same stands =
    there (record { at = at; part = q }) (placed_from (suc at) ps) (record { at = place; part = p }) (in_place (suc at) ps k p place (omega (arith, same)) (omega (arith, stands.0), stands.1))

pub placed_stands : (all : List PartFound) (z : Placed) → Contains (placed_from 0 all) z → Stands all z.at z.part
placed_stands all z member =
    let found = place_in 0 all z member in
    let same : found.0 ≡ z.at = omega (arith, found.1) in
    subst (λ (n : ℕ). Stands all n z.part) same found.2

pub stands_placed : (all : List PartFound) (k : ℕ) (p : PartFound) → Stands all k p → Contains (placed_from 0 all) (record { at = k; part = p })
stands_placed all k p stands = in_place 0 all k p k (omega arith) stands

places_ascend : (at : ℕ) (ps : List PartFound) → Ascends (λ (z : Placed). z.at) (placed_from at ps)
places_ascend at [] = tt
places_ascend at (p ∷ ps) = (
  all_members (λ (z : Placed). at < z.at) (placed_from (suc at) ps) (λ z member. let found = place_in (suc at) ps z member in omega (arith, found.1)),
  places_ascend (suc at) ps,
)

pub ascend : (all : List PartFound) → Ascends (λ (z : Placed). z.at) (placed_from 0 all)
ascend all = places_ascend 0 all

pub one_placed : (all : List PartFound) (y z : Placed) → Stands all y.at y.part → Stands all z.at z.part → y.at ≡ z.at → y ≡ z
one_placed all y z in_y in_z same =
    let part : y.part ≡ z.part = one_stands all z.at y.part z.part (subst (λ (n : ℕ). Stands all n y.part) same in_y) in_z in
    λ i. record { at = same i; part = part i }

pub are_placed : (all : List PartFound) (zs : List Placed) → ((z : Placed) → Contains zs z → Stands all z.at z.part) → ArePlaced all (map (λ (z : Placed). z.at) zs) (map (λ (z : Placed). z.part) zs)
are_placed all [] each = tt
are_placed all (z ∷ zs) each = (each z (here z zs), are_placed all zs (λ y member. each y (there z zs y member)))

-- ---- the next part

abbrev pub flags : List PartFound → List Bool
flags all = map (completes all) all

pub flag_on : (all : List PartFound) (k : ℕ) (p : PartFound) → Stands all k p → IsFlagged (flags all) k → completes all p ≡ true
flag_on all k p stands on = sym (flag_at (completes all) all k p false stands) ∙ on

pub on_flag : (all : List PartFound) (k : ℕ) (p : PartFound) → Stands all k p → completes all p ≡ true → IsFlagged (flags all) k
on_flag all k p stands on = flag_at (completes all) all k p false stands ∙ on

goes_there : (all : List PartFound) (z : Placed) (k : ℕ) (r : PartFound) → Stands all k r → IsFlagged (flags all) k → ToldNext z.part r → (completes all r && goes_on z.part r) ≡ true
goes_there all z k r stands on next = and_from (completes all r) (goes_on z.part r) (flag_on all k r stands on) ((next_told z.part r).1 next)

pub no_next : (all : List PartFound) (z : Placed) → next_of all z ≡ None → HasNoNext all (flags all) z.part
no_next all z e = λ k r stands on next.
    find_nowhere (λ (y : Placed). completes all y.part && goes_on z.part y.part) (placed_from 0 all) (record { at = k; part = r }) e (stands_placed all k r stands) (goes_there all z k r stands on next)

pub next_placed : (all : List PartFound) (z y : Placed) → next_of all z ≡ Some y → Stands all y.at y.part
next_placed all z y e = placed_stands all y (find_there (λ (x : Placed). completes all x.part && goes_on z.part x.part) (placed_from 0 all) y e).0

pub first_next : (all : List PartFound) (z y : Placed) → next_of all z ≡ Some y → IsFirstNext all (flags all) z.part y.at y.part
first_next all z y e =
    let found = find_there (λ (x : Placed). completes all x.part && goes_on z.part x.part) (placed_from 0 all) y e in
    let stands = placed_stands all y found.0 in
    let both = and_parts (completes all y.part) (goes_on z.part y.part) found.1 in
    record {
      stands = stands;
      flagged = on_flag all y.at y.part stands both.0;
      next = (next_told z.part y.part).0 both.1;
      first = λ k r lt there on next.
          find_first (λ (x : Placed). x.at) (λ (x : Placed). completes all x.part && goes_on z.part x.part) (placed_from 0 all) y (record { at = k; part = r }) (ascend all) e (stands_placed all k r there) lt (goes_there all z k r there on next);
    }

-- ---- the way on

-- from a part on these are walked to the last one
pub record WalksOn (all : List PartFound) (z : Placed) (zs : List Placed) : Type 0 where
  pub last : ℕ
  pub end : PartFound
  pub walks : Walks all (flags all) z.at z.part (map (λ (y : Placed). y.at) zs) last end
  pub end_stands : Stands all last end
  pub no_next : HasNoNext all (flags all) end
  pub each : (y : Placed) → Contains zs y → Stands all y.at y.part

stays : (all : List PartFound) (z : Placed) → Stands all z.at z.part → HasNoNext all (flags all) z.part → WalksOn all z []
stays all z stands none = record { last = z.at; end = z.part; walks = (refl, refl); end_stands = stands; no_next = none; each = λ y member. absurd (nowhere y member) }

goes_further : (all : List PartFound) (z y : Placed) (zs : List Placed) → next_of all z ≡ Some y → WalksOn all y zs → WalksOn all z (y ∷ zs)
goes_further all z y zs e rest = record {
  last = rest.last;
  end = rest.end;
  walks = (y.part, first_next all z y e, rest.walks);
  end_stands = rest.end_stands;
  no_next = rest.no_next;
  each = λ x member. elim (here_or_there y zs x member) [
    | inl is ↦ subst (λ (w : Placed). Stands all w.at w.part) is (next_placed all z y e)
    | inr later ↦ rest.each x later
  ];
}

pub walks_on : (all : List PartFound) (n : ℕ) (z : Placed) → Stands all z.at z.part → greatest all ≤ z.part.head.part + n → WalksOn all z (walk_within all n z)
walks_on all zero z stands le =
    stays all z stands (λ k r there on next. absurd (let upto = is_upto all r (k, there.0, there.1) in let more = next.part in omega (arith, le, upto, more)))
walks_on all (suc n) z stands le = go (walks_on all n) (next_of all z) refl
  where
    go : ((y : Placed) → Stands all y.at y.part → greatest all ≤ y.part.head.part + n → WalksOn all y (walk_within all n y)) → (o : Option Placed) → next_of all z ≡ o → WalksOn all z (with_rest (walk_within all n) o)
    go rest None e = stays all z stands (no_next all z e)
    go rest (Some y) e =
        let next = (first_next all z y e).next.part in
        goes_further all z y (walk_within all n y) e (rest y (next_placed all z y e) (omega (arith, le, next)))

pub way_walks : (all : List PartFound) (z : Placed) → Stands all z.at z.part → WalksOn all z (walk_within all (greatest all) z)
way_walks all z stands = walks_on all (greatest all) z stands (omega arith)
