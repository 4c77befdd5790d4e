-- Which parts lead to the end of their dump.
use Rattle.std.proofs.Common.{◌≡◌, inl, inr, ℕ, zero, suc, ◌+◌, ◌≤◌, Bool, true, List, [], ◌∷◌, map, get_or, sym, ◌∙◌, ap, arith}
use Rattle.std.specs.Prelude.{Contains, nat_lt, filter, if◌then◌else◌}
use Rattle.std.specs.Bool.{Decides}
use Rattle.std.specs.List.{list_any}
use Rattle.std.proofs.lemmas.Bool.{cases_Bool, ltb-true, ltb-false, or_cases, or_left, or_right}
use Rattle.tape_scan.specs.declared.sections.PartFound.{PartFound}
use Rattle.tape_scan.specs.AssembledSteps.{Leads, Completes, Stands, AreKnown}
use Rattle.tape_scan.proofs.ListLaws.{contains_filter, of_filter}
use Rattle.tape_answers.specs.GoingOn.{goes_on, is_ending}
use Rattle.tape_answers.specs.Assembling.{greatest, leads_within, completes}
use Rattle.tape_answers.proofs.GoingOnLaws.{next_told, ending_told}
use Rattle.tape_answers.proofs.ListLaws.{here_or_there, nowhere, any_from, any_to}

-- ---- the greatest number of a part

both_upto : (p : PartFound) (ps : List PartFound) → (p.head.part ≤ greatest (p ∷ ps)) × (greatest ps ≤ greatest (p ∷ ps))
both_upto p ps = elim (cases_Bool (nat_lt (greatest ps) p.head.part)) [
  | inl e ↦
      (let same : greatest (p ∷ ps) ≡ p.head.part = ap (λ (b : Bool). if b then p.head.part else greatest ps) e in
      let more = ltb-true (greatest ps) p.head.part e in
      (omega (arith, same), omega (arith, same, more)))
  | inr e ↦
      (let same : greatest (p ∷ ps) ≡ greatest ps = ap (λ (b : Bool). if b then p.head.part else greatest ps) e in
      let less = ltb-false (greatest ps) p.head.part e in
      (omega (arith, same, less), omega (arith, same)))
]

pub is_upto : (all : List PartFound) (p : PartFound) → Contains all p → p.head.part ≤ greatest all
is_upto [] p member = absurd (nowhere p member)
is_upto (q ∷ all) p member = elim (here_or_there q all p member) [
  | inl is ↦ (let same : q.head.part ≡ p.head.part = ap (λ (x : PartFound). x.head.part) is in let both = both_upto q all in omega (arith, same, both.0))
  | inr rest ↦ (let less = is_upto all p rest in let both = both_upto q all in omega (arith, less, both.1))
]

-- ---- the test

led : (all : List PartFound) (n : ℕ) (p : PartFound) → leads_within all n p ≡ true → Completes all p
led all zero p e = ([], (ending_told p).0 e)
led all (suc n) p e = elim (or_cases (is_ending p) (list_any (leads_within all n) (filter (goes_on p) all)) e) [
  | inl ends ↦ ([], (ending_told p).0 ends)
  | inr any ↦
      (let q = any_to (leads_within all n) (filter (goes_on p) all) any in
      let member = of_filter (goes_on p) all q.0 q.1 in
      let rest = led all n q.0 q.2 in
      (q.0 ∷ rest.0, (member.0, (next_told p q.0).0 member.1, rest.1)))
]

leads : (all : List PartFound) (n : ℕ) (p : PartFound) (path : List PartFound) → Leads all p path → greatest all ≤ p.head.part + n → leads_within all n p ≡ true
leads all zero p [] ends le = (ending_told p).1 ends
leads all zero p (q ∷ path) goes le = absurd (let upto = is_upto all q goes.0 in let next = goes.1.part in omega (arith, le, upto, next))
leads all (suc n) p [] ends le = or_left (is_ending p) (list_any (leads_within all n) (filter (goes_on p) all)) ((ending_told p).1 ends)
leads all (suc n) p (q ∷ path) goes le =
    let next = goes.1.part in
    or_right (is_ending p) (list_any (leads_within all n) (filter (goes_on p) all))
    (any_from (leads_within all n) (filter (goes_on p) all) q (contains_filter (goes_on p) all q goes.0 ((next_told p q).1 goes.1)) (leads all n q path goes.2 (omega (arith, le, next))))

pub completes_told : (all : List PartFound) (p : PartFound) → Decides (completes all p) (Completes all p)
unfolding completes
completes_told all p = (led all (greatest all) p, (λ c. leads all (greatest all) p c.0 c.1 (omega arith)))

-- ---- the flags of all parts

pub flag_at : (test : PartFound → Bool) (all : List PartFound) (k : ℕ) (p : PartFound) (other : Bool) → Stands all k p → get_or (map test all) k other ≡ test p
flag_at test [] k p other stands = absurd (omega (arith, stands.0))
flag_at test (q ∷ all) zero p other stands = ap test stands.1
flag_at test (q ∷ all) (suc k) p other stands = flag_at test all k p other (omega (arith, stands.0), stands.1)

pub are_known : (all : List PartFound) → AreKnown all (map (completes all) all)
are_known all = λ k p stands.
    let flag = flag_at (completes all) all k p _ stands in
    ((λ on. (completes_told all p).0 (sym flag ∙ on)), (λ c. flag ∙ (completes_told all p).1 c))
