use Rattle.std.proofs.Common.{ℕ, ◌-◌, ◌≤◌, List, [], ◌∷◌, ◌++◌, length, sym, ◌∙◌, ap, subst, arith}
use Rattle.std.specs.Prelude.{All, IsTrue}
use Rattle.std.specs.List.{filter, range_with_len}
use Rattle.backup_session.proofs.ScanLaws.{here_more, few_here, all_here}
use Rattle.backup_session.proofs.scanning.slots_here.Goals as goal

pub loop-slot-preserved : goal.loop-slot-preserved
loop-slot-preserved g c =
    let p = (g.P.Plant.view c.args.plant.now).present in
    let k : ℕ = c.loop-slot.slot in
    record {
      slots = c.in_ok-push_here.ensures ∙ ap (λ (l : List ℕ). l ++ filter p (k ∷ [])) c.loop-slot.invariant.slots ∙ here_more p c.args.port.now.first k c.loop-slot.invariant.above;
      above = omega (arith, c.loop-slot.invariant.above);
    }

pub returns-clause-few : goal.returns-clause-few
returns-clause-few g c =
    let P = g.P.Plant in
    let plant = c.args.plant.now in
    let first = c.args.port.now.first in
    let n = c.loop-slot.slot - first in
    let few = few_here (P.view plant).present (P.view plant).slots (λ k here. g.met.P.Plant.here_below plant k c.requires here) first n in
    let most : length (filter (P.view plant).present (range_with_len first n)) ≤ 65535 = omega (arith, few, g.met.P.Plant.few_slots plant c.requires) in
    subst (λ (l : List ℕ). length l ≤ 65535) (sym c.loop-slot.invariant.slots) most

pub returns-clause-here : goal.returns-clause-here
returns-clause-here g c =
    let p = (g.P.Plant.view c.args.plant.now).present in
    let first = c.args.port.now.first in
    subst (λ (l : List ℕ). All (λ (k : ℕ). IsTrue (p k)) l) (sym c.loop-slot.invariant.slots) (all_here p (range_with_len first (c.loop-slot.slot - first)))
