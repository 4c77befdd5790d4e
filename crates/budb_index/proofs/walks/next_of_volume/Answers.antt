use Rattle.std.proofs.Common.{◌+◌, Option, refl, sym, ◌∙◌, subst, arith}
use Rattle.budb_links.specs.Frags.{frag_at}
use Rattle.budb_index.specs.Walks.{IsNext, volume_left}
use Rattle.budb_index.proofs.Walking.{is_next, is_paid}
use Rattle.budb_index.proofs.SetLeft.{volume_turns}
use Rattle.budb_index.proofs.walks.next_of_volume.Goals as goal

pub returns-in-Some-clause-stands : goal.returns-in-Some-clause-stands
returns-in-Some-clause-stands g c =
    let s = c.requires.stands in
    (s.0 + 1, c.walk_volume.ensures.behind s.0 c.in-Some.place refl (sym s.1 ∙ c.in-Some.is))

pub returns-in-Some-clause-next : goal.returns-in-Some-clause-next
returns-in-Some-clause-next g c =
    let s = c.requires.stands in
    let all = c.args.links.now.frags in
    let key = c.args.key.now in
    let next = c.walk_volume.result in
    let turned = volume_turns key all c.args.at.now next s.0 c.in-Some.place c.frag_at.ensures.apart s.1 c.in-Some.is (c.walk_volume.ensures.behind s.0 c.in-Some.place refl (sym s.1 ∙ c.in-Some.is)) in
    subst (λ (o : Option _). IsNext o (volume_left key c.args.at.now all) (volume_left key next all)) (sym c.frag_at.ensures.frag) (is_next (frag_at c.in-Some.place all) (volume_left key c.args.at.now all) (volume_left key next all) turned)

pub returns-in-Some-clause-cost : goal.returns-in-Some-clause-cost
returns-in-Some-clause-cost g c =
    let s = c.requires.stands in
    let all = c.args.links.now.frags in
    let key = c.args.key.now in
    let next = c.walk_volume.result in
    let turned = volume_turns key all c.args.at.now next s.0 c.in-Some.place c.frag_at.ensures.apart s.1 c.in-Some.is (c.walk_volume.ensures.behind s.0 c.in-Some.place refl (sym s.1 ∙ c.in-Some.is)) in
    is_paid (frag_at c.in-Some.place all) (volume_left key c.args.at.now all) (volume_left key next all) c.args.steps.now c.frag_at.new.steps turned (omega (arith, c.walk_volume.ensures.cost, c.frag_at.ensures.cost))
