use Rattle.std.proofs.Common.{◌≡◌, ℕ, List, [], ◌∷◌, ◌++◌, Some, None, length, map, sym, ◌∙◌, ap, append_assoc, arith}
use Rattle.std.proofs.lemmas.List.{append-nil}
use Rattle.budb_links.specs.declared.frags.FragPlace.{FragPlace}
use Rattle.budb_links.specs.Linked.{listed}
use Rattle.budb_index.specs.Walks.{volume_left, unless_last, runs_behind}
use Rattle.budb_index.proofs.Runs.{holders_met}
use Rattle.budb_index.proofs.holders.met.Goals as goal

abbrev ids_in : List FragPlace → List ℕ
ids_in = map (λ (w : FragPlace). w.id)

pub loop-frag-init : goal.loop-frag-init
loop-frag-init g c =
    let whole = c.first_of_volume-at.ensures.whole in
    record {
      stands = c.first_of_volume-at.ensures.stands;
      ids = ap (λ (l : List ℕ). l ++ runs_behind None (ids_in (volume_left c.args.name.now c.first_of_volume-at.result c.args.links.now.frags))) c.new-ids.ensures
          ∙ ap (λ (l : List FragPlace). runs_behind None (ids_in l)) whole
          ∙ holders_met c.args.name.now (listed c.args.links.now) c.requires.keeps;
      cost = omega (arith, ap length whole, c.first_of_volume-at.ensures.cost);
    }

pub loop-frag-preserved : goal.loop-frag-preserved
loop-frag-preserved g c =
    let ps = c.args.links.now.frags in
    let frag = c.in-Some.frag in
    let rest = volume_left c.args.name.now c.next_of_volume.new.at ps in
    let left : volume_left c.args.name.now c.loop-frag.at ps ≡ frag ∷ rest = c.in-Some.ensures.next in
    let ids = c.loop-frag.ids in
    let last = c.loop-frag.last in
    record {
      stands = c.next_of_volume.ensures.stands;
      ids = ap (λ (l : List ℕ). l ++ runs_behind (Some frag.id) (ids_in rest)) c.in_ok-push_unless_last.ensures
          ∙ append_assoc ids (unless_last last frag.id) (runs_behind (Some frag.id) (ids_in rest))
          ∙ sym (ap (λ (l : List FragPlace). ids ++ runs_behind last (ids_in l)) left)
          ∙ c.loop-frag.invariant.ids;
      cost = omega (arith, c.loop-frag.invariant.cost, c.next_of_volume.ensures.cost);
    }

pub loop-frag-smaller : goal.loop-frag-smaller
loop-frag-smaller g c =
    let ps = c.args.links.now.frags in
    let rest = volume_left c.args.name.now c.next_of_volume.new.at ps in
    let left : volume_left c.args.name.now c.loop-frag.at ps ≡ c.in-Some.frag ∷ rest = c.in-Some.ensures.next in
    omega (arith, ap length left)

pub returns-clause-ids : goal.returns-clause-ids
returns-clause-ids g c =
    let left : volume_left c.args.name.now c.loop-frag.at c.args.links.now.frags ≡ [] = c.in_default.ensures.next in
    let ids = c.loop-frag.ids in
    sym (append-nil ids) ∙ sym (ap (λ (l : List FragPlace). ids ++ runs_behind c.loop-frag.last (ids_in l)) left) ∙ c.loop-frag.invariant.ids
