use Rattle.dump_job.proofs.Searching.{found_stands}
use Rattle.dump_job.proofs.Slots.{place_stands}
use Rattle.dump_job.proofs.first_tapes.find_place.Goals as goal

pub returns-clause-stands : goal.returns-clause-stands
returns-clause-stands g c =
    let P = g.P.Plant in
    let old = c.args.plant.now in
    let e = c.in_ok-found.ensures in
    let o = c.args.order.now in
    found_stands P c.in_ok-found.found old c.find_append.new.plant (λ tells. e.loads) (place_stands P old c.args.listed.now o.set o.port c.in_ok-found.found e.appending)
