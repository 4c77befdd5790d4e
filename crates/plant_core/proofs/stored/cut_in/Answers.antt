use Rattle.std.proofs.Common.{◌<◌, length, take, sym, ◌∙◌, ap, rules}
use Rattle.plant_core.specs.Tapes.{records_in}
use Rattle.plant_core.proofs.TapeLists.{records_at_at, records_at_set, records_in-take}
use Rattle.plant_core.proofs.stored.cut_in.Goals as goal

pub returns-clause-cut : goal.returns-clause-cut
returns-clause-cut c = λ k.
    let below : c.args.slot < length c.args.tapes.now.items = search rules in
    let is = records_at_at c.args.tapes.now.items c.args.slot c.index_mut.result.now below c.index_mut.ensures.value in
    records_at_set c.args.tapes.now.items c.args.slot c.truncate.new.self (take c.args.n) k below
    (ap records_in c.truncate.ensures.items ∙ records_in-take c.args.n c.index_mut.result.now.items ∙ ap (take c.args.n) (sym is))
