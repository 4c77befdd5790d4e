use Rattle.std.proofs.Common.{◌<◌, [], ◌∷◌, ◌++◌, length, List, sym, ◌∙◌, ap, rules}
use Rattle.plant_core.specs.Records.{Record}
use Rattle.plant_core.specs.Tapes.{record_of, records_in}
use Rattle.plant_core.proofs.TapeLists.{records_at_at, records_at_set, records_at_set_back, records_in-push}
use Rattle.plant_core.proofs.stored.push_in.Goals as goal

pub returns-in-Ok-clause-ok : goal.returns-in-Ok-clause-ok
returns-in-Ok-clause-ok c = λ k.
    let below : c.args.slot < length c.args.tapes.now.items = search rules in
    let is = records_at_at c.args.tapes.now.items c.args.slot c.index_mut.result.now below c.index_mut.ensures.value in
    records_at_set c.args.tapes.now.items c.args.slot c.push_on.new.tape (λ (l : List Record). l ++ record_of c.args.stored ∷ []) k below
    (ap records_in c.in-Ok.ensures.ok ∙ records_in-push c.index_mut.result.now.items c.args.stored ∙ ap (λ (l : List Record). l ++ record_of c.args.stored ∷ []) (sym is))

pub returns-in-Err-clause-err : goal.returns-in-Err-clause-err
returns-in-Err-clause-err c = λ k.
    let below : c.args.slot < length c.args.tapes.now.items = search rules in
    let is = records_at_at c.args.tapes.now.items c.args.slot c.index_mut.result.now below c.index_mut.ensures.value in
    records_at_set_back c.args.tapes.now.items c.args.slot c.push_on.new.tape k below (ap records_in c.in-Err.ensures.err ∙ sym is)
