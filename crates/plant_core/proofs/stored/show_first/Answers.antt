use Rattle.std.proofs.Common.{◌<◌, length, List, sym, subst, rules}
use Rattle.plant_core.specs.Records.{Record, ShowsFirst}
use Rattle.plant_core.proofs.TapeLists.{records_at_at}
use Rattle.plant_core.proofs.stored.show_first.Goals as goal

pub returns : goal.returns
returns c =
    let below : c.args.slot < length c.args.tapes.now.items = search rules in
    let is = records_at_at c.args.tapes.now.items c.args.slot c.index.result.now below c.index.ensures in
    subst (λ (l : List Record). ShowsFirst l c.show_front.result c.show_front.new.into) (sym is) c.show_front.ensures
