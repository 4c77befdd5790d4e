use Rattle.std.proofs.Common.{◌<◌, length, rules}
use Rattle.plant_core.specs.Tapes.{record_of}
use Rattle.plant_core.proofs.TapeLists.{record_at}
use Rattle.plant_core.proofs.stored.show_one.Goals as goal

pub returns : goal.returns
returns c =
    let below : c.args.i < length c.args.tape.now.items = search rules in
    record { found = record_of c.index.result.now; is = record_at c.args.tape.now.items c.args.i c.index.result.now below c.index.ensures; shown = c.show.ensures }
