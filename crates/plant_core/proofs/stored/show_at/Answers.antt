use Rattle.std.proofs.Common.{◌≡◌, ◌<◌, length, vec_len, List, sym, ap, subst, rules, arith}
use Rattle.plant_core.specs.Records.{Record, ShowsAt}
use Rattle.plant_core.proofs.TapeLists.{records_at_at, records_in-length}
use Rattle.plant_core.proofs.stored.show_at.Goals as goal

pub show_one-requires : goal.show_one-requires
show_one-requires c =
    let below : c.args.slot < length c.args.tapes.now.items = search rules in
    let is = records_at_at c.args.tapes.now.items c.args.slot c.index.result.now below c.index.ensures in
    let long : vec_len c.index.result.now ≡ length c.index.result.now.items = search rules in
    omega (arith, ap length is, records_in-length c.index.result.now.items, c.requires.within, long)

pub returns : goal.returns
returns c =
    let below : c.args.slot < length c.args.tapes.now.items = search rules in
    let is = records_at_at c.args.tapes.now.items c.args.slot c.index.result.now below c.index.ensures in
    subst (λ (l : List Record). ShowsAt l c.args.i c.show_one.result c.show_one.new.into) (sym is) c.show_one.ensures
