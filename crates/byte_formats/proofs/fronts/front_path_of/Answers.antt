use Rattle.bk_text.specs.LevelPaths.{IsLevelPath}
use Rattle.std.proofs.Common.{refl}
use Rattle.byte_formats.proofs.FormatLaws.{stated_stuck, stated_short, stated_took}
use Rattle.byte_formats.proofs.fronts.front_path_of.Goals as goal

pub returns-in-Some : goal.returns-in-Some
returns-in-Some c = stated_stuck c.args.count IsLevelPath c.split_front.result.0.now c.split_front.result.1.now c.args.bytes.now c.in-Some.at _ c.split_front.ensures.within c.in-Some.ensures.0 c.split_front.ensures.joined refl c.in-Some.ensures.1

pub returns-then-front-count : goal.returns-then-front-count
returns-then-front-count c = stated_short c.args.count IsLevelPath c.split_front.result.0.now c.split_front.result.1.now c.args.bytes.now c.if-front-count.true c.split_front.ensures.whole c.split_front.ensures.joined c.in-None.ensures

pub returns-else-front-count : goal.returns-else-front-count
returns-else-front-count c = stated_took c.args.count IsLevelPath c.split_front.result.0.now c.split_front.result.1.now c.args.bytes.now c.split_front.ensures.within c.if-front-count.false c.split_front.ensures.joined c.in-None.ensures
