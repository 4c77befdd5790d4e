use Rattle.std.proofs.Common.{sym, subst}
use Rattle.std.proofs.lemmas.List.{take_all}
use Rattle.std.proofs.lemmas.List.Elements.{All-more, All-same}
use Rattle.bk_text.specs.LevelPaths.{IsLevelPath}
use Rattle.command_forms.proofs.typed.levels_are_formed.Goals as goal

pub loop-level-preserved : goal.loop-level-preserved
loop-level-preserved c =
    All-more IsLevelPath c.args.levels.now c.loop-level.level-index c.level-item.result c.loop-level-test.true c.loop-level.invariant
    (subst IsLevelPath c.level-item.is c.level_is_formed.ensures)

pub returns : goal.returns
returns c = All-same IsLevelPath _ _ (sym (take_all c.loop-level.level-index c.args.levels.now c.loop-level-test.false)) c.loop-level.invariant
