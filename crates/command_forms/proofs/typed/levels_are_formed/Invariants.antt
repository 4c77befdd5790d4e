use Rattle.std.proofs.Common.{take}
use Rattle.std.specs.Prelude.{All}
use Rattle.bk_text.specs.LevelPaths.{IsLevelPath}
use Rattle.command_forms.proofs.typed.levels_are_formed.Given as goal

abbrev pub invariant-loop-level : goal.invariant-loop-level
invariant-loop-level l = All IsLevelPath (take l.level-index l.levels)
