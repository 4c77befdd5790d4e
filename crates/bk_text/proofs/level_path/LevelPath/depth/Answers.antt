use Rattle.std.proofs.Common.{◌∙◌, sym, subst}
use Rattle.bk_text.specs.LevelPaths.{IsPathOf}
use Rattle.bk_text.proofs.LevelParts.{slashes_of}
use Rattle.bk_text.proofs.level_path.LevelPath.depth.Goals as goal

pub returns : goal.returns
returns c elements is = c.slashes_in.ensures ∙ slashes_of elements c.as_slice.result.now (subst (IsPathOf elements) (sym (c.as_slice.ensures ∙ c.self.view_is)) is)
