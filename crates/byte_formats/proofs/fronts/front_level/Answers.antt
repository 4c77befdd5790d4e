use Rattle.bk_text.specs.LevelPaths.{IsLevelPath}
use Rattle.byte_formats.specs.Formats.{both, stated, two_in, text2_of}
use Rattle.byte_formats.proofs.FormatLaws.{both_first, both_second, took_both, like_sticks, took_like}
use Rattle.byte_formats.proofs.Leaves.{sole_two, has_path, like_text2, path_bounds}
use Rattle.std.proofs.Common.{lit≤}
use Rattle.byte_formats.proofs.fronts.front_level.Goals as goal

pub returns-in-Err : goal.returns-in-Err
returns-in-Err c = like_sticks (both (two_in 2 256) (λ n. stated n IsLevelPath)) (text2_of IsLevelPath) (like_text2 2 256 IsLevelPath path_bounds) _ _ (both_first (two_in 2 256) (λ n. stated n IsLevelPath) _ _ (λ n is. has_path n is.0 is.1) c.in-Err.ensures)

pub returns-in-Err-front_path_of : goal.returns-in-Err-front_path_of
returns-in-Err-front_path_of c = like_sticks (both (two_in 2 256) (λ n. stated n IsLevelPath)) (text2_of IsLevelPath) (like_text2 2 256 IsLevelPath path_bounds) _ _ (both_second (two_in 2 256) (λ n. stated n IsLevelPath) _ _ _ _ (sole_two 2 256 (lit≤ tt)) c.in-Ok.ensures c.in-Err-front_path_of.ensures)

pub returns-in-Ok-front_path_of : goal.returns-in-Ok-front_path_of
unfolding like_text2
returns-in-Ok-front_path_of c = took_like (both (two_in 2 256) (λ n. stated n IsLevelPath)) (text2_of IsLevelPath) (like_text2 2 256 IsLevelPath path_bounds) _ _ _ (took_both (two_in 2 256) (λ n. stated n IsLevelPath) _ _ _ _ _ c.in-Ok.ensures c.in-Ok-front_path_of.ensures)
