-- WHAT THE BEGINS OF A GROUP DO, one after the other: their effects, and the time behind each.
use Rattle.std.specs.Prelude.{ℕ, max, List, [], ◌∷◌, ◌++◌, Result, Ok, Err}
use Rattle.plant_core.specs.Effects.{Effect}
use Rattle.backup_words.specs.declared.command.DumpCommand.{DumpCommand}
use Rattle.dump_courses.specs.Scenes.{Scene}
use Rattle.dump_commands.specs.Starts.{Start, dump_start, start_effects}
use Rattle.job_pool.specs.Pools.{PoolPoint}
use Rattle.group_commands.specs.Begins.{id_in, scene_at, behind_begin}

-- the effects of the begins of held dumps, from a point on: one commit of each that isn't refused
abbrev pub begin_effects : Scene → PoolPoint → List DumpCommand → List Effect
begin_effects s p [] = []
begin_effects s p (a ∷ held) = let r = dump_start (scene_at s p) a in start_effects (scene_at s p) r ++ begin_effects s (behind_begin p r) held

-- the session's time behind what becomes of one held dump: where it begins its id is taken in
abbrev pub time_with : ℕ → PoolPoint → Result Start (List ℕ) → ℕ
time_with time p (Ok b) = max time (id_in p.log b)
time_with time p (Err text) = time
