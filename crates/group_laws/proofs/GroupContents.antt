-- WHAT DUMPS OF A GROUP HAVE: their ids ascend, so a dump that begins later gives nothing under an id that is known by then.
use Rattle.std.proofs.Common.{◌≡◌, ℕ, ◌+◌, ◌<◌, ◌≤◌, min, max, List, [], ◌∷◌, ◌++◌, refl, ◌∙◌, arith}
use Rattle.byte_formats.specs.Forms.{IsFour}
use Rattle.budb_changes.specs.declared.change.Change.{Change}
use Rattle.budb_fold.specs.Database.{after}
use Rattle.tape_choice.specs.Choice.{takes}
use Rattle.dump_courses.specs.Scenes.{Scene}
use Rattle.dump_commands.specs.Answers.{Contents, contents_with}
use Rattle.dump_commands.specs.Starts.{Start}
use Rattle.dump_archives.proofs.Contents.{grown_other}
use Rattle.dump_archives.proofs.Growing.{greatest_more, greatest_begun}
use Rattle.job_pool.specs.declared.turn.Turn.{Turn}
use Rattle.job_pool.specs.declared.turn.Kill.{Kill as PoolKill}
use Rattle.job_pool.specs.Pools.{PoolPoint, PoolCourse, turn_event, behind, interleaved}
use Rattle.job_pool.specs.PoolCourses.{scheduled, turns_left, pool_course}
use Rattle.group_commands.specs.Begins.{id_in, start_event, started, scene_at, time_behind, contents_behind}
use Rattle.pool_laws.specs.Groups.{last_id}
use Rattle.pool_laws.proofs.Ends.{first_top}

-- ---- ids

-- no id is above this one that was begun or recorded in a journal, or is past
abbrev pub top_in : ℕ → List Change → ℕ
top_in time log = first_top time (after log).greatest

pub top_more : (time : ℕ) (log changes : List Change) → top_in time log ≤ top_in time (log ++ changes)
top_more time log changes = (let more = greatest_more log changes in omega (arith, more))

-- an id that is begun isn't above it
pub top_begun : (time : ℕ) (p : PoolPoint) (b : Start) → id_in p.log b ≤ top_in time (behind p (start_event p b)).log
top_begun time p b = (let begun = greatest_begun p.log (takes b.tape.take) (id_in p.log b) in omega (arith, begun))

-- each dump begins with an id above all those
abbrev pub Ascend : ℕ → PoolPoint → List Start → Type 0
Ascend time p [] = Unit {0}
Ascend time p (b ∷ starts) = (top_in time p.log < id_in p.log b) × Ascend time (behind p (start_event p b)) starts

-- ---- contents

-- those under known ids stay
pub later_same : (s : Scene) (starts : List Start) (p : PoolPoint) (contents : Contents) (id : ℕ) (name : List ℕ) → Ascend s.time p starts → id ≤ top_in s.time p.log → contents_behind s p starts contents id name ≡ contents id name
later_same s [] p contents id name ascend low = refl
later_same s (b ∷ starts) p contents id name ascend low =
    let more : top_in s.time p.log ≤ top_in s.time (behind p (start_event p b)).log = top_more s.time p.log (start_event p b).changes in
    let above : top_in s.time p.log < id_in p.log b = ascend.0 in
    later_same s starts (behind p (start_event p b)) (contents_with (scene_at s p) b.order contents) id name ascend.1 (omega (arith, low, more))
    ∙ grown_other (scene_at s p) b.order contents id name (λ same. absurd (omega (arith, low, above, same)))

-- ---- the session's time

pub time_more : (starts : List Start) (p : PoolPoint) (time : ℕ) → time ≤ time_behind time p starts
time_more [] p time = omega arith
time_more (b ∷ starts) p time = (let rest = time_more starts (behind p (start_event p b)) (max time (id_in p.log b)) in omega (arith, rest))

four_max : (time n greatest : ℕ) → IsFour time → IsFour (max time (min 4294967295 (max n (greatest + 1))))
four_max time n greatest four = omega (arith, four)

pub time_four : (starts : List Start) (p : PoolPoint) (time : ℕ) → IsFour time → IsFour (time_behind time p starts)
time_four [] p time four = four
time_four (b ∷ starts) p time four = time_four starts (behind p (start_event p b)) (max time (id_in p.log b)) (four_max time b.order.time (after p.log).greatest four)

-- ---- the last id

-- turns leave no journal whose greatest id is less
turns_grow : (s : Scene) (turns : List Turn) (p : PoolPoint) → (after p.log).greatest ≤ (after (interleaved s p turns).log).greatest
turns_grow s [] p = omega arith
turns_grow s (t ∷ turns) p =
    let one : (after p.log).greatest ≤ (after (behind p (turn_event s p t)).log).greatest = greatest_more p.log (turn_event s p t).changes in
    let rest = turns_grow s turns (behind p (turn_event s p t)) in
    omega (arith, one, rest)

pub pool_grows : (s : Scene) (kills : List PoolKill) (x : ℕ) (p : PoolPoint) → (after p.log).greatest ≤ (after (pool_course s kills x p).log).greatest
unfolding pool_course
pool_grows s kills x p = turns_grow s (scheduled (turns_left s.cell p.jobs) s kills x p) p

-- the id of the last one is known behind the group
pub last_known : (rest : PoolPoint → PoolCourse) → ((q : PoolPoint) → (after q.log).greatest ≤ (after (rest q).log).greatest) → (starts : List Start) (p : PoolPoint) (top time : ℕ) → top ≤ top_in time p.log
    → last_id top p starts ≤ top_in (time_behind time p starts) (started rest p starts).log
last_known rest grows [] p top time low = (let more = grows p in omega (arith, low, more))
last_known rest grows (b ∷ starts) p top time low =
    last_known rest grows starts (behind p (start_event p b)) (id_in p.log b) (max time (id_in p.log b)) (top_begun (max time (id_in p.log b)) p b)
