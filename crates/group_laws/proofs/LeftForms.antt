-- What the end of a group leaves has its forms: the session's time, and what dumps have of volumes.
use Rattle.std.proofs.Common.{◌≡◌, ℕ, List, [], ◌∷◌, arith, subst}
use Rattle.std.specs.Prelude.{max, All, Ok}
use Rattle.std.proofs.lemmas.List.Elements.{All-nil, All-cons}
use Rattle.byte_formats.specs.Forms.{IsFour}
use Rattle.cell_core.specs.Forms.{IsStoredForm}
use Rattle.dump_courses.specs.Scenes.{Scene}
use Rattle.backup_words.specs.declared.command.DumpCommand.{DumpCommand}
use Rattle.dump_commands.specs.Forms.{AreVolumes}
use Rattle.dump_commands.specs.Answers.{Contents, Answer, contents_with, begun}
use Rattle.dump_commands.specs.Starts.{Start, dump_start}
use Rattle.dump_commands.proofs.LeftForms.{answer_contents}
use Rattle.job_pool.specs.Pools.{PoolPoint, behind}
use Rattle.group_commands.specs.Groups.{GroupView}
use Rattle.group_commands.specs.Begins.{id_in, start_event, scene_at, first_point, starts_of, time_behind, contents_behind}
use Rattle.group_commands.specs.Answers.{group_answer}
use Rattle.group_laws.proofs.Starts.{real, start_answer}
use Rattle.group_laws.proofs.HeldStarts.{by_held}

-- ---- the time

begins_time : (starts : List Start) (time : ℕ) (p : PoolPoint) → IsFour time → IsFour (time_behind time p starts)
begins_time [] time p form = form
begins_time (b ∷ starts) time p form = begins_time starts (max time (id_in p.log b)) (behind p (start_event p b)) (omega (arith, form))

pub end_time : (s : Scene) (g : GroupView) → IsFour s.time → IsFour (group_answer s g).answer.time
unfolding group_answer
end_time s g form = begins_time (starts_of s (first_point s) g.held) s.time (first_point s) form

-- ---- what dumps have

all_held : (held : List DumpCommand) → All (λ (a : DumpCommand). Unit {0}) held
all_held [] = All-nil (λ (a : DumpCommand). Unit {0})
all_held (a ∷ held) = All-cons (λ (a : DumpCommand). Unit {0}) a held tt (all_held held)

begun_has : (s : Scene) (b : Start) (contents : Contents) → AreVolumes ((begun s b.order b.tape).contents contents) → AreVolumes (contents_with s b.order contents)
unfolding begun
begun_has s b contents forms = forms

-- what dumps have behind a begin, as its command alone leaves it
start_contents : (s : Scene) (a : DumpCommand) (b : Start) (contents : Contents) → All IsStoredForm s.cell → dump_start s a ≡ Ok b → AreVolumes contents → AreVolumes (contents_with s b.order contents)
start_contents s a b contents cell is forms = begun_has s b contents (subst (λ (x : Answer). AreVolumes (x.contents contents)) (start_answer s a b is) (answer_contents s (real a) contents cell forms))

pub end_contents : (s : Scene) (g : GroupView) (contents : Contents) → All IsStoredForm s.cell → AreVolumes contents → AreVolumes ((group_answer s g).answer.contents contents)
unfolding group_answer
end_contents s g contents cell forms =
    by_held s (λ (a : DumpCommand). Unit {0}) (λ (p : PoolPoint). Unit {0}) (λ (p : PoolPoint) (starts : List Start). (old : Contents) → AreVolumes old → AreVolumes (contents_behind s p starts old)) (λ p so old are. are) (λ p a b of is so. tt)
    (λ p a b starts of is so others old are. others (contents_with (scene_at s p) b.order old) (start_contents (scene_at s p) a b old cell is are)) g.held (first_point s) (all_held g.held) tt contents forms
