-- What is so of all dumps of a group that begin, begin by begin; and what each begin finds and writes has its forms.
use Rattle.std.proofs.Common.{◌≡◌, ℕ, suc, ◌≤◌, List, [], ◌∷◌, length, refl, sym, subst, arith}
use Rattle.std.specs.Prelude.{All, Result, Ok, Err}
use Rattle.std.proofs.lemmas.List.Elements.{All-head, All-tail}
use Rattle.budb_changes.specs.Forms.{AreChanges}
use Rattle.budb.proofs.FoldForms.{forms_after}
use Rattle.dump_job.specs.Beginning.{begin_changes}
use Rattle.dump_forms.specs.Forms.{HasForms}
use Rattle.dump_forms.specs.Begins.{IsOrderForm}
use Rattle.dump_forms.proofs.SlotForms.{tapes_fit}
use Rattle.dump_forms.proofs.BeginForms.{begin_forms}
use Rattle.dump_courses.specs.Scenes.{Scene, database_in, slots_in, entries_in, whole_in}
use Rattle.backup_words.specs.declared.command.DumpCommand.{DumpCommand}
use Rattle.dump_commands.specs.Refusals.{fault_of}
use Rattle.dump_commands.specs.Forms.{IsSceneForm, IsCommandForm}
use Rattle.dump_commands.specs.Answers.{tape_for}
use Rattle.dump_commands.specs.Starts.{Start, dump_start}
use Rattle.dump_commands.proofs.FormLaws.{some_volumes}
use Rattle.dump_commands.proofs.OrderForms.{order_form}
use Rattle.job_pool.specs.Pools.{PoolPoint, behind}
use Rattle.group_commands.specs.Begins.{id_in, job_in, start_event, scene_at, behind_begin, before_starts, starts_of}
use Rattle.group_laws.proofs.Starts.{Passes, start_passes}

-- ---- begin by begin

-- What is so where none begins, and of a begin where it is of those behind it, is so of all that begin of held dumps; `Inv` is so at each point.
module _ (s : Scene) (Of : DumpCommand → Type 0) (Inv : PoolPoint → Type 0) (Q : PoolPoint → List Start → Type 0)
    (none : (p : PoolPoint) → Inv p → Q p [])
    (kept : (p : PoolPoint) (a : DumpCommand) (b : Start) → Of a → dump_start (scene_at s p) a ≡ Ok b → Inv p → Inv (behind p (start_event p b)))
    (one : (p : PoolPoint) (a : DumpCommand) (b : Start) (starts : List Start) → Of a → dump_start (scene_at s p) a ≡ Ok b → Inv p → Q (behind p (start_event p b)) starts → Q p (b ∷ starts)) where
  by_begin : (p : PoolPoint) (a : DumpCommand) (held : List DumpCommand) (r : Result Start (List ℕ)) → dump_start (scene_at s p) a ≡ r → Of a → Inv p → ((q : PoolPoint) → Inv q → Q q (starts_of s q held))
      → Q p (before_starts r (starts_of s (behind_begin p r) held))
  by_begin p a held (Ok b) is of inv others = one p a b (starts_of s (behind p (start_event p b)) held) of is inv (others (behind p (start_event p b)) (kept p a b of is inv))
  by_begin p a held (Err text) is of inv others = others p inv

  pub by_held : (held : List DumpCommand) (p : PoolPoint) → All Of held → Inv p → Q p (starts_of s p held)
  by_held [] p each inv = none p inv
  by_held (a ∷ held) p each inv = by_begin p a held (dump_start (scene_at s p) a) refl (All-head Of a held each) inv (λ q so. by_held held q (All-tail Of a held each) so)

-- no more begin than are held
few_before : (r : Result Start (List ℕ)) (starts : List Start) (n : ℕ) → length starts ≤ n → length (before_starts r starts) ≤ suc n
few_before (Ok b) starts n few = omega (arith, few)
few_before (Err text) starts n few = omega (arith, few)

pub starts_few : (s : Scene) (held : List DumpCommand) (p : PoolPoint) → length (starts_of s p held) ≤ length held
starts_few s [] p = omega arith
starts_few s (a ∷ held) p =
    let r = dump_start (scene_at s p) a in
    few_before r (starts_of s (behind_begin p r) held) (length held) (starts_few s held (behind_begin p r))

-- ---- the forms of a begin

-- on the way of a group a scene has its forms where its journal has
pub scene_form_at : (s : Scene) (p : PoolPoint) → IsSceneForm s → AreChanges p.log → IsSceneForm (scene_at s p)
scene_form_at s p scene log = record { log = log; cell = scene.cell; few = scene.few; time = scene.time; name = scene.name; ports = scene.ports }

-- the order of a dump that begins has its forms, and some volumes
pub start_order : (s : Scene) (a : DumpCommand) (b : Start) → IsSceneForm s → IsCommandForm a → dump_start s a ≡ Ok b → IsOrderForm b.order × (1 ≤ length b.order.volumes)
start_order s a b scene command is =
    let p : Passes s a b = start_passes s a b is in
    (subst IsOrderForm (sym p.order) (order_form s a p.port scene command p.asked), some_volumes (entries_in s) b.order (fault_of (tape_for s b.order)) p.none)

-- the changes of its begin can be written, and the dump has its forms
pub start_forms : (s : Scene) (a : DumpCommand) (b : Start) → IsSceneForm s → IsCommandForm a → dump_start s a ≡ Ok b → AreChanges (begin_changes (id_in s.log b) b.tape.take) × HasForms (job_in s.log b)
unfolding tape_for
start_forms s a b scene command is =
    let p : Passes s a b = start_passes s a b is in
    let order = start_order s a b scene command is in
    begin_forms b.order (database_in s) (slots_in s) (whole_in s) _ b.tape order.0 order.1 (forms_after s.log scene.log).listed (tapes_fit s.slots s.present s.state.tape) p.tape
