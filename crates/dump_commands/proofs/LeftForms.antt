-- What a dump leaves has its forms: the session's time, and what dumps have of volumes.
use Rattle.std.proofs.Common.{◌≡◌, ℕ, zero, suc, Bool, true, false, Option, Some, None, List, [], ◌∷◌, refl, subst, arith}
use Rattle.std.specs.Prelude.{All, IfSome, IfOk, ◌==◌, slice_get, if◌then◌else◌, Result, Ok, Err}
use Rattle.std.proofs.lemmas.List.Elements.{All-head, All-tail}
use Rattle.byte_formats.specs.Forms.{IsFour}
use Rattle.vnode_model.specs.declared.volumes.VolumeFields.{VolumeFields}
use Rattle.cell_core.specs.declared.stored.Stored.{Stored}
use Rattle.cell_core.specs.declared.stored.Image.{Image}
use Rattle.cell_core.specs.declared.stored.Image.TheVariants.{Good, Bad}
use Rattle.cell_core.specs.declared.stored.Taken.{Taken}
use Rattle.cell_core.specs.Calls.{clone_of_image, clone_of, clone_at}
use Rattle.tape_config.specs.declared.port.PortFields.{PortFields}
use Rattle.archive_model.specs.Archives.{Refusal}
use Rattle.archive_model.specs.Sources.{over_parent}
use Rattle.budb_fold.specs.Lookups.{record_of, from_of}
use Rattle.dump_job.specs.declared.fault.JobFault.{JobFault}
use Rattle.dump_job.specs.declared.first_tapes.FirstTape.{FirstTape}
use Rattle.dump_job.specs.declared.order.DumpOrder.{DumpOrder}
use Rattle.dump_job.specs.Beginning.{id_of}
use Rattle.cell_core.specs.Forms.{IsVolumeForm, IsImageForm, IsStoredForm}
use Rattle.dump_courses.specs.Scenes.{Scene, database_in, entries_in}
use Rattle.backup_words.specs.declared.command.DumpCommand.{DumpCommand}
use Rattle.dump_commands.specs.Orders.{asked_port, order_of}
use Rattle.dump_commands.specs.Refusals.{refusal_by, fault_of, trial_refusal}
use Rattle.dump_commands.specs.Trials.{trial_text}
use Rattle.dump_commands.specs.Answers.{Contents, Answer, said, place_of, given_by, given_at, contents_with, begun, tape_for, begun_or, refused_or, real_answer, trial_answer, order_answer, port_answer, dump_answer}
use Rattle.dump_commands.specs.Forms.{AreVolumes}

-- ---- an answer is a reply alone, or that of a dump that is begun

module _ (s : Scene) (Q : Answer → Type 0) (tells : (text : List ℕ) → Q (said s text)) (begins : (o : DumpOrder) (t : FirstTape) → Q (begun s o t)) where
  by_tape : (o : DumpOrder) (r : Result FirstTape JobFault) → Q (begun_or s o r)
  by_tape o (Ok t) = begins o t
  by_tape o (Err f) = tells _

  by_refusal : (r : Option (List ℕ)) (a : Answer) → Q a → Q (refused_or s r a)
  by_refusal (Some text) a is = tells text
  by_refusal None a is = is

  by_trial : (o : DumpOrder) (trial : Bool) → Q (if trial then trial_answer s o else real_answer s o)
  unfolding real_answer
  by_trial o true = by_refusal (trial_refusal (entries_in s) o) _ (tells (trial_text (database_in s).listed s.cell o))
  by_trial o false = by_refusal (refusal_by (entries_in s) o (fault_of (tape_for s o))) _ (by_tape o (tape_for s o))

  by_port : (a : DumpCommand) (r : Result PortFields (List ℕ)) → Q (port_answer s a r)
  unfolding order_answer
  by_port a (Err text) = tells text
  by_port a (Ok port) = by_trial (order_of s.config (database_in s) (entries_in s) s.time a port) a.trial

  pub by_answer : (a : DumpCommand) → Q (dump_answer s a)
  unfolding dump_answer
  by_answer a = by_port a (asked_port s.config (database_in s) a)

-- ---- the time

begun_time : (s : Scene) (o : DumpOrder) (t : FirstTape) → IsFour s.time → IsFour (begun s o t).time
unfolding begun
begun_time s o t form = omega (arith, form)

pub answer_time : (s : Scene) (a : DumpCommand) → IsFour s.time → IsFour (dump_answer s a).time
answer_time s a form = by_answer s (λ (x : Answer). IsFour x.time) (λ text. form) (λ o t. begun_time s o t form) a

-- ---- what dumps have

all_at : {A : Type 0} (P : A → Type 0) (xs : List A) (k : ℕ) → All P xs → IfSome (slice_get xs k) P
all_at P [] k all = tt
all_at P (x ∷ xs) zero all = All-head P x xs all
all_at P (x ∷ xs) (suc k) all = all_at P xs k (All-tail P x xs all)

image_clone : (cell : List Stored) (image : Image) (now : ℕ) → IsImageForm image → IfSome (clone_of_image cell image now) (λ c. IsVolumeForm c.volume)
image_clone cell (Good volume) now form = form
image_clone cell (Bad at) now form = tt

stored_clone : (cell : List Stored) (s : Option Stored) (now : ℕ) → IfSome s IsStoredForm → IfSome (clone_of cell s now) (λ c. IsVolumeForm c.volume)
stored_clone cell (Some s) now form = image_clone cell s.image now form.image
stored_clone cell None now form = tt

clone_form : (cell : List Stored) (place now : ℕ) → All IsStoredForm cell → IfSome (clone_at cell place now) (λ c. IsVolumeForm c.volume)
clone_form cell place now forms = stored_clone cell (slice_get cell place) now (all_at IsStoredForm cell place forms)

over_form : (parent : Result VolumeFields Refusal) (volume : VolumeFields) → IsVolumeForm volume → IfOk (over_parent parent volume) IsVolumeForm
over_form (Ok old) volume form = form
over_form (Err refusal) volume form = tt

either_form : (b : Bool) (parent : Result VolumeFields Refusal) (volume : VolumeFields) → IsVolumeForm volume → IfOk (if b then Ok volume else over_parent parent volume) IsVolumeForm
either_form true parent volume form = form
either_form false parent volume form = over_form parent volume form

by_clone : (s : Scene) (o : DumpOrder) (contents : Contents) (name : List ℕ) (before : Result VolumeFields Refusal) (c : Option Taken) → IfOk before IsVolumeForm → IfSome c (λ c. IsVolumeForm c.volume) → IfOk (given_by s o contents name before c) IsVolumeForm
by_clone s o contents name before None old form = old
by_clone s o contents name before (Some c) old form = either_form (from_of (record_of (database_in s).listed o.parent) name c.born == 0) (contents o.parent name) c.volume form

by_place : (s : Scene) (o : DumpOrder) (contents : Contents) (name : List ℕ) (before : Result VolumeFields Refusal) (place : Option ℕ) → All IsStoredForm s.cell → IfOk before IsVolumeForm → IfOk (given_at s o contents name before place) IsVolumeForm
by_place s o contents name before None cell old = old
by_place s o contents name before (Some place) cell old = by_clone s o contents name before (clone_at s.cell place o.time) old (clone_form s.cell place o.time cell)

picked : (b : Bool) (x y : Result VolumeFields Refusal) → IfOk x IsVolumeForm → IfOk y IsVolumeForm → IfOk (if b then x else y) IsVolumeForm
picked true x y is_x is_y = is_x
picked false x y is_x is_y = is_y

as_if : (r : Result VolumeFields Refusal) → ((volume : VolumeFields) → r ≡ Ok volume → IsVolumeForm volume) → IfOk r IsVolumeForm
as_if (Ok volume) forms = forms volume refl
as_if (Err refusal) forms = tt

from_if : (r : Result VolumeFields Refusal) → IfOk r IsVolumeForm → (volume : VolumeFields) → r ≡ Ok volume → IsVolumeForm volume
from_if (Ok given) form volume is = (let same : given ≡ volume = cc in subst IsVolumeForm same form)
from_if (Err refusal) form volume is = absurd (cc)

with_form : (s : Scene) (o : DumpOrder) (contents : Contents) → All IsStoredForm s.cell → AreVolumes contents → AreVolumes (contents_with s o contents)
with_form s o contents cell forms id name =
    let before : IfOk (contents id name) IsVolumeForm = as_if (contents id name) (forms id name) in
    from_if (contents_with s o contents id name)
    (picked (id == id_of o (database_in s)) (given_at s o contents name (contents id name) (place_of s.cell o.volumes name)) (contents id name) (by_place s o contents name (contents id name) (place_of s.cell o.volumes name) cell before) before)

begun_contents : (s : Scene) (o : DumpOrder) (t : FirstTape) (contents : Contents) → All IsStoredForm s.cell → AreVolumes contents → AreVolumes ((begun s o t).contents contents)
unfolding begun
begun_contents s o t contents cell forms = with_form s o contents cell forms

pub answer_contents : (s : Scene) (a : DumpCommand) (contents : Contents) → All IsStoredForm s.cell → AreVolumes contents → AreVolumes ((dump_answer s a).contents contents)
answer_contents s a contents cell forms = by_answer s (λ (x : Answer). AreVolumes (x.contents contents)) (λ text. forms) (λ o t. begun_contents s o t contents cell forms) a
