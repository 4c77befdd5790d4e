-- A restore keeps the form of the cell's list.
use Rattle.std.proofs.Common.{◌≡◌, ℕ, Bool, true, false, List, [], ◌∷◌, refl}
use Rattle.std.specs.Prelude.{◌↔◌, All, IfSome, IfOk, find, if◌then◌else◌, IsTrue, Option, Some, None, Result, Ok, Err}
use Rattle.std.specs.List.{flat_map, list_any}
use Rattle.std.specs.Option.{unwrap_or}
use Rattle.std.proofs.lemmas.List.Elements.{All-nil, All-cons, All-head, All-tail, All-append, All-filter, All-weaker}
use Rattle.bk_text.specs.Blanks.{is_same_text}
use Rattle.bk_text.specs.Alphabets.{IsName, IsHost}
use Rattle.bk_text.specs.Tests.{name_test}
use Rattle.byte_formats.specs.Forms.{IsFour}
use Rattle.vnode_model.specs.declared.volumes.VolumeFields.{VolumeFields}
use Rattle.cell_core.specs.declared.fault.CellFault.{CellFault}
use Rattle.cell_core.specs.declared.stored.Stored.{Stored}
use Rattle.volume_sets.specs.declared.sets.SetEntry.{SetEntry}
use Rattle.volume_sets.specs.declared.sets.VolumeSet.{VolumeSet}
use Rattle.volume_sets.specs.Sets.{entries_of}
use Rattle.budb_changes.specs.declared.records.VolRecordFields.{VolRecordFields}
use Rattle.budb_changes.specs.declared.records.DumpRecordFields.{DumpRecordFields}
use Rattle.budb_changes.specs.Forms.{IsVolRecord, IsDumpRecord}
use Rattle.budb_fold.specs.Lookups.{volume_of, VolumeDump, names_for, dump_by, is_before, volume_dumps, latest}
use Rattle.archive_model.specs.Archives.{Archive, Refusal, listed_of, Need, needs, is_missing, unless_missing, looked_up_by}
use Rattle.restore_chain.specs.Answers.{chain_in, looked_up_one, looked_up}
use Rattle.restore_target.specs.Targets.{target_text, after_restore}
use Rattle.restore_commands.specs.Bases.{base_names}
use Rattle.restore_commands.specs.Choices.{lay_on, disk_choice, disk_choices, suits, set_choice, set_choices}
use Rattle.restore_commands.specs.Answers.{Manner, put_answer, found_answer, volume_answer, last_cell as last_of, all_answer, entries_answer}
use Rattle.backup_words.specs.declared.command.RestoreCommand.{RestoreCommand}
use Rattle.backup_words.specs.declared.command.RestoredVolumes.{RestoredVolumes}
use Rattle.backup_words.specs.declared.command.RestoredVolumes.TheVariants.{One, OfDisk, OfSet}
use Rattle.backup_words.specs.declared.command.Disk.{Disk}
use Rattle.backup_words.specs.declared.command.Wanted.{Wanted}
use Rattle.backup_session.specs.Restores.{manner_at, volumes_answer, restore_answer}
use Rattle.cell_core.specs.Forms.{IsVolumeForm}
use Rattle.dump_commands.specs.Forms.{AreVolumes}
use Rattle.cell_forms.specs.Forms.{IsCellForm}
use Rattle.cell_forms.proofs.Calls.{put_restored_form}
use Rattle.command_forms.specs.Forms.{RestoredForms}

-- ---- lists and options

all_flat : {A B : Type 0} (P : B → Type 0) (f : A → List B) (xs : List A) → All (λ x. All P (f x)) xs → All P (flat_map f xs)
all_flat P f [] all = All-nil P
all_flat P f (x ∷ xs) all = All-append P (f x) (flat_map f xs) (All-head (λ y. All P (f y)) x xs all) (all_flat P f xs (All-tail (λ y. All P (f y)) x xs all))

all_of : {A : Type 0} (P : A → Type 0) (xs : List A) → ((x : A) → P x) → All P xs
all_of P [] each = All-nil P
all_of P (x ∷ xs) each = All-cons P x xs (each x) (all_of P xs each)

found_first : {A : Type 0} (P : A → Type 0) (b : Bool) (x : A) (o : Option A) → P x → IfSome o P → IfSome (if b then Some x else o) P
found_first P true x o is rest = is
found_first P false x o is rest = rest

found : {A : Type 0} (P : A → Type 0) (test : A → Bool) (xs : List A) → All P xs → IfSome (find test xs) P
found P test [] all = tt
found P test (x ∷ xs) all = found_first P (test x) x (find test xs) (All-head P x xs all) (found P test xs (All-tail P x xs all))

-- ---- what is looked up

unless_form : (n : Option Need) (r : Result VolumeFields Refusal) → IfOk r IsVolumeForm → IfOk (unless_missing n r) IsVolumeForm
unless_form None r form = form
unless_form (Some n) r form = tt

as_if : (r : Result VolumeFields Refusal) → ((volume : VolumeFields) → r ≡ Ok volume → IsVolumeForm volume) → IfOk r IsVolumeForm
as_if (Ok volume) forms = forms volume refl
as_if (Err refusal) forms = tt

by_chain : (a : Archive) (one : VolumeDump) (chain : Result (List ℕ) ℕ) → AreVolumes a.contents → IfOk (looked_up_by a one chain) IsVolumeForm
by_chain a one (Err missing) contents = tt
by_chain a one (Ok ids) contents = unless_form (find (is_missing a.slots) (needs (listed_of a) ids one.volume.name)) _ (as_if (a.contents one.dump.id one.volume.name) (contents one.dump.id one.volume.name))

by_latest : (a : Archive) (one : Option VolumeDump) → AreVolumes a.contents → IfOk (looked_up_one a one) IsVolumeForm
by_latest a None contents = tt
by_latest a (Some one) contents = by_chain a one (chain_in (listed_of a) one.dump.id one.volume.name) contents

looked_form : (a : Archive) (name : List ℕ) (before : Option ℕ) → AreVolumes a.contents → IfOk (looked_up a name before) IsVolumeForm
looked_form a name before contents = by_latest a (latest (listed_of a) name before) contents

-- ---- which volumes

abbrev IsChoiceForm : Wanted → Type 0
IsChoiceForm c = IsHost c.server × IsName c.partition

or_form : (P : List ℕ → Type 0) (o : Option (List ℕ)) (other : List ℕ) → IfSome o P → P other → P (unwrap_or o other)
or_form P None other some is = is
or_form P (Some one) other some is = some

record IsDiskForm (disk : Disk) : Type 0 where
  server : IsHost disk.server
  partition : IsName disk.partition
  new_server : IfSome disk.new_server IsHost
  new_partition : IfSome disk.new_partition IsName

if_choice : (b : Bool) (c : Wanted) → IsChoiceForm c → All IsChoiceForm (if b then c ∷ [] else [])
if_choice true c form = All-cons IsChoiceForm c [] form (All-nil IsChoiceForm)
if_choice false c form = All-nil IsChoiceForm

disk_form : (disk : Disk) (name : List ℕ) (one : Option VolumeDump) → IsDiskForm disk → All IsChoiceForm (disk_choice disk name one)
disk_form disk name None form = All-nil IsChoiceForm
disk_form disk name (Some one) form = if_choice (lay_on disk one) _ (or_form IsHost disk.new_server disk.server form.new_server form.server, or_form IsName disk.new_partition disk.partition form.new_partition form.partition)

disk_forms : (listed : List DumpRecordFields) (disk : Disk) → IsDiskForm disk → All IsChoiceForm (disk_choices listed disk)
disk_forms listed disk form =
    all_flat IsChoiceForm (λ name. disk_choice disk name (latest listed name None)) (base_names listed)
    (all_of (λ name. All IsChoiceForm (disk_choice disk name (latest listed name None))) (base_names listed) (λ name. disk_form disk name (latest listed name None) form))

abbrev IsOneForm : VolumeDump → Type 0
IsOneForm one = IsVolRecord one.volume

by_volume : (dump : DumpRecordFields) (v : Option VolRecordFields) → IfSome v IsVolRecord → All IsOneForm (dump_by dump v)
by_volume dump None form = All-nil IsOneForm
by_volume dump (Some volume) form = All-cons IsOneForm (record { dump = dump; volume = volume }) [] form (All-nil IsOneForm)

dumps_form : (listed : List DumpRecordFields) (name : List ℕ) (before : Option ℕ) → All IsDumpRecord listed → All IsOneForm (volume_dumps listed name before)
dumps_form listed name before forms =
    All-filter (is_before before) IsOneForm (flat_map (λ dump. flat_map (λ n. dump_by dump (volume_of dump n)) (names_for name)) listed)
    (all_flat IsOneForm (λ dump. flat_map (λ n. dump_by dump (volume_of dump n)) (names_for name)) listed
    (All-weaker IsDumpRecord (λ dump. All IsOneForm (flat_map (λ n. dump_by dump (volume_of dump n)) (names_for name)))
    (λ dump form. all_flat IsOneForm (λ n. dump_by dump (volume_of dump n)) (names_for name)
    (all_of (λ n. All IsOneForm (dump_by dump (volume_of dump n))) (names_for name) (λ n. by_volume dump (volume_of dump n) (found IsVolRecord (λ volume. is_same_text volume.name n) dump.volumes form.each_volume)))) listed forms))

latest_form : (listed : List DumpRecordFields) (name : List ℕ) (before : Option ℕ) → All IsDumpRecord listed → IfSome (latest listed name before) IsOneForm
latest_form listed name before forms = found IsOneForm _ (volume_dumps listed name before) (dumps_form listed name before forms)

set_form : (entries : List SetEntry) (name : List ℕ) (one : Option VolumeDump) → IfSome one IsOneForm → All IsChoiceForm (set_choice entries name one)
set_form entries name None form = All-nil IsChoiceForm
set_form entries name (Some one) form = if_choice (list_any (suits one) entries) _ (form.server, form.partition)

set_forms : (listed : List DumpRecordFields) (entries : List SetEntry) → All IsDumpRecord listed → All IsChoiceForm (set_choices listed entries)
set_forms listed entries forms =
    all_flat IsChoiceForm (λ name. set_choice entries name (latest listed name None)) (base_names listed)
    (all_of (λ name. All IsChoiceForm (set_choice entries name (latest listed name None))) (base_names listed) (λ name. set_form entries name (latest listed name None) (latest_form listed name None forms)))

-- ---- what is put

put_form : (trial : Bool) (target lines : List ℕ) (r : Result (List Stored) CellFault) → ((new : List Stored) → r ≡ Ok new → IsCellForm new) → All IsCellForm (put_answer trial target lines r).cells
put_form true target lines (Ok cell) form = All-nil IsCellForm
put_form false target lines (Ok cell) form = All-cons IsCellForm cell [] (form cell refl) (All-nil IsCellForm)
put_form trial target lines (Err fault) form = All-nil IsCellForm

last_form : (cell : List Stored) (cells : List (List Stored)) → IsCellForm cell → All IsCellForm cells → IsCellForm (last_of cell cells)
last_form cell [] form all = form
last_form cell (c ∷ cs) form all = last_form c cs (All-head IsCellForm c cs all) (All-tail IsCellForm c cs all)

module _ (tests : (text : List ℕ) → IsTrue (name_test text) ↔ IsName text) (a : Archive) (contents : AreVolumes a.contents) (manner : Manner) (four : IsFour manner.time) where
  found_form : (cell : List Stored) (wanted : Wanted) (lines : List ℕ) (r : Result VolumeFields Refusal) → IsHost wanted.server → IsName wanted.partition → IsCellForm cell → IfOk r IsVolumeForm → All IsCellForm (found_answer cell wanted manner lines r).cells
  found_form cell wanted lines (Ok volume) host part form v =
      let target = target_text wanted.name manner.extension in
      put_form manner.is_trial target lines (after_restore cell wanted.server wanted.partition target manner.time volume)
      (λ new is. put_restored_form tests cell wanted.server wanted.partition target manner.time volume host part four v form new is)
  found_form cell wanted lines (Err refusal) host part form v = All-nil IsCellForm

  pub volume_form : (cell : List Stored) (wanted : Wanted) → IsHost wanted.server → IsName wanted.partition → IsCellForm cell → All IsCellForm (volume_answer a cell manner wanted).cells
  volume_form cell wanted host part form = found_form cell wanted _ (looked_up a wanted.name wanted.before) host part form (looked_form a wanted.name wanted.before contents)

  all_form : (cell : List Stored) (choices : List Wanted) → All IsChoiceForm choices → IsCellForm cell → All IsCellForm (all_answer a cell manner choices).cells
  all_form cell [] forms form = All-nil IsCellForm
  all_form cell (c ∷ cs) forms form =
      let here = All-head IsChoiceForm c cs forms in
      let first = volume_answer a cell manner c in
      let one : All IsCellForm first.cells = volume_form cell c here.0 here.1 form in
      All-append IsCellForm first.cells (all_answer a (last_of cell first.cells) manner cs).cells one (all_form (last_of cell first.cells) cs (All-tail IsChoiceForm c cs forms) (last_form cell first.cells form one))

  entries_form : (cell : List Stored) (name : List ℕ) (entries : Option (List SetEntry)) → All IsDumpRecord (listed_of a) → IsCellForm cell → All IsCellForm (entries_answer a cell manner name entries).cells
  entries_form cell name None forms form = All-nil IsCellForm
  entries_form cell name (Some entries) forms form = all_form cell (set_choices (listed_of a) entries) (set_forms (listed_of a) entries forms) form

volumes_form : (tests : (text : List ℕ) → IsTrue (name_test text) ↔ IsName text) (a : Archive) (sets : List VolumeSet) (cell : List Stored) (manner : Manner) (volumes : RestoredVolumes) → RestoredForms volumes → AreVolumes a.contents → All IsDumpRecord (listed_of a) → IsFour manner.time → IsCellForm cell
    → All IsCellForm (volumes_answer a sets cell manner volumes).cells
volumes_form tests a sets cell manner (One wanted) has contents listed four form = volume_form tests a contents manner four cell wanted has.0 has.1 form
volumes_form tests a sets cell manner (OfDisk disk) has contents listed four form =
    all_form tests a contents manner four cell (disk_choices (listed_of a) disk) (disk_forms (listed_of a) disk (record { server = has.0; partition = has.1; new_server = has.2; new_partition = has.3 })) form
volumes_form tests a sets cell manner (OfSet name) has contents listed four form = entries_form tests a contents manner four cell name (entries_of name sets) listed form

pub restore_form : (tests : (text : List ℕ) → IsTrue (name_test text) ↔ IsName text) (a : Archive) (sets : List VolumeSet) (cell : List Stored) (time : ℕ) (command : RestoreCommand) → RestoredForms command.volumes → AreVolumes a.contents → All IsDumpRecord (listed_of a) → IsFour time → IsCellForm cell
    → All IsCellForm (restore_answer a sets cell time command).cells
restore_form tests a sets cell time command has contents listed four form = volumes_form tests a sets cell (manner_at time command) command.volumes has contents listed four form
