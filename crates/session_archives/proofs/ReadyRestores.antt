-- Restores keep a cell in order: each list that the cell has on the way is a good one.
use Rattle.std.proofs.Common.{◌≡◌, inl, inr, ℕ, Bool, true, false, List, [], ◌∷◌, ◌++◌, refl, sym, subst, arith}
use Rattle.std.specs.Prelude.{◌↔◌, IsTrue, not, Result, Ok, Err, Option, Some, None, IfSome, All, Contains, if◌then◌else◌}
use Rattle.std.specs.List.{flat_map, list_any}
use Rattle.std.specs.Option.{unwrap_or}
use Rattle.std.proofs.lemmas.List.Elements.{All-nil, All-cons, All-head, All-tail, All-append, All-contains}
use Rattle.bk_text.specs.Alphabets.{IsName, IsHost}
use Rattle.bk_text.specs.Blanks.{is_same_text}
use Rattle.bk_text.specs.Tests.{name_test}
use Rattle.byte_formats.specs.Forms.{IsFour}
use Rattle.vnode_model.specs.declared.volumes.VolumeFields.{VolumeFields}
use Rattle.volume_sets.specs.declared.sets.SetEntry.{SetEntry}
use Rattle.budb_changes.specs.declared.records.VolRecordFields.{VolRecordFields}
use Rattle.budb_changes.specs.declared.records.DumpRecordFields.{DumpRecordFields}
use Rattle.budb_changes.specs.Forms.{IsVolRecord, IsDumpRecord}
use Rattle.budb_fold.specs.Lookups.{VolumeDump, volume_of, names_for, dump_by, is_before, volume_dumps, beats, latest}
use Rattle.cell_core.specs.declared.fault.CellFault.{CellFault}
use Rattle.cell_core.specs.declared.stored.Stored.{Stored}
use Rattle.cell_core.specs.Fairness.{Dumped}
use Rattle.command_forms.specs.NewNames.{IsApart}
use Rattle.cell_core.specs.Forms.{IsVolumeForm}
use Rattle.tape_scan.proofs.ListLaws.{of_filter}
use Rattle.archive_model.specs.Archives.{Archive, Refusal, Need, listed_of, looked_up_by, unless_missing}
use Rattle.archive_model.proofs.FairLaws.{of_flat}
use Rattle.archive_model.proofs.SlotLaws.{first_or_later}
use Rattle.archive_model.proofs.StreamLaws.{find_contains}
use Rattle.restore_chain.specs.Answers.{chain_in, looked_up_one, looked_up}
use Rattle.restore_target.specs.Targets.{target_text, after_restore}
use Rattle.backup_words.specs.declared.command.Disk.{Disk}
use Rattle.backup_words.specs.declared.command.Wanted.{Wanted}
use Rattle.restore_commands.specs.Choices.{lay_on, disk_choice, disk_choices, suits, set_choice, set_choices}
use Rattle.restore_commands.specs.Bases.{base_names}
use Rattle.restore_commands.specs.Answers.{Manner, put_answer, found_answer, volume_answer, last_cell, all_answer}
use Rattle.session_archives.proofs.Orders.{CellIsGood, restored_good}

-- ---- records that are found

no_dump : (one : VolumeDump) → Contains [] one → ⊥
no_dump one there = omega (arith, there.1)

sole_dump : (x y : VolumeDump) → Contains (x ∷ []) y → x ≡ y
sole_dump x y there = elim (first_or_later x [] y there) [
  | inl same ↦ same
  | inr more ↦ absurd (no_dump y more)
]

volume_of_form : (d : DumpRecordFields) (name : List ℕ) (o : Option VolRecordFields) → volume_of d name ≡ o → IsDumpRecord d → (one : VolumeDump) → Contains (dump_by d o) one → IsVolRecord one.volume
volume_of_form d name None is form one there = absurd (no_dump one there)
volume_of_form d name (Some v) is form one there =
    subst (λ (x : VolumeDump). IsVolRecord x.volume) (sole_dump (record { dump = d; volume = v }) one there)
    (All-contains IsVolRecord d.volumes v form.each_volume (find_contains (λ (w : VolRecordFields). is_same_text w.name name) d.volumes v is))

-- the latest dump's volume has the form of a record's
latest_form : (listed : List DumpRecordFields) (name : List ℕ) (before : Option ℕ) (one : VolumeDump) → All IsDumpRecord listed → latest listed name before ≡ Some one → IsVolRecord one.volume
latest_form listed name before one forms is =
    let all = volume_dumps listed name before in
    let by_names : DumpRecordFields → List VolumeDump = λ d. flat_map (λ n. dump_by d (volume_of d n)) (names_for name) in
    let among : Contains all one = find_contains (λ (x : VolumeDump). not (list_any (λ other. beats name other x) all)) all one is in
    let named = of_filter (is_before before) (flat_map by_names listed) one among in
    let d = of_flat by_names listed one named.0 in
    let n = of_flat (λ (n : List ℕ). dump_by d.0 (volume_of d.0 n)) (names_for name) one d.2 in
    volume_of_form d.0 n.0 (volume_of d.0 n.0) refl (All-contains IsDumpRecord listed d.0 forms d.1) one n.2

-- ---- what is looked up

module _ (a : Archive) (volumes : (id : ℕ) (name : List ℕ) (volume : VolumeFields) → a.contents id name ≡ Ok volume → IsVolumeForm volume) (v : VolumeFields) where
  unless_form : (id : ℕ) (name : List ℕ) (n : Option Need) → unless_missing n (a.contents id name) ≡ Ok v → IsVolumeForm v
  unless_form id name None is = volumes id name v is
  unless_form id name (Some n) is = absurd cc

  chain_form : (one : VolumeDump) (chain : Result (List ℕ) ℕ) → looked_up_by a one chain ≡ Ok v → IsVolumeForm v
  chain_form one (Err missing) is = absurd cc
  chain_form one (Ok ids) is = unless_form one.dump.id one.volume.name _ is

  one_form : (o : Option VolumeDump) → looked_up_one a o ≡ Ok v → IsVolumeForm v
  one_form None is = absurd cc
  one_form (Some one) is = chain_form one (chain_in (listed_of a) one.dump.id one.volume.name) is

  looked_form : (name : List ℕ) (before : Option ℕ) → looked_up a name before ≡ Ok v → IsVolumeForm v
  looked_form name before is = one_form (latest (listed_of a) name before) is

-- ---- one volume after the other

-- a volume is put at a server, into a partition, and under another name than a backup volume's
pub record IsPutWell (extension : Option (List ℕ)) (name at into : List ℕ) : Type 0 where
  pub server : IsHost at
  pub partition : IsName into
  pub target : IsApart (target_text name extension)

module _ (tests : (text : List ℕ) → IsTrue (name_test text) ↔ IsName text) (a : Archive) (volumes : (id : ℕ) (name : List ℕ) (volume : VolumeFields) → a.contents id name ≡ Ok volume → IsVolumeForm volume)
    (Each : List Dumped → Type 0) (manner : Manner) (four : IsFour manner.time) where
  abbrev pub Good : List Stored → Type 0
  Good cell = CellIsGood Each manner.time cell

  put_good : (is_trial : Bool) (target lines : List ℕ) (due : Result (List Stored) CellFault) → ((new : List Stored) → due ≡ Ok new → Good new) → All Good (put_answer is_trial target lines due).cells
  put_good true target lines (Ok new) good = All-nil Good
  put_good false target lines (Ok new) good = All-cons Good new [] (good new refl) (All-nil Good)
  put_good is_trial target lines (Err fault) good = All-nil Good

  found_good : (cell : List Stored) (wanted : Wanted) (lines : List ℕ) (r : Result VolumeFields Refusal) → Good cell → IsPutWell manner.extension wanted.name wanted.server wanted.partition → ((v : VolumeFields) → r ≡ Ok v → IsVolumeForm v)
      → All Good (found_answer cell wanted manner lines r).cells
  found_good cell wanted lines (Err refusal) good well form = All-nil Good
  found_good cell wanted lines (Ok volume) good well form =
      let target = target_text wanted.name manner.extension in
      put_good manner.is_trial target lines (after_restore cell wanted.server wanted.partition target manner.time volume)
      (λ new due. restored_good Each manner.time four cell good tests wanted.server wanted.partition target volume new well.server well.partition well.target (form volume refl) due)

  pub volume_good : (cell : List Stored) (wanted : Wanted) → Good cell → IsPutWell manner.extension wanted.name wanted.server wanted.partition → All Good (volume_answer a cell manner wanted).cells
  volume_good cell wanted good well = found_good cell wanted _ (looked_up a wanted.name wanted.before) good well (λ v is. looked_form a volumes v wanted.name wanted.before is)

  -- a trial puts no volume
  put_quiet : (target lines : List ℕ) (due : Result (List Stored) CellFault) → All Good (put_answer true target lines due).cells
  put_quiet target lines (Ok new) = All-nil Good
  put_quiet target lines (Err fault) = All-nil Good

  found_quiet : manner.is_trial ≡ true → (cell : List Stored) (wanted : Wanted) (lines : List ℕ) (r : Result VolumeFields Refusal) → All Good (found_answer cell wanted manner lines r).cells
  found_quiet trial cell wanted lines (Err refusal) = All-nil Good
  found_quiet trial cell wanted lines (Ok volume) =
      let target = target_text wanted.name manner.extension in
      let due = after_restore cell wanted.server wanted.partition target manner.time volume in
      subst (λ (b : Bool). All Good (put_answer b target lines due).cells) (sym trial) (put_quiet target lines due)

  pub volume_quiet : manner.is_trial ≡ true → (cell : List Stored) (wanted : Wanted) → All Good (volume_answer a cell manner wanted).cells
  volume_quiet trial cell wanted = found_quiet trial cell wanted _ (looked_up a wanted.name wanted.before)

  pub all_quiet : manner.is_trial ≡ true → (cell : List Stored) (choices : List Wanted) → All Good (all_answer a cell manner choices).cells
  all_quiet trial cell [] = All-nil Good
  all_quiet trial cell (c ∷ cs) =
      let first = volume_answer a cell manner c in
      All-append Good first.cells (all_answer a (last_cell cell first.cells) manner cs).cells (volume_quiet trial cell c) (all_quiet trial (last_cell cell first.cells) cs)

  last_good : (cell : List Stored) (cells : List (List Stored)) → Good cell → All Good cells → Good (last_cell cell cells)
  last_good cell [] good all = good
  last_good cell (c ∷ cs) good all = last_good c cs (All-head Good c cs all) (All-tail Good c cs all)

  pub all_good : (cell : List Stored) (choices : List Wanted) → Good cell → All (λ c. IsPutWell manner.extension c.name c.server c.partition) choices → All Good (all_answer a cell manner choices).cells
  all_good cell [] good well = All-nil Good
  all_good cell (c ∷ cs) good well =
      let P : Wanted → Type 0 = λ (c : Wanted). IsPutWell manner.extension c.name c.server c.partition in
      let first = volume_answer a cell manner c in
      let here = volume_good cell c good (All-head P c cs well) in
      All-append Good first.cells (all_answer a (last_cell cell first.cells) manner cs).cells here (all_good (last_cell cell first.cells) cs (last_good cell first.cells good here) (All-tail P c cs well))

-- ---- the volumes of a partition, and of a volume set

module _ (listed : List DumpRecordFields) (extension : Option (List ℕ)) where
  abbrev AreApart : List Wanted → Type 0
  AreApart choices = All (λ c. IsApart (target_text c.name extension)) choices

  abbrev AreWell : List Wanted → Type 0
  AreWell choices = All (λ c. IsPutWell extension c.name c.server c.partition) choices

  -- of two lists of choices
  front_apart : (xs ys : List Wanted) → AreApart (xs ++ ys) → AreApart xs
  front_apart [] ys all = All-nil (λ (c : Wanted). IsApart (target_text c.name extension))
  front_apart (x ∷ xs) ys all =
      let P : Wanted → Type 0 = λ (c : Wanted). IsApart (target_text c.name extension) in
      All-cons P x xs (All-head P x (xs ++ ys) all) (front_apart xs ys (All-tail P x (xs ++ ys) all))

  behind_apart : (xs ys : List Wanted) → AreApart (xs ++ ys) → AreApart ys
  behind_apart [] ys all = all
  behind_apart (x ∷ xs) ys all = behind_apart xs ys (All-tail (λ (c : Wanted). IsApart (target_text c.name extension)) x (xs ++ ys) all)

  flat_well : (chosen : List ℕ → List Wanted) → ((name : List ℕ) → AreApart (chosen name) → AreWell (chosen name)) → (names : List (List ℕ)) → AreApart (flat_map chosen names) → AreWell (flat_map chosen names)
  flat_well chosen each [] all = All-nil (λ (c : Wanted). IsPutWell extension c.name c.server c.partition)
  flat_well chosen each (name ∷ names) all =
      All-append (λ (c : Wanted). IsPutWell extension c.name c.server c.partition) (chosen name) (flat_map chosen names) (each name (front_apart (chosen name) (flat_map chosen names) all))
      (flat_well chosen each names (behind_apart (chosen name) (flat_map chosen names) all))

  one_well : (c : Wanted) → IsHost c.server → IsName c.partition → AreApart (c ∷ []) → AreWell (c ∷ [])
  one_well c host part all =
      All-cons (λ (c : Wanted). IsPutWell extension c.name c.server c.partition) c [] (record { server = host; partition = part; target = All-head (λ (c : Wanted). IsApart (target_text c.name extension)) c [] all })
      (All-nil (λ (c : Wanted). IsPutWell extension c.name c.server c.partition))

  if_well : (b : Bool) (c : Wanted) → IsHost c.server → IsName c.partition → AreApart (if b then c ∷ [] else []) → AreWell (if b then c ∷ [] else [])
  if_well true c host part all = one_well c host part all
  if_well false c host part all = All-nil (λ (c : Wanted). IsPutWell extension c.name c.server c.partition)

  given_or : (Form : List ℕ → Type 0) (o : Option (List ℕ)) (other : List ℕ) → IfSome o Form → Form other → Form (unwrap_or o other)
  given_or Form None other is form = form
  given_or Form (Some text) other is form = is

  module _ (disk : Disk) (host : IsHost disk.server) (part : IsName disk.partition) (new_host : IfSome disk.new_server IsHost) (new_part : IfSome disk.new_partition IsName) where
    disk_choice_well : (name : List ℕ) (o : Option VolumeDump) → AreApart (disk_choice disk name o) → AreWell (disk_choice disk name o)
    disk_choice_well name None all = All-nil (λ (c : Wanted). IsPutWell extension c.name c.server c.partition)
    disk_choice_well name (Some one) all = if_well (lay_on disk one) _ (given_or IsHost disk.new_server disk.server new_host host) (given_or IsName disk.new_partition disk.partition new_part part) all

    pub disk_well : AreApart (disk_choices listed disk) → AreWell (disk_choices listed disk)
    disk_well all = flat_well (λ name. disk_choice disk name (latest listed name None)) (λ name. disk_choice_well name (latest listed name None)) (base_names listed) all

  module _ (forms : All IsDumpRecord listed) (entries : List SetEntry) where
    set_choice_well : (name : List ℕ) (o : Option VolumeDump) → latest listed name None ≡ o → AreApart (set_choice entries name o) → AreWell (set_choice entries name o)
    set_choice_well name None is all = All-nil (λ (c : Wanted). IsPutWell extension c.name c.server c.partition)
    set_choice_well name (Some one) is all =
        let form = latest_form listed name None one forms is in
        if_well (list_any (suits one) entries) _ form.server form.partition all

    pub set_well : AreApart (set_choices listed entries) → AreWell (set_choices listed entries)
    set_well all = flat_well (λ name. set_choice entries name (latest listed name None)) (λ name. set_choice_well name (latest listed name None) refl) (base_names listed) all
