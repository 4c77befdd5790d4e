-- Volumes that are taken sixteen at a time, and what is played of them.
use Rattle.std.proofs.Common.{◌≡◌, ◌≢◌, zero, suc, ℕ, ◌+◌, ◌<◌, ◌≤◌, ◌/◌, min, Bool, true, false, Option, Some, None, List, [], ◌∷◌, ◌++◌, length, take, drop, get_or, refl, sym, ap, ◌∙◌, subst, arith, inl, inr, length-append, append_assoc, append-nil}
use Rattle.std.specs.Prelude.{Result, Ok, Err, All, if◌then◌else◌}
use Rattle.std.specs.List.{sum_by, flat_map, list_any}
use Rattle.std.specs.Option.{unwrap_or}
use Rattle.std.proofs.lemmas.Bool.{cases_lt}
use Rattle.std.proofs.lemmas.List.{take_all, drop_all, take_at, drop_at, nil_from_length}
use Rattle.std.proofs.lemmas.List.Elements.{All-head, All-tail, All-nil, All-cons, All-append, All-take, All-drop}
use Rattle.std.proofs.lemmas.List.Sums.{sum_by-cons}
use Rattle.plant_core.specs.Stock.{Stock}
use Rattle.vnode_model.specs.declared.volumes.VolumeFields.{VolumeFields}
use Rattle.budb_changes.specs.declared.records.DumpRecordFields.{DumpRecordFields}
use Rattle.budb_fold.specs.Lookups.{VolumeDump, latest}
use Rattle.budb_fold.specs.declared.fault.ChainFault.{ChainFault}
use Rattle.budb_fold.specs.declared.fault.ChainFault.TheVariants.{Missing}
use Rattle.budb_fold.specs.Chains.{IsChain, Chains, HaveParentsBelow}
use Rattle.budb_fold.proofs.ChainLaws.{one_outcome}
use Rattle.tape_scan.specs.Slots.{Slot}
use Rattle.cell_core.specs.declared.stored.Stored.{Stored}
use Rattle.archive_model.specs.Archives.{Archive, Refusal, Holds, listed_of}
use Rattle.restore_chain.specs.declared.chain_plan.ChainPlan.{ChainPlan}
use Rattle.restore_chain.specs.declared.fault.RestoreFault.{RestoreFault}
use Rattle.restore_chain.specs.declared.fault.RestoreFault.TheVariants as faults
use Rattle.restore_chain.specs.Planning.{Plans, PlansFor, IsPlanAnswer}
use Rattle.restore_chain.specs.Restoring.{PlaysPlan}
use Rattle.restore_chain.specs.Answers.{chain_in, looked_up}
use Rattle.restore_chain.proofs.AnswerLaws.{chain_in_is, looked_up_only}
use Rattle.restore_chain.proofs.RestoreLaws.{restored}
use Rattle.mount_plan.specs.declared.fault.Played.{Played}
use Rattle.mount_plan.specs.declared.fault.Played.TheVariants as played
use Rattle.mount_plan.specs.declared.plan.MountNeed.{MountNeed}
use Rattle.mount_plan.specs.Mounts.{mounts}
use Rattle.mount_plan.specs.Passes.{most_loads}
use Rattle.mount_plan.specs.Tellings.{IsTold}
use Rattle.mount_plan.specs.Outcomes.{AnswersName, AnswersNames, IsPlayed}
use Rattle.restore_target.specs.Targets.{target_text, after_restore}
use Rattle.backup_replies.specs.Restores.{restored_line}
use Rattle.volume_sets.specs.declared.sets.SetEntry.{SetEntry}
use Rattle.backup_words.specs.declared.command.Disk.{Disk}
use Rattle.backup_words.specs.declared.command.Wanted.{Wanted}
use Rattle.restore_commands.specs.Bases.{base_names}
use Rattle.restore_commands.specs.Choices.{lay_on, disk_choice, disk_choices, suits, set_choice, set_choices}
use Rattle.restore_commands.specs.Answers.{Manner, look_up_refusal, lines_by, lines_of, put_answer, found_answer, volume_answer, told_lines, last_cell}
use Rattle.restore_commands.specs.Steps.{fault_line, SoFar, IsLatest, IsFound, AreFound, ArePut}
use Rattle.restore_commands.specs.Batches.{first_batches, batches, names_in, loads_together, batch_loads}
use Rattle.restore_commands.proofs.EachLaws.{none_so_far, next_so_far, rest_from}
use Rattle.restore_commands.proofs.FoundLaws.{below, IsRefused, plan_refused, play_refused}

-- ---- batches

module _ (batch rest : List Wanted) (size : length batch ≡ min 16 (length (batch ++ rest))) (some : 0 < length (batch ++ rest)) where
  both : length (batch ++ rest) ≡ length batch + length rest
  both = length-append batch rest

  front : take 16 (batch ++ rest) ≡ batch
  front = elim (cases_lt (length (batch ++ rest)) 16) [
    | inl short ↦ (let none : rest ≡ [] = nil_from_length rest (omega (arith, size, both, short)) in
        take_all 16 (batch ++ rest) (omega (arith, short)) ∙ ap (λ (l : List Wanted). batch ++ l) none ∙ append-nil batch)
    | inr long ↦ take_at batch rest 16 (omega (arith, size, long))
  ]

  behind : drop 16 (batch ++ rest) ≡ rest
  behind = elim (cases_lt (length (batch ++ rest)) 16) [
    | inl short ↦ (let none : rest ≡ [] = nil_from_length rest (omega (arith, size, both, short)) in
        drop_all 16 (batch ++ rest) (omega (arith, short)) ∙ sym none)
    | inr long ↦ drop_at batch rest 16 (omega (arith, size, long))
  ]

  count : (length (batch ++ rest) + 15) / 16 ≡ suc ((length rest + 15) / 16)
  count = omega (arith, size, some, both)

  pub batches_are : batches (batch ++ rest) ≡ batch ∷ batches rest
  batches_are = ap (λ (n : ℕ). first_batches n (batch ++ rest)) count ∙ (λ i. front i ∷ first_batches ((length rest + 15) / 16) (behind i))

-- one batch and those behind it
pub loads_behind : (slots : List Slot) (listed : List DumpRecordFields) (all batch rest : List Wanted) → all ≡ batch ++ rest → length batch ≡ min 16 (length all) → 0 < length all
    → batch_loads slots listed all ≡ loads_together slots listed batch + batch_loads slots listed rest
loads_behind slots listed all batch rest is size some =
    ap (batch_loads slots listed) is
    ∙ ap (sum_by (loads_together slots listed)) (batches_are batch rest (subst (λ (l : List Wanted). length batch ≡ min 16 (length l)) is size) (subst (λ (l : List Wanted). 0 < length l) is some))
    ∙ sum_by-cons (loads_together slots listed) batch (batches rest)

-- what is so of all is so of a batch and of those behind it
pub latest_front : (batch rest all : List Wanted) → all ≡ batch ++ rest → All IsLatest all → All IsLatest batch
latest_front batch rest all parts every = subst (All IsLatest) (take_at batch rest (length batch) refl) (All-take IsLatest (length batch) (batch ++ rest) (subst (All IsLatest) parts every))

pub latest_behind : (batch rest all : List Wanted) → all ≡ batch ++ rest → All IsLatest all → All IsLatest rest
latest_behind batch rest all parts every = subst (All IsLatest) (drop_at batch rest (length batch) refl) (All-drop IsLatest (length batch) (batch ++ rest) (subst (All IsLatest) parts every))

-- the bound of a plan is that of its batch
pub counted_by : (slots : List Slot) (listed : List DumpRecordFields) (batch : List Wanted) (old new : ℕ) (needs : List MountNeed) → needs ≡ mounts listed None (names_in batch) → new ≤ old + most_loads slots listed needs → new ≤ old + loads_together slots listed batch
counted_by slots listed batch old new needs is = subst (λ (ns : List MountNeed). new ≤ old + most_loads slots listed ns) is

-- ---- what was played of a name

plan_answer : (slots : List Slot) (listed : List DumpRecordFields) (found : Option VolumeDump) (fault : RestoreFault) → PlansFor slots listed found (Err fault) → (let r : Result ChainPlan RestoreFault = Err fault in IsPlanAnswer r)
plan_answer slots listed found faults.NoDump plans = tt
plan_answer slots listed found (faults.MissingDump id) plans = tt
plan_answer slots listed found (faults.MissingTape name initial) plans = tt
plan_answer slots listed None (faults.BaseLacks number) plans = absurd plans
plan_answer slots listed (Some one) (faults.BaseLacks number) plans = absurd plans
plan_answer slots listed None (faults.BadOnTape tape place) plans = absurd plans
plan_answer slots listed (Some one) (faults.BadOnTape tape place) plans = absurd plans
plan_answer slots listed None faults.TooLarge plans = absurd plans
plan_answer slots listed (Some one) faults.TooLarge plans = absurd plans
plan_answer slots listed found faults.Failed plans = tt
plan_answer slots listed found faults.Memory plans = tt

module _ (a : Archive) (stock : Stock) (records : List DumpRecordFields) (holds : Holds stock a records) (wanted : Wanted) where
  -- the same refusal whatever name it would get
  found_refused : (fault : RestoreFault) → ((target : List ℕ) → IsRefused a wanted.name wanted.before target fault) → IsFound a wanted (played.Refused fault)
  found_refused fault refused =
      let one = refused [] in (
        one.refusal,
        one.is,
        λ target.
            (let other = refused target in
            let same : other.refusal ≡ one.refusal = one_refusal other.refusal one.refusal (sym other.is ∙ one.is) in
            other.line ∙ ap (look_up_refusal wanted.name target) same),
      )
    where
      one_refusal : (x y : Refusal) → (let r : Result VolumeFields Refusal = Err x in r) ≡ Err y → x ≡ y
      one_refusal x y is = cc

  pub name_found : (p : Played) → AnswersName a.slots (listed_of a) wanted.before wanted.name p → IsPlayed p → IsFound a wanted p
  name_found (played.Volume volume) (plan, plans, plays) told =
      sym (looked_up_only a wanted.name wanted.before (Ok volume) (below a) (restored stock a records holds wanted.name wanted.before plan (Ok volume) plans plays))
  name_found (played.Refused fault) (inl plans) told =
      found_refused fault (λ target. plan_refused a wanted.name wanted.before target fault (plan_answer a.slots (listed_of a) (latest (listed_of a) wanted.name wanted.before) fault plans) (λ is. subst IsTold is told) (λ is. subst IsTold is told) plans)
  name_found (played.Refused fault) (inr (plan, plans, plays)) told =
      found_refused fault (λ target. play_refused a wanted.name wanted.before target fault (λ is. subst IsTold is told) (λ is. subst IsTold is told) (restored stock a records holds wanted.name wanted.before plan (Err fault) plans plays))

module _ (a : Archive) (stock : Stock) (records : List DumpRecordFields) (holds : Holds stock a records) where
  pub names_found : (batch : List Wanted) (ps : List Played) → AnswersNames a.slots (listed_of a) None (names_in batch) ps → All IsLatest batch → All IsPlayed ps → AreFound a batch ps
  names_found [] [] answers latest_all told = tt
  names_found [] (p ∷ ps) answers latest_all told = absurd answers
  names_found (w ∷ batch) [] answers latest_all told = absurd answers
  names_found (w ∷ batch) (p ∷ ps) (first, rest) latest_all told = (
    name_found a stock records holds w p (subst (λ (b : Option ℕ). AnswersName a.slots (listed_of a) b w.name p) (sym (All-head IsLatest w batch latest_all)) first) (All-head IsPlayed p ps told),
    names_found batch ps rest (All-tail IsLatest w batch latest_all) (All-tail IsPlayed p ps told),
  )

-- ---- what is told of a volume that was played

module _ (listed : List DumpRecordFields) (target : List ℕ) (one : VolumeDump) (id : ℕ) (name : List ℕ) (id_is : id ≡ one.dump.id) (name_is : name ≡ one.volume.name) (low : HaveParentsBelow listed) where
  chain_is : (outcome : Result (List ℕ) ℕ) → IsChain listed id name outcome → chain_in listed one.dump.id one.volume.name ≡ outcome
  chain_is outcome chain =
      (λ i. chain_in listed (sym id_is i) (sym name_is i)) ∙ one_outcome listed id name (chain_in listed id name) outcome (chain_in_is listed id name low) chain

  pub line_along : (ids : List ℕ) → IsChain listed id name (Ok ids) → restored_line target id (length ids) ≡ lines_of false target listed (Some one)
  line_along ids chain = ap (λ (n : ℕ). restored_line target n (length ids)) id_is ∙ ap (lines_by false target listed one) (sym (chain_is (Ok ids) chain))

  no_line : (missing : ℕ) → IsChain listed id name (Err missing) → [] ≡ lines_of false target listed (Some one)
  no_line missing chain = ap (lines_by false target listed one) (sym (chain_is (Err missing) chain))

  pub no_line_for : (fault : ChainFault) (missing : ℕ) → fault ≡ Missing missing → Chains listed id name (Err fault) → [] ≡ lines_of false target listed (Some one)
  no_line_for fault missing is chains =
      let so : Chains listed id name (Err (Missing missing)) = subst (λ (f : ChainFault). Chains listed id name (Err f)) is chains in
      no_line missing (so low)

module _ (a : Archive) (old : List Stored) (manner : Manner) (wanted : Wanted) (target lines : List ℕ) (named : target ≡ target_text wanted.name manner.extension) (real : manner.is_trial ≡ false) where
  pub played_answer : (volume : VolumeFields) → looked_up a wanted.name wanted.before ≡ Ok volume → lines ≡ lines_of false target (listed_of a) (latest (listed_of a) wanted.name wanted.before)
      → volume_answer a old manner wanted ≡ put_answer manner.is_trial target lines (after_restore old wanted.server wanted.partition target manner.time volume)
  played_answer volume is told =
      let own = target_text wanted.name manner.extension in
      let one = latest (listed_of a) wanted.name wanted.before in
      let same : lines_of manner.is_trial own (listed_of a) one ≡ lines =
      ap (λ (b : Bool). lines_of b own (listed_of a) one) real ∙ ap (λ (t : List ℕ). lines_of false t (listed_of a) one) (sym named) ∙ sym told in
      ap (found_answer old wanted manner (lines_of manner.is_trial own (listed_of a) one)) is
      ∙ (λ i. put_answer manner.is_trial (sym named i) (same i) (after_restore old wanted.server wanted.partition (sym named i) manner.time volume))

-- ---- one after the other

-- what was found of the next one, and of the rest
pub found_next : (a : Archive) (batch : List Wanted) (i : ℕ) (choice : Wanted) (one : Played) (left rest : List Played) → i < length batch → choice ≡ get_or batch i choice → left ≡ one ∷ rest → AreFound a (drop i batch) left
    → IsFound a choice one × AreFound a (drop (i + 1) batch) rest
found_next a batch i choice one left rest within here step found =
    subst (AreFound a (choice ∷ drop (i + 1) batch)) step (subst (λ (cs : List Wanted). AreFound a cs left) (rest_from batch i choice within here) found)

module _ (a : Archive) (manner : Manner) (batch : List Wanted) (old : List Stored) where
  pub put_none : (lines : List ℕ) → ArePut a manner batch old batch lines lines old
  put_none lines = record { told = []; more_is = sym (append-nil lines); so_far = λ others. none_so_far a manner (batch ++ others) old }

  pub put_next : (i : ℕ) (choice : Wanted) (lines mid more : List ℕ) (now new : List Stored) → i < length batch → choice ≡ get_or batch i choice → ArePut a manner batch old (drop i batch) lines mid now
      → more ≡ mid ++ told_lines (volume_answer a now manner choice).told → new ≡ last_cell now (volume_answer a now manner choice).cells → ArePut a manner batch old (drop (i + 1) batch) lines more new
  put_next i choice lines mid more now new within here put told list =
      let text = told_lines (volume_answer a now manner choice).told in
      record {
        told = put.told ++ text;
        more_is = told ∙ ap (λ (l : List ℕ). l ++ text) put.more_is ∙ append_assoc lines put.told text;
        so_far = λ others.
            next_so_far a manner (batch ++ others) old choice (drop (i + 1) batch ++ others) put.told (put.told ++ text) now new
            (subst (λ (cs : List Wanted). SoFar a manner (batch ++ others) old (cs ++ others) put.told now) (rest_from batch i choice within here) (put.so_far others)) refl list;
      }

-- ---- volumes that are chosen are wanted as their latest dumps have them

latest_in : {X : Type 0} (f : X → List Wanted) → ((x : X) → All IsLatest (f x)) → (xs : List X) → All IsLatest (flat_map f xs)
latest_in f each [] = All-nil IsLatest
latest_in f each (x ∷ xs) = All-append IsLatest (f x) (flat_map f xs) (each x) (latest_in f each xs)

one_latest : (w : Wanted) → IsLatest w → All IsLatest (w ∷ [])
one_latest w is = All-cons IsLatest w [] is (All-nil IsLatest)

pub disk_latest : (listed : List DumpRecordFields) (disk : Disk) → All IsLatest (disk_choices listed disk)
disk_latest listed disk = latest_in (λ name. disk_choice disk name (latest listed name None)) (λ name. choice name (latest listed name None)) (base_names listed)
  where
    choice : (name : List ℕ) (found : Option VolumeDump) → All IsLatest (disk_choice disk name found)
    choice name None = All-nil IsLatest
    choice name (Some one) = go (lay_on disk one)
      where
        go : (b : Bool) → All IsLatest (if b then record { name = name; before = None; server = unwrap_or disk.new_server disk.server; partition = unwrap_or disk.new_partition disk.partition } ∷ [] else [])
        go true = one_latest _ refl
        go false = All-nil IsLatest

pub set_latest : (listed : List DumpRecordFields) (entries : List SetEntry) → All IsLatest (set_choices listed entries)
set_latest listed entries = latest_in (λ name. set_choice entries name (latest listed name None)) (λ name. choice name (latest listed name None)) (base_names listed)
  where
    choice : (name : List ℕ) (found : Option VolumeDump) → All IsLatest (set_choice entries name found)
    choice name None = All-nil IsLatest
    choice name (Some one) = go (list_any (suits one) entries)
      where
        go : (b : Bool) → All IsLatest (if b then record { name = name; before = None; server = one.volume.server; partition = one.volume.partition } ∷ [] else [])
        go true = one_latest _ refl
        go false = All-nil IsLatest
