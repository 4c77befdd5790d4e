-- What the steps of a plan answer.
use Rattle.std.proofs.Common.{◌≡◌, ℕ, Ok, Err, List, map, sym, ap, ◌∙◌, subst}
use Rattle.std.specs.Prelude.{Result, IfOk}
use Rattle.budb_changes.specs.declared.records.DumpRecordFields.{DumpRecordFields}
use Rattle.budb_fold.specs.Lookups.{VolumeDump}
use Rattle.budb_fold.specs.Chains.{IsChain}
use Rattle.plant_core.specs.declared.plant.Plant.{Ghosts as Plant}
use Rattle.plant_effects.proofs.Joining.{Fits}
use Rattle.tape_scan.specs.Slots.{Slot}
use Rattle.archive_model.specs.Archives.{needs}
use Rattle.restore_chain.specs.declared.chain_plan.ChainPlan.{ChainPlan}
use Rattle.restore_chain.specs.declared.fault.RestoreFault.{RestoreFault}
use Rattle.restore_chain.specs.declared.fault.RestoreFault.TheVariants as faults
use Rattle.tape_scan.specs.Looking.{LooksAt}
use Rattle.restore_chain.specs.Planning.{located, IsFirstMissing, AnswersChain, PlansOne}
use Rattle.restore_chain.specs.Restoring.{IsChained}
use Rattle.tape_scan.proofs.Looking.{looks_none}

-- an answer for the chain of a dump is one for the dump
pub answers_one : (slots : List Slot) (listed : List DumpRecordFields) (one : VolumeDump) (id : ℕ) (name bytes dumps : List ℕ) (r : Result ChainPlan RestoreFault)
    → id ≡ one.dump.id → name ≡ one.volume.name → bytes ≡ name → IsChain listed id bytes (Ok dumps) → AnswersChain slots listed name dumps r → PlansOne slots listed one r
answers_one slots listed one id name bytes dumps r same_id same_name is_name chain answers = by_answer r answers
  where
    own : IsChain listed one.dump.id one.volume.name (Ok dumps)
    own = subst (λ (n : ℕ). IsChain listed n one.volume.name (Ok dumps)) same_id (subst (λ (n : List ℕ). IsChain listed id n (Ok dumps)) (is_name ∙ same_name) chain)

    by_answer : (r : Result ChainPlan RestoreFault) → AnswersChain slots listed name dumps r → PlansOne slots listed one r
    by_answer (Ok plan) a = record {
      name = a.0 ∙ same_name;
      chain = subst (λ (ids : List ℕ). IsChain listed one.dump.id one.volume.name (Ok ids)) (sym a.1) own;
      tapes = ap (λ (ids : List ℕ). map (located slots) (needs listed ids one.volume.name)) a.1 ∙ ap (λ (n : List ℕ). map (located slots) (needs listed dumps n)) (sym same_name) ∙ a.2;
    }
    by_answer (Err faults.NoDump) a = absurd a
    by_answer (Err (faults.MissingDump missing)) a = absurd a
    by_answer (Err (faults.MissingTape missing initial)) a = record {
      dumps = dumps;
      chain = own;
      missing = subst (λ (n : List ℕ). IsFirstMissing slots (needs listed dumps n) missing initial) same_name a;
    }
    by_answer (Err (faults.BaseLacks number)) a = absurd a
    by_answer (Err (faults.BadOnTape tape place)) a = absurd a
    by_answer (Err faults.TooLarge) a = absurd a
    by_answer (Err faults.Failed) a = tt
    by_answer (Err faults.Memory) a = tt

-- a plan of the chain of a dump has its chain
pub chained_one : (listed : List DumpRecordFields) (one : VolumeDump) (id : ℕ) (name bytes dumps : List ℕ) (r : Result ChainPlan RestoreFault)
    → id ≡ one.dump.id → name ≡ one.volume.name → bytes ≡ name → IsChain listed id bytes (Ok dumps)
    → IfOk r (λ plan. (plan.name ≡ name) × (plan.dumps ≡ dumps)) → IfOk r (IsChained listed)
chained_one listed one id name bytes dumps (Ok plan) same_id same_name is_name chain kept =
    let own : IsChain listed one.dump.id one.volume.name (Ok dumps) =
    subst (λ (n : ℕ). IsChain listed n one.volume.name (Ok dumps)) same_id
    (subst (λ (n : List ℕ). IsChain listed id n (Ok dumps)) (is_name ∙ same_name) chain) in
    record {
      one = one;
      name = kept.0 ∙ same_name;
      chain = subst (λ (ids : List ℕ). IsChain listed one.dump.id one.volume.name (Ok ids)) (sym kept.1) own;
    }
chained_one listed one id name bytes dumps (Err fault) same_id same_name is_name chain kept = tt

module _ {D : Type 0} (P : Plant D) (s : D) (sound : P.sound s) (fits : Fits P s) where
  pub told_missing : (id : ℕ) → LooksAt {T = ChainPlan} P faults.Failed s s (Err (faults.MissingDump id))
  told_missing id = looks_none P faults.Failed s (Err (faults.MissingDump id)) sound fits (λ is. absurd (cc))

  pub told_none : LooksAt {T = ChainPlan} P faults.Failed s s (Err faults.NoDump)
  told_none = looks_none P faults.Failed s (Err faults.NoDump) sound fits (λ is. absurd (cc))

  pub told_memory : LooksAt {T = ChainPlan} P faults.Failed s s (Err faults.Memory)
  told_memory = looks_none P faults.Failed s (Err faults.Memory) sound fits (λ is. absurd (cc))
