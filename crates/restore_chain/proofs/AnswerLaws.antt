-- A look-up answers what is computed.
use Rattle.std.proofs.Common.{zero, suc, ◌≡◌, ℕ, ◌<◌, ◌+◌, Bool, true, false, List, [], ◌∷◌, refl, ◌∙◌, ap, arith, inl, inr}
use Rattle.std.specs.Prelude.{◌==◌, if◌then◌else◌, Option, Some, None, Result, Ok, Err}
use Rattle.std.proofs.lemmas.Bool.{eqb-true, eqb-false}
use Rattle.vnode_model.specs.declared.volumes.VolumeFields.{VolumeFields}
use Rattle.budb_changes.specs.declared.records.DumpRecordFields.{DumpRecordFields}
use Rattle.budb_fold.specs.Lookups.{VolumeDump, latest}
use Rattle.budb_fold.specs.Chains.{dump_of, IsChain, followed_by, HaveParentsBelow}
use Rattle.budb_fold.proofs.ChainLaws.{folds, parent_below, one_outcome}
use Rattle.archive_model.specs.Archives.{Archive, Refusal, listed_of, looked_up_by, LooksUpOne, LooksUp}
use Rattle.restore_chain.specs.Answers.{chain_over, parent_in, chain_up, chain_in, looked_up_one, looked_up}

module _ (records : List DumpRecordFields) (name : List ℕ) (below : HaveParentsBelow records) where
  over : (n id : ℕ) (d : VolumeDump) → dump_of records name id ≡ Some d → IsChain records d.dump.parent name (chain_up n records name d.dump.parent) → (b : Bool) → (d.volume.from == 0) ≡ b
      → IsChain records id name (if b then Ok (id ∷ []) else followed_by (chain_up n records name d.dump.parent) id)
  over n id d is up true whole = folds records id name (Ok (id ∷ [])) (Some d) is (inl (eqb-true d.volume.from 0 whole, refl))
  over n id d is up false since =
      folds records id name (followed_by (chain_up n records name d.dump.parent) id) (Some d) is
      (inr (eqb-false d.volume.from 0 since, (chain_up n records name d.dump.parent, up, refl)))

  step : (n id : ℕ) (o : Option VolumeDump) → dump_of records name id ≡ o → ((d : VolumeDump) → dump_of records name id ≡ Some d → IsChain records d.dump.parent name (chain_up n records name d.dump.parent))
      → IsChain records id name (chain_over id o (chain_up n records name (parent_in o)))
  step n id None is up = folds records id name (Err id) None is refl
  step n id (Some d) is up = over n id d is (up d is) (d.volume.from == 0) refl

  chain_is : (n id : ℕ) → id < n → IsChain records id name (chain_up n records name id)
  chain_is zero id within = absurd (omega (arith, within))
  chain_is (suc n) id within = step n id (dump_of records name id) refl (λ d is. chain_is n d.dump.parent (omega (arith, parent_below records name id d below is, within)))

pub chain_in_is : (records : List DumpRecordFields) (id : ℕ) (name : List ℕ) → HaveParentsBelow records → IsChain records id name (chain_in records id name)
chain_in_is records id name below = chain_is records name below (id + 1) id (omega arith)

pub looked_up_is : (a : Archive) (name : List ℕ) (before : Option ℕ) → HaveParentsBelow (listed_of a) → LooksUp a name before (looked_up a name before)
looked_up_is a name before below = go (latest (listed_of a) name before)
  where
    go : (o : Option VolumeDump) → LooksUpOne a o (looked_up_one a o)
    go None = refl
    go (Some one) = (chain_in (listed_of a) one.dump.id one.volume.name, chain_in_is (listed_of a) one.dump.id one.volume.name below, refl)

pub looked_up_only : (a : Archive) (name : List ℕ) (before : Option ℕ) (outcome : Result VolumeFields Refusal) → HaveParentsBelow (listed_of a) → LooksUp a name before outcome → outcome ≡ looked_up a name before
looked_up_only a name before outcome below = go (latest (listed_of a) name before)
  where
    go : (o : Option VolumeDump) → LooksUpOne a o outcome → outcome ≡ looked_up_one a o
    go None is = is
    go (Some one) (chain, is_chain, is) =
        is ∙ ap (looked_up_by a one) (one_outcome (listed_of a) one.dump.id one.volume.name chain (chain_in (listed_of a) one.dump.id one.volume.name) is_chain (chain_in_is (listed_of a) one.dump.id one.volume.name below))
