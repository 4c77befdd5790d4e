-- A look-up has one outcome.
use Rattle.std.proofs.Common.{◌≡◌, ℕ, Option, Some, None, List, refl, sym, ap, ◌∙◌}
use Rattle.std.specs.Prelude.{Result, Err}
use Rattle.vnode_model.specs.declared.volumes.VolumeFields.{VolumeFields}
use Rattle.budb_fold.specs.Lookups.{VolumeDump, latest}
use Rattle.budb_fold.proofs.ChainLaws.{chain_there, one_outcome}
use Rattle.archive_model.specs.Archives.{Archive, Refusal, NoDump, listed_of, looked_up_by, LooksUpOne, LooksUp}
use Rattle.archive_model.proofs.ListedLaws.{all_below}

has_one : (a : Archive) (o : Option VolumeDump) → (outcome : Result VolumeFields Refusal) × LooksUpOne a o outcome
has_one a None = (Err NoDump, refl)
has_one a (Some one) =
    let chain = chain_there (listed_of a) one.dump.id one.volume.name (all_below a.log) in
    (looked_up_by a one chain.0, (chain.0, chain.1, refl))

pub looks_up : (a : Archive) (name : List ℕ) (before : Option ℕ) → (outcome : Result VolumeFields Refusal) × LooksUp a name before outcome
looks_up a name before = has_one a (latest (listed_of a) name before)

same_one : (a : Archive) (o : Option VolumeDump) (x y : Result VolumeFields Refusal) → LooksUpOne a o x → LooksUpOne a o y → x ≡ y
same_one a None x y p q = p ∙ sym q
same_one a (Some one) x y p q =
    let same = one_outcome (listed_of a) one.dump.id one.volume.name p.0 q.0 p.1 q.1 in
    p.2 ∙ ap (looked_up_by a one) same ∙ sym q.2

pub looks_up_once : (a : Archive) (name : List ℕ) (before : Option ℕ) (x y : Result VolumeFields Refusal) → LooksUp a name before x → LooksUp a name before y → x ≡ y
looks_up_once a name before x y p q = same_one a (latest (listed_of a) name before) x y p q
