use Rattle.std.proofs.Common.{refl}
use Rattle.budb_fold.specs.Chains.{dump_of}
use Rattle.budb_fold.proofs.ChainLaws.{unfolds, folds}
use Rattle.budb_fold.proofs.chain_laws.chain_unfolds.Goals as goal

pub returns : goal.returns
returns c = λ records id name outcome. ((λ chain. unfolds records id name outcome (dump_of records name id) refl chain), (λ so. folds records id name outcome (dump_of records name id) refl so))
