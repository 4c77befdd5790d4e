use Rattle.std.proofs.Common.{refl}
use Rattle.archive_model.proofs.DumpLaws.{rest_holds}
use Rattle.dump_laws.specs.Rest.{settled_whole}
use Rattle.dump_laws.proofs.ReadLaws.{reads_come, seen_alike, alike_at_rest}
use Rattle.plant_core.specs.Effects.{come}
use Rattle.dump_laws.proofs.steps.what_is_settled_is_not_read.Goals as goal

pub returns-clause-holds : goal.returns-clause-holds
returns-clause-holds c = λ s a records held. rest_holds (settled_whole s) a records held refl (λ k. refl)

pub returns-clause-reads : goal.returns-clause-reads
returns-clause-reads c = λ s effects. seen_alike (come effects s) (come effects (settled_whole s)) (reads_come effects s (settled_whole s) (alike_at_rest s))
