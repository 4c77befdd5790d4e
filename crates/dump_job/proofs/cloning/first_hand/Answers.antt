use Rattle.std.proofs.Common.{ℕ, ◌<◌, List, length, sym, subst}
use Rattle.dump_job.proofs.Streams.{written_long}
use Rattle.dump_job.proofs.cloning.first_hand.Goals as goal

pub returns-clause-short : goal.returns-clause-short
returns-clause-short c = subst (λ (s : List ℕ). length s < 1073741824) (sym c.new-stream.ensures.left) (written_long _ c.new-stream.ensures.allowed)
