use Rattle.std.proofs.Common.{ℕ, List, take, subst}
use Rattle.tape_frames.specs.Heads.{Differs}
use Rattle.tape_frames.proofs.Heads.{head_sticks}
use Rattle.tape_frames.proofs.head.read_head.Goals as goal

pub returns-in-Some : goal.returns-in-Some
returns-in-Some c =
    head_sticks c.likely_kind-kind.result c.args.block.now c.in-Some.at c.likely_kind-kind.ensures.version c.likely_kind-kind.ensures.code
    (subst (λ (x : List ℕ). Differs x (take 8 c.args.block.now) c.in-Some.at) c.head_of.ensures c.in-Some.ensures)
