use Rattle.std.proofs.Common.{ap, refl}
use Rattle.std.proofs.lemmas.Bool.{iff_false}
use Rattle.tape_scan.specs.declared.scanning_walk.FragmentSoFar.{FragmentSoFar}
use Rattle.tape_scan.specs.declared.scanning_walk.Walk.TheVariants as walks
use Rattle.tape_scan.proofs.scanning_steps.behind_piece.Goals as goal

pub returns-then-adds_piece : goal.returns-then-adds_piece
returns-then-adds_piece c = λ at d tells.
    ((c.adds_piece.ensures.added d tells).0 c.if-adds_piece.true, ap (λ (f : FragmentSoFar). walks.InFragment c.args.tape c.args.part f) (c.with_piece-longer.ensures d tells))

pub returns-else-adds_piece : goal.returns-else-adds_piece
returns-else-adds_piece c = λ at d tells. (iff_false (c.adds_piece.ensures.added d tells) c.if-adds_piece.false, refl)
