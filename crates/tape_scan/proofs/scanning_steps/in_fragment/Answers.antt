use Rattle.std.proofs.Common.{sym, subst}
use Rattle.tape_text.specs.Items.{Item}
use Rattle.tape_scan.specs.declared.scanning_walk.TapeItem.{TapeItem}
use Rattle.tape_scan.specs.declared.scanning_walk.Walk.TheVariants as walks
use Rattle.tape_scan.specs.Steps.{IsOf, Steps}
use Rattle.tape_scan.proofs.scanning_steps.in_fragment.Goals as goal

pub returns-in-Piece : goal.returns-in-Piece
returns-in-Piece c = λ said told.
    let h = subst (λ (t : TapeItem). IsOf t said) c.in-Piece.is told in
    subst (λ (i : Item). Steps (walks.InFragment c.args.tape c.args.part c.args.fragment) c.args.at i c.behind_piece.result) (sym h.1) (c.behind_piece.ensures c.args.at h.0 h.2)
