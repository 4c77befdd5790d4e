use Rattle.std.proofs.Common.{ℕ, List, ◌++◌, ◌∷◌, [], subst}
use Rattle.backup_script.specs.Lines.{TookPiece}
use Rattle.backup_script.proofs.LineLaws.{piece_more}
use Rattle.backup_script.proofs.lines.take_line.Goals as goal

pub returns-then-is_err-clause-took : goal.returns-then-is_err-clause-took
returns-then-is_err-clause-took g c = λ told.
    let e = rw c.in-Ok-Some.field-0-is at c.in-Ok-Some.ensures in
    let old = g.S.Source.left c.args.source.now in
    let line = c.loop-taken.line in
    (line ++ c.in-Ok-Some.byte ∷ [], piece_more old (g.S.Source.left c.take_byte.new.source) line c.in-Ok-Some.byte (subst (λ (l : List ℕ). TookPiece old l line) (e.took told) (c.loop-taken.invariant.took told)) c.if-byte-eq10.false)
