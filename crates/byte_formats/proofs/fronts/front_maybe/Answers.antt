use Rattle.std.proofs.Common.{List, ℕ, [], subst, sym}
use Rattle.std.proofs.lemmas.Bool.{iff_false}
use Rattle.byte_formats.specs.Texts.{IsText}
use Rattle.byte_formats.specs.Formats.{Took, maybe}
use Rattle.byte_formats.proofs.Leaves.{not_zero}
use Rattle.byte_formats.proofs.Maybe.{maybe_none, maybe_sticks, maybe_some}
use Rattle.byte_formats.proofs.fronts.front_maybe.Goals as goal

pub returns-then-has_no_text : goal.returns-then-has_no_text
returns-then-has_no_text c = let is = c.has_no_text.ensures.0 c.if-has_no_text.true in subst (λ (rest : List ℕ). Took (maybe (IsText c.args.form)) c.args.bytes.now [] rest) (sym c.behind.ensures) (maybe_none (IsText c.args.form) c.args.bytes.now is.0 is.1)

pub returns-in-Err : goal.returns-in-Err
returns-in-Err c = maybe_sticks (IsText c.args.form) c.args.bytes.now _ (not_zero c.args.bytes.now (λ some z. iff_false c.has_no_text.ensures c.if-has_no_text.false (some, z))) c.in-Err.ensures

pub returns-in-Ok : goal.returns-in-Ok
returns-in-Ok c = maybe_some (IsText c.args.form) _ _ _ c.in-Ok.ensures
