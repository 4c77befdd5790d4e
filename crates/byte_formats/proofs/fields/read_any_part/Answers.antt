use Rattle.std.proofs.Common.{List, ℕ, subst, sym}
use Rattle.std.specs.Prelude.{None}
use Rattle.std.proofs.lemmas.Bool.{iff_false}
use Rattle.bk_text.specs.Alphabets.{IsName}
use Rattle.byte_formats.specs.Formats.{Took, any_of}
use Rattle.byte_formats.proofs.Leaves.{any_none, any_stops, any_some, not_zero}
use Rattle.byte_formats.proofs.fields.read_any_part.Goals as goal

pub returns-then-has_no_text : goal.returns-then-has_no_text
returns-then-has_no_text c = let is = c.has_no_text.ensures.0 c.if-has_no_text.true in subst (λ (rest : List ℕ). Took (any_of IsName) c.args.bytes.now None rest) (sym c.behind.ensures) (any_none IsName c.args.bytes.now is.0 is.1)

pub returns-in-Err : goal.returns-in-Err
returns-in-Err c = any_stops IsName c.args.bytes.now _ (not_zero c.args.bytes.now (λ some z. iff_false c.has_no_text.ensures c.if-has_no_text.false (some, z))) c.in-Err.ensures

pub returns-in-Ok : goal.returns-in-Ok
returns-in-Ok c = any_some IsName _ _ _ c.in-Ok.ensures
