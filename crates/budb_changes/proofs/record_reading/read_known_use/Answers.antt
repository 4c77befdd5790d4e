use Rattle.std.proofs.lemmas.Result.{err_from_is_err_and}
use Rattle.bk_text.specs.Alphabets.{IsTapeName}
use Rattle.byte_formats.specs.Formats.{any_four, maybe}
use Rattle.byte_formats.proofs.FormatLaws.{stops_first, stops_second, took_both}
use Rattle.byte_formats.proofs.Leaves.{sole_four}
use Rattle.byte_formats.proofs.Maybe.{has_maybe}
use Rattle.budb_changes.proofs.record_reading.read_known_use.Goals as goal

pub returns-in_err-uses : goal.returns-in_err-uses
returns-in_err-uses c =
    let p = err_from_is_err_and c.from_residual.result c.from_residual.ensures.1 in
    rw (p.1, p.2) (stops_first any_four (λ x. (maybe IsTapeName)) _ _ (λ x is. has_maybe IsTapeName) c.in_err-uses.ensures)

pub returns-in_err-permanent : goal.returns-in_err-permanent
returns-in_err-permanent c =
    let p = err_from_is_err_and c.from_residual-in_err-permanent.result c.from_residual-in_err-permanent.ensures.1 in
    rw (p.1, p.2) (stops_second any_four (λ x. (maybe IsTapeName)) _ _ _ _ sole_four c.in_ok-uses.ensures c.in_err-permanent.ensures)

pub returns : goal.returns
returns c = took_both any_four (λ x. (maybe IsTapeName)) _ _ _ _ _ c.in_ok-uses.ensures c.in_ok-permanent.ensures
