use Rattle.std.proofs.lemmas.Result.{err_from_is_err_and}
use Rattle.byte_formats.specs.Formats.{pair, any_four}
use Rattle.byte_formats.proofs.FormatLaws.{stops_first, stops_second, took_both}
use Rattle.byte_formats.proofs.Leaves.{sole_four, has_four}
use Rattle.byte_formats.proofs.Texts.{has_pair}
use Rattle.budb_changes.proofs.record_reading.read_numbers.Goals as goal

pub returns-in_err-one : goal.returns-in_err-one
returns-in_err-one c =
    let p = err_from_is_err_and c.from_residual.result c.from_residual.ensures.1 in
    rw (p.1, p.2) (stops_first any_four (λ x. (pair any_four (pair any_four any_four))) _ _ (λ x is. has_pair any_four (pair any_four any_four) has_four (has_pair any_four any_four has_four has_four)) c.in_err-one.ensures)

pub returns-in_err-two : goal.returns-in_err-two
returns-in_err-two c =
    let p = err_from_is_err_and c.from_residual-in_err-two.result c.from_residual-in_err-two.ensures.1 in
    rw (p.1, p.2) (stops_second any_four (λ x. (pair any_four (pair any_four any_four))) _ _ _ _ sole_four c.in_ok-one.ensures (stops_first any_four (λ x. (pair any_four any_four)) _ _ (λ x is. has_pair any_four any_four has_four has_four) c.in_err-two.ensures))

pub returns-in_err-three : goal.returns-in_err-three
returns-in_err-three c =
    let p = err_from_is_err_and c.from_residual-in_err-three.result c.from_residual-in_err-three.ensures.1 in
    rw (p.1, p.2) (stops_second any_four (λ x. (pair any_four (pair any_four any_four))) _ _ _ _ sole_four c.in_ok-one.ensures (stops_second any_four (λ x. (pair any_four any_four)) _ _ _ _ sole_four c.in_ok-two.ensures (stops_first any_four (λ x. any_four) _ _ (λ x is. has_four) c.in_err-three.ensures)))

pub returns-in_err-four : goal.returns-in_err-four
returns-in_err-four c =
    let p = err_from_is_err_and c.from_residual-in_err-four.result c.from_residual-in_err-four.ensures.1 in
    rw (p.1, p.2) (stops_second any_four (λ x. (pair any_four (pair any_four any_four))) _ _ _ _ sole_four c.in_ok-one.ensures (stops_second any_four (λ x. (pair any_four any_four)) _ _ _ _ sole_four c.in_ok-two.ensures (stops_second any_four (λ x. any_four) _ _ _ _ sole_four c.in_ok-three.ensures c.in_err-four.ensures)))

pub returns : goal.returns
returns c = took_both any_four (λ x. (pair any_four (pair any_four any_four))) _ _ _ _ _ c.in_ok-one.ensures (took_both any_four (λ x. (pair any_four any_four)) _ _ _ _ _ c.in_ok-two.ensures (took_both any_four (λ x. any_four) _ _ _ _ _ c.in_ok-three.ensures c.in_ok-four.ensures))
