use Rattle.std.proofs.lemmas.Result.{err_from_is_err_and}
use Rattle.budb_changes.specs.Formats.{expiry_of_kind}
use Rattle.byte_formats.proofs.FormatLaws.{stops_first, stops_second, took_both, stops_like, took_like}
use Rattle.budb_changes.proofs.ChangeKinds.{any_two, sole_any_two, has_any_two, span, span_1, has_span_1, like_span}
use Rattle.budb_changes.proofs.change_reading.read_span.Goals as goal

pub returns-in_err-years : goal.returns-in_err-years
returns-in_err-years c =
    let p = err_from_is_err_and c.from_residual.result c.from_residual.ensures.1 in
    rw (p.1, p.2) (stops_like span (expiry_of_kind 3) like_span _ _ (stops_first any_two (λ x. span_1) _ _ (λ x is. has_span_1) c.in_err-years.ensures))

pub returns-in_err-months : goal.returns-in_err-months
returns-in_err-months c =
    let p = err_from_is_err_and c.from_residual-in_err-months.result c.from_residual-in_err-months.ensures.1 in
    rw (p.1, p.2) (stops_like span (expiry_of_kind 3) like_span _ _ (stops_second any_two (λ x. span_1) _ _ _ _ sole_any_two c.in_ok-years.ensures (stops_first any_two (λ x. any_two) _ _ (λ x is. has_any_two) c.in_err-months.ensures)))

pub returns-in_err-days : goal.returns-in_err-days
returns-in_err-days c =
    let p = err_from_is_err_and c.from_residual-in_err-days.result c.from_residual-in_err-days.ensures.1 in
    rw (p.1, p.2) (stops_like span (expiry_of_kind 3) like_span _ _ (stops_second any_two (λ x. span_1) _ _ _ _ sole_any_two c.in_ok-years.ensures (stops_second any_two (λ x. any_two) _ _ _ _ sole_any_two c.in_ok-months.ensures c.in_err-days.ensures)))

pub returns : goal.returns
unfolding like_span
returns c = took_like span (expiry_of_kind 3) like_span _ _ _ (took_both any_two (λ x. span_1) _ _ _ _ _ c.in_ok-years.ensures (took_both any_two (λ x. any_two) _ _ _ _ _ c.in_ok-months.ensures c.in_ok-days.ensures))
