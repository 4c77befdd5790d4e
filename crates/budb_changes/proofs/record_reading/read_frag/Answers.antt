use Rattle.std.proofs.lemmas.Result.{err_from_is_err_and}
use Rattle.byte_formats.specs.Formats.{pair, any_four}
use Rattle.budb_changes.specs.Formats.{frag_form}
use Rattle.byte_formats.proofs.FormatLaws.{stops_first, stops_second, took_both, stops_like, took_like}
use Rattle.byte_formats.proofs.Leaves.{sole_four, has_four}
use Rattle.budb_changes.proofs.Layouts.{like_frag}
use Rattle.budb_changes.proofs.record_reading.read_frag.Goals as goal

pub returns-in_err-tape : goal.returns-in_err-tape
returns-in_err-tape c =
    let p = err_from_is_err_and c.from_residual.result c.from_residual.ensures.1 in
    rw (p.1, p.2) (stops_like (pair any_four any_four) frag_form like_frag _ _ (stops_first any_four (λ x. any_four) _ _ (λ x is. has_four) c.in_err-tape.ensures))

pub returns-in_err-at : goal.returns-in_err-at
returns-in_err-at c =
    let p = err_from_is_err_and c.from_residual-in_err-at.result c.from_residual-in_err-at.ensures.1 in
    rw (p.1, p.2) (stops_like (pair any_four any_four) frag_form like_frag _ _ (stops_second any_four (λ x. any_four) _ _ _ _ sole_four c.in_ok-tape.ensures c.in_err-at.ensures))

pub returns : goal.returns
unfolding like_frag
returns c = took_like (pair any_four any_four) frag_form like_frag _ _ _ (took_both any_four (λ x. any_four) _ _ _ _ _ c.in_ok-tape.ensures c.in_ok-at.ensures)
