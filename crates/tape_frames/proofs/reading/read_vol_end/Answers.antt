use Rattle.std.proofs.lemmas.Result.{err_from_is_err_and}
use Rattle.std.proofs.Common.{lit≤}
use Rattle.byte_formats.specs.Formats.{any_four, four_in}
use Rattle.byte_formats.proofs.FormatLaws.{both_first, both_second, took_both, like_sticks, took_like}
use Rattle.byte_formats.proofs.Leaves.{sole_four}
use Rattle.byte_formats.proofs.Maybe.{sole_four_in}
use Rattle.tape_frames.specs.Formats.{vol_end_form}
use Rattle.tape_frames.proofs.Rows.{has_vol_end_2, has_vol_end_3, has_vol_end_4, has_vol_end_5, vol_end_1, vol_end_2, vol_end_3, vol_end_4, vol_end_5}
use Rattle.tape_frames.proofs.Likes.{like_vol_end}
use Rattle.tape_frames.proofs.reading.read_vol_end.Goals as goal

pub returns-in_err-dump : goal.returns-in_err-dump
returns-in_err-dump c =
    let p = err_from_is_err_and c.from_residual.result c.from_residual.ensures.1 in
    rw (p.1, p.2) (like_sticks vol_end_1 vol_end_form like_vol_end _ _ (both_first any_four (λ x. vol_end_2) _ _ (λ x is. has_vol_end_2) c.in_err-dump.ensures))

pub returns-in_err-index : goal.returns-in_err-index
returns-in_err-index c =
    let p = err_from_is_err_and c.from_residual-in_err-index.result c.from_residual-in_err-index.ensures.1 in
    rw (p.1, p.2) (like_sticks vol_end_1 vol_end_form like_vol_end _ _ (both_second any_four (λ x. vol_end_2) _ _ _ _ sole_four c.in_ok-dump.ensures (both_first any_four (λ x. vol_end_3) _ _ (λ x is. has_vol_end_3) c.in_err-index.ensures)))

pub returns-in_err-fragment : goal.returns-in_err-fragment
returns-in_err-fragment c =
    let p = err_from_is_err_and c.from_residual-in_err-fragment.result c.from_residual-in_err-fragment.ensures.1 in
    rw (p.1, p.2) (like_sticks vol_end_1 vol_end_form like_vol_end _ _ (both_second any_four (λ x. vol_end_2) _ _ _ _ sole_four c.in_ok-dump.ensures (both_second any_four (λ x. vol_end_3) _ _ _ _ sole_four c.in_ok-index.ensures (both_first any_four (λ x. vol_end_4) _ _ (λ x is. has_vol_end_4) c.in_err-fragment.ensures))))

pub returns-in_err-last : goal.returns-in_err-last
returns-in_err-last c =
    let p = err_from_is_err_and c.from_residual-in_err-last.result c.from_residual-in_err-last.ensures.1 in
    rw (p.1, p.2) (like_sticks vol_end_1 vol_end_form like_vol_end _ _ (both_second any_four (λ x. vol_end_2) _ _ _ _ sole_four c.in_ok-dump.ensures (both_second any_four (λ x. vol_end_3) _ _ _ _ sole_four c.in_ok-index.ensures (both_second any_four (λ x. vol_end_4) _ _ _ _ sole_four c.in_ok-fragment.ensures (both_first (four_in 0 1) (λ x. vol_end_5) _ _ (λ x is. has_vol_end_5) c.in_err-last.ensures)))))

pub returns-in_err-sum : goal.returns-in_err-sum
returns-in_err-sum c =
    let p = err_from_is_err_and c.from_residual-in_err-sum.result c.from_residual-in_err-sum.ensures.1 in
    rw (p.1, p.2) (like_sticks vol_end_1 vol_end_form like_vol_end _ _ (both_second any_four (λ x. vol_end_2) _ _ _ _ sole_four c.in_ok-dump.ensures (both_second any_four (λ x. vol_end_3) _ _ _ _ sole_four c.in_ok-index.ensures (both_second any_four (λ x. vol_end_4) _ _ _ _ sole_four c.in_ok-fragment.ensures (both_second (four_in 0 1) (λ x. vol_end_5) _ _ _ _ (sole_four_in 0 1 (lit≤ tt)) c.in_ok-last.ensures c.in_err-sum.ensures)))))

pub returns : goal.returns
unfolding like_vol_end
returns c = took_like vol_end_1 vol_end_form like_vol_end _ _ _ (took_both any_four (λ x. vol_end_2) _ _ _ _ _ c.in_ok-dump.ensures (took_both any_four (λ x. vol_end_3) _ _ _ _ _ c.in_ok-index.ensures (took_both any_four (λ x. vol_end_4) _ _ _ _ _ c.in_ok-fragment.ensures (took_both (four_in 0 1) (λ x. vol_end_5) _ _ _ _ _ c.in_ok-last.ensures c.in_ok-sum.ensures))))
