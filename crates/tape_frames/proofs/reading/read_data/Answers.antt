use Rattle.std.proofs.Common.{arith, lit≤}
use Rattle.tape_frames.proofs.Blanks.{took_any_long, took_four_long, took_zeros_long}
use Rattle.std.proofs.lemmas.Result.{err_from_is_err_and}
use Rattle.byte_formats.specs.Formats.{any_four, four_in}
use Rattle.byte_formats.proofs.FormatLaws.{both_first, both_second, took_both, like_sticks, took_like}
use Rattle.byte_formats.proofs.Leaves.{sole_four}
use Rattle.byte_formats.proofs.Maybe.{sole_four_in}
use Rattle.tape_frames.specs.Formats.{zeros_of, data_form}
use Rattle.tape_frames.proofs.Rows.{data_1, data_2, data_3, data_4, data_5, has_data_2, has_data_3, has_data_4, has_data_5, sole_zeros}
use Rattle.tape_frames.proofs.Likes.{like_data}
use Rattle.tape_frames.proofs.reading.read_data.Goals as goal

pub returns-in_err-dump : goal.returns-in_err-dump
returns-in_err-dump c =
    let p = err_from_is_err_and c.from_residual.result c.from_residual.ensures.1 in
    rw (p.1, p.2) (like_sticks data_1 data_form like_data _ _ (both_first any_four (λ x. data_2) _ _ (λ x is. has_data_2) c.in_err-dump.ensures))

pub returns-in_err-index : goal.returns-in_err-index
returns-in_err-index c =
    let p = err_from_is_err_and c.from_residual-in_err-index.result c.from_residual-in_err-index.ensures.1 in
    rw (p.1, p.2) (like_sticks data_1 data_form like_data _ _ (both_second any_four (λ x. data_2) _ _ _ _ sole_four c.in_ok-dump.ensures (both_first any_four (λ x. data_3) _ _ (λ x is. has_data_3) c.in_err-index.ensures)))

pub returns-in_err-used : goal.returns-in_err-used
returns-in_err-used c =
    let p = err_from_is_err_and c.from_residual-in_err-used.result c.from_residual-in_err-used.ensures.1 in
    rw (p.1, p.2) (like_sticks data_1 data_form like_data _ _ (both_second any_four (λ x. data_2) _ _ _ _ sole_four c.in_ok-dump.ensures (both_second any_four (λ x. data_3) _ _ _ _ sole_four c.in_ok-index.ensures (both_first (four_in 1 16352) (λ u. data_4 u) _ _ (λ u is. (has_data_4 u)) c.in_err-used.ensures))))

pub returns-in_err-_blank : goal.returns-in_err-_blank
returns-in_err-_blank c =
    let p = err_from_is_err_and c.from_residual-in_err-_blank.result c.from_residual-in_err-_blank.ensures.1 in
    rw (p.1, p.2) (like_sticks data_1 data_form like_data _ _ (both_second any_four (λ x. data_2) _ _ _ _ sole_four c.in_ok-dump.ensures (both_second any_four (λ x. data_3) _ _ _ _ sole_four c.in_ok-index.ensures (both_second (four_in 1 16352) (λ u. data_4 u) _ _ _ _ (sole_four_in 1 16352 (lit≤ tt)) c.in_ok-used.ensures (both_first (zeros_of 12) (λ x. data_5 c.in_ok-used.used) _ _ (λ x is. (has_data_5 c.in_ok-used.used)) c.in_err-_blank.ensures)))))

pub returns-in_err-data : goal.returns-in_err-data
returns-in_err-data c =
    let p = err_from_is_err_and c.from_residual-in_err-data.result c.from_residual-in_err-data.ensures.1 in
    rw (p.1, p.2) (like_sticks data_1 data_form like_data _ _ (both_second any_four (λ x. data_2) _ _ _ _ sole_four c.in_ok-dump.ensures (both_second any_four (λ x. data_3) _ _ _ _ sole_four c.in_ok-index.ensures (both_second (four_in 1 16352) (λ u. data_4 u) _ _ _ _ (sole_four_in 1 16352 (lit≤ tt)) c.in_ok-used.ensures (both_second (zeros_of 12) (λ x. data_5 c.in_ok-used.used) _ _ _ _ (sole_zeros 12) c.in_ok-_blank.ensures c.in_err-data.ensures)))))

pub returns : goal.returns
unfolding like_data
returns c = took_like data_1 data_form like_data _ _ _ (took_both any_four (λ x. data_2) _ _ _ _ _ c.in_ok-dump.ensures (took_both any_four (λ x. data_3) _ _ _ _ _ c.in_ok-index.ensures (took_both (four_in 1 16352) (λ u. data_4 u) _ _ _ _ _ c.in_ok-used.ensures (took_both (zeros_of 12) (λ x. data_5 c.in_ok-used.used) _ _ _ _ _ c.in_ok-_blank.ensures c.in_ok-data.ensures))))

pub read_zeros-requires : goal.read_zeros-requires
read_zeros-requires c =
    let a = took_any_long _ _ _ c.in_ok-dump.ensures in
    let b = took_any_long _ _ _ c.in_ok-index.ensures in
    let d = took_four_long 1 16352 _ _ _ c.in_ok-used.ensures in
    omega (arith, a, b, d, c.requires)

pub read_used-requires-clause-room : goal.read_used-requires-clause-room
read_used-requires-clause-room c =
    let a = took_any_long _ _ _ c.in_ok-dump.ensures in
    let b = took_any_long _ _ _ c.in_ok-index.ensures in
    let d = took_four_long 1 16352 _ _ _ c.in_ok-used.ensures in
    let z = took_zeros_long 12 _ _ _ c.in_ok-_blank.ensures in
    omega (arith, a, b, d, z, c.requires)

pub read_used-requires-clause-few : goal.read_used-requires-clause-few
read_used-requires-clause-few c = c.in_ok-used.ensures.is.1
