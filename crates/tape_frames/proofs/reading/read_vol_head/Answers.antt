use Rattle.std.proofs.lemmas.Result.{err_from_is_err_and}
use Rattle.std.proofs.Common.{lit≤}
use Rattle.bk_text.specs.Alphabets.{IsName, IsHost}
use Rattle.byte_formats.specs.Formats.{any_four, four_in, text1_of}
use Rattle.byte_formats.proofs.FormatLaws.{both_first, both_second, took_both, like_sticks, took_like}
use Rattle.byte_formats.proofs.Leaves.{sole_four}
use Rattle.byte_formats.proofs.Maybe.{sole_four_in}
use Rattle.byte_formats.proofs.Texts.{sole_name, sole_host}
use Rattle.tape_frames.specs.Formats.{vol_head_form}
use Rattle.tape_frames.proofs.Rows.{has_vol_head_2, has_vol_head_3, has_vol_head_4, has_vol_head_5, has_vol_head_6, has_vol_head_7, has_vol_head_8, has_vol_head_9, vol_head_1, vol_head_2, vol_head_3, vol_head_4, vol_head_5, vol_head_6, vol_head_7, vol_head_8, vol_head_9}
use Rattle.tape_frames.proofs.Likes.{like_vol_head}
use Rattle.tape_frames.proofs.reading.read_vol_head.Goals as goal

pub returns-in_err-dump : goal.returns-in_err-dump
returns-in_err-dump c =
    let p = err_from_is_err_and c.from_residual.result c.from_residual.ensures.1 in
    rw (p.1, p.2) (like_sticks vol_head_1 vol_head_form like_vol_head _ _ (both_first any_four (λ x. vol_head_2) _ _ (λ x is. has_vol_head_2) c.in_err-dump.ensures))

pub returns-in_err-index : goal.returns-in_err-index
returns-in_err-index c =
    let p = err_from_is_err_and c.from_residual-in_err-index.result c.from_residual-in_err-index.ensures.1 in
    rw (p.1, p.2) (like_sticks vol_head_1 vol_head_form like_vol_head _ _ (both_second any_four (λ x. vol_head_2) _ _ _ _ sole_four c.in_ok-dump.ensures (both_first any_four (λ x. vol_head_3) _ _ (λ x is. has_vol_head_3) c.in_err-index.ensures)))

pub returns-in_err-fragment : goal.returns-in_err-fragment
returns-in_err-fragment c =
    let p = err_from_is_err_and c.from_residual-in_err-fragment.result c.from_residual-in_err-fragment.ensures.1 in
    rw (p.1, p.2) (like_sticks vol_head_1 vol_head_form like_vol_head _ _ (both_second any_four (λ x. vol_head_2) _ _ _ _ sole_four c.in_ok-dump.ensures (both_second any_four (λ x. vol_head_3) _ _ _ _ sole_four c.in_ok-index.ensures (both_first (four_in 1 4294967295) (λ x. vol_head_4) _ _ (λ x is. has_vol_head_4) c.in_err-fragment.ensures))))

pub returns-in_err-volume : goal.returns-in_err-volume
returns-in_err-volume c =
    let p = err_from_is_err_and c.from_residual-in_err-volume.result c.from_residual-in_err-volume.ensures.1 in
    rw (p.1, p.2) (like_sticks vol_head_1 vol_head_form like_vol_head _ _ (both_second any_four (λ x. vol_head_2) _ _ _ _ sole_four c.in_ok-dump.ensures (both_second any_four (λ x. vol_head_3) _ _ _ _ sole_four c.in_ok-index.ensures (both_second (four_in 1 4294967295) (λ x. vol_head_4) _ _ _ _ (sole_four_in 1 4294967295 (lit≤ tt)) c.in_ok-fragment.ensures (both_first any_four (λ x. vol_head_5) _ _ (λ x is. has_vol_head_5) c.in_err-volume.ensures)))))

pub returns-in_err-clone : goal.returns-in_err-clone
returns-in_err-clone c =
    let p = err_from_is_err_and c.from_residual-in_err-clone.result c.from_residual-in_err-clone.ensures.1 in
    rw (p.1, p.2) (like_sticks vol_head_1 vol_head_form like_vol_head _ _ (both_second any_four (λ x. vol_head_2) _ _ _ _ sole_four c.in_ok-dump.ensures (both_second any_four (λ x. vol_head_3) _ _ _ _ sole_four c.in_ok-index.ensures (both_second (four_in 1 4294967295) (λ x. vol_head_4) _ _ _ _ (sole_four_in 1 4294967295 (lit≤ tt)) c.in_ok-fragment.ensures (both_second any_four (λ x. vol_head_5) _ _ _ _ sole_four c.in_ok-volume.ensures (both_first any_four (λ x. vol_head_6) _ _ (λ x is. has_vol_head_6) c.in_err-clone.ensures))))))

pub returns-in_err-from : goal.returns-in_err-from
returns-in_err-from c =
    let p = err_from_is_err_and c.from_residual-in_err-from.result c.from_residual-in_err-from.ensures.1 in
    rw (p.1, p.2) (like_sticks vol_head_1 vol_head_form like_vol_head _ _ (both_second any_four (λ x. vol_head_2) _ _ _ _ sole_four c.in_ok-dump.ensures (both_second any_four (λ x. vol_head_3) _ _ _ _ sole_four c.in_ok-index.ensures (both_second (four_in 1 4294967295) (λ x. vol_head_4) _ _ _ _ (sole_four_in 1 4294967295 (lit≤ tt)) c.in_ok-fragment.ensures (both_second any_four (λ x. vol_head_5) _ _ _ _ sole_four c.in_ok-volume.ensures (both_second any_four (λ x. vol_head_6) _ _ _ _ sole_four c.in_ok-clone.ensures (both_first any_four (λ x. vol_head_7) _ _ (λ x is. has_vol_head_7) c.in_err-from.ensures)))))))

pub returns-in_err-name : goal.returns-in_err-name
returns-in_err-name c =
    let p = err_from_is_err_and c.from_residual-in_err-name.result c.from_residual-in_err-name.ensures.1 in
    rw (p.1, p.2) (like_sticks vol_head_1 vol_head_form like_vol_head _ _ (both_second any_four (λ x. vol_head_2) _ _ _ _ sole_four c.in_ok-dump.ensures (both_second any_four (λ x. vol_head_3) _ _ _ _ sole_four c.in_ok-index.ensures (both_second (four_in 1 4294967295) (λ x. vol_head_4) _ _ _ _ (sole_four_in 1 4294967295 (lit≤ tt)) c.in_ok-fragment.ensures (both_second any_four (λ x. vol_head_5) _ _ _ _ sole_four c.in_ok-volume.ensures (both_second any_four (λ x. vol_head_6) _ _ _ _ sole_four c.in_ok-clone.ensures (both_second any_four (λ x. vol_head_7) _ _ _ _ sole_four c.in_ok-from.ensures (both_first (text1_of IsName) (λ x. vol_head_8) _ _ (λ x is. has_vol_head_8) c.in_err-name.ensures))))))))

pub returns-in_err-server : goal.returns-in_err-server
returns-in_err-server c =
    let p = err_from_is_err_and c.from_residual-in_err-server.result c.from_residual-in_err-server.ensures.1 in
    rw (p.1, p.2) (like_sticks vol_head_1 vol_head_form like_vol_head _ _ (both_second any_four (λ x. vol_head_2) _ _ _ _ sole_four c.in_ok-dump.ensures (both_second any_four (λ x. vol_head_3) _ _ _ _ sole_four c.in_ok-index.ensures (both_second (four_in 1 4294967295) (λ x. vol_head_4) _ _ _ _ (sole_four_in 1 4294967295 (lit≤ tt)) c.in_ok-fragment.ensures (both_second any_four (λ x. vol_head_5) _ _ _ _ sole_four c.in_ok-volume.ensures (both_second any_four (λ x. vol_head_6) _ _ _ _ sole_four c.in_ok-clone.ensures (both_second any_four (λ x. vol_head_7) _ _ _ _ sole_four c.in_ok-from.ensures (both_second (text1_of IsName) (λ x. vol_head_8) _ _ _ _ sole_name c.in_ok-name.ensures (both_first (text1_of IsHost) (λ x. vol_head_9) _ _ (λ x is. has_vol_head_9) c.in_err-server.ensures)))))))))

pub returns-in_err-partition : goal.returns-in_err-partition
returns-in_err-partition c =
    let p = err_from_is_err_and c.from_residual-in_err-partition.result c.from_residual-in_err-partition.ensures.1 in
    rw (p.1, p.2) (like_sticks vol_head_1 vol_head_form like_vol_head _ _ (both_second any_four (λ x. vol_head_2) _ _ _ _ sole_four c.in_ok-dump.ensures (both_second any_four (λ x. vol_head_3) _ _ _ _ sole_four c.in_ok-index.ensures (both_second (four_in 1 4294967295) (λ x. vol_head_4) _ _ _ _ (sole_four_in 1 4294967295 (lit≤ tt)) c.in_ok-fragment.ensures (both_second any_four (λ x. vol_head_5) _ _ _ _ sole_four c.in_ok-volume.ensures (both_second any_four (λ x. vol_head_6) _ _ _ _ sole_four c.in_ok-clone.ensures (both_second any_four (λ x. vol_head_7) _ _ _ _ sole_four c.in_ok-from.ensures (both_second (text1_of IsName) (λ x. vol_head_8) _ _ _ _ sole_name c.in_ok-name.ensures (both_second (text1_of IsHost) (λ x. vol_head_9) _ _ _ _ sole_host c.in_ok-server.ensures c.in_err-partition.ensures)))))))))

pub returns : goal.returns
unfolding like_vol_head
returns c = took_like vol_head_1 vol_head_form like_vol_head _ _ _ (took_both any_four (λ x. vol_head_2) _ _ _ _ _ c.in_ok-dump.ensures (took_both any_four (λ x. vol_head_3) _ _ _ _ _ c.in_ok-index.ensures (took_both (four_in 1 4294967295) (λ x. vol_head_4) _ _ _ _ _ c.in_ok-fragment.ensures (took_both any_four (λ x. vol_head_5) _ _ _ _ _ c.in_ok-volume.ensures (took_both any_four (λ x. vol_head_6) _ _ _ _ _ c.in_ok-clone.ensures (took_both any_four (λ x. vol_head_7) _ _ _ _ _ c.in_ok-from.ensures (took_both (text1_of IsName) (λ x. vol_head_8) _ _ _ _ _ c.in_ok-name.ensures (took_both (text1_of IsHost) (λ x. vol_head_9) _ _ _ _ _ c.in_ok-server.ensures c.in_ok-partition.ensures))))))))
