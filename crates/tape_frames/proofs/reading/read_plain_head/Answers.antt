use Rattle.std.proofs.lemmas.Result.{err_from_is_err_and}
use Rattle.std.proofs.Common.{lit≤}
use Rattle.bk_text.specs.Alphabets.{IsSetName}
use Rattle.bk_text.specs.LevelPaths.{IsLevelPath}
use Rattle.byte_formats.specs.Formats.{any_four, four_in, text1_of, text2_of}
use Rattle.byte_formats.proofs.FormatLaws.{both_first, both_second, took_both, like_sticks, took_like}
use Rattle.byte_formats.proofs.Leaves.{sole_four}
use Rattle.byte_formats.proofs.Maybe.{sole_four_in}
use Rattle.byte_formats.proofs.Texts.{sole_set, sole_level}
use Rattle.tape_frames.specs.Formats.{plain_head_form}
use Rattle.tape_frames.proofs.Rows.{has_plain_10, has_plain_2, has_plain_3, has_plain_4, has_plain_5, has_plain_6, has_plain_7, has_plain_8, has_plain_9, plain_1, plain_10, plain_2, plain_3, plain_4, plain_5, plain_6, plain_7, plain_8, plain_9}
use Rattle.tape_frames.proofs.Likes.{like_plain}
use Rattle.tape_frames.proofs.reading.read_plain_head.Goals as goal

pub returns-in_err-id : goal.returns-in_err-id
returns-in_err-id c =
    let p = err_from_is_err_and c.from_residual.result c.from_residual.ensures.1 in
    rw (p.1, p.2) (like_sticks plain_1 plain_head_form like_plain _ _ (both_first (four_in 1 4294967295) (λ d. plain_2 d) _ _ (λ d is. (has_plain_2 d is.0)) c.in_err-id.ensures))

pub returns-in_err-initial : goal.returns-in_err-initial
returns-in_err-initial c =
    let p = err_from_is_err_and c.from_residual-in_err-initial.result c.from_residual-in_err-initial.ensures.1 in
    rw (p.1, p.2) (like_sticks plain_1 plain_head_form like_plain _ _ (both_second (four_in 1 4294967295) (λ d. plain_2 d) _ _ _ _ (sole_four_in 1 4294967295 (lit≤ tt)) c.in_ok-id.ensures (both_first (four_in 1 c.in_ok-id.id) (λ x. plain_3) _ _ (λ x is. has_plain_3) c.in_err-initial.ensures)))

pub returns-in_err-parent : goal.returns-in_err-parent
returns-in_err-parent c =
    let p = err_from_is_err_and c.from_residual-in_err-parent.result c.from_residual-in_err-parent.ensures.1 in
    rw (p.1, p.2) (like_sticks plain_1 plain_head_form like_plain _ _ (both_second (four_in 1 4294967295) (λ d. plain_2 d) _ _ _ _ (sole_four_in 1 4294967295 (lit≤ tt)) c.in_ok-id.ensures (both_second (four_in 1 c.in_ok-id.id) (λ x. plain_3) _ _ _ _ (sole_four_in 1 c.in_ok-id.id c.in_ok-id.ensures.is.1) c.in_ok-initial.ensures (both_first any_four (λ x. plain_4) _ _ (λ x is. has_plain_4) c.in_err-parent.ensures))))

pub returns-in_err-expires : goal.returns-in_err-expires
returns-in_err-expires c =
    let p = err_from_is_err_and c.from_residual-in_err-expires.result c.from_residual-in_err-expires.ensures.1 in
    rw (p.1, p.2) (like_sticks plain_1 plain_head_form like_plain _ _ (both_second (four_in 1 4294967295) (λ d. plain_2 d) _ _ _ _ (sole_four_in 1 4294967295 (lit≤ tt)) c.in_ok-id.ensures (both_second (four_in 1 c.in_ok-id.id) (λ x. plain_3) _ _ _ _ (sole_four_in 1 c.in_ok-id.id c.in_ok-id.ensures.is.1) c.in_ok-initial.ensures (both_second any_four (λ x. plain_4) _ _ _ _ sole_four c.in_ok-parent.ensures (both_first any_four (λ x. plain_5) _ _ (λ x is. has_plain_5) c.in_err-expires.ensures)))))

pub returns-in_err-tape : goal.returns-in_err-tape
returns-in_err-tape c =
    let p = err_from_is_err_and c.from_residual-in_err-tape.result c.from_residual-in_err-tape.ensures.1 in
    rw (p.1, p.2) (like_sticks plain_1 plain_head_form like_plain _ _ (both_second (four_in 1 4294967295) (λ d. plain_2 d) _ _ _ _ (sole_four_in 1 4294967295 (lit≤ tt)) c.in_ok-id.ensures (both_second (four_in 1 c.in_ok-id.id) (λ x. plain_3) _ _ _ _ (sole_four_in 1 c.in_ok-id.id c.in_ok-id.ensures.is.1) c.in_ok-initial.ensures (both_second any_four (λ x. plain_4) _ _ _ _ sole_four c.in_ok-parent.ensures (both_second any_four (λ x. plain_5) _ _ _ _ sole_four c.in_ok-expires.ensures (both_first (four_in 1 4294967295) (λ x. plain_6) _ _ (λ x is. has_plain_6) c.in_err-tape.ensures))))))

pub returns-in_err-part : goal.returns-in_err-part
returns-in_err-part c =
    let p = err_from_is_err_and c.from_residual-in_err-part.result c.from_residual-in_err-part.ensures.1 in
    rw (p.1, p.2) (like_sticks plain_1 plain_head_form like_plain _ _ (both_second (four_in 1 4294967295) (λ d. plain_2 d) _ _ _ _ (sole_four_in 1 4294967295 (lit≤ tt)) c.in_ok-id.ensures (both_second (four_in 1 c.in_ok-id.id) (λ x. plain_3) _ _ _ _ (sole_four_in 1 c.in_ok-id.id c.in_ok-id.ensures.is.1) c.in_ok-initial.ensures (both_second any_four (λ x. plain_4) _ _ _ _ sole_four c.in_ok-parent.ensures (both_second any_four (λ x. plain_5) _ _ _ _ sole_four c.in_ok-expires.ensures (both_second (four_in 1 4294967295) (λ x. plain_6) _ _ _ _ (sole_four_in 1 4294967295 (lit≤ tt)) c.in_ok-tape.ensures (both_first (four_in 1 4294967295) (λ x. plain_7) _ _ (λ x is. has_plain_7) c.in_err-part.ensures)))))))

pub returns-in_err-volumes : goal.returns-in_err-volumes
returns-in_err-volumes c =
    let p = err_from_is_err_and c.from_residual-in_err-volumes.result c.from_residual-in_err-volumes.ensures.1 in
    rw (p.1, p.2) (like_sticks plain_1 plain_head_form like_plain _ _ (both_second (four_in 1 4294967295) (λ d. plain_2 d) _ _ _ _ (sole_four_in 1 4294967295 (lit≤ tt)) c.in_ok-id.ensures (both_second (four_in 1 c.in_ok-id.id) (λ x. plain_3) _ _ _ _ (sole_four_in 1 c.in_ok-id.id c.in_ok-id.ensures.is.1) c.in_ok-initial.ensures (both_second any_four (λ x. plain_4) _ _ _ _ sole_four c.in_ok-parent.ensures (both_second any_four (λ x. plain_5) _ _ _ _ sole_four c.in_ok-expires.ensures (both_second (four_in 1 4294967295) (λ x. plain_6) _ _ _ _ (sole_four_in 1 4294967295 (lit≤ tt)) c.in_ok-tape.ensures (both_second (four_in 1 4294967295) (λ x. plain_7) _ _ _ _ (sole_four_in 1 4294967295 (lit≤ tt)) c.in_ok-part.ensures (both_first (four_in 1 4294967295) (λ x. plain_8) _ _ (λ x is. has_plain_8) c.in_err-volumes.ensures))))))))

pub returns-in_err-set : goal.returns-in_err-set
returns-in_err-set c =
    let p = err_from_is_err_and c.from_residual-in_err-set.result c.from_residual-in_err-set.ensures.1 in
    rw (p.1, p.2) (like_sticks plain_1 plain_head_form like_plain _ _ (both_second (four_in 1 4294967295) (λ d. plain_2 d) _ _ _ _ (sole_four_in 1 4294967295 (lit≤ tt)) c.in_ok-id.ensures (both_second (four_in 1 c.in_ok-id.id) (λ x. plain_3) _ _ _ _ (sole_four_in 1 c.in_ok-id.id c.in_ok-id.ensures.is.1) c.in_ok-initial.ensures (both_second any_four (λ x. plain_4) _ _ _ _ sole_four c.in_ok-parent.ensures (both_second any_four (λ x. plain_5) _ _ _ _ sole_four c.in_ok-expires.ensures (both_second (four_in 1 4294967295) (λ x. plain_6) _ _ _ _ (sole_four_in 1 4294967295 (lit≤ tt)) c.in_ok-tape.ensures (both_second (four_in 1 4294967295) (λ x. plain_7) _ _ _ _ (sole_four_in 1 4294967295 (lit≤ tt)) c.in_ok-part.ensures (both_second (four_in 1 4294967295) (λ x. plain_8) _ _ _ _ (sole_four_in 1 4294967295 (lit≤ tt)) c.in_ok-volumes.ensures (both_first (text1_of IsSetName) (λ x. plain_9) _ _ (λ x is. has_plain_9) c.in_err-set.ensures)))))))))

pub returns-in_err-level : goal.returns-in_err-level
returns-in_err-level c =
    let p = err_from_is_err_and c.from_residual-in_err-level.result c.from_residual-in_err-level.ensures.1 in
    rw (p.1, p.2) (like_sticks plain_1 plain_head_form like_plain _ _ (both_second (four_in 1 4294967295) (λ d. plain_2 d) _ _ _ _ (sole_four_in 1 4294967295 (lit≤ tt)) c.in_ok-id.ensures (both_second (four_in 1 c.in_ok-id.id) (λ x. plain_3) _ _ _ _ (sole_four_in 1 c.in_ok-id.id c.in_ok-id.ensures.is.1) c.in_ok-initial.ensures (both_second any_four (λ x. plain_4) _ _ _ _ sole_four c.in_ok-parent.ensures (both_second any_four (λ x. plain_5) _ _ _ _ sole_four c.in_ok-expires.ensures (both_second (four_in 1 4294967295) (λ x. plain_6) _ _ _ _ (sole_four_in 1 4294967295 (lit≤ tt)) c.in_ok-tape.ensures (both_second (four_in 1 4294967295) (λ x. plain_7) _ _ _ _ (sole_four_in 1 4294967295 (lit≤ tt)) c.in_ok-part.ensures (both_second (four_in 1 4294967295) (λ x. plain_8) _ _ _ _ (sole_four_in 1 4294967295 (lit≤ tt)) c.in_ok-volumes.ensures (both_second (text1_of IsSetName) (λ x. plain_9) _ _ _ _ sole_set c.in_ok-set.ensures (both_first (text2_of IsLevelPath) (λ x. plain_10) _ _ (λ x is. has_plain_10) c.in_err-level.ensures))))))))))

pub returns-in_err-base : goal.returns-in_err-base
returns-in_err-base c =
    let p = err_from_is_err_and c.from_residual-in_err-base.result c.from_residual-in_err-base.ensures.1 in
    rw (p.1, p.2) (like_sticks plain_1 plain_head_form like_plain _ _ (both_second (four_in 1 4294967295) (λ d. plain_2 d) _ _ _ _ (sole_four_in 1 4294967295 (lit≤ tt)) c.in_ok-id.ensures (both_second (four_in 1 c.in_ok-id.id) (λ x. plain_3) _ _ _ _ (sole_four_in 1 c.in_ok-id.id c.in_ok-id.ensures.is.1) c.in_ok-initial.ensures (both_second any_four (λ x. plain_4) _ _ _ _ sole_four c.in_ok-parent.ensures (both_second any_four (λ x. plain_5) _ _ _ _ sole_four c.in_ok-expires.ensures (both_second (four_in 1 4294967295) (λ x. plain_6) _ _ _ _ (sole_four_in 1 4294967295 (lit≤ tt)) c.in_ok-tape.ensures (both_second (four_in 1 4294967295) (λ x. plain_7) _ _ _ _ (sole_four_in 1 4294967295 (lit≤ tt)) c.in_ok-part.ensures (both_second (four_in 1 4294967295) (λ x. plain_8) _ _ _ _ (sole_four_in 1 4294967295 (lit≤ tt)) c.in_ok-volumes.ensures (both_second (text1_of IsSetName) (λ x. plain_9) _ _ _ _ sole_set c.in_ok-set.ensures (both_second (text2_of IsLevelPath) (λ x. plain_10) _ _ _ _ sole_level c.in_ok-level.ensures c.in_err-base.ensures))))))))))

pub returns : goal.returns
unfolding like_plain
returns c = took_like plain_1 plain_head_form like_plain _ _ _ (took_both (four_in 1 4294967295) (λ d. plain_2 d) _ _ _ _ _ c.in_ok-id.ensures (took_both (four_in 1 c.in_ok-id.id) (λ x. plain_3) _ _ _ _ _ c.in_ok-initial.ensures (took_both any_four (λ x. plain_4) _ _ _ _ _ c.in_ok-parent.ensures (took_both any_four (λ x. plain_5) _ _ _ _ _ c.in_ok-expires.ensures (took_both (four_in 1 4294967295) (λ x. plain_6) _ _ _ _ _ c.in_ok-tape.ensures (took_both (four_in 1 4294967295) (λ x. plain_7) _ _ _ _ _ c.in_ok-part.ensures (took_both (four_in 1 4294967295) (λ x. plain_8) _ _ _ _ _ c.in_ok-volumes.ensures (took_both (text1_of IsSetName) (λ x. plain_9) _ _ _ _ _ c.in_ok-set.ensures (took_both (text2_of IsLevelPath) (λ x. plain_10) _ _ _ _ _ c.in_ok-level.ensures c.in_ok-base.ensures)))))))))
