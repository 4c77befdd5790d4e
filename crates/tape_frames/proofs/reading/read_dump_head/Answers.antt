use Rattle.std.proofs.lemmas.Result.{err_from_is_err_and}
use Rattle.bk_text.specs.Alphabets.{IsHost, IsTapeName}
use Rattle.byte_formats.specs.Formats.{maybe}
use Rattle.byte_formats.proofs.FormatLaws.{both_first, both_second, took_both, like_sticks, took_like}
use Rattle.byte_formats.proofs.Maybe.{sole_maybe}
use Rattle.tape_frames.specs.Formats.{plain_head_form, dump_head_form}
use Rattle.tape_frames.proofs.Rows.{has_use_1, has_use_2, has_use_3, use_1, use_2, use_3}
use Rattle.tape_frames.proofs.Likes.{head_1, like_head, sole_plain}
use Rattle.tape_frames.proofs.reading.read_dump_head.Goals as goal

pub returns-in_err-plain : goal.returns-in_err-plain
returns-in_err-plain c =
    let p = err_from_is_err_and c.from_residual.result c.from_residual.ensures.1 in
    rw (p.1, p.2) (like_sticks head_1 dump_head_form like_head _ _ (both_first plain_head_form (λ x. use_1) _ _ (λ x is. has_use_1) c.in_err-plain.ensures))

pub returns-in_err-cell : goal.returns-in_err-cell
returns-in_err-cell c =
    let p = err_from_is_err_and c.from_residual-in_err-cell.result c.from_residual-in_err-cell.ensures.1 in
    rw (p.1, p.2) (like_sticks head_1 dump_head_form like_head _ _ (both_second plain_head_form (λ x. use_1) _ _ _ _ sole_plain c.in_ok-plain.ensures (both_first (maybe IsHost) (λ x. use_2) _ _ (λ x is. has_use_2) c.in_err-cell.ensures)))

pub returns-in_err-permanent : goal.returns-in_err-permanent
returns-in_err-permanent c =
    let p = err_from_is_err_and c.from_residual-in_err-permanent.result c.from_residual-in_err-permanent.ensures.1 in
    rw (p.1, p.2) (like_sticks head_1 dump_head_form like_head _ _ (both_second plain_head_form (λ x. use_1) _ _ _ _ sole_plain c.in_ok-plain.ensures (both_second (maybe IsHost) (λ x. use_2) _ _ _ _ (sole_maybe IsHost) c.in_ok-cell.ensures (both_first (maybe IsTapeName) (λ x. use_3) _ _ (λ x is. has_use_3) c.in_err-permanent.ensures))))

pub returns-in_err-uses : goal.returns-in_err-uses
returns-in_err-uses c =
    let p = err_from_is_err_and c.from_residual-in_err-uses.result c.from_residual-in_err-uses.ensures.1 in
    rw (p.1, p.2) (like_sticks head_1 dump_head_form like_head _ _ (both_second plain_head_form (λ x. use_1) _ _ _ _ sole_plain c.in_ok-plain.ensures (both_second (maybe IsHost) (λ x. use_2) _ _ _ _ (sole_maybe IsHost) c.in_ok-cell.ensures (both_second (maybe IsTapeName) (λ x. use_3) _ _ _ _ (sole_maybe IsTapeName) c.in_ok-permanent.ensures c.in_err-uses.ensures))))

pub returns : goal.returns
unfolding like_head
returns c = took_like head_1 dump_head_form like_head _ _ _ (took_both plain_head_form (λ x. use_1) _ _ _ _ _ c.in_ok-plain.ensures (took_both (maybe IsHost) (λ x. use_2) _ _ _ _ _ c.in_ok-cell.ensures (took_both (maybe IsTapeName) (λ x. use_3) _ _ _ _ _ c.in_ok-permanent.ensures c.in_ok-uses.ensures)))
