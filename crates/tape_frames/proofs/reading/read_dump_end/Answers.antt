use Rattle.std.proofs.lemmas.Result.{err_from_is_err_and}
use Rattle.byte_formats.specs.Formats.{any_four}
use Rattle.byte_formats.proofs.FormatLaws.{both_first, both_second, took_both, like_sticks, took_like}
use Rattle.byte_formats.proofs.Leaves.{sole_four}
use Rattle.tape_frames.specs.Formats.{dump_end_form}
use Rattle.tape_frames.proofs.Rows.{dump_end_1, dump_end_2, dump_end_3, has_dump_end_2, has_dump_end_3}
use Rattle.tape_frames.proofs.Likes.{like_dump_end}
use Rattle.tape_frames.proofs.reading.read_dump_end.Goals as goal

pub returns-in_err-dump : goal.returns-in_err-dump
returns-in_err-dump c =
    let p = err_from_is_err_and c.from_residual.result c.from_residual.ensures.1 in
    rw (p.1, p.2) (like_sticks dump_end_1 dump_end_form like_dump_end _ _ (both_first any_four (λ x. dump_end_2) _ _ (λ x is. has_dump_end_2) c.in_err-dump.ensures))

pub returns-in_err-tape : goal.returns-in_err-tape
returns-in_err-tape c =
    let p = err_from_is_err_and c.from_residual-in_err-tape.result c.from_residual-in_err-tape.ensures.1 in
    rw (p.1, p.2) (like_sticks dump_end_1 dump_end_form like_dump_end _ _ (both_second any_four (λ x. dump_end_2) _ _ _ _ sole_four c.in_ok-dump.ensures (both_first any_four (λ x. dump_end_3) _ _ (λ x is. has_dump_end_3) c.in_err-tape.ensures)))

pub returns-in_err-more : goal.returns-in_err-more
returns-in_err-more c =
    let p = err_from_is_err_and c.from_residual-in_err-more.result c.from_residual-in_err-more.ensures.1 in
    rw (p.1, p.2) (like_sticks dump_end_1 dump_end_form like_dump_end _ _ (both_second any_four (λ x. dump_end_2) _ _ _ _ sole_four c.in_ok-dump.ensures (both_second any_four (λ x. dump_end_3) _ _ _ _ sole_four c.in_ok-tape.ensures c.in_err-more.ensures)))

pub returns : goal.returns
unfolding like_dump_end
returns c = took_like dump_end_1 dump_end_form like_dump_end _ _ _ (took_both any_four (λ x. dump_end_2) _ _ _ _ _ c.in_ok-dump.ensures (took_both any_four (λ x. dump_end_3) _ _ _ _ _ c.in_ok-tape.ensures c.in_ok-more.ensures))
