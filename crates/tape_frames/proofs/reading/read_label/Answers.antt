use Rattle.std.proofs.lemmas.Result.{err_from_is_err_and}
use Rattle.byte_formats.specs.Formats.{any_four}
use Rattle.byte_formats.proofs.FormatLaws.{both_first, both_second, took_both, like_sticks, took_like}
use Rattle.byte_formats.proofs.Leaves.{sole_four}
use Rattle.tape_frames.specs.Formats.{tape_of, afs_of, label_form}
use Rattle.tape_frames.proofs.Rows.{has_label_2, has_label_3, has_label_4, label_1, label_2, label_3, label_4, sole_afs, sole_tape}
use Rattle.tape_frames.proofs.Likes.{like_label}
use Rattle.tape_frames.proofs.reading.read_label.Goals as goal

pub returns-in_err-initial : goal.returns-in_err-initial
returns-in_err-initial c =
    let p = err_from_is_err_and c.from_residual.result c.from_residual.ensures.1 in
    rw (p.1, p.2) (like_sticks label_1 label_form like_label _ _ (both_first any_four (λ i. label_2 i) _ _ (λ i is. (has_label_2 i)) c.in_err-initial.ensures))

pub returns-in_err-tape : goal.returns-in_err-tape
returns-in_err-tape c =
    let p = err_from_is_err_and c.from_residual-in_err-tape.result c.from_residual-in_err-tape.ensures.1 in
    rw (p.1, p.2) (like_sticks label_1 label_form like_label _ _ (both_second any_four (λ i. label_2 i) _ _ _ _ sole_four c.in_ok-initial.ensures (both_first (tape_of c.in_ok-initial.initial) (λ x. label_3 c.in_ok-initial.initial) _ _ (λ x is. (has_label_3 c.in_ok-initial.initial)) c.in_err-tape.ensures)))

pub returns-in_err-afs : goal.returns-in_err-afs
returns-in_err-afs c =
    let p = err_from_is_err_and c.from_residual-in_err-afs.result c.from_residual-in_err-afs.ensures.1 in
    rw (p.1, p.2) (like_sticks label_1 label_form like_label _ _ (both_second any_four (λ i. label_2 i) _ _ _ _ sole_four c.in_ok-initial.ensures (both_second (tape_of c.in_ok-initial.initial) (λ x. label_3 c.in_ok-initial.initial) _ _ _ _ (sole_tape c.in_ok-initial.initial) c.in_ok-tape.ensures (both_first (afs_of c.in_ok-initial.initial) (λ x. label_4) _ _ (λ x is. has_label_4) c.in_err-afs.ensures))))

pub returns-in_err-permanent : goal.returns-in_err-permanent
returns-in_err-permanent c =
    let p = err_from_is_err_and c.from_residual-in_err-permanent.result c.from_residual-in_err-permanent.ensures.1 in
    rw (p.1, p.2) (like_sticks label_1 label_form like_label _ _ (both_second any_four (λ i. label_2 i) _ _ _ _ sole_four c.in_ok-initial.ensures (both_second (tape_of c.in_ok-initial.initial) (λ x. label_3 c.in_ok-initial.initial) _ _ _ _ (sole_tape c.in_ok-initial.initial) c.in_ok-tape.ensures (both_second (afs_of c.in_ok-initial.initial) (λ x. label_4) _ _ _ _ (sole_afs c.in_ok-initial.initial) c.in_ok-afs.ensures c.in_err-permanent.ensures))))

pub returns : goal.returns
unfolding like_label
returns c = took_like label_1 label_form like_label _ _ _ (took_both any_four (λ i. label_2 i) _ _ _ _ _ c.in_ok-initial.ensures (took_both (tape_of c.in_ok-initial.initial) (λ x. label_3 c.in_ok-initial.initial) _ _ _ _ _ c.in_ok-tape.ensures (took_both (afs_of c.in_ok-initial.initial) (λ x. label_4) _ _ _ _ _ c.in_ok-afs.ensures c.in_ok-permanent.ensures)))
