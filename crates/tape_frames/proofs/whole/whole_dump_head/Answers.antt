use Rattle.std.proofs.Common.{length}
use Rattle.std.proofs.lemmas.Result.{err_from_is_err_and}
use Rattle.byte_formats.proofs.Filled.{took_filled, sticks_filled}
use Rattle.tape_frames.specs.Formats.{dump_head_form}
use Rattle.tape_frames.proofs.Likes.{sole_head}
use Rattle.tape_frames.proofs.Blanks.{whole_tail}
use Rattle.tape_frames.proofs.whole.whole_dump_head.Goals as goal

pub returns-in_err-fields : goal.returns-in_err-fields
returns-in_err-fields c =
    let p = err_from_is_err_and c.from_residual.result c.from_residual.ensures.1 in
    rw (p.1, p.2) (sticks_filled dump_head_form (length c.args.body.now) _ _ c.in_err-fields.ensures)

pub returns-in-Some : goal.returns-in-Some
returns-in-Some c = whole_tail dump_head_form _ _ _ _ sole_head c.in_ok-fields.ensures c.in-Some.ensures

pub returns-in-None : goal.returns-in-None
returns-in-None c = took_filled dump_head_form _ _ _ c.in_ok-fields.ensures c.in-None.ensures
