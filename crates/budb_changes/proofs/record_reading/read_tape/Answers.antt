use Rattle.std.proofs.lemmas.Result.{err_from_is_err_and}
use Rattle.budb_changes.specs.Formats.{numbers, use_form, tape_form}
use Rattle.byte_formats.proofs.FormatLaws.{stops_first, stops_second, took_both, stops_like, took_like}
use Rattle.budb_changes.proofs.Layouts.{sole_numbers, has_use, tape_0, like_tape}
use Rattle.budb_changes.proofs.record_reading.read_tape.Goals as goal

pub returns-in_err-numbers : goal.returns-in_err-numbers
returns-in_err-numbers c =
    let p = err_from_is_err_and c.from_residual.result c.from_residual.ensures.1 in
    rw (p.1, p.2) (stops_like (tape_0 c.args.version) (tape_form c.args.version) (like_tape c.args.version) _ _ (stops_first numbers (λ x. use_form c.args.version) _ _ (λ x is. has_use c.args.version) c.in_err-numbers.ensures))

pub returns-in_err-uses : goal.returns-in_err-uses
returns-in_err-uses c =
    let p = err_from_is_err_and c.from_residual-in_err-uses.result c.from_residual-in_err-uses.ensures.1 in
    rw (p.1, p.2) (stops_like (tape_0 c.args.version) (tape_form c.args.version) (like_tape c.args.version) _ _ (stops_second numbers (λ x. use_form c.args.version) _ _ _ _ sole_numbers c.in_ok-numbers.ensures c.in_err-uses.ensures))

pub returns : goal.returns
unfolding like_tape
returns c = took_like (tape_0 c.args.version) (tape_form c.args.version) (like_tape c.args.version) _ _ _ (took_both numbers (λ x. use_form c.args.version) _ _ _ _ _ c.in_ok-numbers.ensures c.in_ok-uses.ensures)
