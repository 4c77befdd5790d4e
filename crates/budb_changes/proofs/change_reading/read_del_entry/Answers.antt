use Rattle.std.proofs.lemmas.Result.{err_from_is_err_and}
use Rattle.bk_text.specs.Alphabets.{IsSetName}
use Rattle.byte_formats.specs.Formats.{any_four, text1_of}
use Rattle.budb_changes.specs.Formats.{of_kind}
use Rattle.byte_formats.proofs.FormatLaws.{stops_first, stops_second, took_both, stops_like, took_like}
use Rattle.byte_formats.proofs.Leaves.{has_four}
use Rattle.byte_formats.proofs.Texts.{sole_set}
use Rattle.budb_changes.proofs.ChangeKinds.{numbered, like_4}
use Rattle.budb_changes.proofs.change_reading.read_del_entry.Goals as goal

pub returns-in_err-set : goal.returns-in_err-set
returns-in_err-set c =
    let p = err_from_is_err_and c.from_residual.result c.from_residual.ensures.1 in
    rw (p.1, p.2) (stops_like numbered (of_kind 4) like_4 _ _ (stops_first (text1_of IsSetName) (λ x. any_four) _ _ (λ x is. has_four) c.in_err-set.ensures))

pub returns-in_err-number : goal.returns-in_err-number
returns-in_err-number c =
    let p = err_from_is_err_and c.from_residual-in_err-number.result c.from_residual-in_err-number.ensures.1 in
    rw (p.1, p.2) (stops_like numbered (of_kind 4) like_4 _ _ (stops_second (text1_of IsSetName) (λ x. any_four) _ _ _ _ sole_set c.in_ok-set.ensures c.in_err-number.ensures))

pub returns : goal.returns
unfolding like_4
returns c = took_like numbered (of_kind 4) like_4 _ _ _ (took_both (text1_of IsSetName) (λ x. any_four) _ _ _ _ _ c.in_ok-set.ensures c.in_ok-number.ensures)
