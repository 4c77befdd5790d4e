use Rattle.std.proofs.lemmas.Result.{err_from_is_err_and}
use Rattle.bk_text.specs.Alphabets.{IsHost}
use Rattle.byte_formats.specs.Formats.{text1_of}
use Rattle.budb_changes.specs.Formats.{of_kind}
use Rattle.byte_formats.proofs.FormatLaws.{stops_first, stops_second, took_both, stops_like, took_like}
use Rattle.byte_formats.proofs.Texts.{sole_host}
use Rattle.budb_changes.proofs.ChangeKinds.{any_two, has_any_two, hosting, like_8}
use Rattle.budb_changes.proofs.change_reading.read_add_host.Goals as goal

pub returns-in_err-host : goal.returns-in_err-host
returns-in_err-host c =
    let p = err_from_is_err_and c.from_residual.result c.from_residual.ensures.1 in
    rw (p.1, p.2) (stops_like hosting (of_kind 8) like_8 _ _ (stops_first (text1_of IsHost) (λ x. any_two) _ _ (λ x is. has_any_two) c.in_err-host.ensures))

pub returns-in_err-port : goal.returns-in_err-port
returns-in_err-port c =
    let p = err_from_is_err_and c.from_residual-in_err-port.result c.from_residual-in_err-port.ensures.1 in
    rw (p.1, p.2) (stops_like hosting (of_kind 8) like_8 _ _ (stops_second (text1_of IsHost) (λ x. any_two) _ _ _ _ sole_host c.in_ok-host.ensures c.in_err-port.ensures))

pub returns : goal.returns
unfolding like_8
returns c = took_like hosting (of_kind 8) like_8 _ _ _ (took_both (text1_of IsHost) (λ x. any_two) _ _ _ _ _ c.in_ok-host.ensures c.in_ok-port.ensures)
