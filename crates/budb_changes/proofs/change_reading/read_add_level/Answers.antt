use Rattle.std.proofs.lemmas.Result.{err_from_is_err_and}
use Rattle.bk_text.specs.LevelPaths.{IsLevelPath}
use Rattle.byte_formats.specs.Formats.{text2_of}
use Rattle.budb_changes.specs.Formats.{expiry_form, of_kind}
use Rattle.byte_formats.proofs.FormatLaws.{stops_first, stops_second, took_both, stops_like, took_like}
use Rattle.byte_formats.proofs.Texts.{sole_level}
use Rattle.budb_changes.proofs.ChangeKinds.{has_expiry, expiring, like_5}
use Rattle.budb_changes.proofs.change_reading.read_add_level.Goals as goal

pub returns-in_err-level : goal.returns-in_err-level
returns-in_err-level c =
    let p = err_from_is_err_and c.from_residual.result c.from_residual.ensures.1 in
    rw (p.1, p.2) (stops_like expiring (of_kind 5) like_5 _ _ (stops_first (text2_of IsLevelPath) (λ x. expiry_form) _ _ (λ x is. has_expiry) c.in_err-level.ensures))

pub returns-in_err-expiry : goal.returns-in_err-expiry
returns-in_err-expiry c =
    let p = err_from_is_err_and c.from_residual-in_err-expiry.result c.from_residual-in_err-expiry.ensures.1 in
    rw (p.1, p.2) (stops_like expiring (of_kind 5) like_5 _ _ (stops_second (text2_of IsLevelPath) (λ x. expiry_form) _ _ _ _ sole_level c.in_ok-level.ensures c.in_err-expiry.ensures))

pub returns : goal.returns
unfolding like_5
returns c = took_like expiring (of_kind 5) like_5 _ _ _ (took_both (text2_of IsLevelPath) (λ x. expiry_form) _ _ _ _ _ c.in_ok-level.ensures c.in_ok-expiry.ensures)
