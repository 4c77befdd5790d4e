use Rattle.std.proofs.lemmas.Result.{err_from_is_err_and}
use Rattle.bk_text.specs.Alphabets.{IsName, IsHost, IsSetName}
use Rattle.budb_changes.specs.Printable.{IsPatternBytes}
use Rattle.byte_formats.specs.Formats.{text1_of, text2_of, any_of}
use Rattle.budb_changes.specs.Formats.{of_kind}
use Rattle.byte_formats.proofs.FormatLaws.{stops_first, stops_second, took_both, stops_like, took_like}
use Rattle.byte_formats.proofs.Texts.{sole_set}
use Rattle.budb_changes.proofs.Layouts.{has_pattern}
use Rattle.budb_changes.proofs.ChangeKinds.{sole_any_host, sole_any_name, entry, entry_1, entry_2, has_entry_1, has_entry_2, like_3}
use Rattle.budb_changes.proofs.change_reading.read_add_entry.Goals as goal

pub returns-in_err-set : goal.returns-in_err-set
returns-in_err-set c =
    let p = err_from_is_err_and c.from_residual.result c.from_residual.ensures.1 in
    rw (p.1, p.2) (stops_like entry (of_kind 3) like_3 _ _ (stops_first (text1_of IsSetName) (λ x. entry_1) _ _ (λ x is. has_entry_1) c.in_err-set.ensures))

pub returns-in_err-server : goal.returns-in_err-server
returns-in_err-server c =
    let p = err_from_is_err_and c.from_residual-in_err-server.result c.from_residual-in_err-server.ensures.1 in
    rw (p.1, p.2) (stops_like entry (of_kind 3) like_3 _ _ (stops_second (text1_of IsSetName) (λ x. entry_1) _ _ _ _ sole_set c.in_ok-set.ensures (stops_first (any_of IsHost) (λ x. entry_2) _ _ (λ x is. has_entry_2) c.in_err-server.ensures)))

pub returns-in_err-partition : goal.returns-in_err-partition
returns-in_err-partition c =
    let p = err_from_is_err_and c.from_residual-in_err-partition.result c.from_residual-in_err-partition.ensures.1 in
    rw (p.1, p.2) (stops_like entry (of_kind 3) like_3 _ _ (stops_second (text1_of IsSetName) (λ x. entry_1) _ _ _ _ sole_set c.in_ok-set.ensures (stops_second (any_of IsHost) (λ x. entry_2) _ _ _ _ sole_any_host c.in_ok-server.ensures (stops_first (any_of IsName) (λ x. (text2_of IsPatternBytes)) _ _ (λ x is. has_pattern) c.in_err-partition.ensures))))

pub returns-in_err-pattern : goal.returns-in_err-pattern
returns-in_err-pattern c =
    let p = err_from_is_err_and c.from_residual-in_err-pattern.result c.from_residual-in_err-pattern.ensures.1 in
    rw (p.1, p.2) (stops_like entry (of_kind 3) like_3 _ _ (stops_second (text1_of IsSetName) (λ x. entry_1) _ _ _ _ sole_set c.in_ok-set.ensures (stops_second (any_of IsHost) (λ x. entry_2) _ _ _ _ sole_any_host c.in_ok-server.ensures (stops_second (any_of IsName) (λ x. (text2_of IsPatternBytes)) _ _ _ _ sole_any_name c.in_ok-partition.ensures c.in_err-pattern.ensures))))

pub returns : goal.returns
unfolding like_3
returns c = took_like entry (of_kind 3) like_3 _ _ _ (took_both (text1_of IsSetName) (λ x. entry_1) _ _ _ _ _ c.in_ok-set.ensures (took_both (any_of IsHost) (λ x. entry_2) _ _ _ _ _ c.in_ok-server.ensures (took_both (any_of IsName) (λ x. (text2_of IsPatternBytes)) _ _ _ _ _ c.in_ok-partition.ensures c.in_ok-pattern.ensures)))
