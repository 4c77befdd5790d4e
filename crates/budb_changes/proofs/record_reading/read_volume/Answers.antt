use Rattle.std.proofs.Common.{subst, sym}
use Rattle.std.proofs.lemmas.Result.{err_from_is_err_and}
use Rattle.bk_text.specs.Alphabets.{IsName, IsHost}
use Rattle.budb_changes.specs.declared.records.VolRecordFields.{VolRecordFields}
use Rattle.byte_formats.specs.Formats.{Took, any_four, text1_of}
use Rattle.budb_changes.specs.Formats.{frags_form, volume_form}
use Rattle.byte_formats.proofs.FormatLaws.{stops_first, stops_second, took_both, stops_like, took_like}
use Rattle.byte_formats.proofs.Leaves.{sole_four}
use Rattle.byte_formats.proofs.Texts.{sole_name, sole_host}
use Rattle.budb_changes.proofs.Layouts.{has_frags, volume_0, volume_1, volume_2, volume_3, volume_4, volume_5, has_volume_1, has_volume_2, has_volume_3, has_volume_4, has_volume_5, like_volume}
use Rattle.budb_changes.proofs.record_reading.read_volume.Goals as goal

pub returns-in_err-name : goal.returns-in_err-name
returns-in_err-name c =
    let p = err_from_is_err_and c.from_residual.result c.from_residual.ensures.1 in
    rw (p.1, p.2) (stops_like volume_0 volume_form like_volume _ _ (stops_first (text1_of IsName) (λ x. volume_1) _ _ (λ x is. has_volume_1) c.in_err-name.ensures))

pub returns-in_err-id : goal.returns-in_err-id
returns-in_err-id c =
    let p = err_from_is_err_and c.from_residual-in_err-id.result c.from_residual-in_err-id.ensures.1 in
    rw (p.1, p.2) (stops_like volume_0 volume_form like_volume _ _ (stops_second (text1_of IsName) (λ x. volume_1) _ _ _ _ sole_name c.in_ok-name.ensures (stops_first any_four (λ x. volume_2) _ _ (λ x is. has_volume_2) c.in_err-id.ensures)))

pub returns-in_err-server : goal.returns-in_err-server
returns-in_err-server c =
    let p = err_from_is_err_and c.from_residual-in_err-server.result c.from_residual-in_err-server.ensures.1 in
    rw (p.1, p.2) (stops_like volume_0 volume_form like_volume _ _ (stops_second (text1_of IsName) (λ x. volume_1) _ _ _ _ sole_name c.in_ok-name.ensures (stops_second any_four (λ x. volume_2) _ _ _ _ sole_four c.in_ok-id.ensures (stops_first (text1_of IsHost) (λ x. volume_3) _ _ (λ x is. has_volume_3) c.in_err-server.ensures))))

pub returns-in_err-partition : goal.returns-in_err-partition
returns-in_err-partition c =
    let p = err_from_is_err_and c.from_residual-in_err-partition.result c.from_residual-in_err-partition.ensures.1 in
    rw (p.1, p.2) (stops_like volume_0 volume_form like_volume _ _ (stops_second (text1_of IsName) (λ x. volume_1) _ _ _ _ sole_name c.in_ok-name.ensures (stops_second any_four (λ x. volume_2) _ _ _ _ sole_four c.in_ok-id.ensures (stops_second (text1_of IsHost) (λ x. volume_3) _ _ _ _ sole_host c.in_ok-server.ensures (stops_first (text1_of IsName) (λ x. volume_4) _ _ (λ x is. has_volume_4) c.in_err-partition.ensures)))))

pub returns-in_err-clone : goal.returns-in_err-clone
returns-in_err-clone c =
    let p = err_from_is_err_and c.from_residual-in_err-clone.result c.from_residual-in_err-clone.ensures.1 in
    rw (p.1, p.2) (stops_like volume_0 volume_form like_volume _ _ (stops_second (text1_of IsName) (λ x. volume_1) _ _ _ _ sole_name c.in_ok-name.ensures (stops_second any_four (λ x. volume_2) _ _ _ _ sole_four c.in_ok-id.ensures (stops_second (text1_of IsHost) (λ x. volume_3) _ _ _ _ sole_host c.in_ok-server.ensures (stops_second (text1_of IsName) (λ x. volume_4) _ _ _ _ sole_name c.in_ok-partition.ensures (stops_first any_four (λ x. volume_5) _ _ (λ x is. has_volume_5) c.in_err-clone.ensures))))))

pub returns-in_err-from : goal.returns-in_err-from
returns-in_err-from c =
    let p = err_from_is_err_and c.from_residual-in_err-from.result c.from_residual-in_err-from.ensures.1 in
    rw (p.1, p.2) (stops_like volume_0 volume_form like_volume _ _ (stops_second (text1_of IsName) (λ x. volume_1) _ _ _ _ sole_name c.in_ok-name.ensures (stops_second any_four (λ x. volume_2) _ _ _ _ sole_four c.in_ok-id.ensures (stops_second (text1_of IsHost) (λ x. volume_3) _ _ _ _ sole_host c.in_ok-server.ensures (stops_second (text1_of IsName) (λ x. volume_4) _ _ _ _ sole_name c.in_ok-partition.ensures (stops_second any_four (λ x. volume_5) _ _ _ _ sole_four c.in_ok-clone.ensures (stops_first any_four (λ x. frags_form) _ _ (λ x is. has_frags) c.in_err-from.ensures)))))))

pub returns-in_err-frags : goal.returns-in_err-frags
returns-in_err-frags c =
    let p = err_from_is_err_and c.from_residual-in_err-frags.result c.from_residual-in_err-frags.ensures.1 in
    rw (p.1, p.2) (stops_like volume_0 volume_form like_volume _ _ (stops_second (text1_of IsName) (λ x. volume_1) _ _ _ _ sole_name c.in_ok-name.ensures (stops_second any_four (λ x. volume_2) _ _ _ _ sole_four c.in_ok-id.ensures (stops_second (text1_of IsHost) (λ x. volume_3) _ _ _ _ sole_host c.in_ok-server.ensures (stops_second (text1_of IsName) (λ x. volume_4) _ _ _ _ sole_name c.in_ok-partition.ensures (stops_second any_four (λ x. volume_5) _ _ _ _ sole_four c.in_ok-clone.ensures (stops_second any_four (λ x. frags_form) _ _ _ _ sole_four c.in_ok-from.ensures c.in_err-frags.ensures)))))))

pub new-volume-requires : goal.new-volume-requires
new-volume-requires c = let is = c.in_ok-frags.ensures.is in (is.0, is.1)

pub returns : goal.returns
unfolding like_volume
returns c = subst (λ (v : VolRecordFields). Took volume_form c.args.bytes.now v c.in_ok-frags.after_frags.now) (sym c.new-volume.ensures) (took_like volume_0 volume_form like_volume _ _ _ (took_both (text1_of IsName) (λ x. volume_1) _ _ _ _ _ c.in_ok-name.ensures (took_both any_four (λ x. volume_2) _ _ _ _ _ c.in_ok-id.ensures (took_both (text1_of IsHost) (λ x. volume_3) _ _ _ _ _ c.in_ok-server.ensures (took_both (text1_of IsName) (λ x. volume_4) _ _ _ _ _ c.in_ok-partition.ensures (took_both any_four (λ x. volume_5) _ _ _ _ _ c.in_ok-clone.ensures (took_both any_four (λ x. frags_form) _ _ _ _ _ c.in_ok-from.ensures c.in_ok-frags.ensures)))))))
