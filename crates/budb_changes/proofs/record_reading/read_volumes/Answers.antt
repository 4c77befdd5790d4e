use Rattle.byte_formats.specs.Formats.{both, times, any_four}
use Rattle.budb_changes.specs.Formats.{volume_form, volumes_form}
use Rattle.byte_formats.proofs.FormatLaws.{stops_first, stops_second, took_both, stops_like, took_like, has_times}
use Rattle.byte_formats.proofs.Leaves.{sole_four}
use Rattle.budb_changes.proofs.Layouts.{has_volume, like_volumes}
use Rattle.budb_changes.proofs.record_reading.read_volumes.Goals as goal

pub returns-in-Err : goal.returns-in-Err
returns-in-Err c = stops_like (both any_four (λ n. times n volume_form)) volumes_form like_volumes _ _ (stops_first any_four (λ n. times n volume_form) _ _ (λ n is. has_times n volume_form has_volume) c.in-Err.ensures)

pub returns-in-Err-read_volume_items : goal.returns-in-Err-read_volume_items
returns-in-Err-read_volume_items c = stops_like (both any_four (λ n. times n volume_form)) volumes_form like_volumes _ _ (stops_second any_four (λ n. times n volume_form) _ _ _ _ sole_four c.in-Ok.ensures c.in-Err-read_volume_items.ensures)

pub returns-in-Ok-read_volume_items : goal.returns-in-Ok-read_volume_items
unfolding like_volumes
returns-in-Ok-read_volume_items c = took_like (both any_four (λ n. times n volume_form)) volumes_form like_volumes _ _ _ (took_both any_four (λ n. times n volume_form) _ _ _ _ _ c.in-Ok.ensures c.in-Ok-read_volume_items.ensures)
