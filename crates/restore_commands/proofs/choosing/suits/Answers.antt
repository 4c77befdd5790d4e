use Rattle.std.proofs.Common.{◌∙◌, ap}
use Rattle.budb_fold.specs.Lookups.{VolumeDump}
use Rattle.restore_commands.proofs.MatchLaws.{suits_by}
use Rattle.restore_commands.proofs.choosing.suits.Goals as goal

pub returns : goal.returns
returns c =
    suits_by c.args.one.now c.args.entry.now c.bytes-form.ensures.form c.fields-volume.result.now c.bytes.result.now c.bytes-2.result.now c.bytes-3.result.now
    (c.fields-volume.ensures.value ∙ ap (λ (o : VolumeDump). o.volume) c.one.view_is)
    c.bytes.ensures.value c.bytes-2.ensures.value c.bytes-3.ensures.value c.suits.result c.suits.ensures
