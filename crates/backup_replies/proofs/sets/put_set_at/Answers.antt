use Rattle.std.proofs.Common.{◌≡◌, ◌++◌, OnOk, subst}
use Rattle.volume_sets.specs.declared.sets.VolumeSet.{VolumeSet}
use Rattle.backup_replies.specs.Sets.{set_lines}
use Rattle.backup_replies.proofs.SetLines.{set_there}
use Rattle.backup_replies.proofs.sets.put_set_at.Goals as goal

pub returns : goal.returns
returns c = λ d.
    subst (λ (s : VolumeSet). OnOk c.put_set.result (c.put_set.new.lines ≡ c.args.lines.now ++ set_lines s))
    (set_there c.args.sets.now c.args.at c.name_at.result.now c.entries_at.result.now d c.requires c.name_at.ensures c.entries_at.ensures) c.put_set.ensures
