use Rattle.std.proofs.Common.{refl}
use Rattle.group_commands.specs.Groups.{GroupView, kill}
use Rattle.backup_session.proofs.Carrying.{in_ok}
use Rattle.backup_session.proofs.GroupLaws.{told_left}
use Rattle.backup_session.proofs.grouping.kill_in.Goals as goal

pub returns : goal.returns
returns c = λ w g same opened.
    in_ok c.kill.result _ _ (λ text told. told_left w c.args.groups.now _ c.in-Some.group g c.kill.new.self text (λ (v : GroupView). kill v c.args.job c.args.after) same opened c.in-Some.is refl told) c.kill.ensures.told
