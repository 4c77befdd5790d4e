use Rattle.std.proofs.Common.{refl}
use Rattle.group_commands.specs.Groups.{GroupView, hold}
use Rattle.backup_session.proofs.Carrying.{in_ok}
use Rattle.backup_session.proofs.GroupLaws.{told_left}
use Rattle.backup_session.proofs.grouping.hold_in.Goals as goal

pub returns : goal.returns
returns c = λ w g same opened.
    in_ok c.hold.result _ _ (λ text told. told_left w c.args.groups.now _ c.in-Some.group g c.hold.new.self text (λ (v : GroupView). hold v c.args.asked.now) same opened c.in-Some.is refl told) c.hold.ensures.told
