use Rattle.std.proofs.Common.{◌∙◌}
use Rattle.backup_session.proofs.LabelLaws.{frame_label, nothing_label}
use Rattle.backup_session.proofs.labels.label_in.Goals as goal

pub returns-in-Ok : goal.returns-in-Ok
returns-in-Ok c = c.label_from.ensures ∙ frame_label c.form_tests.ensures.tape_name c.one_frame.ensures c.args.block.now c.in-Ok.frame c.in-Ok.ensures.0 c.in-Ok.ensures.1

pub returns-in-Err-NotFrame : goal.returns-in-Err-NotFrame
returns-in-Err-NotFrame c = nothing_label c.form_tests.ensures.tape_name c.args.block.now (rw c.in-Err-NotFrame.field-0-is at c.in-Err-NotFrame.ensures).1.not_whole
