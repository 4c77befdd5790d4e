use Rattle.backup_replies.proofs.LastElements.{last_is}
use Rattle.backup_replies.proofs.dumps.last_element.Goals as goal

pub returns : goal.returns
returns c = last_is c.args.level.now c.last.result.now c.bytes-bytes.ensures.form c.last.ensures
