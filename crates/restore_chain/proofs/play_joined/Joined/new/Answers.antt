use Rattle.restore_chain.proofs.JoinLaws.{no_data}
use Rattle.restore_chain.proofs.play_joined.Joined.new.Goals as goal

pub returns-clause-joined : goal.returns-clause-joined
returns-clause-joined c = no_data c.new.result c.new.ensures.taken
