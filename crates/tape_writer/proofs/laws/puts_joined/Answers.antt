use Rattle.tape_writer.proofs.Joined.{puts_on-append}
use Rattle.tape_writer.proofs.laws.puts_joined.Goals as goal

pub returns : goal.returns
returns c = puts_on-append
