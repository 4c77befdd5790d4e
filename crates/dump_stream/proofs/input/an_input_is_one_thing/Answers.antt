use Rattle.dump_stream.proofs.InputLaws.{one_thing}
use Rattle.dump_stream.proofs.input.an_input_is_one_thing.Goals as goal

pub returns : goal.returns
returns c = one_thing
