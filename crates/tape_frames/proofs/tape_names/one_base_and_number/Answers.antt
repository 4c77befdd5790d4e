use Rattle.tape_frames.proofs.TapeNames.{same_base_and_number}
use Rattle.tape_frames.proofs.tape_names.one_base_and_number.Goals as goal

pub returns : goal.returns
returns c = same_base_and_number
