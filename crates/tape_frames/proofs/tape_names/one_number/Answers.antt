use Rattle.tape_frames.proofs.TapeNames.{same_number}
use Rattle.tape_frames.proofs.tape_names.one_number.Goals as goal

pub returns : goal.returns
returns c = same_number
