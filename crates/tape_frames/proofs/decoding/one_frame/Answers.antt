use Rattle.tape_frames.proofs.Places.{same_frame}
use Rattle.tape_frames.proofs.decoding.one_frame.Goals as goal

pub returns : goal.returns
returns c = same_frame
