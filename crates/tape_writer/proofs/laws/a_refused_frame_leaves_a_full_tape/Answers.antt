use Rattle.tape_writer.proofs.Full.{stays_within, full_behind_piece, full_behind_volume}
use Rattle.tape_writer.proofs.laws.a_refused_frame_leaves_a_full_tape.Goals as goal

pub returns-clause-stays : goal.returns-clause-stays
returns-clause-stays c = stays_within

pub returns-clause-piece : goal.returns-clause-piece
returns-clause-piece c = full_behind_piece

pub returns-clause-volume : goal.returns-clause-volume
returns-clause-volume c = full_behind_volume
