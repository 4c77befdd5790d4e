use Rattle.tape_frames.specs.declared.frame.Frame.TheVariants as frames
use Rattle.tape_writer.proofs.writer.Writer.end_dump.Goals as goal

pub returns-clause-done : goal.returns-clause-done
returns-clause-done g c = λ k at. c.put_end.ensures.done k (frames.DumpEnd c.args.end.now) at c.encode.ensures.block

pub returns-clause-leaves : goal.returns-clause-leaves
returns-clause-leaves g c = λ k at. c.put_end.ensures.leaves k (frames.DumpEnd c.args.end.now) at c.encode.ensures.block
