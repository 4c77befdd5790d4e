use Rattle.std.proofs.Common.{arith, length-append}
use Rattle.dump_stream.proofs.InputLaws.{judged_more}
use Rattle.dump_stream.proofs.input.InputReader.feed.Goals as goal

pub returns-in-Ended : goal.returns-in-Ended
returns-in-Ended c = record {
  is_open = c.requires;
  taken = λ bytes held small. (omega (arith, held.0, small, c.saturating_add-self-in-Ended.ensures, length-append bytes c.args.piece.now), judged_more bytes c.args.piece.now c.args.self.now.reader c.args.self.now.judged c.in-Ended.is held.1);
}
