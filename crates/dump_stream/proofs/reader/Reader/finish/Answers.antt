use Rattle.std.proofs.Common.{sym, ◌∙◌}
use Rattle.dump_stream.specs.declared.reader.State.TheVariants as states
use Rattle.dump_stream.proofs.ReadLaws.{whole_more}
use Rattle.dump_stream.proofs.FeedLaws.{at_state}
use Rattle.dump_stream.proofs.reader.Reader.finish.Goals as goal

pub returns-in-Going-clause-answer : goal.returns-in-Going-clause-answer
returns-in-Going-clause-answer c = λ bytes fed. whole_more bytes c.args.self.machine (at_state bytes c.args.self states.Going (sym c.into_state.ensures ∙ c.in-Going.is) fed).0
