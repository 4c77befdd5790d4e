use Rattle.std.proofs.Common.{ap, get_or, subst, sym, arith}
use Rattle.std.proofs.lemmas.List.{take_all}
use Rattle.std.proofs.lemmas.List.Elements.{All-more, All-same}
use Rattle.dump_stream.specs.Allowed.{AllowedEntry}
use Rattle.dump_stream.proofs.said.entries_are_allowed.Goals as goal

pub loop-entry-preserved : goal.loop-entry-preserved
loop-entry-preserved c = All-more AllowedEntry c.args.entries.now c.loop-entry.entry-index c.entry-item.result c.loop-entry-test.true c.loop-entry.invariant (subst AllowedEntry c.entry-item.is c.entry_is_allowed.ensures)

pub returns : goal.returns
returns c = All-same AllowedEntry _ _ (sym (take_all c.loop-entry.entry-index c.args.entries.now c.loop-entry-test.false)) c.loop-entry.invariant
