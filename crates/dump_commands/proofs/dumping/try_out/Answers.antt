use Rattle.std.proofs.Common.{sym, ◌∙◌}
use Rattle.dump_commands.proofs.Checks.{good_trial}
use Rattle.dump_commands.proofs.dumping.try_out.Goals as goal

pub trial_text-requires-clause-good : goal.trial_text-requires-clause-good
trial_text-requires-clause-good g c = λ told.
    good_trial (g.C.Cell.list c.args.cell.now) c.args.entries.now c.args.order.now (c.requires.entries told) c.requires.within (sym c.in_ok-text.ensures ∙ c.in-None.is)
