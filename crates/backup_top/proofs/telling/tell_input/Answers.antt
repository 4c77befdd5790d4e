use Rattle.std.proofs.Common.{sym, subst}
use Rattle.crash_moments.specs.Moments.{Leads}
use Rattle.backup_top.specs.Replies.{lines_of}
use Rattle.backup_top.specs.Tells.{TellsOn}
use Rattle.dump_stream.specs.declared.input.Input.{Input}
use Rattle.backup_top.proofs.telling.tell_input.Goals as goal

pub returns-in-Cut-clause-images : goal.returns-in-Cut-clause-images
returns-in-Cut-clause-images g c = λ told.
    subst (λ (x : Input). Leads g.M.Media.time c.args.media.now c.tell_line.new.media (TellsOn (lines_of x) (g.M.Media.seen c.args.media.now).told)) (sym c.in-Cut.is) (c.tell_line.ensures.images _ c.line_of_cut.ensures told)

pub returns-in-Bad-clause-images : goal.returns-in-Bad-clause-images
returns-in-Bad-clause-images g c = λ told.
    subst (λ (x : Input). Leads g.M.Media.time c.args.media.now c.tell_line-in-Bad.new.media (TellsOn (lines_of x) (g.M.Media.seen c.args.media.now).told)) (sym c.in-Bad.is) (c.tell_line-in-Bad.ensures.images _ c.line_of_bad.ensures told)

pub returns-in-Followed-clause-images : goal.returns-in-Followed-clause-images
returns-in-Followed-clause-images g c = λ told.
    subst (λ (x : Input). Leads g.M.Media.time c.args.media.now c.tell_line-in-Followed.new.media (TellsOn (lines_of x) (g.M.Media.seen c.args.media.now).told)) (sym c.in-Followed.is) (c.tell_line-in-Followed.ensures.images _ c.line_of_bad-in-Followed.ensures told)
