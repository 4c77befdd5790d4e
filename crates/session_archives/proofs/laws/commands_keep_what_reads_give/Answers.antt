use Rattle.session_archives.proofs.TurnReads.{at_rest, holds_at_rest, ready_at_rest, fits_at_rest, reads_hold, reads_ready}
use Rattle.session_archives.proofs.laws.commands_keep_what_reads_give.Goals as goal

pub returns-clause-holds : goal.returns-clause-holds
returns-clause-holds c = λ w now command records form held within has group ready.
    reads_hold w now command (c.commands_keep_the_archive.ensures.behind (at_rest w) now command form (holds_at_rest w now command records held within has group) (record { ready = λ asks. ready_at_rest w now command (ready.ready asks); back = fits_at_rest w now command ready.back }))

pub returns-clause-ready : goal.returns-clause-ready
returns-clause-ready c = λ w now command records form named apart back held within has group ready.
    reads_ready w now command (c.commands_leave_a_ready_world_ready.ensures (at_rest w) now command form named apart (fits_at_rest w now command back) (holds_at_rest w now command records held within has group) (ready_at_rest w now command ready))
