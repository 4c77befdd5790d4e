use Rattle.std.proofs.Common.{◌≢◌, ◌≤◌, ◌∙◌, arith, length-set}
use Rattle.media_core.proofs.Memory.{is_here-set_same, is_here-set_other}
use Rattle.media_core.proofs.mem.MemMedia.set_away.Goals as goal

pub invariant_of-self-clause-journal : goal.invariant_of-self-clause-journal
invariant_of-self-clause-journal c =
    let tape : 1 ≤ c.args.f = c.requires.tape in
    let other : 0 ≢ c.args.f = λ same. absurd (omega (arith, tape, same)) in
    is_here-set_other c.args.self.now.away.items c.args.f 0 c.args.away other ∙ c.args.self.now.journal

pub invariant_of-self-clause-few_files : goal.invariant_of-self-clause-few_files
invariant_of-self-clause-few_files c = omega (arith, length-set c.args.self.now.away.items c.args.f c.args.away, c.args.self.now.few_files)

pub invariant_of-self-clause-absent : goal.invariant_of-self-clause-absent
invariant_of-self-clause-absent c = λ k bytes past. c.args.self.now.absent k bytes (omega (arith, length-set c.args.self.now.away.items c.args.f c.args.away, past))

pub returns-clause-set : goal.returns-clause-set
returns-clause-set c = is_here-set_same c.args.self.now.away.items c.args.f c.args.away c.requires.below

pub returns-clause-others : goal.returns-clause-others
returns-clause-others c = λ k other. is_here-set_other c.args.self.now.away.items c.args.f k c.args.away other
