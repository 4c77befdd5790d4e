use Rattle.std.proofs.Common.{inl, inr, refl}
use Rattle.restore_chain.specs.Playing.{joined_bytes}
use Rattle.restore_chain.proofs.JoinLaws.{taken_of, noted_of, not_bad, not_followed}
use Rattle.restore_chain.proofs.play_joined.Joined.finish.Goals as goal

pub returns-in-Some : goal.returns-in-Some
returns-in-Some c = λ pieces has. inl (noted_of pieces c.args.self c.in-Some.site c.in-Some.is has)

pub returns-in-Stream : goal.returns-in-Stream
returns-in-Stream c = λ pieces has. c.in-Stream.ensures (joined_bytes pieces) (taken_of pieces c.args.self c.in-None.is has)

pub returns-in-Cut : goal.returns-in-Cut
returns-in-Cut c = λ pieces has. inr ((c.in-Cut.ensures (joined_bytes pieces) (taken_of pieces c.args.self c.in-None.is has)).0, refl)

pub returns-in-Bad : goal.returns-in-Bad
returns-in-Bad c = λ pieces has. absurd (not_bad pieces c.args.self _ c.in-None.is has (c.in-Bad.ensures (joined_bytes pieces) (taken_of pieces c.args.self c.in-None.is has)))

pub returns-in-Followed : goal.returns-in-Followed
returns-in-Followed c = λ pieces has. absurd (not_followed pieces c.args.self _ c.in-None.is has (c.in-Followed.ensures (joined_bytes pieces) (taken_of pieces c.args.self c.in-None.is has)))
