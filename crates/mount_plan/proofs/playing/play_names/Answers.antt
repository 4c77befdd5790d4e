use Rattle.std.proofs.Common.{◌≡◌, ℕ, Err, List, rules, sym, subst}
use Rattle.restore_chain.specs.declared.fault.LookFault.TheVariants.{Failed, Memory}
use Rattle.tape_scan.proofs.Looking.{looks_none}
use Rattle.mount_plan.specs.Courses.{AreCourses}
use Rattle.mount_plan.proofs.playing.play_names.Goals as goal

pub returns-in-Err-clause-looks : goal.returns-in-Err-clause-looks
returns-in-Err-clause-looks g c =
    looks_none g.P.Plant Failed c.args.plant.now (Err Memory) c.requires (λ told survives x left. g.met.P.Plant.left c.args.plant.now x told c.requires survives left) (λ is. absurd (cc))

pub returns-in-Ok-clause-answers : goal.returns-in-Ok-clause-answers
returns-in-Ok-clause-answers g c = λ told slots has.
    let listed = c.args.budb.now.database.listed in
    let names = c.args.plan.now.names in
    let same : c.as_slice.result.now ≡ names = search rules in
    c.play_courses.ensures.answers told slots c.args.before names has (subst (λ (ns : List (List ℕ)). AreCourses slots listed c.args.before ns c.in-Ok.courses.items) same (c.in-Ok.ensures slots))
