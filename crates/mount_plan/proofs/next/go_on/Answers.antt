use Rattle.std.proofs.Common.{◌≡◌, ◌+◌, None, true, false, rules, sym, ◌∙◌, subst}
use Rattle.std.specs.Prelude.{Option, is_some}
use Rattle.vnode_model.specs.declared.volumes.VolumeFields.{VolumeFields}
use Rattle.restore_chain.specs.declared.fault.RestoreFault.{RestoreFault}
use Rattle.mount_plan.specs.Courses.{IsSoFar}
use Rattle.mount_plan.proofs.CourseLaws.{next_passed, goes_on, none_there}
use Rattle.mount_plan.proofs.next.go_on.Goals as goal

pub returns-then-is_some-clause-goes : goal.returns-then-is_some-clause-goes
returns-then-is_some-clause-goes c = λ slots listed one id a seen first.
    let g = c.args.going.now in
    let some : is_some g.fault ≡ true = search rules in
    let e = c.pass_on.ensures in
    goes_on slots listed one g c.pass_on.new.going a.name a.chain (record { name = e.name; dumps = e.dumps; played = e.played a.within; missing = e.missing ∙ a.none; kept = e.kept })
    (subst (λ (o : Option VolumeFields). IsSoFar slots listed g.name g.dumps (g.played + 1) o c.pass_on.new.going.fault None) (sym e.volume)
    (subst (λ (o : Option RestoreFault). IsSoFar slots listed g.name g.dumps (g.played + 1) g.volume o None) (sym e.fault) (next_passed slots listed one c.args.dump.now id g a seen first some)))

pub returns-clause-goes : goal.returns-clause-goes
returns-clause-goes c = λ slots listed one id a seen first.
    let none : is_some c.args.going.now.fault ≡ false = search rules in
    c.play_next.ensures.goes slots listed one id a seen first (none_there c.args.going.now.fault none)
