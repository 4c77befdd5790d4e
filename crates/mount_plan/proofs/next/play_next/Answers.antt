use Rattle.std.proofs.Common.{◌≡◌, ◌+◌, None, Some, rules, sym, ◌∙◌, subst}
use Rattle.std.specs.Prelude.{Option}
use Rattle.vnode_model.specs.declared.volumes.VolumeFields.{VolumeFields}
use Rattle.restore_chain.specs.declared.fault.RestoreFault.{RestoreFault}
use Rattle.mount_plan.specs.declared.next.Outcome.TheVariants as outcomes
use Rattle.mount_plan.specs.Courses.{MakesNext, IsSoFar}
use Rattle.mount_plan.proofs.CourseLaws.{has_it, read_all, next_made, next_faulted, goes_on}
use Rattle.mount_plan.proofs.next.play_next.Goals as goal

pub returns-in-Made-clause-goes : goal.returns-in-Made-clause-goes
returns-in-Made-clause-goes c = λ slots listed one id a seen first none.
    let g = c.args.going.now in
    let v = has_it slots listed one c.args.dump.now id g a in
    let base : c.take-base.result ≡ g.volume = search rules in
    let made = subst (λ (b : Option VolumeFields). MakesNext slots g.name c.args.dump.now b (outcomes.Made c.in-Made.volume)) base (subst (MakesNext slots g.name c.args.dump.now c.take-base.result) c.in-Made.is (c.in-Ok.ensures.makes slots v.0 v.1 (read_all slots listed one c.args.dump.now id g a seen first none))) in
    let so_far = next_made slots listed one c.args.dump.now id g a seen first none c.in-Made.volume made in
    let e = c.pass_on.ensures in
    goes_on slots listed one g c.pass_on.new.going a.name a.chain (record { name = e.name; dumps = e.dumps; played = e.played a.within; missing = e.missing ∙ a.none; kept = e.kept })
    (subst (λ (o : Option VolumeFields). IsSoFar slots listed g.name g.dumps (g.played + 1) o c.pass_on.new.going.fault None) (sym e.volume)
    (subst (λ (o : Option RestoreFault). IsSoFar slots listed g.name g.dumps (g.played + 1) (Some c.in-Made.volume) o None) (sym (e.fault ∙ none)) so_far))

pub returns-in-Faulted-clause-goes : goal.returns-in-Faulted-clause-goes
returns-in-Faulted-clause-goes c = λ slots listed one id a seen first none.
    let g = c.args.going.now in
    let v = has_it slots listed one c.args.dump.now id g a in
    let base : c.take-base.result ≡ g.volume = search rules in
    let tells = subst (λ (b : Option VolumeFields). MakesNext slots g.name c.args.dump.now b (outcomes.Faulted c.in-Faulted.told)) base (subst (MakesNext slots g.name c.args.dump.now c.take-base.result) c.in-Faulted.is (c.in-Ok.ensures.makes slots v.0 v.1 (read_all slots listed one c.args.dump.now id g a seen first none))) in
    let e = c.pass_on-in-Faulted.ensures in
    let so_far = next_faulted slots listed one c.args.dump.now id g a seen first none c.in-Faulted.told c.pass_on-in-Faulted.new.going.volume tells in
    goes_on slots listed one g c.pass_on-in-Faulted.new.going a.name a.chain (record { name = e.name; dumps = e.dumps; played = e.played a.within; missing = e.missing ∙ a.none; kept = e.kept })
    (subst (λ (o : Option RestoreFault). IsSoFar slots listed g.name g.dumps (g.played + 1) c.pass_on-in-Faulted.new.going.volume o None) (sym e.fault) so_far)
