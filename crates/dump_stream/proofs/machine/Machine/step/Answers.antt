use Rattle.std.proofs.Common.{◌∙◌, ℕ, false, List, sym, subst}
use Rattle.dump_stream.specs.Steps.{Inside, Steps}
use Rattle.dump_stream.proofs.StepLaws.{untagged, step_tag, step_more, at_none, at_some, goes_on}
use Rattle.dump_stream.proofs.machine.Machine.step.Goals as goal

pub returns-in-None-form_of-clause-stepped : goal.returns-in-None-form_of-clause-stepped
returns-in-None-form_of-clause-stepped c = λ going.
    let m = c.args.self.now in
    at_none m c.args.byte false m c.in-None.is (untagged m.sofar c.args.byte (sym c.form_of.ensures ∙ c.in-None-form_of.is))

pub returns-in_ok-fits-in-Some-form_of-clause-stepped : goal.returns-in_ok-fits-in-Some-form_of-clause-stepped
returns-in_ok-fits-in-Some-form_of-clause-stepped c = λ going.
    let m = c.args.self.now in
    let fits = c.in_ok-fits-in-Some-form_of.fits in
    at_none m c.args.byte fits c.settle.new.self c.in-None.is
    (step_tag m.sofar c.args.byte c.in-Some-form_of.form fits c.settle.new.self (sym c.form_of.ensures ∙ c.in-Some-form_of.is)
    (subst (λ (p : List ℕ). Steps (Inside c.in-Some-form_of.form m.sofar c.args.byte p) fits c.settle.new.self) c.new.ensures c.in_ok-fits-in-Some-form_of.ensures.settled))

pub returns-in_ok-fits-in-Some-clause-stepped : goal.returns-in_ok-fits-in-Some-clause-stepped
returns-in_ok-fits-in-Some-clause-stepped c = λ going.
    let m = c.args.self.now in
    let fits = c.in_ok-fits-in-Some.fits in
    at_some m c.args.byte c.in-Some.form fits c.settle-in-Some.new.self c.in-Some.is
    (step_more c.in-Some.form m.sofar m.tag m.payload c.args.byte fits c.settle-in-Some.new.self (goes_on m c.in-Some.form c.in-Some.is going)
    (subst (λ (p : List ℕ). Steps (Inside c.in-Some.form m.sofar m.tag p) fits c.settle-in-Some.new.self) c.in_ok-push-in-Some.ensures.ok c.in_ok-fits-in-Some.ensures.settled))
