use Rattle.std.proofs.Common.{◌≡◌, ◌∙◌, ◌↔◌, ℕ, List, ap, sym, subst}
use Rattle.dump_stream.specs.declared.sofar.Sofar.{Sofar}
use Rattle.vnode_model.specs.declared.increments.Increment.{Increment}
use Rattle.dump_stream.specs.Forms.{IsWhole}
use Rattle.dump_stream.specs.Machine.{after, Rest}
use Rattle.dump_stream.specs.Steps.{Inside}
use Rattle.dump_stream.specs.Sound.{IsSound}
use Rattle.dump_stream.proofs.SoundLaws.{sound_after}
use Rattle.dump_stream.proofs.StepLaws.{settled}
use Rattle.dump_stream.proofs.machine.Machine.settle.Goals as goal

pub returns-in_ok-self-in-Whole-clause-settled : goal.returns-in_ok-self-in-Whole-clause-settled
returns-in_ok-self-in-Whole-clause-settled c =
    let form = c.args.form in
    let s = c.args.self.now.sofar in
    let tag = c.args.self.now.tag in
    let p = c.args.self.now.payload in
    let next_is : c.in_ok-self-in-Whole.field-0 ≡ after s tag p =
    c.in_ok-self-in-Whole.ensures ∙ ap (λ (x : Sofar). after x tag c.replace-payload.result) c.replace-sofar.ensures.value ∙ ap (λ (x : List ℕ). after s tag x) c.replace-payload.ensures.value in
    let whole : IsWhole form p = subst (IsWhole form) c.as_slice.ensures c.in-Whole.ensures in
    (tt, subst (λ (x : Sofar). (bytes : List ℕ) (i : Increment) → Inside form s tag p bytes i ↔ Rest x bytes i) (sym next_is) (settled form s tag p whole))

pub returns-in_ok-self-in-Whole-clause-sound : goal.returns-in_ok-self-in-Whole-clause-sound
returns-in_ok-self-in-Whole-clause-sound c =
    let form = c.args.form in
    let s = c.args.self.now.sofar in
    let tag = c.args.self.now.tag in
    let p = c.args.self.now.payload in
    let next_is : c.in_ok-self-in-Whole.field-0 ≡ after s tag p =
    c.in_ok-self-in-Whole.ensures ∙ ap (λ (x : Sofar). after x tag c.replace-payload.result) c.replace-sofar.ensures.value ∙ ap (λ (x : List ℕ). after s tag x) c.replace-payload.ensures.value in
    let whole : IsWhole form p = subst (IsWhole form) c.as_slice.ensures c.in-Whole.ensures in
    (subst IsSound (sym next_is) (sound_after s tag form p c.requires.sound c.requires.comes whole), tt)
