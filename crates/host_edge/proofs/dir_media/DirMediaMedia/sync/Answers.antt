use Rattle.std.proofs.Common.{◌≡◌, inl, inr, ◌∙◌, ℕ, ap, subst}
use Rattle.std.specs.Prelude.{Result, Ok, Err, Vec, IfOk, OnOk, IfSome}
use Rattle.std.specs.declared.alloc.Global.{Global}
use Rattle.host_edge.specs.Shown.{file_of}
use Rattle.host_edge.specs.Slots.{file_among}
use Rattle.host_edge.specs.Waits.{IsAsLong}
use Rattle.host_edge.proofs.dir_media.DirMediaMedia.sync.Goals as goal

at_ok : {T E X : Type 0} (r : Result T E) (value : T) → r ≡ Ok value → OnOk r X → X
at_ok {X = X} r value is x = subst (λ r. OnOk r X) is x

on_ok : {T E X : Type 0} (r : Result T E) → X → OnOk r X
on_ok (Ok value) x = x
on_ok (Err cause) x = tt

-- what is so of an answer that went well is so of what is handed on of it
handed_on : {T E D : Type 0} (X : Type 0) (r : Result T D) (answer : Result T E) → IfOk r (λ value. answer ≡ Ok value) → OnOk answer X → OnOk r X
handed_on X (Ok value) answer given x = at_ok answer value given x
handed_on X (Err cause) answer given x = tt

pub returns-clause-measured : goal.returns-clause-measured
returns-clause-measured g c =
    let file = file_of c.args.self.now c.args.f in
    let is = c.file_among-file.ensures ∙ ap (λ slots. file_among c.args.self.now.journal slots c.args.f) c.as_slice.ensures.value in
    elim (at_ok c.give-given.result c.in_ok-counted.field-0 c.in_ok-counted.ensures.given (c.give-given.ensures.long file is)) [
      | inl long ↦ on_ok c.counted-2.result long
      | inr same ↦
          subst (λ (lengths : Vec ℕ Global). OnOk c.counted-2.result (IfSome file (IsAsLong g.F.DiskFile.measured lengths.items c.args.f))) same
          (handed_on _ c.counted-2.result c.sync_of-answer.result c.counted-2.ensures.given c.sync_of-answer.ensures.measured)
    ]
