use Rattle.std.proofs.Common.{◌≡◌, ◌∙◌, ap, subst}
use Rattle.std.specs.Prelude.{Result, Ok, Err, OnOk, OnErr}
use Rattle.host_edge.specs.Shown.{file_of}
use Rattle.host_edge.specs.Slots.{file_among}
use Rattle.host_edge.proofs.dir_media.DirMediaMedia.write.Goals as goal

at_ok : {T E X : Type 0} (r : Result T E) (value : T) → r ≡ Ok value → OnOk r X → X
at_ok {X = X} r value is x = subst (λ r. OnOk r X) is x

at_err : {T E X : Type 0} (r : Result T E) (cause : E) → r ≡ Err cause → OnErr r X → X
at_err {X = X} r cause is x = subst (λ r. OnErr r X) is x

on_err : {T E X : Type 0} (r : Result T E) → X → OnErr r X
on_err (Ok value) x = tt
on_err (Err cause) x = x

pub returns-in_err-counted-clause-kept : goal.returns-in_err-counted-clause-kept
returns-in_err-counted-clause-kept g c =
    let k = c.in_err-counted.ensures.kept in
    on_err c.from_residual.result (at_err c.take-answer.result k.0 k.1 (c.take-answer.ensures.kept (file_of c.args.self.now c.args.f) (c.file_among-file.ensures ∙ ap (λ slots. file_among c.args.self.now.journal slots c.args.f) c.as_slice.ensures.value)))

pub returns-clause-taken : goal.returns-clause-taken
returns-clause-taken g c =
    at_ok c.take-answer.result c.in_ok-counted.field-0 c.in_ok-counted.ensures.given (c.take-answer.ensures.taken (file_of c.args.self.now c.args.f) (c.file_among-file.ensures ∙ ap (λ slots. file_among c.args.self.now.journal slots c.args.f) c.as_slice.ensures.value))

pub returns-clause-measured : goal.returns-clause-measured
returns-clause-measured g c =
    at_ok c.take-answer.result c.in_ok-counted.field-0 c.in_ok-counted.ensures.given (c.take-answer.ensures.long (file_of c.args.self.now c.args.f) (c.file_among-file.ensures ∙ ap (λ slots. file_among c.args.self.now.journal slots c.args.f) c.as_slice.ensures.value))
