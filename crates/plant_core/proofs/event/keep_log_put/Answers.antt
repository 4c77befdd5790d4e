use Rattle.std.proofs.Common.{◌≡◌, ◌++◌, ◌∷◌, [], List, ap, ◌∙◌, rules}
use Rattle.plant_core.specs.declared.event.Event.{Event}
use Rattle.plant_core.specs.declared.event.Event.TheVariants as Of
use Rattle.plant_core.proofs.event.keep_log_put.Goals as goal

pub returns-in-Ok-clause-past : goal.returns-in-Ok-clause-past
returns-in-Ok-clause-past c =
    let same : c.in_ok-bytes.bytes.items ≡ c.args.piece.now = search rules in
    record { kept = c.in_ok-bytes.bytes; is = same; more = c.keep_within.ensures ∙ ap (λ (es : List Event). es ++ Of.LogPut c.in_ok-bytes.bytes ∷ []) c.make_room.ensures.kept }
