use Rattle.std.proofs.Common.{◌≡◌, sym, ◌∙◌}
use Rattle.std.specs.Prelude.{None}
use Rattle.dump_commands.proofs.EntryLaws.{first_passed, not_some}
use Rattle.dump_commands.proofs.refusals.first_bad.Goals as goal

pub loop-place-preserved : goal.loop-place-preserved
loop-place-preserved c =
    let none : c.in_ok-text.text ≡ None = not_some c.in_ok-text.text (sym c.is_some.ensures ∙ c.if-is_some.false) in
    first_passed c.args.cell.now c.args.places.now c.loop-place.place-index c.loop-place-test.true (sym c.in_ok-text.ensures ∙ none) c.loop-place.invariant
