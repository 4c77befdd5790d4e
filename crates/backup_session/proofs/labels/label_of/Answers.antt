use Rattle.std.proofs.Common.{◌≡◌, ◌∙◌, ap, subst, List, [], ◌∷◌, ℕ}
use Rattle.plant_effects.specs.Runs.{state_of}
use Rattle.std.specs.Prelude.{Option, Some, None}
use Rattle.plant_core.specs.declared.record.Kind.{Kind}
use Rattle.plant_core.specs.declared.record.Kind.TheVariants.{Block, Mark, Bad}
use Rattle.plant_core.specs.Records.{Record, block_with, mark, bad, ShowsFirst}
use Rattle.backup_session.specs.Labels.{label_in, label_of}
use Rattle.backup_session.proofs.labels.label_of.Goals as goal

shown_block : (tape : List Record) (into : List ℕ) → ShowsFirst tape (Some Block) into → label_in into ≡ label_of tape
shown_block [] into shown = let e : Some Block ≡ None = shown in cc
shown_block (block_with bytes ∷ rest) into (kind, (is, shows)) = ap label_in shows.1
shown_block (mark ∷ rest) into (kind, (is, shows)) = let e : Some Block ≡ Some kind = is in let f : kind ≡ Mark = shows in cc
shown_block (bad ∷ rest) into (kind, (is, shows)) = let e : Some Block ≡ Some kind = is in let f : kind ≡ Bad = shows in cc

pub returns-in_ok-label_in-in-Ok-Some-Block-clause-label : goal.returns-in_ok-label_in-in-Ok-Some-Block-clause-label
returns-in_ok-label_in-in-Ok-Some-Block-clause-label g c = λ told.
    let tape = (state_of g.P.Plant c.args.plant.now).tape c.args.slot in
    let into = c.peek_record.new.into in
    let here = c.in-Ok-Some-Block in
    c.in_ok-label_in-in-Ok-Some-Block.ensures
    ∙ shown_block tape into (subst (λ (shown : Option Kind). ShowsFirst tape shown into) (here.field-0-is ∙ ap (λ (kind : Kind). Some kind) here.field-0-0-is) (here.ensures.first told))
