use Rattle.std.proofs.Common.{◌≤◌, length, sym, ◌∙◌, ap, arith}
use Rattle.std.specs.Prelude.{Option}
use Rattle.std.proofs.lemmas.Option.{slice_get_past}
use Rattle.plant_effects.specs.Runs.{state_of}
use Rattle.tape_text.specs.Items.{Item}
use Rattle.archive_model.specs.Holding.{is_so, is_head_frame}
use Rattle.tape_choice.proofs.SurveyLaws.{read_length, read_at, block_head, other_head}
use Rattle.tape_choice.proofs.survey.is_head_at.Goals as goal

pub returns-then-at-tape_len-clause-is : goal.returns-then-at-tape_len-clause-is
returns-then-at-tape_len-clause-is g c = λ told k items at read.
    let P = g.P.Plant in
    let old = c.args.plant.now in
    let past : length items ≤ c.args.at = omega (arith, c.if-at-tape_len.true, c.tape_len.ensures, read_length ((state_of P old).tape k) items read, g.met.P.Plant.records_told old k told c.requires.sound at) in
    ap (λ (i : Option Item). is_so (is_head_frame c.args.id c.args.tape) i) (sym (slice_get_past items c.args.at past))

pub returns-in_ok-frame-in-Ok-Block-clause-is : goal.returns-in_ok-frame-in-Ok-Block-clause-is
returns-in_ok-frame-in-Ok-Block-clause-is g c = λ told k items at read.
    let tape = (state_of g.P.Plant c.args.plant.now).tape k in
    let into = c.get_record.new.into in
    let shown = c.in-Ok-Block.ensures.found told k at in
    let item = read_at tape items c.args.at shown.found read shown.is in
    c.is_head_frame.ensures.is
    ∙ block_head c.args.id c.args.tape c.in_ok-frame-in-Ok-Block.frame into c.in_ok-frame-in-Ok-Block.ensures shown.found item.item c.in-Ok-Block.field-0 shown.shown item.reads c.in-Ok-Block.field-0-is
    ∙ ap (λ (i : Option Item). is_so (is_head_frame c.args.id c.args.tape) i) (sym item.at)

pub returns-in-Ok-Mark-clause-is : goal.returns-in-Ok-Mark-clause-is
returns-in-Ok-Mark-clause-is g c = λ told k items at read.
    let tape = (state_of g.P.Plant c.args.plant.now).tape k in
    let shown = c.in-Ok-Mark.ensures.found told k at in
    let item = read_at tape items c.args.at shown.found read shown.is in
    let kind = c.in-Ok-Mark.field-0-is in
    other_head c.args.id c.args.tape shown.found item.item c.in-Ok-Mark.field-0 c.get_record.new.into shown.shown item.reads (λ is. cc) ∙ ap (λ (i : Option Item). is_so (is_head_frame c.args.id c.args.tape) i) (sym item.at)

pub returns-in-Ok-Bad-clause-is : goal.returns-in-Ok-Bad-clause-is
returns-in-Ok-Bad-clause-is g c = λ told k items at read.
    let tape = (state_of g.P.Plant c.args.plant.now).tape k in
    let shown = c.in-Ok-Bad.ensures.found told k at in
    let item = read_at tape items c.args.at shown.found read shown.is in
    let kind = c.in-Ok-Bad.field-0-is in
    other_head c.args.id c.args.tape shown.found item.item c.in-Ok-Bad.field-0 c.get_record.new.into shown.shown item.reads (λ is. cc) ∙ ap (λ (i : Option Item). is_so (is_head_frame c.args.id c.args.tape) i) (sym item.at)
