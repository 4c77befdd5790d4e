use Rattle.std.proofs.Common.{◌∙◌}
use Rattle.tape_choice.specs.Append.{lies_on}
use Rattle.tape_choice.proofs.LastLaws.{last_found}
use Rattle.tape_choice.proofs.lasts.last_dump.Goals as goal

pub returns : goal.returns
returns c = c.found_on.ensures ∙ last_found (lies_on c.args.initial c.args.tape) c.args.listed.now c.in-Some.id c.in-Some.ensures
