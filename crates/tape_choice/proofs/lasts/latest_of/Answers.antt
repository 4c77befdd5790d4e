use Rattle.std.proofs.Common.{◌∙◌}
use Rattle.budb_fold.specs.Database.{is_initial}
use Rattle.tape_choice.proofs.LastLaws.{last_found}
use Rattle.tape_choice.proofs.lasts.latest_of.Goals as goal

pub returns : goal.returns
returns c = c.found_in.ensures ∙ last_found (is_initial c.args.initial) c.args.listed.now c.in-Some.id c.in-Some.ensures
