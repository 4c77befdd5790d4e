use Rattle.budb_links.proofs.Inserting.{Pushed}
use Rattle.budb_links.proofs.KeyedLaws.{pushed_keeps, pushed_chains}
use Rattle.budb_links.proofs.keys.link_in.Given as given
use Rattle.budb_links.proofs.keys.link_in.Goals as goal

made : (g : given.Over) (c : goal.After-push g) → Pushed c.args.arena.now c.push.new.self c.args.family c.number_for-head.result c.args.place c.args.id
made g c = record {
  chain = c.push.ensures.chain;
  others = c.push.ensures.others;
  families = c.push.ensures.families;
  places = c.push.ensures.places;
  heads = c.push.ensures.heads;
}

pub returns-clause-keeps : goal.returns-clause-keeps
returns-clause-keeps g c =
    pushed_keeps c.args.family c.args.arena.now c.push.new.self c.args.numbers.now c.args.key.now c.number_for-head.result c.args.place c.args.id c.requires.keeps (made g c) c.number_for-head.new.numbers c.number_for-head.ensures

pub returns-clause-chains : goal.returns-clause-chains
returns-clause-chains g c =
    pushed_chains c.args.family c.args.arena.now c.push.new.self c.args.numbers.now c.args.key.now c.number_for-head.result c.args.place c.args.id c.requires.keeps (made g c) c.number_for-head.new.numbers c.number_for-head.ensures
