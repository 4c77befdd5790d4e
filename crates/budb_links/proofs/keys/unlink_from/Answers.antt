use Rattle.std.proofs.Common.{◌≡◌, ◌≢◌, None, sym, ◌∙◌, ap, rules}
use Rattle.budb_links.specs.Stands.{first_place}
use Rattle.budb_links.specs.Chained.{chain_of}
use Rattle.budb_links.proofs.Unlinking.{Cut}
use Rattle.budb_links.proofs.KeyedLaws.{no_first, stays_keeps, leaves_keeps, leaves_chains}
use Rattle.budb_links.proofs.keys.unlink_from.Given as given
use Rattle.budb_links.proofs.keys.unlink_from.Goals as goal

made : (g : given.Over) (c : goal.After-leave g) → Cut c.args.arena.now c.cut.new.self c.args.family c.args.place
made g c = record {
  chains = c.cut.ensures.chains;
  families = c.cut.ensures.families;
  places = c.cut.ensures.places;
  heads = c.cut.ensures.heads;
}

pub returns-then-is_none-clause-keeps : goal.returns-then-is_none-clause-keeps
returns-then-is_none-clause-keeps g c =
    let none : c.first.result ≡ None = search rules in
    let empty = no_first (chain_of c.cut.new.self c.args.family c.args.link.head) (sym c.first.ensures ∙ none) in
    leaves_keeps c.args.family c.args.arena.now c.cut.new.self c.args.numbers.now c.args.key.now c.args.link.head c.args.place c.requires.keeps (made g c) c.requires.number c.requires.head empty c.leave.new.self c.leave.ensures.used c.leave.ensures.spare c.leave.ensures.count c.leave.ensures.ascending

pub returns-then-is_none-clause-chains : goal.returns-then-is_none-clause-chains
returns-then-is_none-clause-chains g c =
    let none : c.first.result ≡ None = search rules in
    let empty = no_first (chain_of c.cut.new.self c.args.family c.args.link.head) (sym c.first.ensures ∙ none) in
    leaves_chains c.args.family c.args.arena.now c.cut.new.self c.args.numbers.now c.args.key.now c.args.link.head c.args.place c.requires.keeps (made g c) c.requires.number c.requires.head empty c.leave.new.self c.leave.ensures.used c.leave.ensures.spare c.leave.ensures.count c.leave.ensures.ascending

pub returns-else-is_none-clause-keeps : goal.returns-else-is_none-clause-keeps
returns-else-is_none-clause-keeps g c =
    let some : c.first.result ≢ None = λ e. search rules in
    let made : Cut c.args.arena.now c.cut.new.self c.args.family c.args.place = record {
      chains = c.cut.ensures.chains;
      families = c.cut.ensures.families;
      places = c.cut.ensures.places;
      heads = c.cut.ensures.heads;
    } in
    stays_keeps c.args.family c.args.arena.now c.cut.new.self c.args.numbers.now c.args.key.now c.args.link.head c.args.place c.requires.keeps made c.requires.number c.requires.head (λ e. some (c.first.ensures ∙ ap (λ ss. first_place ss None) e))
