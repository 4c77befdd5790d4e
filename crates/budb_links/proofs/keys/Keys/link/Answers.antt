use Rattle.std.proofs.Common.{zero, suc, ◌++◌, ◌∷◌, [], ℕ, List, cond, ◌∙◌, ap, arith}
use Rattle.bk_text.specs.Blanks.{is_same_text}
use Rattle.budb_links.specs.Stands.{Stand}
use Rattle.budb_links.specs.Chained.{stand_at}
use Rattle.budb_links.specs.Keys.{number_of}
use Rattle.budb_links.specs.Keyed.{chain_by, key_in}
use Rattle.budb_links.proofs.KeyedLaws.{same_at}
use Rattle.budb_links.proofs.keys.Keys.link.Goals as goal

pub returns-clause-chains : goal.returns-clause-chains
returns-clause-chains g c zero key h =
    same_at 0 c.link_in.new.arena c.link_in-2.new.arena (λ n. c.link_in-2.ensures.families 0 n (λ e. cc)) (number_of key c.link_in.new.numbers.used) ∙ c.link_in.ensures.chains key
returns-clause-chains g c (suc zero) key h =
    let bytes = c.as_slice.ensures ∙ c.to_be_bytes-bytes.ensures in
    let longer = chain_by c.link_in.new.arena c.args.self.now.ids 1 key in
    let same = same_at 1 c.args.self.now.arena c.link_in.new.arena (λ n. c.link_in.ensures.families 1 n (λ e. cc)) (number_of key c.args.self.now.ids.used) in
    c.link_in-2.ensures.chains key
    ∙ ap (λ (k : List ℕ). cond (is_same_text k key) (longer ++ stand_at c.args.place c.args.id ∷ []) longer) bytes
    ∙ ap (λ (l : List Stand). cond (is_same_text (key_in 1 c.args.name.now c.args.key_id) key) (l ++ stand_at c.args.place c.args.id ∷ []) l) same
returns-clause-chains g c (suc (suc family)) key h = absurd (omega (arith, h))
