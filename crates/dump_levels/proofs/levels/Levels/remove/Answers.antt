use Rattle.std.proofs.Common.{rules, ◌∙◌, ◌≡◌, sym, ap, subst, ℕ, List, not, true}
use Rattle.std.specs.Prelude.{filter}
use Rattle.std.proofs.lemmas.Fn.{filter_same}
use Rattle.dump_levels.specs.Elements.{is_within}
use Rattle.dump_levels.specs.Trees.{has_level}
use Rattle.dump_levels.specs.declared.levels.Level.{Level}
use Rattle.dump_levels.proofs.TreeLaws.{removed}
use Rattle.dump_levels.proofs.levels.Levels.remove.Goals as goal

pub returns : goal.returns
returns c =
    let path : List ℕ = c.args.path.now in
    let there : has_level c.as_slice.result.now path ≡ true = sym c.any_of_path.ensures ∙ c.if-not-any_of_path.false in
    let same : c.as_slice.result.now ≡ c.args.self.now = c.as_slice.ensures.value ∙ c.self.view_is in
    let kept : c.retain.new.self.items ≡ filter (λ level. not (is_within path level.path)) c.self.inside.levels.items = filter_same _ (λ (level : Level). not (is_within path level.path)) _ (λ x b f' t. search rules) c.self.inside.levels.items c.retain.new.self.items c.retain.ensures.filtered in
    removed c.args.self.now c.retain.new.self.items path (subst (λ (l : List Level). has_level l path ≡ true) same there) (kept ∙ ap (λ (l : List Level). filter (λ level. not (is_within path level.path)) l) c.self.view_is)
