use Rattle.std.proofs.Common.{◌≡◌, ℕ, List, [], ◌∷◌, ◌++◌, sym, ap, subst, ◌∙◌, append_assoc}
use Rattle.bk_text.specs.Alphabets.{IsTapeName}
use Rattle.dump_job.specs.Beginning.{last_element}
use Rattle.dump_job.proofs.Names.{base_is_name}
use Rattle.dump_job.proofs.naming.base_name.Goals as goal

pub from_bytes-requires : goal.from_bytes-requires
from_bytes-requires c =
    let set = c.args.order.now.set in
    let path = c.args.order.now.level in
    let first : c.in_ok-name.name ≡ set = c.in_ok-name.ensures ∙ c.bytes.ensures.value in
    let is : c.as_slice.result.now ≡ set ++ 46 ∷ last_element path
    = c.as_slice.ensures ∙ c.in_ok-extend_from_slice.ensures.ok
    ∙ ap (λ (x : List ℕ). x ++ c.last_element.result.now) (c.in_ok-push.ensures.ok ∙ ap (λ (x : List ℕ). x ++ 46 ∷ []) first)
    ∙ ap (λ (x : List ℕ). (set ++ 46 ∷ []) ++ x) c.last_element.ensures
    ∙ append_assoc set (46 ∷ []) (last_element path) in
    subst IsTapeName (sym is) (base_is_name set path c.bytes.ensures.form c.bytes-level.ensures.form)
