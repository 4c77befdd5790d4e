use Rattle.std.proofs.Common.{◌≡◌, ℕ, List, [], ◌∷◌, ◌++◌, ◌≤◌, length, sym, ap, subst, ◌∙◌, append_assoc, arith}
use Rattle.std.specs.Fmt.{decimal}
use Rattle.bk_text.specs.Alphabets.{IsTapeName}
use Rattle.tape_frames.specs.TapeNames.{numbered}
use Rattle.dump_job.proofs.Names.{name_is}
use Rattle.dump_job.proofs.naming.name_of.Goals as goal

pub from_bytes-requires : goal.from_bytes-requires
from_bytes-requires c =
    let base = c.args.base.now in
    let digits : c.as_bytes.result.now ≡ decimal c.args.number = c.as_bytes.ensures.value ∙ c.format.ensures.text in
    let first : c.in_ok-name.name ≡ base = c.in_ok-name.ensures ∙ c.bytes-first.ensures.value in
    let is : c.as_slice.result.now ≡ numbered base c.args.number
    = c.as_slice.ensures ∙ c.in_ok-extend_from_slice.ensures.ok
    ∙ ap (λ (x : List ℕ). x ++ c.as_bytes.result.now) (c.in_ok-push.ensures.ok ∙ ap (λ (x : List ℕ). x ++ 46 ∷ []) first)
    ∙ ap (λ (x : List ℕ). (base ++ 46 ∷ []) ++ x) digits
    ∙ append_assoc base (46 ∷ []) (decimal c.args.number) in
    let value = c.bytes-first.ensures.value in
    let long : length c.bytes-first.result.now ≡ length base = ap length value in
    let short : length base ≤ 69 = omega arith in
    subst IsTapeName (sym is) (name_is base c.args.number c.bytes-first.ensures.form short c.requires)
