use Rattle.std.proofs.Common.{◌≡◌, ℕ, List, false, true, leb, length, ◌∙◌, sym, subst, arith}
use Rattle.std.proofs.lemmas.Bool.{leb-true, le-leb}
use Rattle.std.proofs.lemmas.List.{drop_all}
use Rattle.dump_stream.proofs.LeftLaws.{left_past, left_before, none_left}
use Rattle.dump_stream.proofs.places.is_over.Goals as goal

pub returns-then-place-vnodes : goal.returns-then-place-vnodes
returns-then-place-vnodes c = λ since. (
  λ t. absurd (let wrong : false ≡ true = t in cc),
  λ none. absurd (left_before c.args.vnodes.now since c.args.place.now c.if-place-vnodes.true none),
)

pub returns : goal.returns
returns c = λ since.
    let taken = c.args.place.now.taken in
    let part = c.args.place.now.part in
    let left_is = left_past c.args.vnodes.now since c.args.place.now (omega (arith, c.if-place-vnodes.false)) in (
      λ t. left_is ∙ drop_all taken part (leb-true (length part) taken (subst (λ (x : List ℕ). leb (length x) taken ≡ true) c.as_slice.ensures t)),
      λ none. subst (λ (x : List ℕ). leb (length x) taken ≡ true) (sym c.as_slice.ensures) (le-leb (length part) taken (none_left taken part (sym left_is ∙ none))),
    )
